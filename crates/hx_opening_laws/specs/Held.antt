-- Who holds which pair at an opening: each resource the pair in which its backup was found.
use Rattle.std.specs.Prelude.{◌≡◌, ◌≤◌, ◌<◌, ℕ, zero, suc, ◌+◌, Bool, true, false, is_some, count_by, map, List, [], ◌∷◌, length, slice_index_or, Option, Some, None, refl}
use Rattle.std.proofs.Common.{sym, ◌∙◌, ap, subst, arith}
use Rattle.std.proofs.lemmas.List.{length-map}
use Rattle.hx_disk.specs.File.{FileState}
use Rattle.hx_events.specs.declared.backup.Backup.{Backup}
use Rattle.hx_events.specs.declared.backup.PairFound.{PairFound}
use Rattle.hx_events.specs.declared.backup.PairFound.TheVariants.{Empty, Found, Damaged, Twin}
use Rattle.hx_events.specs.declared.backup.Side.{Side}
use Rattle.hx_events.specs.Places.{IsDistinct}
use Rattle.hx_rules.specs.Backups.{holds}
use Rattle.hx_rules.specs.Entries.{own}
use Rattle.hx_rules.specs.Legal.{found_backup, is_barred, opening_of, restored_at, holds_at, with_restored}
use Rattle.hx_rules_laws.specs.Limits.{IsShortBackup}
use Rattle.hx_vault.specs.declared.pair.PairUse.TheVariants.{Free, Taken, Barred}
use Rattle.hx_vault.specs.Vaults.{VaultState, pair_at}
use Rattle.hx_lives.specs.Course.{Course, start_of, opening}
use Rattle.hx_lives.specs.CrashSafe.{found_at, IsNamed, name_at}
use Rattle.hx_pairs.specs.AllPairs.{held_at, IsHeld}
use Rattle.hx_pairs.specs.Opened.{IsAdopted, IsFoundFor, IsOpenedVault, IsFresh}
use Rattle.hx_pairs.specs.Registries.{IsPlaced, IsExact, barred_pairs}
use Rattle.hx_opening_laws.specs.Names.{names_apart, restored_named, same_resource}
use Rattle.hx_opening_laws.specs.FirstPairs.{first_pair, first_pairs, IsFirstPair, first_is, none_is_restored, holds_none}
use Rattle.hx_opening_laws.specs.Findings.{AreFindings, IsWholeBackup, found_once, found_whole, found_count}

-- A life begins over a vault that was just opened: its names are the declared ones and those of the found backups, each once,
-- and each pair is used by what was found in it.
pub record BeginsOver (declared : List (List ℕ)) (c : Course) (v : VaultState) : Type 0 where
  pub findings : AreFindings c.base
  pub named : c.names ≡ with_restored declared c.base
  pub distinct : IsDistinct c.names
  pub empty : c.entries ≡ []
  pub pairs : length v.pairs ≡ 64
  pub adopted : (p : ℕ) → p < 64 → IsAdopted (found_at c.base p) (pair_at v p)
  pub barred : barred_pairs v ≡ count_by is_barred c.base

-- which pair each resource of the life holds when it begins
abbrev pub held_first : Course → List (Option ℕ)
held_first c = first_pairs c.names c.base

-- the pair of a resource is the first one of its name
record HoldsFirst (names : List (List ℕ)) (found : List PairFound) (c p : ℕ) : Type 0 where
  pub below : c < length names
  pub first : first_pair (slice_index_or names c []) found ≡ Some p

holds_first : (names : List (List ℕ)) (found : List PairFound) (c p : ℕ) → held_at (first_pairs names found) c ≡ Some p → HoldsFirst names found c p
holds_first [] found c p h = absurd cc
holds_first (x ∷ xs) found zero p h = record { below = omega arith; first = h }
holds_first (x ∷ xs) found (suc c) p h = let r = holds_first xs found c p h in let lt = r.below in record { below = omega (arith, lt); first = r.first }

held_first_is : (names : List (List ℕ)) (found : List PairFound) (c : ℕ) → c < length names → held_at (first_pairs names found) c ≡ first_pair (slice_index_or names c []) found
held_first_is [] found c lt = absurd (omega (arith, lt))
held_first_is (x ∷ xs) found zero lt = refl
held_first_is (x ∷ xs) found (suc c) lt = held_first_is xs found c (omega (arith, lt))

-- what the resource with this number is restored with
backup_at : (names : List (List ℕ)) (found : List PairFound) (guarded : Bool) (c : ℕ) → c < length names → restored_at (opening_of names found guarded) c ≡ found_backup (slice_index_or names c []) found
backup_at [] found guarded c lt = absurd (omega (arith, lt))
backup_at (x ∷ xs) found guarded zero lt = refl
backup_at (x ∷ xs) found guarded (suc c) lt = backup_at xs found guarded c (omega (arith, lt))

-- a resource without a pair is restored with nothing, and a number past the names too
lacks : (names : List (List ℕ)) (found : List PairFound) (guarded : Bool) (c : ℕ) → held_at (first_pairs names found) c ≡ None → restored_at (opening_of names found guarded) c ≡ None
lacks [] found guarded c h = refl
lacks (x ∷ xs) found guarded zero h = none_is_restored x found h
lacks (x ∷ xs) found guarded (suc c) h = lacks xs found guarded c h

short_by : (names : List (List ℕ)) (found : List PairFound) (guarded : Bool) (k : ℕ) (x : Option ℕ) → AreFindings found → held_at (first_pairs names found) k ≡ x → IsShortBackup (restored_at (opening_of names found guarded) k)
short_by names found guarded k None f h = subst IsShortBackup (sym (lacks names found guarded k h)) tt
short_by names found guarded k (Some p) f h =
    let r = holds_first names found k p h in
    let x = first_is (slice_index_or names k []) found p r.first in
    subst IsShortBackup (sym (backup_at names found guarded k r.below ∙ x.restored)) (found_whole found f p x.backup x.side x.found).short

-- No content that is restored is past the limit.
pub first_short : (names : List (List ℕ)) (found : List PairFound) (guarded : Bool) → AreFindings found → (k : ℕ) → IsShortBackup (restored_at (opening_of names found guarded) k)
first_short names found guarded f k = short_by names found guarded k (held_at (first_pairs names found) k) f refl

module _ (declared : List (List ℕ)) (c : Course) (v : VaultState) (begins : BeginsOver declared c v) where
  -- the pair of the resource k
  pair_of : (k p : ℕ) → held_at (held_first c) k ≡ Some p → IsFirstPair (slice_index_or c.names k []) c.base p
  pair_of k p h = first_is (slice_index_or c.names k []) c.base p (holds_first c.names c.base k p h).first

  below_64 : (k p : ℕ) → held_at (held_first c) k ≡ Some p → p < 64
  below_64 k p h = let lt = (pair_of k p h).within in let n = found_count c.base begins.findings in omega (arith, lt, n)

  named_in : (p : ℕ) (b : Backup) (side : Side) → found_at c.base p ≡ Found b side → IsNamed c.names b.resource
  named_in p b side h = subst (λ (names : List (List ℕ)). IsNamed names b.resource) (sym begins.named) (restored_named declared c.base p b side h)

  -- two resources of one pair are one
  apart : (k j p : ℕ) → held_at (held_first c) k ≡ Some p → held_at (held_first c) j ≡ Some p → k ≡ j
  apart k j p h g =
      let x = pair_of k p h in
      let y = pair_of j p g in
      names_apart c.names begins.distinct k j (holds_first c.names c.base k p h).below (holds_first c.names c.base j p g).below
      (sym x.same ∙ same_resource x.backup y.backup x.side y.side (sym x.found ∙ y.found) ∙ y.same)

  used : (k p : ℕ) → held_at (held_first c) k ≡ Some p → (pair_at v p).used ≡ Taken
  used k p h =
      let x = pair_of k p h in
      (subst (λ (f : PairFound). IsAdopted f (pair_at v p)) x.found (begins.adopted p (below_64 k p h))).0

  -- each pair in which a backup was found is held
  owner : (p : ℕ) (b : Backup) (side : Side) → found_at c.base p ≡ Found b side → IsHeld (held_first c) p
  owner p b side h = go (first_pair (slice_index_or c.names n.number []) c.base) refl
    where
      n : IsNamed c.names b.resource
      n = named_in p b side h

      go : (x : Option ℕ) → first_pair (slice_index_or c.names n.number []) c.base ≡ x → IsHeld (held_first c) p
      go None is = absurd (holds_none (slice_index_or c.names n.number []) c.base p b side is h (sym n.is))
      go (Some q) is =
          let x = first_is (slice_index_or c.names n.number []) c.base q is in
          let same : q ≡ p = found_once c.base begins.findings q p x.backup b x.side side x.found h (x.same ∙ n.is) in
          record { owner = n.number; is = held_first_is c.names c.base n.number n.below ∙ is ∙ ap (λ m. Some m) same }

  owned : (p : ℕ) → p < 64 → (pair_at v p).used ≡ Taken → IsHeld (held_first c) p
  owned p lt taken = go (found_at c.base p) refl
    where
      go : (f : PairFound) → found_at c.base p ≡ f → IsHeld (held_first c) p
      go (Found b side) is = owner p b side is
      go Empty is = absurd (let e : Free ≡ Taken = sym (subst (λ (f : PairFound). IsAdopted f (pair_at v p)) is (begins.adopted p lt)) ∙ taken in cc)
      go Damaged is = absurd (let e : Barred ≡ Taken = sym (subst (λ (f : PairFound). IsAdopted f (pair_at v p)) is (begins.adopted p lt)) ∙ taken in cc)
      go (Twin q) is = absurd (let e : Barred ≡ Taken = sym (subst (λ (f : PairFound). IsAdopted f (pair_at v p)) is (begins.adopted p lt)) ∙ taken in cc)

  -- Who holds a pair has it alone, and each pair that is taken is held.
  pub first_placed : IsPlaced c.names (opening c).barred v (held_first c)
  first_placed = record {
    owners = length-map c.names (λ name. first_pair name c.base);
    pairs = begins.pairs;
    below = below_64;
    apart = apart;
    used = used;
    owned = owned;
    foreign = begins.barred;
  }

  holds_by : (x : Option Backup) → holds x [] ≡ is_some x
  holds_by None = refl
  holds_by (Some b) = refl

  exact_by : (k : ℕ) → k < length c.names → (x : Option ℕ) → held_at (held_first c) k ≡ x → is_some (restored_at (opening c) k) ≡ is_some x
  exact_by k lt None h = ap is_some (lacks c.names c.base c.guarded k h)
  exact_by k lt (Some p) h = ap is_some (backup_at c.names c.base c.guarded k lt ∙ (pair_of k p h).restored)

  -- A resource holds a pair exactly where the rules say so.
  pub first_exact : IsExact c (held_first c)
  first_exact k lt =
      ap (λ es. holds_at (opening c) es k) begins.empty
      ∙ holds_by (restored_at (opening c) k)
      ∙ exact_by k lt (held_at (held_first c) k) refl

  found_for : (k p : ℕ) → held_at (held_first c) k ≡ Some p → IsFoundFor (start_of c) k p
  found_for k p h =
      let x = pair_of k p h in
      let r = holds_first c.names c.base k p h in
      record {
        within = below_64 k p h;
        below = r.below;
        backup = x.backup;
        side = x.side;
        found = x.found;
        named = x.same;
        restored = backup_at c.names c.base c.guarded k r.below ∙ x.restored;
      }

  -- Over a vault that was just opened that is a fresh beginning.
  pub first_fresh : (files : ℕ → FileState) → IsOpenedVault (start_of c) v files → IsFresh (start_of c) v (held_first c) files
  first_fresh files vault = record {
    vault = vault;
    names = λ k j lt mt same. names_apart c.names begins.distinct k j lt mt same;
    owners = length-map c.names (λ name. first_pair name c.base);
    holds = found_for;
    apart = apart;
    owner = λ p b side lt h. owner p b side h;
    lacking = λ k h. lacks c.names c.base c.guarded k h;
  }
