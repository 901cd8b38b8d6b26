-- The pair in which a resource's backup is found: the lowest one that was found to hold one of it.
use Rattle.std.specs.Prelude.{◌≡◌, ◌<◌, ℕ, zero, suc, ◌+◌, Bool, true, false, bytes_eq, if◌then◌else◌, map, List, [], ◌∷◌, length, Option, Some, None, refl}
use Rattle.std.specs.List.{position, position_from}
use Rattle.std.proofs.Common.{sym, ◌∙◌, ap, subst, arith}
use Rattle.std.proofs.lemmas.Iterator.Adapters.{position_from-zero}
use Rattle.std.proofs.lemmas.Slice.Eq.{bytes_eq-Decides}
use Rattle.hx_events.specs.declared.backup.Backup.{Backup}
use Rattle.hx_events.specs.declared.backup.PairFound.{PairFound}
use Rattle.hx_events.specs.declared.backup.PairFound.TheVariants.{Empty, Found, Damaged, Twin}
use Rattle.hx_events.specs.declared.backup.Side.{Side}
use Rattle.hx_restore.specs.Choices.{is_found_of}
use Rattle.hx_rules.specs.Legal.{found_backup}
use Rattle.hx_lives.specs.CrashSafe.{found_at}

-- The pair that a resource holds at the opening of a vault in which these pairs were found, if it holds one: the lowest pair
-- in which a backup of it was found.
abbrev pub first_pair : List ℕ → List PairFound → Option ℕ
first_pair resource pairs = position (is_found_of resource) pairs

-- the pair that each of the names holds then
abbrev pub first_pairs : List (List ℕ) → List PairFound → List (Option ℕ)
first_pairs names pairs = map (λ name. first_pair name pairs) names

-- The pair p was found to hold the resource's backup, and that is what the resource is restored with.
pub record IsFirstPair (resource : List ℕ) (pairs : List PairFound) (p : ℕ) : Type 0 where
  pub backup : Backup
  pub side : Side
  pub within : p < length pairs
  pub found : found_at pairs p ≡ Found backup side
  pub same : backup.resource ≡ resource
  pub restored : found_backup resource pairs ≡ Some backup

-- the pair i + k, of which that holds
record IsFirstFrom (resource : List ℕ) (i : ℕ) (pairs : List PairFound) (p : ℕ) : Type 0 where
  pub place : ℕ
  pub counted : p ≡ i + place
  pub first : IsFirstPair resource pairs place

behind : (resource : List ℕ) (pairs : List PairFound) (f : PairFound) (i p : ℕ) → ((x : Option Backup) → found_backup resource pairs ≡ x → found_backup resource (f ∷ pairs) ≡ x) → IsFirstFrom resource (i + 1) pairs p → IsFirstFrom resource i (f ∷ pairs) p
behind resource pairs f i p stays r =
    let x = r.first in
    let lt = x.within in
    let at = r.counted in
    record {
      place = suc r.place;
      counted = omega (arith, at);
      first = record { backup = x.backup; side = x.side; within = omega (arith, lt); found = x.found; same = x.same; restored = stays (Some x.backup) x.restored };
    }

first_from : (resource : List ℕ) (i : ℕ) (pairs : List PairFound) (p : ℕ) → position_from (is_found_of resource) i pairs ≡ Some p → IsFirstFrom resource i pairs p
first_from resource i [] p h = absurd cc
first_from resource i (Empty ∷ pairs) p h = behind resource pairs Empty i p (λ x e. e) (first_from resource (i + 1) pairs p h)
first_from resource i (Damaged ∷ pairs) p h = behind resource pairs Damaged i p (λ x e. e) (first_from resource (i + 1) pairs p h)
first_from resource i (Twin q ∷ pairs) p h = behind resource pairs (Twin q) i p (λ x e. e) (first_from resource (i + 1) pairs p h)
first_from resource i (Found b side ∷ pairs) p h = go (λ l. first_from resource (i + 1) pairs p l) (bytes_eq b.resource resource) refl h
  where
    go : (position_from (is_found_of resource) (i + 1) pairs ≡ Some p → IsFirstFrom resource (i + 1) pairs p) → (t : Bool) → bytes_eq b.resource resource ≡ t → (if t then Some i else position_from (is_found_of resource) (i + 1) pairs) ≡ Some p → IsFirstFrom resource i (Found b side ∷ pairs) p
    go later true is h =
        let e : i ≡ p = cc in
        record {
          place = 0;
          counted = omega (arith, e);
          first = record { backup = b; side = side; within = omega arith; found = refl; same = (bytes_eq-Decides b.resource resource).0 is; restored = ap (λ (t : Bool). if t then Some b else found_backup resource pairs) is };
        }
    go later false is h = behind resource pairs (Found b side) i p (λ x e. ap (λ (t : Bool). if t then Some b else found_backup resource pairs) is ∙ e) (later h)

pub first_is : (resource : List ℕ) (pairs : List PairFound) (p : ℕ) → first_pair resource pairs ≡ Some p → IsFirstPair resource pairs p
first_is resource pairs p h =
    let r = first_from resource 0 pairs p (sym (position_from-zero (is_found_of resource) pairs) ∙ h) in
    let at = r.counted in
    subst (IsFirstPair resource pairs) (let e : r.place ≡ p = omega (arith, at) in e) r.first

-- a resource that holds no pair is restored with nothing
none_from : (resource : List ℕ) (i : ℕ) (pairs : List PairFound) → position_from (is_found_of resource) i pairs ≡ None → found_backup resource pairs ≡ None
none_from resource i [] h = refl
none_from resource i (Empty ∷ pairs) h = none_from resource (i + 1) pairs h
none_from resource i (Damaged ∷ pairs) h = none_from resource (i + 1) pairs h
none_from resource i (Twin q ∷ pairs) h = none_from resource (i + 1) pairs h
none_from resource i (Found b side ∷ pairs) h = go (λ l. none_from resource (i + 1) pairs l) (bytes_eq b.resource resource) h
  where
    go : (position_from (is_found_of resource) (i + 1) pairs ≡ None → found_backup resource pairs ≡ None) → (t : Bool) → (if t then Some i else position_from (is_found_of resource) (i + 1) pairs) ≡ None → (if t then Some b else found_backup resource pairs) ≡ None
    go later true h = absurd cc
    go later false h = later h

pub none_is_restored : (resource : List ℕ) (pairs : List PairFound) → first_pair resource pairs ≡ None → found_backup resource pairs ≡ None
none_is_restored resource pairs h = none_from resource 0 pairs (sym (position_from-zero (is_found_of resource) pairs) ∙ h)

-- and no pair was found to hold a backup of it
none_holds : (resource : List ℕ) (i : ℕ) (pairs : List PairFound) (p : ℕ) (b : Backup) (side : Side) → position_from (is_found_of resource) i pairs ≡ None → found_at pairs p ≡ Found b side → b.resource ≡ resource → ⊥
none_holds resource i [] p b side h at same = cc
none_holds resource i (Empty ∷ pairs) zero b side h at same = cc
none_holds resource i (Empty ∷ pairs) (suc p) b side h at same = none_holds resource (i + 1) pairs p b side h at same
none_holds resource i (Damaged ∷ pairs) zero b side h at same = cc
none_holds resource i (Damaged ∷ pairs) (suc p) b side h at same = none_holds resource (i + 1) pairs p b side h at same
none_holds resource i (Twin q ∷ pairs) zero b side h at same = cc
none_holds resource i (Twin q ∷ pairs) (suc p) b side h at same = none_holds resource (i + 1) pairs p b side h at same
none_holds resource i (Found c s ∷ pairs) zero b side h at same = go (bytes_eq c.resource resource) ((bytes_eq-Decides c.resource resource).1 (ap_resource ∙ same)) h
  where
    ap_resource : c.resource ≡ b.resource
    ap_resource = cc

    go : (t : Bool) → t ≡ true → (if t then Some i else position_from (is_found_of resource) (i + 1) pairs) ≡ None → ⊥
    go true here h = cc
    go false here h = cc
none_holds resource i (Found c s ∷ pairs) (suc p) b side h at same = go (λ l. none_holds resource (i + 1) pairs p b side l at same) (bytes_eq c.resource resource) h
  where
    go : (position_from (is_found_of resource) (i + 1) pairs ≡ None → ⊥) → (t : Bool) → (if t then Some i else position_from (is_found_of resource) (i + 1) pairs) ≡ None → ⊥
    go later true h = cc
    go later false h = later h

pub holds_none : (resource : List ℕ) (pairs : List PairFound) (p : ℕ) (b : Backup) (side : Side) → first_pair resource pairs ≡ None → found_at pairs p ≡ Found b side → b.resource ≡ resource → ⊥
holds_none resource pairs p b side h at same = none_holds resource 0 pairs p b side (sym (position_from-zero (is_found_of resource) pairs) ∙ h) at same
