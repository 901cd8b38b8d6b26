-- A resource gets a free pair, and gives one back.
use Rattle.std.specs.Prelude.{◌≡◌, ◌≢◌, ◌<◌, ℕ, true, false, List, ◌∷◌, length, Option, Some, None, refl}
use Rattle.std.proofs.Common.{sym, ◌∙◌, ap, subst, ⊎_elim, arith, set}
use Rattle.std.proofs.lemmas.List.{get_or-set_same, get_or-set_other, length-set}
use Rattle.std.proofs.lemmas.Bool.Decides.{eqb_tells}
use Rattle.hx_disk.specs.File.{FileState}
use Rattle.hx_events.specs.declared.backup.Side.{Side}
use Rattle.hx_events.specs.declared.backup.Side.TheVariants.{A, B}
use Rattle.hx_events.specs.declared.life.Entry.{Entry}
use Rattle.hx_rules.specs.Backups.{Snapshot, Begun}
use Rattle.hx_rules.specs.Entries.{is_of}
use Rattle.hx_rules.specs.Marks.{Marks, IsBare}
use Rattle.hx_vault.specs.declared.pair.Pair.{Pair}
use Rattle.hx_vault.specs.declared.pair.PairUse.{PairUse}
use Rattle.hx_vault.specs.declared.pair.PairUse.TheVariants.{Free, Taken, Barred}
use Rattle.hx_vault.specs.Sides.{SideState}
use Rattle.hx_vault.specs.Vaults.{VaultState, pair_at, with_pair, with_use, no_pair, other_side, is_shut}
use Rattle.hx_pairs.specs.OnePair.{Quiet, IsAway, IsHome, IsBegun, side_stamp, PairInvariant}
use Rattle.hx_lives.specs.Course.{Start}
use Rattle.hx_lives.specs.CrashSafe.{name_at}
use Rattle.hx_pairs.specs.AllPairs.{HasSides, IsOwned, IsQuietPair, held_at, marks_at, IsHolder, PairsInvariant}
use Rattle.hx_pairs.specs.Moves.{same_marks}

quiet_keeps : (resource : List ℕ) (m : Marks) (home : Side) (most : ℕ) (here away : SideState) → IsBare m → Quiet here → Quiet away → PairInvariant resource m home most here away
quiet_keeps resource m home most here away bare quiet_here quiet_away = record {
  at_home = subst (λ (d : Option Snapshot). IsHome resource most m.undone d here) (sym bare.done) quiet_here;
  at_away = subst (λ (d : Option Snapshot). IsAway home resource m.undone d m.tried (side_stamp here) away) (sym bare.done)
      (subst (λ (t : Option Snapshot). IsAway home resource m.undone None t (side_stamp here) away) (sym bare.tried) quiet_away);
  if_faded = λ h. absurd (let e : false ≡ true = sym bare.faded ∙ h in cc);
  if_begun = subst (λ (x : Option Begun). IsBegun resource most m.done (side_stamp here) x away) (sym bare.begun) tt;
}

pub keeps_quiet : (resource : List ℕ) (m : Marks) (home : Side) (most : ℕ) (here away : SideState) → m.done ≡ None → m.tried ≡ None → PairInvariant resource m home most here away → Quiet here × Quiet away
keeps_quiet resource m home most here away none untried keeps = (
  subst (λ (d : Option Snapshot). IsHome resource most m.undone d here) none keeps.at_home,
  subst (λ (t : Option Snapshot). IsAway home resource m.undone None t (side_stamp here) away) untried (subst (λ (d : Option Snapshot). IsAway home resource m.undone d m.tried (side_stamp here) away) none keeps.at_away),
)

shut_same : (pair : Pair) (used : PairUse) (s : Side) → is_shut (with_use pair used) s ≡ is_shut pair s
shut_same pair used A = refl
shut_same pair used B = refl

used_sides : (pair : Pair) (used : PairUse) (p : ℕ) (files : ℕ → FileState) (here away : SideState) → HasSides pair p files here away → HasSides (with_use pair used) p files here away
used_sides pair used p files here away sides = record {
  is_here = sides.is_here;
  is_away = sides.is_away;
  known_here = sides.known_here ∙ sym (shut_same pair used pair.home);
  known_away = sides.known_away ∙ sym (shut_same pair used (other_side pair.home));
  known_put = sides.known_put;
}

module _ (b : Start) (es : List Entry) (v : VaultState) (held : List (Option ℕ)) (files : ℕ → FileState) (c p : ℕ) (used : PairUse) (owner : Option ℕ) (kept : PairsInvariant b es v held files) (within : p < 64) (below : c < length b.names) where
  after : VaultState
  after = with_pair v p (with_use (pair_at v p) used)

  pub pair_here : pair_at (with_pair v p (with_use (pair_at v p) used)) p ≡ with_use (pair_at v p) used
  pair_here = get_or-set_same v.pairs p (with_use (pair_at v p) used) no_pair (omega (arith, within, kept.pairs))

  pub pair_other : (q : ℕ) → q ≢ p → pair_at (with_pair v p (with_use (pair_at v p) used)) q ≡ pair_at v q
  pair_other q far = get_or-set_other v.pairs p q (with_use (pair_at v p) used) no_pair far

  pub held_here : held_at (set held c owner) c ≡ owner
  held_here = get_or-set_same held c owner None (omega (arith, below, kept.owners))

  pub held_other : (k : ℕ) → k ≢ c → held_at (set held c owner) k ≡ held_at held k
  held_other k far = get_or-set_other held c k owner None far

-- With an entry of c, which holds no pair, c gets the free pair p.
pub taken_over : (b : Start) (es : List Entry) (v : VaultState) (held : List (Option ℕ)) (files : ℕ → FileState) (e : Entry) (c p : ℕ) → PairsInvariant b es v held files → p < 64 → c < length b.names
    → is_of c e.event ≡ true → held_at held c ≡ None → (pair_at v p).used ≡ Free → IsBare (marks_at b (e ∷ es) c)
    → PairsInvariant b (e ∷ es) (with_pair v p (with_use (pair_at v p) Taken)) (set held c (Some p)) files
taken_over b es v held files e c p kept within below is lacks free bare = record {
  names = kept.names;
  owners = length-set held c (Some p) ∙ kept.owners;
  pairs = length-set v.pairs p (with_use (pair_at v p) Taken) ∙ kept.pairs;
  apart = λ k j q h i. ⊎_elim
      (λ same. ⊎_elim (λ one. same.1 ∙ sym one.1) (λ far. absurd (not_owned j q far.1 i (mine k q same.1 h))) (eqb_tells j c))
      (λ far. ⊎_elim (λ one. absurd (not_owned k q far.1 h (mine j q one.1 i))) (λ away. kept.apart k j q (theirs k q far.1 h) (theirs j q away.1 i)) (eqb_tells j c))
      (eqb_tells k c);
  taken = λ k q h. ⊎_elim
      (λ same. subst (λ n. IsHolder b (e ∷ es) new files n q) (sym same.1) (subst (λ n. IsHolder b (e ∷ es) new files c n) (sym (mine k q same.1 h)) holder))
      (λ far. other_holder k q far.1 (theirs k q far.1 h))
      (eqb_tells k c);
  owned = λ q inside u. ⊎_elim
      (λ same. record { owner = c; is = here ∙ ap (λ n. Some n) (sym same.1) })
      (λ far. let o = kept.owned q inside (sym (ap (λ (x : Pair). x.used) (pair_other b es v held files c p Taken (Some p) kept within below q far.1)) ∙ u) in
      record { owner = o.owner; is = held_other b es v held files c p Taken (Some p) kept within below o.owner (λ same. let f : Some q ≡ None = sym o.is ∙ ap (held_at held) same ∙ lacks in absurd cc) ∙ o.is })
      (eqb_tells q p);
  free = λ q inside u. ⊎_elim
      (λ same. absurd (let f : Taken ≡ Free = sym (ap (λ n. (pair_at new n).used) same.1 ∙ ap (λ (x : Pair). x.used) at_p) ∙ u in cc))
      (λ far. subst (λ (x : Pair). IsQuietPair x q files) (sym (pair_other b es v held files c p Taken (Some p) kept within below q far.1)) (kept.free q inside (sym (ap (λ (x : Pair). x.used) (pair_other b es v held files c p Taken (Some p) kept within below q far.1)) ∙ u)))
      (eqb_tells q p);
  barred = λ q inside u. ⊎_elim
      (λ same. absurd (let f : Taken ≡ Barred = sym (ap (λ n. (pair_at new n).used) same.1 ∙ ap (λ (x : Pair). x.used) at_p) ∙ u in cc))
      (λ far. kept.barred q inside (sym (ap (λ (x : Pair). x.used) (pair_other b es v held files c p Taken (Some p) kept within below q far.1)) ∙ u))
      (eqb_tells q p);
  lacking = λ k h. ⊎_elim
      (λ same. absurd (let f : Some p ≡ None = sym here ∙ ap (held_at (set held c (Some p))) (sym same.1) ∙ h in cc))
      (λ far. ap (λ (m : Marks). m.done) (same_marks b es e c k is far.1) ∙ kept.lacking k (sym (held_other b es v held files c p Taken (Some p) kept within below k far.1) ∙ h))
      (eqb_tells k c);
}
  where
    new : VaultState
    new = with_pair v p (with_use (pair_at v p) Taken)

    here : held_at (set held c (Some p)) c ≡ Some p
    here = held_here b es v held files c p Taken (Some p) kept within below

    at_p : pair_at new p ≡ with_use (pair_at v p) Taken
    at_p = pair_here b es v held files c p Taken (Some p) kept within below

    mine : (k q : ℕ) → k ≡ c → held_at (set held c (Some p)) k ≡ Some q → q ≡ p
    mine k q same h = let f : Some q ≡ Some p = sym h ∙ ap (held_at (set held c (Some p))) same ∙ here in cc

    theirs : (k q : ℕ) → k ≢ c → held_at (set held c (Some p)) k ≡ Some q → held_at held k ≡ Some q
    theirs k q far h = sym (held_other b es v held files c p Taken (Some p) kept within below k far) ∙ h

    not_owned : (k q : ℕ) → k ≢ c → held_at (set held c (Some p)) k ≡ Some q → q ≡ p → ⊥
    not_owned k q far h same =
        let t = kept.taken k q (theirs k q far h) in
        let f : Taken ≡ Free = sym t.used ∙ ap (λ n. (pair_at v n).used) same ∙ free in cc

    holder : IsHolder b (e ∷ es) new files c p
    holder =
        let q = kept.free p within free in
        record {
          below = within;
          used = ap (λ (x : Pair). x.used) at_p;
          owned = subst (λ (x : Pair). IsOwned (name_at b c) (marks_at b (e ∷ es) c) x p v.stamp files) (sym at_p)
              (record {
                here = q.here;
                away = q.away;
                sides = used_sides (pair_at v p) Taken p files q.here q.away q.sides;
                keeps = quiet_keeps (name_at b c) (marks_at b (e ∷ es) c) (pair_at v p).home v.stamp q.here q.away bare q.quiet_here q.quiet_away;
              });
        }

    other_holder : (k q : ℕ) → k ≢ c → held_at held k ≡ Some q → IsHolder b (e ∷ es) new files k q
    other_holder k q far h =
        let t = kept.taken k q h in
        let apart : q ≢ p = λ same. (let f : Taken ≡ Free = sym t.used ∙ ap (λ n. (pair_at v n).used) same ∙ free in absurd cc) in
        let at_q = pair_other b es v held files c p Taken (Some p) kept within below q apart in
        record {
          below = t.below;
          used = ap (λ (x : Pair). x.used) at_q ∙ t.used;
          owned = subst (λ (x : Pair). IsOwned (name_at b k) (marks_at b (e ∷ es) k) x q v.stamp files) (sym at_q)
              (subst (λ (m : Marks). IsOwned (name_at b k) m (pair_at v q) q v.stamp files) (sym (same_marks b es e c k is far)) t.owned);
        }

-- A resource of which nothing may come back gives its pair back.
pub released : (b : Start) (es : List Entry) (v : VaultState) (held : List (Option ℕ)) (files : ℕ → FileState) (c p : ℕ) → PairsInvariant b es v held files → c < length b.names
    → held_at held c ≡ Some p → (marks_at b es c).done ≡ None → (marks_at b es c).tried ≡ None
    → PairsInvariant b es (with_pair v p (with_use (pair_at v p) Free)) (set held c None) files
released b es v held files c p kept below has none untried = record {
  names = kept.names;
  owners = length-set held c None ∙ kept.owners;
  pairs = length-set v.pairs p (with_use (pair_at v p) Free) ∙ kept.pairs;
  apart = λ k j q h i. kept.apart k j q (theirs k q h) (theirs j q i);
  taken = λ k q h.
      let t = kept.taken k q (theirs k q h) in
      let at_q = pair_other b es v held files c p Free None kept within below q (not_p k q h) in
      record {
        below = t.below;
        used = ap (λ (x : Pair). x.used) at_q ∙ t.used;
        owned = subst (λ (x : Pair). IsOwned (name_at b k) (marks_at b es k) x q v.stamp files) (sym at_q) t.owned;
      };
  owned = λ q inside u. ⊎_elim
      (λ same. absurd (let f : Free ≡ Taken = sym (ap (λ n. (pair_at new n).used) same.1 ∙ ap (λ (x : Pair). x.used) at_p) ∙ u in cc))
      (λ far. let o = kept.owned q inside (sym (ap (λ (x : Pair). x.used) (pair_other b es v held files c p Free None kept within below q far.1)) ∙ u) in
      record { owner = o.owner; is = held_other b es v held files c p Free None kept within below o.owner (λ same. far.1 (let f : Some q ≡ Some p = sym o.is ∙ ap (held_at held) same ∙ has in cc)) ∙ o.is })
      (eqb_tells q p);
  free = λ q inside u. ⊎_elim
      (λ same. subst (λ n. IsQuietPair (pair_at new n) n files) (sym same.1) quiet)
      (λ far. subst (λ (x : Pair). IsQuietPair x q files) (sym (pair_other b es v held files c p Free None kept within below q far.1)) (kept.free q inside (sym (ap (λ (x : Pair). x.used) (pair_other b es v held files c p Free None kept within below q far.1)) ∙ u)))
      (eqb_tells q p);
  barred = λ q inside u. ⊎_elim
      (λ same. absurd (let f : Free ≡ Barred = sym (ap (λ n. (pair_at new n).used) same.1 ∙ ap (λ (x : Pair). x.used) at_p) ∙ u in cc))
      (λ far. kept.barred q inside (sym (ap (λ (x : Pair). x.used) (pair_other b es v held files c p Free None kept within below q far.1)) ∙ u))
      (eqb_tells q p);
  lacking = λ k h. ⊎_elim
      (λ same. ap (λ n. (marks_at b es n).done) same.1 ∙ none)
      (λ far. kept.lacking k (sym (held_other b es v held files c p Free None kept within below k far.1) ∙ h))
      (eqb_tells k c);
}
  where
    within : p < 64
    within = let t = kept.taken c p has in t.below

    new : VaultState
    new = with_pair v p (with_use (pair_at v p) Free)

    at_p : pair_at new p ≡ with_use (pair_at v p) Free
    at_p = pair_here b es v held files c p Free None kept within below

    not_c : (k q : ℕ) → held_at (set held c None) k ≡ Some q → k ≢ c
    not_c k q h same = let f : Some q ≡ None = sym h ∙ ap (held_at (set held c None)) same ∙ held_here b es v held files c p Free None kept within below in cc

    theirs : (k q : ℕ) → held_at (set held c None) k ≡ Some q → held_at held k ≡ Some q
    theirs k q h = sym (held_other b es v held files c p Free None kept within below k (not_c k q h)) ∙ h

    not_p : (k q : ℕ) → held_at (set held c None) k ≡ Some q → q ≢ p
    not_p k q h same = not_c k q h (kept.apart k c q (theirs k q h) (has ∙ ap (λ n. Some n) (sym same)))

    quiet : IsQuietPair (pair_at new p) p files
    quiet =
        let t = kept.taken c p has in
        let o = t.owned in
        let both = keeps_quiet (name_at b c) (marks_at b es c) (pair_at v p).home v.stamp o.here o.away none untried o.keeps in
        subst (λ (x : Pair). IsQuietPair x p files) (sym at_p)
        (record { here = o.here; away = o.away; sides = used_sides (pair_at v p) Free p files o.here o.away o.sides; quiet_here = both.0; quiet_away = both.1 })
