-- What an entry of one resource, whose pair it moves, leaves of the invariant.
use Rattle.std.specs.Prelude.{◌≡◌, ◌≢◌, ◌≤◌, ℕ, ◌+◌, Bool, true, false, List, ◌∷◌, length, Option, Some, None, refl}
use Rattle.std.proofs.Common.{sym, ◌∙◌, ap, subst, ⊎_elim, arith}
use Rattle.std.proofs.lemmas.List.{get_or-set_same, get_or-set_other, length-set}
use Rattle.std.proofs.lemmas.Bool.Decides.{eqb_tells}
use Rattle.hx_disk.specs.File.{FileState, IsImage}
use Rattle.hx_events.specs.declared.backup.Side.{Side}
use Rattle.hx_events.specs.declared.backup.Side.TheVariants.{A, B}
use Rattle.hx_events.specs.declared.life.Entry.{Entry}
use Rattle.hx_events.specs.declared.outcome.Outcome.{Outcome}
use Rattle.hx_rules.specs.Entries.{Deed, deed, own, is_of}
use Rattle.hx_rules.specs.Legal.{restored_at}
use Rattle.hx_rules.specs.Marks.{Marks, marks}
use Rattle.hx_rules_laws.specs.Frames.{adds_deed, leaves_others, one_resource}
use Rattle.hx_slots.specs.Files.{file_of}
use Rattle.hx_vault.specs.declared.pair.Pair.{Pair}
use Rattle.hx_vault.specs.declared.pair.PairUse.TheVariants.{Free, Taken, Barred}
use Rattle.hx_vault.specs.Sides.{SideState, IsSide}
use Rattle.hx_vault.specs.Vaults.{VaultState, pair_at, with_pair, no_pair, other_side}
use Rattle.hx_pairs.specs.Stages.{keeps_more}
use Rattle.hx_lives.specs.Course.{Start, opening_at}
use Rattle.hx_lives.specs.CrashSafe.{name_at}
use Rattle.hx_pairs.specs.AllPairs.{HasSides, IsOwned, IsQuietPair, IsForeign, held_at, marks_at, IsHolder, PairsInvariant}

pub other_pair : (p n : ℕ) (s t : Side) → p ≢ n → file_of p s ≢ file_of n t
other_pair p n A A apart same = apart (omega arith)
other_pair p n A B apart same = omega arith
other_pair p n B A apart same = omega arith
other_pair p n B B apart same = apart (omega arith)

pub other_file : (p : ℕ) (s : Side) → file_of p s ≢ file_of p (other_side s)
other_file p A same = omega arith
other_file p B same = omega arith

-- an entry of one resource leaves the marks of every other
pub same_marks : (b : Start) (es : List Entry) (e : Entry) (c k : ℕ) → is_of c e.event ≡ true → k ≢ c → marks_at b (e ∷ es) k ≡ marks_at b es k
same_marks b es e c k is apart = ap (λ (ds : List Deed). marks (restored_at (opening_at b) k) (opening_at b).guarded ds) (leaves_others k e es (not_of (is_of k e.event) refl))
  where
    not_of : (t : Bool) → is_of k e.event ≡ t → is_of k e.event ≡ false
    not_of true h = absurd (apart (one_resource k c e.event h is))
    not_of false h = h

pub new_marks : (b : Start) (es : List Entry) (e : Entry) (c : ℕ) (o : Outcome) → is_of c e.event ≡ true → e.outcome ≡ o → marks_at b (e ∷ es) c ≡ marks (restored_at (opening_at b) c) (opening_at b).guarded (deed (length es + 1) e.event o e.content ∷ own c es)
new_marks b es e c o is was =
    ap (λ (ds : List Deed). marks (restored_at (opening_at b) c) (opening_at b).guarded ds) (adds_deed c e es is)
    ∙ ap (λ (x : Outcome). marks (restored_at (opening_at b) c) (opening_at b).guarded (deed (length es + 1) e.event x e.content ∷ own c es)) was

same_sides : (pair : Pair) (q p : ℕ) (side : Side) (old new : ℕ → FileState) (here away : SideState) → q ≢ p → ((f : ℕ) → f ≢ file_of p side → new f ≡ old f) → HasSides pair q old here away → HasSides pair q new here away
same_sides pair q p side old new here away apart others sides = record {
  is_here = subst (IsSide here) (sym (others (file_of q pair.home) (other_pair q p pair.home side apart))) sides.is_here;
  is_away = subst (IsSide away) (sym (others (file_of q (other_side pair.home)) (other_pair q p (other_side pair.home) side apart))) sides.is_away;
  known_here = sides.known_here;
  known_away = sides.known_away;
  known_put = sides.known_put;
}

same_owned : (r : List ℕ) (m : Marks) (pair : Pair) (q p most more : ℕ) (side : Side) (old new : ℕ → FileState) → q ≢ p → most ≤ more → ((f : ℕ) → f ≢ file_of p side → new f ≡ old f) → IsOwned r m pair q most old → IsOwned r m pair q more new
same_owned r m pair q p most more side old new apart le others owned = record {
  here = owned.here;
  away = owned.away;
  sides = same_sides pair q p side old new owned.here owned.away apart others owned.sides;
  keeps = keeps_more r m pair.home most more owned.here owned.away le owned.keeps;
}

same_quiet : (pair : Pair) (q p : ℕ) (side : Side) (old new : ℕ → FileState) → q ≢ p → ((f : ℕ) → f ≢ file_of p side → new f ≡ old f) → IsQuietPair pair q old → IsQuietPair pair q new
same_quiet pair q p side old new apart others quiet = record {
  here = quiet.here;
  away = quiet.away;
  sides = same_sides pair q p side old new quiet.here quiet.away apart others quiet.sides;
  quiet_here = quiet.quiet_here;
  quiet_away = quiet.quiet_away;
}

same_foreign : (b : Start) (q p : ℕ) (side : Side) (old new : ℕ → FileState) → q ≢ p → ((f : ℕ) → f ≢ file_of p side → new f ≡ old f) → IsForeign b q old → IsForeign b q new
same_foreign b q p side old new apart others foreign = record {
  value = foreign.value;
  fixed = λ x y is_x is_y. foreign.fixed x y
      (subst (λ (s : FileState). IsImage s x) (others (file_of q A) (other_pair q p A side apart)) is_x)
      (subst (λ (s : FileState). IsImage s y) (others (file_of q B) (other_pair q p B side apart)) is_y);
  kind = foreign.kind;
}

-- One side of the pair of one resource moves, with an entry of that resource.
pub moves : (b : Start) (es : List Entry) (v : VaultState) (held : List (Option ℕ)) (old new : ℕ → FileState) (e : Entry) (c p : ℕ) (side : Side) (pair : Pair) (more : ℕ)
    → PairsInvariant b es v held old → is_of c e.event ≡ true → held_at held c ≡ Some p → pair.used ≡ Taken → v.stamp ≤ more
    → ((f : ℕ) → f ≢ file_of p side → new f ≡ old f)
    → IsOwned (name_at b c) (marks_at b (e ∷ es) c) pair p more new
    → PairsInvariant b (e ∷ es) (with_pair (record { pairs = v.pairs; stamp = more }) p pair) held new
moves b es v held old new e c p side pair more kept is holds used rises others owned = record {
  names = kept.names;
  owners = kept.owners;
  pairs = length-set v.pairs p pair ∙ kept.pairs;
  apart = kept.apart;
  taken = λ k q h. ⊎_elim (λ same. mine k q same.1 h) (λ far. theirs k q far.1 h) (eqb_tells k c);
  owned = λ q within u. ⊎_elim (λ same. record { owner = c; is = subst (λ n. held_at held c ≡ Some n) (sym same.1) holds }) (λ far. kept.owned q within (sym (ap (λ (x : Pair). x.used) (other q far.1)) ∙ u)) (eqb_tells q p);
  free = λ q within u. ⊎_elim
      (λ same. absurd (clash_free q same.1 u))
      (λ far. subst (λ (x : Pair). IsQuietPair x q new) (sym (other q far.1)) (same_quiet (pair_at v q) q p side old new far.1 others (kept.free q within (sym (ap (λ (x : Pair). x.used) (other q far.1)) ∙ u))))
      (eqb_tells q p);
  barred = λ q within u. ⊎_elim
      (λ same. absurd (clash_barred q same.1 u))
      (λ far. same_foreign b q p side old new far.1 others (kept.barred q within (sym (ap (λ (x : Pair). x.used) (other q far.1)) ∙ u)))
      (eqb_tells q p);
  lacking = λ k lacks. ap (λ (m : Marks). m.done) (same_marks b es e c k is (λ same. let f : Some p ≡ None = sym holds ∙ ap (held_at held) (sym same) ∙ lacks in absurd cc)) ∙ kept.lacking k lacks;
}
  where
    after : VaultState
    after = with_pair (record { pairs = v.pairs; stamp = more }) p pair

    here : pair_at after p ≡ pair
    here = let h = kept.taken c p holds in get_or-set_same v.pairs p pair no_pair (omega (arith, h.below, kept.pairs))

    other : (q : ℕ) → q ≢ p → pair_at after q ≡ pair_at v q
    other q far = get_or-set_other v.pairs p q pair no_pair far

    clash_free : (q : ℕ) → q ≡ p → (pair_at after q).used ≡ Free → ⊥
    clash_free q same u = let f : Taken ≡ Free = sym used ∙ sym (ap (λ (x : Pair). x.used) here) ∙ ap (λ n. (pair_at after n).used) (sym same) ∙ u in cc

    clash_barred : (q : ℕ) → q ≡ p → (pair_at after q).used ≡ Barred → ⊥
    clash_barred q same u = let f : Taken ≡ Barred = sym used ∙ sym (ap (λ (x : Pair). x.used) here) ∙ ap (λ n. (pair_at after n).used) (sym same) ∙ u in cc

    mine : (k q : ℕ) → k ≡ c → held_at held k ≡ Some q → IsHolder b (e ∷ es) after new k q
    mine k q same h =
        let at : p ≡ q = let f : Some p ≡ Some q = sym holds ∙ ap (held_at held) (sym same) ∙ h in cc in
        subst (λ n. IsHolder b (e ∷ es) after new n q) (sym same)
        (subst (λ n. IsHolder b (e ∷ es) after new c n) at
        (record {
          below = let t = kept.taken c p holds in t.below;
          used = ap (λ (x : Pair). x.used) here ∙ used;
          owned = subst (λ (x : Pair). IsOwned (name_at b c) (marks_at b (e ∷ es) c) x p more new) (sym here) owned;
        }))

    theirs : (k q : ℕ) → k ≢ c → held_at held k ≡ Some q → IsHolder b (e ∷ es) after new k q
    theirs k q far h =
        let t = kept.taken k q h in
        let apart : q ≢ p = λ same. far (kept.apart k c q h (holds ∙ ap (λ n. Some n) (sym same))) in
        record {
          below = t.below;
          used = ap (λ (x : Pair). x.used) (other q apart) ∙ t.used;
          owned = subst (λ (x : Pair). IsOwned (name_at b k) (marks_at b (e ∷ es) k) x q more new) (sym (other q apart))
              (subst (λ (m : Marks). IsOwned (name_at b k) m (pair_at v q) q more new) (sym (same_marks b es e c k is far))
              (same_owned (name_at b k) (marks_at b es k) (pair_at v q) q p v.stamp more side old new apart rises others t.owned));
        }
