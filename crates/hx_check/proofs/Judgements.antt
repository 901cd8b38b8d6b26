-- What a judge keeps decides as the rules do, and goes with the entries.
use Rattle.std.specs.Prelude.{◌≡◌, ℕ, zero, suc, ◌+◌, ◌-◌, ◌==◌, ◌<◌, ◌≤◌, not, Bool, true, false, ◌&&◌, ◌||◌, List, [], ◌∷◌, length, count_by, if◌then◌else◌, Option, Some, None, slice_get, refl}
use Rattle.std.proofs.Common.{ap, sym, ◌∙◌, subst, arith, cond}
use Rattle.std.proofs.lemmas.Option.{slice_get_within}
use Rattle.std.proofs.lemmas.List.{length-map}
use Rattle.std.proofs.Math.ListN.{set}
use Rattle.hx_events.specs.declared.backup.Backup.{Backup}
use Rattle.hx_events.specs.declared.backup.PairFound.{PairFound}
use Rattle.hx_events.specs.declared.event.Event.{Event}
use Rattle.hx_events.specs.declared.event.Event.TheVariants.{Act, Vault, Flush, Quit}
use Rattle.hx_events.specs.declared.life.Entry.{Entry}
use Rattle.hx_events.specs.declared.outcome.Outcome.{Outcome}
use Rattle.hx_events.specs.Texts.{name_of}
use Rattle.hx_rules.specs.Entries.{own}
use Rattle.hx_rules.specs.Copies.{dirty}
use Rattle.hx_rules.specs.Backups.{done}
use Rattle.hx_rules.specs.Versions.{last_version}
use Rattle.hx_rules.specs.Legal.{Opening, opening_of, restored_at, found_backup, is_barred, count_below, lowest, lowest_from, holds_at, no_pair_free, lacks_pair, is_unsafe, is_row, quit_row, is_spent, was_spent}
use Rattle.hx_rules_laws.specs.Frames.{adds_deed, leaves_others, same_number}
use Rattle.hx_report.specs.Outlines.{named}
use Rattle.hx_report.proofs.Tallying.{is_own, is_other, is_nobodys, set_get, set_other, set_length, restored_is, item_at, grows}
use Rattle.hx_check.specs.declared.sketch.Sketch.{Sketch}
use Rattle.hx_check.specs.declared.judge.Judge.{Judge}
use Rattle.hx_check.specs.Sketches.{FitsSize, first_sketch, holds_in, row_in, sketch, sketch_after}
use Rattle.hx_check.specs.Judging.{AreUpTo, IsJudged, holds_of, takes_pair, unsafe_in, unsafe_of}
use Rattle.hx_check.proofs.Sketching.{sketch_first, sketch_step}
use Rattle.hx_check.proofs.Ruling.{row_is, backed_is, allowed_fits}

-- ---- tests over all resources
same_count : (f g : ℕ → Bool) (n : ℕ) → ((c : ℕ) → c < n → f c ≡ g c) → count_below f n ≡ count_below g n
same_count f g zero same = refl
same_count f g (suc n) same = λ j. (if same n (omega arith) j then 1 else 0) + same_count f g n (λ c lt. same c (omega (arith, lt))) j

same_lowest : (f g : ℕ → Bool) (i n : ℕ) → ((c : ℕ) → i ≤ c → c < i + n → f c ≡ g c) → lowest_from f i n ≡ lowest_from g i n
same_lowest f g i zero same = refl
same_lowest f g i (suc n) same = λ j. if same i (omega arith) (omega arith) j then Some i else same_lowest f g (i + 1) n (λ c le lt. same c (omega (arith, le)) (omega (arith, lt))) j

module _ (o : Opening) (es : List Entry) (j : Judge) (was : IsJudged o es j) where
  holds_is : (c : ℕ) → c < length j.sketches.items → holds_of j.sketches.items c ≡ holds_at o es c
  holds_is c lt =
      let here = item_at j.sketches.items c lt in
      ap (λ (x : Option Sketch). elim x [ None ↦ false | Some y ↦ holds_in y ]) here.1 ∙ ap holds_in (was.each c here.0 here.1)

  unsafe_here : (c : ℕ) → c < length j.sketches.items → unsafe_of j.sketches.items c ≡ is_unsafe o es c
  unsafe_here c lt =
      let here = item_at j.sketches.items c lt in
      ap (λ (x : Option Sketch). elim x [ None ↦ false | Some y ↦ unsafe_in y ]) here.1
      ∙ (ap unsafe_in (was.each c here.0 here.1)
      ∙ ap (λ b. dirty (restored_at o c) (own c es) && not b) (backed_is (last_version (restored_at o c) (own c es)) (done (restored_at o c) (own c es))))

  pub free_is : (count_below (holds_of j.sketches.items) (length j.sketches.items) + j.barred == 64) ≡ no_pair_free o es
  free_is =
      ap (λ n. n + j.barred == 64) (same_count (holds_of j.sketches.items) (holds_at o es) (length j.sketches.items) holds_is)
      ∙ (λ i. count_below (holds_at o es) (was.count i) + was.barred i == 64)

  pub lowest_is : lowest_from (unsafe_of j.sketches.items) 0 (length j.sketches.items) ≡ lowest o (is_unsafe o es)
  lowest_is =
      same_lowest (unsafe_of j.sketches.items) (is_unsafe o es) 0 (length j.sketches.items) (λ c le lt. unsafe_here c (omega (arith, lt)))
      ∙ ap (lowest_from (is_unsafe o es) 0) was.count

  -- a question whether the program may end
  pub quit_allowed : (event : Event) (outcome : Outcome) → named event ≡ None → quit_row (lowest_from (unsafe_of j.sketches.items) 0 (length j.sketches.items)) outcome ≡ is_row o es event outcome
  quit_allowed Quit outcome h = ap (λ c. quit_row c outcome) lowest_is
  quit_allowed (Act command) outcome h = absurd cc
  quit_allowed (Vault c) outcome h = absurd cc
  quit_allowed (Flush c) outcome h = absurd cc

  -- an event of a resource
  pub resource_allowed : (event : Event) (outcome : Outcome) (c : ℕ) (x : Sketch) (lacks : Bool) → named event ≡ Some c → slice_get j.sketches.items c ≡ Some x
      → lacks ≡ (takes_pair event && not (holds_in x) && (count_below (holds_of j.sketches.items) (length j.sketches.items) + j.barred == 64))
      → row_in lacks j.spent x event outcome ≡ is_row o es event outcome
  resource_allowed event outcome c x lacks h at is =
      let each = was.each c x at in
      let pairless : lacks ≡ (takes_pair event && lacks_pair o es c) =
      is ∙ ((λ i. takes_pair event && not (holds_in (each i)) && free_is i) ∙ joined (takes_pair event) (not (holds_at o es c)) (no_pair_free o es)) in
      (λ i. row_in (pairless i) (was.spent i) (each i) event outcome) ∙ row_is o es event outcome c was.plain h
    where
      joined : (a b d : Bool) → (a && b && d) ≡ (a && (b && d))
      joined true b d = refl
      joined false b d = refl

  pub fits_of : (event : Event) (outcome : Outcome) → is_row o es event outcome ≡ true → (c : ℕ) (x : Sketch) → named event ≡ Some c → slice_get j.sketches.items c ≡ Some x → FitsSize event outcome x
  fits_of event outcome row c x h at =
      let each = was.each c x at in
      subst (FitsSize event outcome) (sym each)
      (allowed_fits (restored_at o c) (own c es) (takes_pair event && lacks_pair o es c) (was_spent es) event outcome (row_is o es event outcome c was.plain h ∙ row))

-- ---- one entry more
pub up_to_more : (n c : ℕ) (xs : List Sketch) (x y : Sketch) (b : Bool) → AreUpTo n xs → slice_get xs c ≡ Some x → y.outline.last ≡ (if b then x.outline.last + 1 else x.outline.last) → AreUpTo (n + 1) (set xs c y)
up_to_more n c xs x y b all at is k z h = step (k == c) refl
  where
    step : (same : Bool) → (k == c) ≡ same → z.outline.last ≤ n + 1
    step true same = subst (λ (w : Sketch). w.outline.last ≤ n + 1) (sym (set_get xs c k y z h same)) (subst (λ m. m ≤ n + 1) (sym is) (grows b x.outline.last n (all c x at)))
    step false other = omega (arith, all k z (set_other xs c k y z h other))

pub up_to_later : (n : ℕ) (xs : List Sketch) → AreUpTo n xs → AreUpTo (n + 1) xs
up_to_later n xs all k x h = omega (arith, all k x h)

or_swapped : (a b : Bool) → (a || b) ≡ (b || a)
or_swapped true true = refl
or_swapped true false = refl
or_swapped false true = refl
or_swapped false false = refl

pub judged_more : (o : Opening) (e : Entry) (es : List Entry) (j next : Judge) (c : ℕ) (x y : Sketch)
    → named e.event ≡ Some c → slice_get j.sketches.items c ≡ Some x → y ≡ sketch_after e.event e.outcome x
    → next.sketches.items ≡ set j.sketches.items c y → next.barred ≡ j.barred → next.spent ≡ (j.spent || is_spent e.outcome)
    → IsJudged o es j → IsJudged o (e ∷ es) next
judged_more o e es j next c x y own_is at after sketches barred spent was = record {
  plain = was.plain;
  barred = barred ∙ was.barred;
  count = ap length sketches ∙ (set_length j.sketches.items c y ∙ was.count);
  each = λ k z h. each_of k z (k == c) refl (subst (λ (xs : List Sketch). slice_get xs k ≡ Some z) sketches h);
  spent = spent ∙ (or_swapped j.spent (is_spent e.outcome) ∙ ap (λ b. is_spent e.outcome || b) was.spent);
}
  where
    mine : y ≡ sketch (restored_at o c) (own c (e ∷ es))
    mine = after ∙ (ap (sketch_after e.event e.outcome) (was.each c x at)
        ∙ (sketch_step (restored_at o c) (length es + 1) e.event e.outcome e.content (own c es)
        ∙ ap (sketch (restored_at o c)) (sym (adds_deed c e es (is_own e.event c own_is)))))

    each_of : (k : ℕ) (z : Sketch) (same : Bool) → (k == c) ≡ same → slice_get (set j.sketches.items c y) k ≡ Some z → z ≡ sketch (restored_at o k) (own k (e ∷ es))
    each_of k z true same h = set_get j.sketches.items c k y z h same ∙ (mine ∙ ap (λ i. sketch (restored_at o i) (own i (e ∷ es))) (sym (same_number k c same)))
    each_of k z false other h =
        was.each k z (set_other j.sketches.items c k y z h other)
        ∙ ap (sketch (restored_at o k)) (sym (leaves_others k e es (is_other e.event c k own_is other)))

pub judged_past : (o : Opening) (e : Entry) (es : List Entry) (j next : Judge) → named e.event ≡ None
    → next.sketches.items ≡ j.sketches.items → next.barred ≡ j.barred → next.spent ≡ (j.spent || is_spent e.outcome)
    → IsJudged o es j → IsJudged o (e ∷ es) next
judged_past o e es j next nobodys sketches barred spent was = record {
  plain = was.plain;
  barred = barred ∙ was.barred;
  count = ap length sketches ∙ was.count;
  each = λ k z h. was.each k z (subst (λ (xs : List Sketch). slice_get xs k ≡ Some z) sketches h) ∙ ap (sketch (restored_at o k)) (sym (leaves_others k e es (is_nobodys e.event k nobodys)));
  spent = spent ∙ (or_swapped j.spent (is_spent e.outcome) ∙ ap (λ b. is_spent e.outcome || b) was.spent);
}

-- ---- the opening
pub judged_first : (names : List (List ℕ)) (pairs : List PairFound) (j : Judge) → length j.sketches.items ≡ length names
    → ((k : ℕ) (x : Sketch) → slice_get j.sketches.items k ≡ Some x → x ≡ first_sketch (found_backup (name_of names k) pairs))
    → j.barred ≡ count_by is_barred pairs → j.spent ≡ false → IsJudged (opening_of names pairs false) [] j
judged_first names pairs j count first barred spent = record {
  plain = refl;
  barred = barred;
  count = count ∙ sym (length-map names (λ name. found_backup name pairs));
  each = λ k x h.
      first k x h ∙ (sketch_first (found_backup (name_of names k) pairs)
      ∙ ap (λ (r : Option Backup). sketch r []) (sym (restored_is names pairs k (omega (arith, slice_get_within j.sketches.items k x h, count)))));
  spent = spent;
}

first_up_to : (r : Option Backup) → (first_sketch r).outline.last ≤ 1
first_up_to None = omega arith
first_up_to (Some b) = omega arith

pub first_are_up_to : (xs : List Sketch) (backup : ℕ → Option Backup) → ((k : ℕ) (x : Sketch) → slice_get xs k ≡ Some x → x ≡ first_sketch (backup k)) → AreUpTo 1 xs
first_are_up_to xs backup first k x h = subst (λ (z : Sketch). z.outline.last ≤ 1) (sym (first k x h)) (first_up_to (backup k))

-- ---- the lowest
pub lowest_step : (f : ℕ → Bool) (i n : ℕ) → i < n → f i ≡ false → lowest_from f i (n - i) ≡ lowest_from f (i + 1) (n - (i + 1))
lowest_step f i n lt none =
    let e : n - i ≡ suc (n - (i + 1)) = omega (arith, lt) in
    ap (lowest_from f i) e ∙ ap (λ b. cond b (Some i) (lowest_from f (i + 1) (n - (i + 1)))) none

pub unsafe_is : (xs : List Sketch) (i : ℕ) (x : Sketch) → slice_get xs i ≡ Some x → unsafe_of xs i ≡ unsafe_in x
unsafe_is xs i x at = ap (λ (y : Option Sketch). elim y [ None ↦ false | Some z ↦ unsafe_in z ]) at
