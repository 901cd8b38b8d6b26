-- A trail with a place in it, moved.
use Rattle.std.proofs.Common.{◌≡◌, ℕ, zero, suc, ◌+◌, ◌-◌, ◌<◌, ◌≤◌, List, [], ◌∷◌, length, get_or, take, drop, refl, ap, sym, ◌∙◌, arith, reverse, Bool, true, false, nat_lt}
use Rattle.std.proofs.lemmas.Bool.Decides.{nat_tests}
use Rattle.std.proofs.Math.Seq.{take-suc, drop-cons}
use Rattle.std.proofs.lemmas.List.{reverse-append, at_drop_all}
use Rattle.hx_rules.specs.Versions.{Trail, trail_of, can_undo, can_redo, moved_back, moved_on}

-- the trail of these ids, the oldest first, of which so many stand up to the place
abbrev at : List ℕ → ℕ → Trail
at ids place = trail_of (reverse (take place ids)) (drop place ids)

back_one_more : (ids : List ℕ) (k : ℕ) → k < length ids → reverse (take (suc k) ids) ≡ get_or ids k 0 ∷ reverse (take k ids)
back_one_more ids k h = ap reverse (take-suc ids k 0 h) ∙ reverse-append (take k ids) (get_or ids k 0 ∷ [])

undo_step : (ids : List ℕ) (k : ℕ) → suc k < length ids → at ids (suc k) ≡ moved_back (at ids (suc (suc k)))
undo_step ids k h =
    let here = back_one_more ids (suc k) h in
    let before = back_one_more ids k (omega (arith, h)) in
    (λ j. trail_of (before j) (drop-cons ids (suc k) 0 h j))
    ∙ sym (ap (λ back. moved_back (trail_of back (drop (suc (suc k)) ids))) (here ∙ ap (λ back. get_or ids (suc k) 0 ∷ back) before))

pub undo_is : (ids : List ℕ) (place : ℕ) → 1 < place → place ≤ length ids → at ids (place - 1) ≡ moved_back (at ids place)
undo_is ids zero more within = absurd (omega (arith, more))
undo_is ids (suc zero) more within = absurd (omega (arith, more))
undo_is ids (suc (suc k)) more within =
    let e : suc (suc k) - 1 ≡ suc k = omega arith in
    ap (at ids) e ∙ undo_step ids k (omega (arith, within))

pub redo_is : (ids : List ℕ) (place : ℕ) → place < length ids → at ids (place + 1) ≡ moved_on (at ids place)
redo_is ids place h =
    let e : place + 1 ≡ suc place = omega arith in
    ap (at ids) e ∙ ap (λ back. trail_of back (drop (suc place) ids)) (back_one_more ids place h)
    ∙ sym (ap (λ ahead. moved_on (trail_of (reverse (take place ids)) ahead)) (drop-cons ids place 0 h))

pub undo_can : (ids : List ℕ) (place : ℕ) → place ≤ length ids → nat_lt 1 place ≡ can_undo (at ids place)
undo_can ids zero within = refl
undo_can ids (suc zero) within = sym (ap (λ back. can_undo (trail_of back (drop 1 ids))) (back_one_more ids zero (omega (arith, within))))
undo_can ids (suc (suc k)) within =
    let yes : nat_lt 1 (suc (suc k)) ≡ true = grind (arith, nat_tests) in
    yes ∙ sym (ap (λ back. can_undo (trail_of back (drop (suc (suc k)) ids)))
    (back_one_more ids (suc k) (omega (arith, within)) ∙ ap (λ back. get_or ids (suc k) 0 ∷ back) (back_one_more ids k (omega (arith, within)))))

pub redo_can : (ids : List ℕ) (place n : ℕ) → n ≡ length ids → nat_lt place n ≡ can_redo (at ids place)
redo_can ids place n is = step (nat_lt place n) refl
  where
    step : (b : Bool) → nat_lt place n ≡ b → b ≡ can_redo (at ids place)
    step true h = let lt : place < length ids = grind (arith, nat_tests) in sym (ap (λ ahead. can_redo (trail_of (reverse (take place ids)) ahead)) (drop-cons ids place 0 lt))
    step false h = let le : length ids ≤ place = grind (arith, nat_tests) in sym (ap (λ ahead. can_redo (trail_of (reverse (take place ids)) ahead)) (at_drop_all (λ (xs : List ℕ). xs) ids place le))
