use Rattle.std.proofs.Common.{◌≡◌, ◌<◌, List, Some, slice_get, length, refl, sym, ◌∙◌, subst, arith}
use Rattle.std.proofs.lemmas.Option.{slice_get_read}
use Rattle.hx_check.specs.declared.sketch.Sketch.{Sketch}
use Rattle.hx_check.specs.Judging.{unsafe_of}
use Rattle.hx_check.proofs.Judgements.{lowest_step, unsafe_is}
use Rattle.hx_check.proofs.judge.Judge.lowest_unsafe.Goals as goal

pub loop-number-preserved : goal.loop-number-preserved
loop-number-preserved c =
    let xs = c.args.self.now.sketches.items in
    let i = c.loop-number.number in
    let x = c.sketch-item.result in
    let within : i < length c.deref-sketch-items.result.now = omega (arith, c.loop-number-test.true) in
    let lent : slice_get c.deref-sketch-items.result.now i ≡ Some x = slice_get_read c.deref-sketch-items.result.now _ i x refl within c.sketch-item.is in
    let at : slice_get xs i ≡ Some x = subst (λ (ys : List Sketch). slice_get ys i ≡ Some x) c.deref-sketch-items.ensures.value lent in
    let inside : i < length xs = subst (λ (ys : List Sketch). i < length ys) c.deref-sketch-items.ensures.value within in
    sym (lowest_step (unsafe_of xs) i (length xs) inside (unsafe_is xs i x at ∙ (sym c.is_unsafe.ensures ∙ c.if-is_unsafe.false))) ∙ c.loop-number.invariant
