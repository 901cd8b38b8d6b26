use Rattle.std.proofs.Common.{◌≡◌, ◌<◌, ℕ, Some, slice_get, length, refl, sym, ap, ◌∙◌, subst}
use Rattle.std.proofs.lemmas.Option.{slice_get_read}
use Rattle.hx_check.proofs.Judgements.{resource_allowed}
use Rattle.hx_check.proofs.judge.Judge.resource_may.Goals as goal

pub returns : goal.returns
returns c = λ o es was.
    let xs = c.args.self.now.sketches.items in
    let x = c.index-sketch.result.now in
    let number = c.number.ensures.value in
    let within : c.number.result < length xs = subst (λ (k : ℕ). k < length xs) (sym number) c.requires.known in
    let at : slice_get xs c.number.result ≡ Some x = slice_get_read xs _ c.number.result x refl within c.index-sketch.ensures in
    c.may_have.ensures
    ∙ resource_allowed o es c.args.self.now was c.args.event.now c.args.outcome.now c.number.result x c.lacks_pair-lacks.result (c.requires.named ∙ ap Some (sym number)) at c.lacks_pair-lacks.ensures
