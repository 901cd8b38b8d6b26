use Rattle.std.proofs.Common.{◌∙◌, ap, slice_set, Bool, List}
use Rattle.hx_tracker.proofs.Numbers.{set_numbers}
use Rattle.hx_tracker.proofs.index.DueIndex.put.Goals as goal

pub returns : goal.returns
returns c =
    set_numbers c.self.inside.words c.number-number.result c.with_bit.result c.args.on c.self.told c.number-number.ensures.known c.with_bit.ensures.same c.with_bit.ensures.others
    ∙ (ap (λ (s : List Bool). slice_set s c.number-number.result c.args.on) c.self.view_is
    ∙ ap (λ r. slice_set c.args.self.now r c.args.on) c.number-number.ensures.value)
