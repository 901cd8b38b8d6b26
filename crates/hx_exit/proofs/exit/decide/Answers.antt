use Rattle.std.proofs.Common.{ap, sym, ◌∙◌}
use Rattle.hx_exit.specs.Exits.{decision_by}
use Rattle.hx_exit.proofs.Asking.{first_asked}
use Rattle.hx_exit.proofs.exit.decide.Goals as goal

pub returns-then-is_lost : goal.returns-then-is_lost
returns-then-is_lost c =
    first_asked c.triggers-hot.result c.args.copies.now c.loop-copy.copy-index c.copy-item.result c.loop-copy-test.true c.copy-item.is
    (sym c.is_lost.ensures ∙ c.if-is_lost.true) c.loop-copy.invariant
    ∙ ap (λ hot. decision_by hot c.args.copies.now) c.triggers-hot.ensures
