use Rattle.std.proofs.Common.{sym, ap, ◌∙◌}
use Rattle.hx_check.specs.Sketches.{row_in}
use Rattle.hx_check.proofs.sketch.Sketch.may_have.Goals as goal

pub returns-in-Act : goal.returns-in-Act
returns-in-Act c = c.command_may.ensures c.args.spent ∙ ap (λ event. row_in c.args.lacks c.args.spent c.args.self.now event c.args.outcome.now) (sym c.in-Act.is)
