use Rattle.std.proofs.Common.{◌∙◌, refl}
use Rattle.hx_play.proofs.Commands.{step_stays_out}
use Rattle.hx_play.proofs.windows.add_step.Goals as goal

pub returns-in_default : goal.returns-in_default
returns-in_default c = record { added = λ before parted. parted ∙ step_stays_out before c.args.step c.in_default.not-Do; all = refl }
