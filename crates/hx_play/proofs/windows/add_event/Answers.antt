use Rattle.std.proofs.Common.{◌∙◌, refl}
use Rattle.hx_play.proofs.Commands.{event_stays_out}
use Rattle.hx_play.proofs.windows.add_event.Goals as goal

pub returns-in_default : goal.returns-in_default
returns-in_default c = record { added = λ before parted. parted ∙ event_stays_out before c.args.actor c.args.event c.in_default.not-Act; all = refl }
