use Rattle.std.proofs.Common.{refl}
use Rattle.hx_hub.proofs.hub.Hub.leave.Goals as goal

pub returns-clause-ok : goal.returns-clause-ok
returns-clause-ok g c = refl
