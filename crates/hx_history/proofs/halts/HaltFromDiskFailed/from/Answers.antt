use Rattle.std.proofs.Common.{refl}
use Rattle.hx_history.proofs.halts.HaltFromDiskFailed.from.Goals as goal

pub returns : goal.returns
returns c = refl
