use Rattle.std.proofs.Common.{◌∙◌}
use Rattle.hx_core.proofs.machine.Core.begun.Goals as goal

pub returns : goal.returns
returns c = c.begun.ensures ∙ c.resource.ensures.begun
