use Rattle.std.proofs.Common.{◌∙◌}
use Rattle.hx_core.proofs.machine.Core.is_registered.Goals as goal

pub returns : goal.returns
returns c = c.is_open.ensures ∙ c.resource.ensures.there
