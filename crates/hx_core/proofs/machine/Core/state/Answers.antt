use Rattle.std.proofs.Common.{◌∙◌}
use Rattle.hx_core.specs.Reading.{state_is}
use Rattle.hx_core.proofs.machine.Core.state.Goals as goal

pub returns : goal.returns
returns c = c.state_in.ensures ∙ state_is _ _ _ c.resource.result.now.kept c.resource.ensures
