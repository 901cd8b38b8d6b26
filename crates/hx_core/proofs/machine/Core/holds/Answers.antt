use Rattle.std.proofs.Common.{◌∙◌}
use Rattle.hx_resource_laws.specs.RowFits.{holds_same}
use Rattle.hx_core.proofs.machine.Core.holds.Goals as goal

pub returns : goal.returns
returns c = c.holds.ensures.kept ∙ holds_same _ _ _ c.resource.result.now.kept c.resource.ensures
