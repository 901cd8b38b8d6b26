use Rattle.std.proofs.Common.{◌∙◌}
use Rattle.hx_resource_laws.specs.RowFits.{unsafe_same}
use Rattle.hx_core.proofs.machine.Core.is_unsafe.Goals as goal

pub returns : goal.returns
returns c = c.is_unsafe.ensures.kept ∙ unsafe_same _ _ _ c.resource.result.now.kept c.resource.ensures
