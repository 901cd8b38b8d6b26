use Rattle.std.proofs.Common.{◌∙◌}
use Rattle.hx_core.specs.Reading.{mapped_if, mapped_some}
use Rattle.hx_core.proofs.machine.Core.copy.Goals as goal

pub returns-clause-there : goal.returns-clause-there
returns-clause-there c = mapped_some _ _ _ c.copy.ensures.kept ∙ c.resource.ensures.there

pub returns-clause-copy : goal.returns-clause-copy
returns-clause-copy c = mapped_if _ _ _ _ c.copy.ensures.kept c.resource.ensures.copy
