use Rattle.std.proofs.Common.{◌∙◌, ap, sym, is_some}
use Rattle.hx_core.specs.Reading.{if_same, saving_is}
use Rattle.hx_core.proofs.machine.Core.saving.Goals as goal

pub returns-clause-runs : goal.returns-clause-runs
returns-clause-runs c = c.saving_in.ensures.runs ∙ ap is_some c.resource.ensures.seq.run

pub returns-clause-content : goal.returns-clause-content
returns-clause-content c =
    if_same _ c.saving_in.result c.resource.result.now.kept.saving _ c.saving_in.ensures.content (λ some. saving_is _ _ _ c.resource.result.now.kept c.resource.ensures (sym c.saving_in.ensures.runs ∙ some))
