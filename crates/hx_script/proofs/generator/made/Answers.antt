use Rattle.hx_script.proofs.MadeSteps.{well_if}
use Rattle.hx_script.proofs.generator.made.Goals as goal

pub returns-clause-well_made : goal.returns-clause-well_made
returns-clause-well_made c = well_if c.args.n c.generated.result c.generated.ensures
