use Rattle.hx_pairs.specs.Beginning.{invariant_begun}
use Rattle.hx_pairs.proofs.laws.a_registry_begins_with_an_opened_vault.Goals as goal

pub returns : goal.returns
returns g c = invariant_begun g.D.Disk.tells g.D.Disk.time g.D.Disk.past g.D.Disk.now g.D.Disk.failures g.met.D.Disk.present
