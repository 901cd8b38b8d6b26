use Rattle.hx_opening_laws.specs.Laws.{opens_a_registry}
use Rattle.hx_opening_laws.proofs.laws.a_vault_that_was_opened_begins_a_registry.Goals as goal

pub returns : goal.returns
returns g c = opens_a_registry g.D.Disk.tells g.D.Disk.time g.D.Disk.past g.D.Disk.now g.D.Disk.failures g.met.D.Disk.present
