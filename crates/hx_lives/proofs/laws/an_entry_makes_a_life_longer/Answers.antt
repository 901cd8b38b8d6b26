use Rattle.hx_lives.specs.Events.{lived_with_entry}
use Rattle.hx_lives.proofs.laws.an_entry_makes_a_life_longer.Goals as goal

pub returns : goal.returns
returns g c = lived_with_entry g.D.Disk.tells g.D.Disk.time g.D.Disk.past g.D.Disk.failures
