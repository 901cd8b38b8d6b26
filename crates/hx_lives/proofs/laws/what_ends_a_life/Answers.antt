use Rattle.hx_lives.specs.Ends.{finished, crashed}
use Rattle.hx_lives.proofs.laws.what_ends_a_life.Goals as goal

pub returns-clause-finished : goal.returns-clause-finished
returns-clause-finished g c = finished g.D.Disk.picked g.D.Disk.tells g.D.Disk.time g.D.Disk.past g.D.Disk.now g.D.Disk.failures g.met.D.Disk.present

pub returns-clause-crashed : goal.returns-clause-crashed
returns-clause-crashed g c = crashed g.D.Disk.picked g.D.Disk.tells g.D.Disk.time g.D.Disk.past g.D.Disk.now g.D.Disk.failures g.met.D.Disk.present
