use Rattle.std.proofs.Common.{IsTrue}
use Rattle.hx_disk.specs.Runs.{still_same, all_goes_on, all_joined, others_now, all_left}
use Rattle.hx_disk_laws.proofs.laws.run_laws.Goals as goal

pub returns-clause-still : goal.returns-clause-still
returns-clause-still g c = still_same g.D.Disk.time g.D.Disk.past g.D.Disk.now g.met.D.Disk.present

pub returns-clause-join : goal.returns-clause-join
returns-clause-join g c = λ passes. all_joined g.D.Disk.time g.D.Disk.past g.D.Disk.now g.met.D.Disk.present (λ f s. IsTrue (passes f s))

pub returns-clause-others : goal.returns-clause-others
returns-clause-others g c = λ file passes. others_now g.D.Disk.time g.D.Disk.past g.D.Disk.now g.met.D.Disk.present file (λ s. IsTrue (passes s))

pub returns-clause-bounds : goal.returns-clause-bounds
returns-clause-bounds g c = λ passes holds. all_left g.D.Disk.time g.D.Disk.past g.D.Disk.now g.met.D.Disk.present (λ f s. IsTrue (passes f s)) (λ f image. IsTrue (holds f image))

pub returns-clause-goes_on : goal.returns-clause-goes_on
returns-clause-goes_on g c = λ passes. all_goes_on g.D.Disk.time g.D.Disk.past g.D.Disk.now g.met.D.Disk.present (λ f s. IsTrue (passes f s))
