use Rattle.hx_disk_laws.specs.Client.{IsShut}
use Rattle.hx_disk_laws.proofs.Both.{others_left, first_now}
use Rattle.hx_disk_laws.proofs.client.shut_both.Goals as goal

pub returns-in_err-shut-2-clause-others : goal.returns-in_err-shut-2-clause-others
returns-in_err-shut-2-clause-others g c = λ told. others_left g.D.Disk.time g.D.Disk.past g.D.Disk.now g.met.D.Disk.present _ _ _ _ _ _ _ _ _ c.reserve.ensures.unchanged (c.shut.ensures.each told) c.reserve-2.ensures.unchanged (c.shut-2.ensures.each told)

pub returns-clause-ok : goal.returns-clause-ok
returns-clause-ok g c = λ told. (
  first_now g.D.Disk.time g.D.Disk.past g.D.Disk.now g.met.D.Disk.present _ _ _ _ _ _ _ _ _ c.reserve.ensures.unchanged (c.shut.ensures.each told) c.reserve-2.ensures.unchanged (c.shut-2.ensures.each told) IsShut (c.in_ok-shut.ensures.ok told) (c.in_ok-shut-2.ensures.ok told),
  c.in_ok-shut-2.ensures.ok told,
)

pub returns-clause-others : goal.returns-clause-others
returns-clause-others g c = λ told. others_left g.D.Disk.time g.D.Disk.past g.D.Disk.now g.met.D.Disk.present _ _ _ _ _ _ _ _ _ c.reserve.ensures.unchanged (c.shut.ensures.each told) c.reserve-2.ensures.unchanged (c.shut-2.ensures.each told)
