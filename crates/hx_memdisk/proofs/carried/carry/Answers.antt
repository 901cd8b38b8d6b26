use Rattle.std.proofs.Common.{refl}
use Rattle.hx_memdisk.proofs.Touched.{carried}
use Rattle.hx_memdisk.proofs.carried.carry.Goals as goal

pub returns-clause-items : goal.returns-clause-items
returns-clause-items c = carried _ _ _ _ _ _ _ _ _ c.requires.same c.min-end.ensures c.min-start.ensures c.truncate.ensures.items c.in-Ok.ensures.ok refl
