use Rattle.std.proofs.Common.{sym, subst}
use Rattle.hx_lives.specs.Calls.{IsNoCrash}
use Rattle.hx_lives.specs.Ends.{finished}
use Rattle.hx_registry.proofs.registry.Registry.finish.Goals as goal

pub returns-clause-lived : goal.returns-clause-lived
returns-clause-lived g c =
    let parts = c.self.inside.parts in
    finished g.D.Disk.picked g.D.Disk.tells g.D.Disk.time g.D.Disk.past g.D.Disk.now g.D.Disk.failures g.met.D.Disk.present
    _ parts.disk _ c.end.ensures.course (subst IsNoCrash (sym c.end.ensures.ended) c.requires) c.self.invariant.keeps
