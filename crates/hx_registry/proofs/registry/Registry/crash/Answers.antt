use Rattle.std.proofs.Common.{◌∙◌}
use Rattle.hx_lives.specs.Ends.{crashed, cut_off}
use Rattle.hx_registry.proofs.registry.Registry.crash.Goals as goal
use Rattle.hx_registry.proofs.registry.Registry.crash.Goals.{in-Ok, in-Err}

pub returns-clause-lived : goal.returns-clause-lived
returns-clause-lived g c =
    let parts = c.self.inside.parts in
    elim c.match-crashed.branch [
      | in-Ok w ↦ crashed g.D.Disk.picked g.D.Disk.tells g.D.Disk.time g.D.Disk.past g.D.Disk.now g.D.Disk.failures g.met.D.Disk.present
          _ parts.disk c.crash-crashed.new.self c.args.pick _ c.end.ensures.course (c.end.ensures.ended ∙ w.ended-is) c.self.invariant.keeps c.crash-crashed.ensures.time w.in-Ok.ensures.ok
      | in-Err w ↦ cut_off g.D.Disk.picked g.D.Disk.tells g.D.Disk.time g.D.Disk.past g.D.Disk.now g.D.Disk.failures g.met.D.Disk.present
          _ parts.disk c.crash-crashed.new.self _ c.end.ensures.course (c.end.ensures.ended ∙ w.ended-is) c.self.invariant.keeps w.in-Err.ensures.err
    ]
