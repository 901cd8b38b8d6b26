use Rattle.hx_lives.specs.Calls.{HasGoneOn}
use Rattle.hx_closing_laws.specs.Closing.{IsClosing}
use Rattle.hx_closing_laws.specs.Left.{left_at}
use Rattle.hx_registry.proofs.registry.Registry.settle_one.Given as goal

abbrev pub invariant-stages : goal.invariant-stages
invariant-stages g l = record {
  closing : IsClosing l.res l.initial.self.course l.self.course;
  runs : HasGoneOn g.D.Disk.time g.D.Disk.past g.D.Disk.failures l.initial.self.disk l.self.disk;
}

abbrev pub decreases-stages : goal.decreases-stages
decreases-stages g l = left_at l.self.course l.res
