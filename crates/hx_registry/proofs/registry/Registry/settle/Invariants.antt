use Rattle.hx_lives.specs.Calls.{HasGoneOn}
use Rattle.hx_closing_laws.specs.Settling.{HasSettled}
use Rattle.hx_registry.proofs.registry.Registry.settle.Given as goal

abbrev pub invariant-resources : goal.invariant-resources
invariant-resources g l = record {
  settled : HasSettled l.initial.self.course l.number l.self.course;
  runs : HasGoneOn g.D.Disk.time g.D.Disk.past g.D.Disk.failures l.initial.self.disk l.self.disk;
}
