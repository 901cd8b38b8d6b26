use Rattle.hx_closing_laws.specs.Settling.{cut_short, goes_on, settled_one}
use Rattle.hx_registry.proofs.registry.Registry.settle.Goals as goal

pub returns-in_err-settle_one-clause-err : goal.returns-in_err-settle_one-clause-err
returns-in_err-settle_one-clause-err g c =
    cut_short c.from_residual.result c.resources.number c.new.result c.args.self.now.course c.resources.self.course c.settle_one.new.self.course c.new.ensures c.resources.invariant.settled c.settle_one.ensures.settles

pub resources-preserved : goal.resources-preserved
resources-preserved g c = record {
  settled = settled_one c.resources.number c.new.result c.args.self.now.course c.resources.self.course c.settle_one.new.self.course c.new.ensures c.resources.invariant.settled c.settle_one.ensures.settles c.in_ok-settle_one.ensures.done;
  runs = goes_on g.D.Disk.time g.D.Disk.past g.D.Disk.failures c.args.self.now.disk c.resources.self.disk c.settle_one.new.self.disk c.resources.invariant.runs c.settle_one.ensures.runs;
}
