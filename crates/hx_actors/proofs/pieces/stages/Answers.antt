use Rattle.std.proofs.Common.{ap, ◌∙◌}
use Rattle.hx_lives.specs.Course.{opening}
use Rattle.hx_passes.specs.declared.rule.Known.{Known}
use Rattle.hx_hub.specs.Shared.{stage_on}
use Rattle.hx_actors.specs.Pieces.{works}
use Rattle.hx_actors.proofs.Steps.{made_in_order, made_keeps, noted_in_order, noted_keeps, noted_over, worker_stands}
use Rattle.hx_actors.proofs.pieces.stages.Goals as goal

pub loop-preserved-in-Did : goal.loop-preserved-in-Did
loop-preserved-in-Did g c =
    let s = rw c.in-Did.is at c.in_ok-stage.ensures.staged in
    let i = c.loop.invariant in
    let o = opening g.J.Naming.life in
    let place = c.in-Did.field-0.place in
    let outcome = c.in-Did.field-0.outcome in
    let old : Known = c.loop.pass in
    let new : Known = c.stage.new.pass in
    record {
      keeps = made_keeps o (stage_on c.args.kind s.res) place outcome c.args.pass.now old new s.makes i.keeps;
      order = made_in_order o (stage_on c.args.kind s.res) place outcome old new s.makes (worker_stands c.args.kind old.actor s.res outcome (ap (works c.args.kind) i.keeps.actor ∙ c.requires.works) s.busy) i.order;
    }

pub loop-preserved : goal.loop-preserved
loop-preserved g c =
    let s = rw c.in-Rest.is at c.in_ok-stage.ensures.staged in
    let i = c.loop.invariant in
    let o = opening g.J.Naming.life in
    let old : Known = c.loop.pass in
    let new : Known = c.stage.new.pass in
    record {
      keeps = noted_keeps o c.args.kind s.0 c.args.pass.now old new s.2 i.keeps;
      order = noted_in_order o c.args.kind s.0 old new s.2 i.order;
    }

pub returns-in-Over-clause-keeps : goal.returns-in-Over-clause-keeps
returns-in-Over-clause-keeps g c =
    let s = rw c.in-Over.is at c.in_ok-stage.ensures.staged in
    noted_keeps (opening g.J.Naming.life) c.args.kind s.0 c.args.pass.now c.loop.pass c.stage.new.pass s.2 c.loop.invariant.keeps

pub returns-in-Over-clause-order : goal.returns-in-Over-clause-order
returns-in-Over-clause-order g c =
    let s = rw c.in-Over.is at c.in_ok-stage.ensures.staged in
    noted_in_order (opening g.J.Naming.life) c.args.kind s.0 c.loop.pass c.stage.new.pass s.2 c.loop.invariant.order

pub returns-in-Over-clause-over : goal.returns-in-Over-clause-over
returns-in-Over-clause-over g c =
    let s = rw c.in-Over.is at c.in_ok-stage.ensures.staged in
    noted_over (opening g.J.Naming.life) c.args.kind s.0 g.J.Naming.windows c.loop.pass c.stage.new.pass s.1 s.2
