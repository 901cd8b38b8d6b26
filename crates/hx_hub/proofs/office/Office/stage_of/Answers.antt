use Rattle.std.proofs.Common.{◌∙◌, ap}
use Rattle.hx_lives.specs.Course.{Course, opening}
use Rattle.hx_hub.specs.Shared.{lowest_due}
use Rattle.hx_hub.proofs.Stages.{does_stage, due_is_known, was_below}
use Rattle.hx_hub.proofs.office.Office.stage_of.Goals as goal

pub stage-requires : goal.stage-requires
stage-requires g c = due_is_known c.args.kind c.self.inside.registry.course c.args.res (ap (λ s. lowest_due c.args.kind (opening s.course) s.course.entries) c.self.view_is ∙ c.requires)

pub enter-place-requires-clause-room : goal.enter-place-requires-clause-room
enter-place-requires-clause-room g c = was_below _ _ _ _ _ c.in_ok-outcome.ensures.entry.grown c.self.invariant.0 c.newest.ensures.few

pub returns-clause-does : goal.returns-clause-does
returns-clause-does g c =
    let adds = c.in_ok-outcome.ensures.entry in
    does_stage c.args.kind c.args.res g.J.Naming.life c.self.inside.registry.course c.stage.new.registry.course c.actor.result c.in_ok-outcome.outcome c.self.inside.clerk c.newest.result.now c.enter-place.result c.args.pass.now c.enter-place.new.pass adds
    c.self.invariant.0 c.self.invariant.1 c.actor.ensures (c.newest.ensures.newest adds.entry c.self.inside.registry.course.entries (ap (λ (k : Course). k.entries) adds.grown)) c.enter-place.ensures.place c.enter-place.ensures.seen c.enter-place.ensures.pass
    (ap (λ s. lowest_due c.args.kind (opening s.course) s.course.entries) c.self.view_is ∙ c.requires)
