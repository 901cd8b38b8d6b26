use Rattle.std.proofs.Common.{ap, ◌∙◌, ◌<◌, length, arith}
use Rattle.hx_events.specs.Resources.{is_resource}
use Rattle.hx_script.specs.declared.trace.TraceLife.{TraceLife}
use Rattle.hx_script.proofs.DraftSteps.{name_keeps_well}
use Rattle.hx_script.proofs.draft.Draft.name.Goals as goal

pub invariant_of-self : goal.invariant_of-self
invariant_of-self c =
    let d = c.self.inside in
    let room : length d.names < 256 = omega (arith, ap (λ (t : TraceLife). length t.life.names) c.self.view_is, c.requires.room) in
    name_keeps_well d.base.items d.history.items d.ended d.first d.tail.items d.tail_line (ap (λ (t : TraceLife). t.life.base) c.self.view_is ∙ c.requires.no_pairs) (ap (λ (t : TraceLife). t.life.history) c.self.view_is ∙ c.requires.no_entries)
    c.add.result d.names c.add.new.self c.into_vec.result.items c.add.ensures.added c.add.ensures.unchanged (ap is_resource c.into_vec.ensures ∙ c.requires.resource) room c.self.invariant
