use Rattle.std.proofs.Common.{sym, ◌∙◌}
use Rattle.hx_script.proofs.TraceSteps.{still_sound, named_sound, not_false}
use Rattle.hx_script.proofs.trace_reader.TraceReader.take_name.Goals as goal

pub invariant_of-self : goal.invariant_of-self
invariant_of-self c = still_sound c.self.inside.lives.items c.self.inside.part c.self.inside.draft c.name.new.self c.in_err-name-2.ensures.unchanged c.self.invariant

pub invariant_of-self-2 : goal.invariant_of-self-2
invariant_of-self-2 c =
    let r = c.self.inside in
    named_sound r.lives.items r.part r.draft c.name.new.self _ (sym c.is_naming.ensures ∙ not_false c.is_naming.result c.in_ok-name.ensures.placed) c.in_ok-name-2.ensures.ok c.self.invariant
