use Rattle.hx_script.proofs.TraceSteps.{still_sound}
use Rattle.hx_script.proofs.trace_reader.TraceReader.take_copy.Goals as goal

pub invariant_of-self-in_err-tail : goal.invariant_of-self-in_err-tail
invariant_of-self-in_err-tail c = still_sound c.self.inside.lives.items c.self.inside.part c.self.inside.draft c.tail.new.self c.in_err-tail.ensures.unchanged c.self.invariant
