-- The law itself.
use Rattle.hx_check.specs.Laws.{may_be_judged}
use Rattle.hx_check.proofs.laws.a_trace_that_was_read_may_be_judged.Goals as goal

pub returns : goal.returns
returns c = may_be_judged
