use Rattle.hx_script.proofs.TraceSteps.{outcome_read}
use Rattle.hx_script.proofs.trace_reader.outcome_of_text.Goals as goal

pub returns-clause-answers : goal.returns-clause-answers
returns-clause-answers c = outcome_read c.settled.result c.outcome_in.result c.args.names.now c.args.text.now c.deref.result.now c.split_fields.new.fields.items c.deref.ensures.value c.in_ok-split_fields.ensures c.outcome_in.ensures.answers c.settled.ensures.answers
