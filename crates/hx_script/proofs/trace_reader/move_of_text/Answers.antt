use Rattle.hx_script.proofs.TraceSteps.{move_read}
use Rattle.hx_script.proofs.trace_reader.move_of_text.Goals as goal

pub returns-clause-answers : goal.returns-clause-answers
returns-clause-answers c = move_read c.move_in.result c.args.names.now c.args.text.now c.deref.result.now c.split_fields.new.fields.items c.deref.ensures.value c.in_ok-split_fields.ensures c.move_in.ensures.answers
