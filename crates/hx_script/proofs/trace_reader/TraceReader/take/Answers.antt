use Rattle.hx_script.proofs.TraceSteps.{line_read}
use Rattle.hx_script.proofs.trace_reader.TraceReader.take.Goals as goal

pub returns : goal.returns
returns c =
    line_read c.take_fields.result c.trace_kind-kind.result c.args.number c.args.self.now c.take_fields.new.self c.args.line.now c.first_field.result.now c.other_fields.result.now c.deref.result.now c.split_fields.new.fields.items
    c.first_field.ensures c.trace_kind-kind.ensures c.other_fields.ensures c.deref.ensures.value c.in_ok-split_fields.ensures c.take_fields.ensures
