use Rattle.std.proofs.Common.{◌∙◌}
use Rattle.hx_script.proofs.TraceSteps.{all_well}
use Rattle.hx_script.proofs.trace_reader.TraceReader.trace.Goals as goal

pub returns-clause-well_read : goal.returns-clause-well_read
returns-clause-well_read c = all_well c.self.inside.lives.items c.new.result c.finish.result (c.new.ensures ∙ c.in_ok-push.ensures.items) c.self.invariant.over c.finish.ensures.well_read
