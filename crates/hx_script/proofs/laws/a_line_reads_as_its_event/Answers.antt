use Rattle.hx_script.proofs.ReadBack.{reads_back, reads_back_in_script}
use Rattle.hx_script.proofs.laws.a_line_reads_as_its_event.Goals as goal

pub returns-clause-event : goal.returns-clause-event
returns-clause-event c = reads_back

pub returns-clause-step : goal.returns-clause-step
returns-clause-step c = reads_back_in_script
