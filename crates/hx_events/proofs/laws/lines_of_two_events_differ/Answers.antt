-- The law itself.
use Rattle.hx_events.proofs.ReadingLemmas.{lines_differ}
use Rattle.hx_events.proofs.laws.lines_of_two_events_differ.Goals as goal

pub returns : goal.returns
returns c = lines_differ
