use Rattle.hx_hub.proofs.Stages.{was_below}
use Rattle.hx_hub.proofs.office.Office.act.Goals as goal

pub enter-place-requires-clause-room : goal.enter-place-requires-clause-room
enter-place-requires-clause-room g c = was_below _ _ _ _ _ c.in_ok-outcome.ensures.entry.grown c.self.invariant.0 c.newest.ensures.few
