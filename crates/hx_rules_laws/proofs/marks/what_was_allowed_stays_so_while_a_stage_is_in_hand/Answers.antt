-- The law itself.
use Rattle.hx_rules_laws.specs.Legals.{still_allowed_in_hand}
use Rattle.hx_rules_laws.proofs.marks.what_was_allowed_stays_so_while_a_stage_is_in_hand.Goals as goal

pub returns : goal.returns
returns c = still_allowed_in_hand
