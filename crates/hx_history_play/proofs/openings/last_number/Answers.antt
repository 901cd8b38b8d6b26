use Rattle.std.proofs.Common.{sym}
use Rattle.hx_history_play.specs.Saves.{got_number}
use Rattle.hx_history_play.proofs.openings.last_number.Goals as goal

pub returns-in-Some : goal.returns-in-Some
returns-in-Some c = sym (got_number c.args.entries.now c.in-Some.entry.now (sym c.in-Some.ensures.value))
