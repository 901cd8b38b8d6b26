use Rattle.std.proofs.Common.{sym, ◌∙◌}
use Rattle.hx_history_play.specs.Answered.{save_at}
use Rattle.hx_history_play.specs.Saves.{got_end}
use Rattle.hx_history_play.proofs.openings.ends_with.Goals as goal

pub returns-in-Some : goal.returns-in-Some
returns-in-Some c = c.is_of.ensures ∙ sym (got_end c.args.entries.now c.in-Some.entry.now (save_at c.args.moment c.args.content.now) (sym c.in-Some.ensures.value))
