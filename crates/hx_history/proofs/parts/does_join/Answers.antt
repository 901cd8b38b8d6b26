use Rattle.std.proofs.Common.{sym, ◌∙◌}
use Rattle.hx_history_laws.specs.Kept.{got_joins, joins_then, joins_else}
use Rattle.hx_history.proofs.parts.does_join.Goals as goal

pub returns-then-last-moment : goal.returns-then-last-moment
returns-then-last-moment c =
    joins_then c.in-Some.last.now.moment c.args.moment c.if-last-moment.true
    ∙ sym (got_joins c.args.entries.now c.in-Some.last.now c.args.moment (sym c.in-Some.ensures.value))

pub returns-else-last-moment : goal.returns-else-last-moment
returns-else-last-moment c =
    joins_else c.in-Some.last.now.moment c.args.moment c.if-last-moment.false
    ∙ sym (got_joins c.args.entries.now c.in-Some.last.now c.args.moment (sym c.in-Some.ensures.value))
