use Rattle.std.proofs.Common.{sym, ◌∙◌}
use Rattle.hx_check.proofs.Tails.{ends_before, ends_with}
use Rattle.hx_check.proofs.lives.goes_on.Goals as goal

pub returns-in-None : goal.returns-in-None
returns-in-None c = sym (ends_before c.args.line.now c.args.text.now c.in-None.ensures.lookup.0)

pub returns-in-Some : goal.returns-in-Some
returns-in-Some c = c.is_line.ensures ∙ sym (ends_with c.args.line.now c.args.text.now c.in-Some.end.now c.in-Some.ensures.lookup.0 c.in-Some.ensures.lookup.1)
