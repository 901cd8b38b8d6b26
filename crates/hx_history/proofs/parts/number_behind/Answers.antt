use Rattle.std.proofs.Common.{sym, arith}
use Rattle.hx_history_laws.specs.Kept.{got_next}
use Rattle.hx_history.proofs.parts.number_behind.Goals as goal

pub overflow_add-result : goal.overflow_add-result
overflow_add-result c =
    let is = got_next c.args.entries.now c.in-Some.last.now (sym c.in-Some.ensures.value) in
    omega (arith, is, c.requires)

pub returns-in-Some : goal.returns-in-Some
returns-in-Some c = sym (got_next c.args.entries.now c.in-Some.last.now (sym c.in-Some.ensures.value))
