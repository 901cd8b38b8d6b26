use Rattle.std.proofs.Common.{sym, arith}
use Rattle.hx_top.proofs.Settings.{no_workers}
use Rattle.hx_top.proofs.words.workers_behind.Goals as goal

pub returns-in_default-clause-order : goal.returns-in_default-clause-order
returns-in_default-clause-order c = sym (no_workers c.args.guarded c.args.words.now (λ none. omega (arith, none, c.in_default.len_at_least)) (λ two. omega (arith, two, c.in_default.len_below)))

pub returns-in_default-2-clause-order : goal.returns-in_default-2-clause-order
returns-in_default-2-clause-order c = sym (no_workers c.args.guarded c.args.words.now (λ none. omega (arith, none, c.in_default.len_at_least)) (λ two. omega (arith, two, c.in_default.len_at_least)))
