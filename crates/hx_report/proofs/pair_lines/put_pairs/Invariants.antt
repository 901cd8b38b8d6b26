-- The lines of the pairs so far stand there.
use Rattle.std.proofs.Common.{◌≡◌, ◌++◌, drop}
use Rattle.hx_report.specs.Traces.{pair_lines}
use Rattle.hx_report.proofs.pair_lines.put_pairs.Given as goal

abbrev pub invariant-loop-number : goal.invariant-loop-number
invariant-loop-number l = l.out.items ++ pair_lines l.number (drop l.number l.base) ≡ l.fn.out.items ++ pair_lines 0 l.base
