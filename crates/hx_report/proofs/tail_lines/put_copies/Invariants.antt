-- The lines of the copies so far stand there.
use Rattle.std.proofs.Common.{◌≡◌, ◌++◌}
use Rattle.hx_report.specs.Outlines.{outline_lines}
use Rattle.hx_report.proofs.tail_lines.put_copies.Given as goal

abbrev pub invariant-loop-place : goal.invariant-loop-place
invariant-loop-place l = l.out.items ≡ l.fn.out.items ++ outline_lines l.names l.outlines l.place
