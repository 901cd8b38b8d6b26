-- The lines of the names so far stand there.
use Rattle.std.proofs.Common.{◌≡◌, ◌++◌, drop}
use Rattle.hx_report.specs.Traces.{name_lines}
use Rattle.hx_report.proofs.trace.put_names.Given as goal

abbrev pub invariant-loop-place : goal.invariant-loop-place
invariant-loop-place l = l.out.items ++ name_lines (drop l.place l.names) ≡ l.fn.out.items ++ name_lines l.names
