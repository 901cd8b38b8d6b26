-- The lines of the entries so far stand there.
use Rattle.std.proofs.Common.{◌≡◌, ◌++◌, drop}
use Rattle.hx_report.specs.Traces.{AreEntriesOf, entry_lines}
use Rattle.hx_report.proofs.trace.put_entries.Given as goal

abbrev pub invariant-loop-entry : goal.invariant-loop-entry
invariant-loop-entry l = record {
  lines : l.out.items ++ entry_lines l.names (drop l.entry-index l.history) ≡ l.fn.out.items ++ entry_lines l.names l.history;
  known : AreEntriesOf l.names (drop l.entry-index l.history);
}
