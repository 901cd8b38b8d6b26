-- The lines of the entries so far stand there.
use Rattle.std.proofs.Common.{◌≡◌, ◌++◌, drop}
use Rattle.hx_history_script.specs.Texts.{entry_lines}
use Rattle.hx_history_script.proofs.text.put_entries.Given as goal

abbrev pub invariant-loop-entry : goal.invariant-loop-entry
invariant-loop-entry l = l.out.items ++ entry_lines (drop l.entry-index l.entries) ≡ l.fn.out.items ++ entry_lines l.entries
