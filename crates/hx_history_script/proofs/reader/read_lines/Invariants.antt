-- the lines that are left, from what the lines so far are, read as all lines do
use Rattle.std.proofs.Common.{◌≡◌, ◌≤◌, ◌+◌, [], length}
use Rattle.hx_script.specs.Lines.{parts_of, lines_over}
use Rattle.hx_history_script.specs.Scripts.{line_in, lines_at_end}
use Rattle.hx_history_script.proofs.reader.read_lines.Given as goal

abbrev pub invariant-lines : goal.invariant-lines
invariant-lines l = record {
  same : lines_over line_in lines_at_end l.number l.reader (parts_of l.rest) ≡ lines_over line_in lines_at_end 2 [] (parts_of l.bytes);
  left : l.number + length l.rest ≤ 2 + length l.bytes;
}

abbrev pub decreases-lines : goal.decreases-lines
decreases-lines l = length l.rest
