-- The lines so far are those of the text.
use Rattle.std.proofs.Common.{◌≡◌, ◌+◌, ◌≤◌, drop, length}
use Rattle.hx_check.specs.Verdicts.{bad_line}
use Rattle.hx_check.proofs.lives.bad_line.Given as goal

abbrev pub invariant-loop-index : goal.invariant-loop-index
invariant-loop-index l = record {
  within : l.at ≤ length l.text;
  rest : bad_line (l.number + l.index) (drop l.index l.lines) (drop l.at l.text) ≡ bad_line l.number l.lines l.text;
}
