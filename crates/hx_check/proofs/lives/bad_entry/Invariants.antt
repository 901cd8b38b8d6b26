-- The entries so far are right.
use Rattle.std.proofs.Common.{◌≡◌, ◌+◌, [], take, drop, length}
use Rattle.hx_rules.specs.Entries.{past}
use Rattle.hx_report.specs.Traces.{AreEntriesOf}
use Rattle.hx_check.specs.Verdicts.{bad_entry, plain_opening}
use Rattle.hx_check.specs.Judging.{AreUpTo, IsJudged}
use Rattle.hx_check.proofs.lives.bad_entry.Given as goal

abbrev pub invariant-loop-index : goal.invariant-loop-index
invariant-loop-index l = record {
  judged : IsJudged (plain_opening l.life) (past (take l.index l.life.history)) l.judge;
  rest : bad_entry (plain_opening l.life) (past (take l.index l.life.history)) (l.first + l.index) (drop l.index l.life.history) ≡ bad_entry (plain_opening l.life) [] l.first l.life.history;
  known : AreEntriesOf l.life.names (drop l.index l.life.history);
  count : length l.judge.sketches.items ≡ length l.life.names;
  early : AreUpTo (l.index + 1) l.judge.sketches.items;
}
