-- What is kept is what the entries so far leave.
use Rattle.std.proofs.Common.{◌≡◌, ◌+◌, length, take, drop, []}
use Rattle.hx_rules.specs.Entries.{past}
use Rattle.hx_rules.specs.Legal.{Opening}
use Rattle.hx_report.specs.Traces.{AreEntriesOf}
use Rattle.hx_report.specs.Outlines.{AreUpTo, IsTallied}
use Rattle.hx_report.proofs.tally.Tally.note_all.Given as goal

abbrev pub invariant-loop-index : goal.invariant-loop-index
invariant-loop-index l = record {
  tallied : (o : Opening) → IsTallied o [] l.initial.self → IsTallied o (past (take l.index l.history)) l.self;
  count : length l.self.outlines.items ≡ length l.initial.self.outlines.items;
  known : AreEntriesOf l.names (drop l.index l.history);
  early : AreUpTo (l.index + 1) l.self.outlines.items;
}
