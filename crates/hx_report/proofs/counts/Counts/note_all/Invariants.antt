-- The entries so far are counted.
use Rattle.std.proofs.Common.{◌≡◌, ◌+◌, drop}
use Rattle.hx_report.specs.Counting.{IsWithin, counted}
use Rattle.hx_report.proofs.counts.Counts.note_all.Given as goal

abbrev pub invariant-loop-entry : goal.invariant-loop-entry
invariant-loop-entry l = record {
  counts : counted (drop l.entry-index l.history) l.self ≡ counted l.history l.initial.self;
  within : IsWithin l.self;
  entries : l.self.entries ≡ l.initial.self.entries + l.entry-index;
}
