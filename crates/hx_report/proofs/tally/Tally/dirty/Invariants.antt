-- The copies so far are counted.
use Rattle.std.proofs.Common.{◌≡◌, ◌≤◌}
use Rattle.hx_rules.specs.Legal.{count_below}
use Rattle.hx_report.specs.Outlines.{dirty_in}
use Rattle.hx_report.proofs.tally.Tally.dirty.Given as goal

abbrev pub invariant-loop-outline : goal.invariant-loop-outline
invariant-loop-outline l = record {
  count : l.count ≡ count_below (dirty_in l.self.outlines.items) l.outline-index;
  few : l.count ≤ l.outline-index;
}
