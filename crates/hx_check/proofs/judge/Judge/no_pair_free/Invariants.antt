-- The holders so far are counted.
use Rattle.std.proofs.Common.{◌≡◌, ◌≤◌}
use Rattle.hx_rules.specs.Legal.{count_below}
use Rattle.hx_check.specs.Judging.{holds_of}
use Rattle.hx_check.proofs.judge.Judge.no_pair_free.Given as goal

abbrev pub invariant-loop-sketch : goal.invariant-loop-sketch
invariant-loop-sketch l = record {
  count : l.held ≡ count_below (holds_of l.self.sketches.items) l.sketch-index;
  few : l.held ≤ l.sketch-index;
}
