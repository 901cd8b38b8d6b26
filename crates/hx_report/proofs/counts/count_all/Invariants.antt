-- The lives so far are counted.
use Rattle.std.proofs.Common.{◌≡◌, ◌≤◌, ◌*◌, ◌^◌, drop}
use Rattle.hx_report.specs.Counting.{IsWithin, counted_all, no_counts}
use Rattle.hx_report.proofs.counts.count_all.Given as goal

abbrev pub invariant-loop-life : goal.invariant-loop-life
invariant-loop-life l = record {
  counts : counted_all (drop l.life-index l.lives) l.counts ≡ counted_all l.lives no_counts;
  within : IsWithin l.counts;
  few : l.counts.entries ≤ l.life-index * 2 ^ 63;
}
