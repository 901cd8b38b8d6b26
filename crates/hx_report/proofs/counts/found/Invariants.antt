-- The pairs of the lives so far are counted.
use Rattle.std.proofs.Common.{◌≡◌, ◌≤◌, ◌+◌, ◌*◌, ◌^◌, drop}
use Rattle.hx_report.specs.Summaries.{found_in}
use Rattle.hx_report.proofs.counts.found.Given as goal

abbrev pub invariant-loop-life : goal.invariant-loop-life
invariant-loop-life l = record {
  found : l.count + found_in (drop l.life-index l.lives) ≡ found_in l.lives;
  few : l.count ≤ l.life-index * 2 ^ 63;
}
