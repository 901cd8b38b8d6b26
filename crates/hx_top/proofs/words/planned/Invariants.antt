-- The settings so far are in the plan, and the words behind them are left.
use Rattle.std.proofs.Common.{◌≡◌, ◌++◌, length}
use Rattle.hx_top.specs.Words.{fails_of, fuse_of, later_of, settings_before, texts_of}
use Rattle.hx_top.proofs.words.planned.Given as goal

abbrev pub invariant-settings : goal.invariant-settings
invariant-settings l = record {
  fails : l.plan.fails.items ++ fails_of (settings_before (texts_of l.rest)) ≡ fails_of (settings_before (texts_of l.words));
  fuse : later_of l.plan.fuse (fuse_of (settings_before (texts_of l.rest))) ≡ fuse_of (settings_before (texts_of l.words));
}

abbrev pub decreases-settings : goal.decreases-settings
decreases-settings l = length l.rest
