use Rattle.std.proofs.Common.{◌≡◌, ℕ, ◌*◌, ◌<◌, false}
use Rattle.hx_tracker.specs.Index.{has_bit}
use Rattle.hx_tracker.proofs.index.DueIndex.lowest.Given as goal

-- none of the numbers of the words so far
abbrev pub invariant-loop-i : goal.invariant-loop-i
invariant-loop-i l = (k : ℕ) → k < 64 * l.i → has_bit l.word-items k ≡ false
