use Rattle.std.proofs.Common.{◌≡◌}
use Rattle.hx_etag.proofs.conflict.same_digits.Given as goal

abbrev pub invariant-loop-left : goal.invariant-loop-left
invariant-loop-left l = record {
  same : l.left ≡ l.right → l.fn.left ≡ l.fn.right;
  whole : l.fn.left ≡ l.fn.right → l.left ≡ l.right;
}

abbrev pub decreases-loop-left : goal.decreases-loop-left
decreases-loop-left l = l.left
