use Rattle.std.proofs.Common.{◌≡◌, length}
use Rattle.hx_restore.specs.Values.{values_in, found_from}
use Rattle.hx_restore.proofs.restoring.restored.Given as goal

abbrev pub invariant-loop-pair : goal.invariant-loop-pair
invariant-loop-pair l = (l.found.items ≡ found_from (values_in l.pairs) 0 l.pair-index) × (length l.found.items ≡ l.pair-index)
