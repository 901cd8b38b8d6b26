use Rattle.std.proofs.Common.{◌≡◌, ◌+◌, ◌≤◌, count_by, drop}
use Rattle.hx_rules.specs.Legal.{is_barred}
use Rattle.hx_core.proofs.opening.barred.Given as goal

abbrev pub invariant-loop-pair : goal.invariant-loop-pair
invariant-loop-pair l = (l.count + count_by is_barred (drop l.pair-index l.base) ≡ count_by is_barred l.base) × (l.count ≤ l.pair-index)
