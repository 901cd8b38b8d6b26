-- None of the pairs so far has the resource.
use Rattle.std.proofs.Common.{◌≡◌, drop}
use Rattle.hx_rules.specs.Legal.{found_backup}
use Rattle.hx_check.proofs.lives.found_backup.Given as goal

abbrev pub invariant-loop-pair : goal.invariant-loop-pair
invariant-loop-pair l = found_backup l.resource l.base ≡ found_backup l.resource (drop l.pair-index l.base)
