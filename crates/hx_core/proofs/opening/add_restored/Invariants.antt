use Rattle.std.proofs.Common.{◌≡◌, drop}
use Rattle.hx_rules.specs.Legal.{with_restored}
use Rattle.hx_core.proofs.opening.add_restored.Given as goal

abbrev pub invariant-loop-pair : goal.invariant-loop-pair
invariant-loop-pair l = with_restored l.fn.names l.base ≡ with_restored l.all (drop l.pair-index l.base)
