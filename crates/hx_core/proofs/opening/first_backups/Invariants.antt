use Rattle.std.proofs.Common.{◌≡◌, drop, []}
use Rattle.hx_core.specs.Opens.{first_of}
use Rattle.hx_core.proofs.opening.first_backups.Given as goal

abbrev pub invariant-loop-pair : goal.invariant-loop-pair
invariant-loop-pair l = first_of l.names l.base [] ≡ first_of l.names (drop l.pair-index l.base) l.backups.pairs
