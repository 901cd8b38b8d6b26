use Rattle.std.proofs.Common.{◌≡◌, take}
use Rattle.hx_opening_laws.specs.FirstPairs.{first_pairs}
use Rattle.hx_registry.proofs.begin.first_pairs.Given as goal

abbrev pub invariant-loop-place : goal.invariant-loop-place
invariant-loop-place l = l.held.items ≡ first_pairs (take l.place l.names) l.found
