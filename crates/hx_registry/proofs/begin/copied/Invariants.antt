use Rattle.std.proofs.Common.{◌≡◌, take}
use Rattle.hx_registry.proofs.begin.copied.Given as goal

abbrev pub invariant-loop-place : goal.invariant-loop-place
invariant-loop-place l = l.copy ≡ take l.place l.names
