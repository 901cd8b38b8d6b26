use Rattle.std.proofs.Common.{◌≡◌}
use Rattle.hx_slots.specs.Raws.{raw_at, greatest_shown}
use Rattle.hx_vault.proofs.scanning.greatest.Given as goal

abbrev pub invariant-loop-raw : goal.invariant-loop-raw
invariant-loop-raw l = l.stamp ≡ greatest_shown (λ p. (raw_at l.raws p).a) (λ p. (raw_at l.raws p).b) l.raw-index
