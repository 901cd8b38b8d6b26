use Rattle.std.specs.Prelude.{map}
use Rattle.std.proofs.Common.{◌≡◌, take}
use Rattle.hx_vault.specs.Vaults.{scanned_pair}
use Rattle.hx_vault.proofs.scanning.scanned_pairs.Given as goal

abbrev pub invariant-loop-raw : goal.invariant-loop-raw
invariant-loop-raw l = l.pairs.items ≡ map scanned_pair (take l.raw-index l.raws)
