use Rattle.std.proofs.Common.{◌≡◌, ◌++◌, true, map}
use Rattle.hx_backups.specs.Backups.{are_numbers}
use Rattle.hx_backups.proofs.backups.Backups.get.Given as goal

abbrev pub invariant-loop-number : goal.invariant-loop-number
invariant-loop-number l = record {
  so_far : l.resources.items ++ l.number-iterator ≡ map (λ p. p.0) l.self.pairs;
  known : are_numbers l.number-iterator ≡ true;
}
