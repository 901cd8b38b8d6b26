use Rattle.std.specs.Prelude.{slice_index_or}
use Rattle.std.proofs.Common.{◌≡◌, ◌<◌, ◌≤◌, ℕ, length}
use Rattle.hx_events.specs.declared.backup.PairFound.TheVariants.{Empty}
use Rattle.hx_vault.specs.Vaults.{adopted, pair_at}
use Rattle.hx_vault.proofs.vault.Vault.adopt.Given as goal

abbrev pub invariant-loop-number : goal.invariant-loop-number
invariant-loop-number l =
    (length l.self.pairs ≡ length l.initial.self.pairs)
    × (l.self.stamp ≡ l.initial.self.stamp)
    × ((p : ℕ) → p < l.number → pair_at l.self p ≡ adopted (slice_index_or l.found p Empty) (pair_at l.initial.self p))
    × ((p : ℕ) → l.number ≤ p → pair_at l.self p ≡ pair_at l.initial.self p)
