use Rattle.std.proofs.Common.{◌≡◌, ◌<◌, ℕ, length, subst, is_some}
use Rattle.hx_rules.specs.Entries.{past}
use Rattle.hx_rules.specs.Legal.{vault_due}
use Rattle.hx_tracker.specs.Index.{has_number}
use Rattle.hx_core.specs.Cores.{CoreState}
use Rattle.hx_core.specs.Reading.{index_says}
use Rattle.hx_core.proofs.machine.Core.vault_index.Goals as goal

pub returns : goal.returns
returns c =
    subst (λ (x : CoreState). (k : ℕ) → k < length x.resources → has_number c.self.inside.vault k ≡ is_some (vault_due x.opening (past x.history) k)) c.self.view_is
    (index_says (length c.self.inside.resources.items) _ (has_number c.self.inside.vault) c.self.invariant.kept.vault)
