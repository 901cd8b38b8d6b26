use Rattle.std.proofs.Common.{◌≡◌, ◌∙◌, subst, ap, length, arith}
use Rattle.std.specs.Prelude.{ℕ, is_some}
use Rattle.hx_rules.specs.Entries.{past}
use Rattle.hx_rules.specs.Legal.{Opening, lowest_from, lowest_vault_due, vault_due}
use Rattle.hx_tracker.specs.Index.{has_number}
use Rattle.hx_core.specs.Cores.{CoreState}
use Rattle.hx_core.specs.Lowest.{lowest_index}
use Rattle.hx_core.proofs.machine.Core.due_vault.Goals as goal

pub returns : goal.returns
returns c =
    let inside = c.self.inside in
    let inv = c.self.invariant in
    let o : Opening = record { restored = inside.restored.items; barred = inside.barred; guarded = inside.guarded } in
    let due = λ (k : ℕ). is_some (vault_due o (past inside.history.items) k) in
    subst (λ (s : CoreState). c.lowest.result ≡ lowest_vault_due s.opening (past s.history)) c.self.view_is
    (c.lowest.ensures
    ∙ (lowest_index (has_number inside.vault) due (length inside.resources.items) 0 (length inside.vault) (length inside.resources.items) (omega (arith, inv.few, inv.vault)) (omega arith) inv.kept.vault
    ∙ ap (lowest_from due 0) inv.kept.count))
