use Rattle.std.proofs.Common.{◌≡◌, ◌∙◌, subst, ap, length, arith}
use Rattle.std.specs.Prelude.{ℕ, is_some}
use Rattle.hx_rules.specs.Entries.{past}
use Rattle.hx_rules.specs.Legal.{Opening, lowest_from, lowest_save_due, save_due}
use Rattle.hx_tracker.specs.Index.{has_number}
use Rattle.hx_core.specs.Cores.{CoreState}
use Rattle.hx_core.specs.Lowest.{lowest_index}
use Rattle.hx_core.proofs.machine.Core.due_save.Goals as goal

pub returns : goal.returns
returns c =
    let inside = c.self.inside in
    let inv = c.self.invariant in
    let o : Opening = record { restored = inside.restored.items; barred = inside.barred; guarded = inside.guarded } in
    let due = λ (k : ℕ). is_some (save_due o (past inside.history.items) k) in
    subst (λ (s : CoreState). c.lowest.result ≡ lowest_save_due s.opening (past s.history)) c.self.view_is
    (c.lowest.ensures
    ∙ (lowest_index (has_number inside.save) due (length inside.resources.items) 0 (length inside.save) (length inside.resources.items) (omega (arith, inv.few, inv.save)) (omega arith) inv.kept.save
    ∙ ap (lowest_from due 0) inv.kept.count))
