use Rattle.std.proofs.Common.{subst, sym}
use Rattle.hx_rules.specs.Entries.{past}
use Rattle.hx_rules.specs.Legal.{Opening}
use Rattle.hx_core.specs.Cores.{CoreState}
use Rattle.hx_core.specs.Listed.{ListsDone}
use Rattle.hx_core.specs.ListedDone.{lists_done}
use Rattle.hx_core.proofs.machine.Core.backups.Goals as goal

pub returns-clause-done : goal.returns-clause-done
returns-clause-done c =
    let inside = c.self.inside in
    let o : Opening = record { restored = inside.restored.items; barred = inside.barred; guarded = inside.guarded } in
    let inv = c.self.invariant in
    subst (λ (x : CoreState). ListsDone x.opening (past x.history) inside.backups.pairs) c.self.view_is
    (subst (ListsDone o (past inside.history.items)) (sym inv.kept.backups) (lists_done o inside.first.items (past inside.history.items) inv.starts inv.kept.legal))
