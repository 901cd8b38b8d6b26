use Rattle.std.proofs.Common.{◌≡◌, ◌∷◌, ◌++◌, [], ℕ, List, Option, sym, Some, map, take, option_map, ap, subst, ◌∙◌, slice_get, arith}
use Rattle.hx_rules.specs.Legal.{found_backup}
use Rattle.hx_events.specs.declared.backup.Backup.{Backup}
use Rattle.hx_resource.specs.Kept.{ResourceState}
use Rattle.hx_core.specs.Opens.{AreFirst}
use Rattle.hx_core.specs.ListedDone.{placed_more, placed_all}
use Rattle.hx_core.specs.Starting.{first_more, restored_more}
use Rattle.hx_core.proofs.opening.first_resources.Goals as goal

pub loop-i-preserved : goal.loop-i-preserved
loop-i-preserved c =
    let names = c.args.names.now in
    let base = c.args.base.now in
    let at = subst (λ (k : ℕ). slice_get names k ≡ Some c.text.result.now) c.new.ensures c.text.ensures.text in
    let backup = option_map (λ b. b.now) c.found_backup-backup.result in
    record {
      restored = c.extend.ensures ∙ (ap (λ xs. xs ++ backup ∷ []) c.loop-i.invariant.restored
          ∙ (ap (λ x. map (λ name. found_backup name base) (take c.loop-i.i names) ++ x ∷ []) c.found_backup-backup.ensures ∙ restored_more (λ name. found_backup name base) names c.loop-i.i c.text.result.now at));
      first = subst (λ (xs : List ResourceState). AreFirst xs c.extend.new.self.items) (sym c.in_ok-push.ensures.items)
          (subst (λ (rs : List (Option Backup)). AreFirst (c.loop-i.resources.items ++ c.in_ok-first_resource.field-0 ∷ []) rs) (sym c.extend.ensures)
          (first_more c.loop-i.resources.items c.loop-i.restored.items c.in_ok-first_resource.field-0 backup c.loop-i.invariant.first c.in_ok-first_resource.ensures));
      placed = placed_more names c.loop-i.i c.text.result.now at (c.text.ensures.found ∙ ap Some c.new.ensures) c.loop-i.invariant.placed;
    }

pub returns-clause-placed : goal.returns-clause-placed
returns-clause-placed c = placed_all c.args.names.now c.loop-i.i (omega (arith, c.loop-i-test.false, c.len-i-end.ensures)) c.loop-i.invariant.placed
