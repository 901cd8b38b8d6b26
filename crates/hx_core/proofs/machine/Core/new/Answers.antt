use Rattle.std.proofs.Common.{◌≤◌, ◌++◌, [], List, false, length, arith, ap, sym, subst, ◌∙◌}
use Rattle.hx_events.specs.declared.life.Entry.{Entry}
use Rattle.hx_rules.specs.Legal.{Opening, found_backup}
use Rattle.hx_core.specs.Cores.{IsCore}
use Rattle.hx_core.specs.Listed.{ListsDone}
use Rattle.hx_core.specs.ListedDone.{lists_first}
use Rattle.hx_core.specs.Starting.{core_at_first, resources_count}
use Rattle.hx_core.proofs.machine.Core.new.Goals as goal

pub invariant_of-result : goal.invariant_of-result
invariant_of-result c =
    let o : Opening = record { restored = c.first_resources.new.restored.items; barred = c.barred.result; guarded = c.args.guarded } in
    let counted = resources_count (λ name. found_backup name c.args.base.now) c.in_ok-names.names c.in_ok-resources.resources.items c.first_resources.new.restored.items c.in_ok-resources.ensures.resources c.in_ok-resources.ensures.restored in
    let few : length c.in_ok-resources.resources.items ≤ 256 = omega (arith, counted, ap length c.in_ok-names.ensures, c.requires.few) in
    let listed = sym (c.extend.ensures ∙ ap (λ xs. xs ++ c.in_ok-backups.backups.pairs) c.new-first.ensures) in
    let starts : ListsDone o [] c.extend.new.self.items =
    subst (ListsDone o []) (sym c.in_ok-backups.ensures ∙ listed) (lists_first o c.in_ok-names.names c.args.base.now c.in_ok-resources.ensures.placed c.in_ok-resources.ensures.restored) in
    subst (λ (h : List Entry). IsCore o c.extend.new.self.items c.in_ok-resources.resources.items c.in_ok-backups.backups.pairs h false c.new-2.result c.new-3.result) (sym c.new.ensures.items)
    (core_at_first o c.extend.new.self.items c.in_ok-resources.resources.items c.in_ok-backups.backups.pairs c.new-2.result c.new-3.result c.in_ok-resources.ensures.resources
    listed starts few c.barred.ensures.few c.new-2.ensures.empty c.new-3.ensures.empty c.new-2.ensures.len c.new-3.ensures.len)

pub returns-clause-count : goal.returns-clause-count
returns-clause-count c =
    resources_count (λ name. found_backup name c.args.base.now) c.in_ok-names.names c.in_ok-resources.resources.items c.first_resources.new.restored.items c.in_ok-resources.ensures.resources c.in_ok-resources.ensures.restored
