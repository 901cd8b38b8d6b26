use Rattle.std.proofs.Common.{rules, ◌<◌, [], sym, ◌∙◌, subst, refl}
use Rattle.hx_events.specs.declared.event.Event.TheVariants.{Vault}
use Rattle.hx_events.specs.declared.event.Stage.TheVariants.{Prepare}
use Rattle.hx_events.specs.declared.life.Entry.{Entry}
use Rattle.hx_rules.specs.Due.{version_due}
use Rattle.hx_rules.specs.Legal.{vault_due, was_spent}
use Rattle.hx_resource.specs.declared.asks.Work.TheVariants.{Vault as VaultStage}
use Rattle.hx_resource.specs.declared.asks.Got.TheVariants.{Spent as GotSpent}
use Rattle.hx_vault.specs.Vaults.{VaultState}
use Rattle.hx_lives.specs.Course.{Course, opening}
use Rattle.hx_pairs.specs.Entry.{invariant_rested}
use Rattle.hx_pairs.specs.Registries.{RegistryInvariant}
use Rattle.hx_pairs.specs.StageEvents.{prepare_invariant, prepare_failed_invariant}
use Rattle.hx_registry.specs.Given.{fits_done, fits_work, stage_done, stage_failed, stage_spent, unspent}
use Rattle.hx_registry.specs.OpenLives.{entry_by}
use Rattle.hx_registry.specs.Stages.{due_asks, spent_invariant}
use Rattle.hx_registry.proofs.parts.Parts.prepare.Goals as goal

pub step-requires-in-Ok-clause-fits : goal.step-requires-in-Ok-clause-fits
step-requires-in-Ok-clause-fits g c = let s = c.args.self.now in (fits_done _ c.args.res Prepare (due_asks (opening s.life.course) s.life.course.entries c.args.res Prepare c.requires.due)).0

pub step-requires-in-Err-clause-fits : goal.step-requires-in-Err-clause-fits
step-requires-in-Err-clause-fits g c = let s = c.args.self.now in (fits_done _ c.args.res Prepare (due_asks (opening s.life.course) s.life.course.entries c.args.res Prepare c.requires.due)).1

pub returns-in_err-reserve-clause-kept : goal.returns-in_err-reserve-clause-kept
returns-in_err-reserve-clause-kept g c = let s = c.args.self.now in let course : Course = s.life.course in (invariant_rested g.D.Disk.tells g.D.Disk.time g.D.Disk.past g.D.Disk.now g.D.Disk.failures g.met.D.Disk.present course s.vault c.reserve.new.self s.held.items s.disk c.reserve.new.disk c.requires.kept c.reserve.ensures.unchanged c.reserve.ensures.faults c.reserve.ensures.same)

pub step-requires-clause-fits : goal.step-requires-clause-fits
step-requires-clause-fits g c = let s = c.args.self.now in fits_work _ (VaultStage c.args.res Prepare) GotSpent (due_asks (opening s.life.course) s.life.course.entries c.args.res Prepare c.requires.due) tt

pub returns-then-is_spent-clause-kept : goal.returns-then-is_spent-clause-kept
returns-then-is_spent-clause-kept g c =
    let s = c.args.self.now in
    let course : Course = s.life.course in
    subst (λ (k : Course). RegistryInvariant g.D.Disk.tells g.D.Disk.time g.D.Disk.past g.D.Disk.now g.D.Disk.failures k s.vault s.held.items s.disk) (sym c.step.ensures.added)
    (spent_invariant g.D.Disk.tells g.D.Disk.time g.D.Disk.past g.D.Disk.now g.D.Disk.failures g.met.D.Disk.present course s.vault s.held.items s.disk c.args.actor c.args.res c.step.result c.requires.kept c.step.ensures.entry.row (c.step.ensures.outcome ∙ stage_spent (opening course) course.entries c.args.res c.args.res (due_asks (opening s.life.course) s.life.course.entries c.args.res Prepare c.requires.due)) (search rules))

pub returns-in-Ok-clause-kept : goal.returns-in-Ok-clause-kept
returns-in-Ok-clause-kept g c =
    let s = c.args.self.now in
    let course : Course = s.life.course in
    let v : VaultState = c.reserve.new.self in
    let new = c.prepare.new.disk in
    let e : Entry = entry_by (g.D.Disk.time new) (g.D.Disk.failures new) c.args.actor (Vault c.args.res) c.step-in-Ok.result [] in
    let holding : RegistryInvariant g.D.Disk.tells g.D.Disk.time g.D.Disk.past g.D.Disk.now g.D.Disk.failures course v s.held.items c.reserve.new.disk = (invariant_rested g.D.Disk.tells g.D.Disk.time g.D.Disk.past g.D.Disk.now g.D.Disk.failures g.met.D.Disk.present course s.vault c.reserve.new.self s.held.items s.disk c.reserve.new.disk c.requires.kept c.reserve.ensures.unchanged c.reserve.ensures.faults c.reserve.ensures.same) in
    let left : v.stamp < 18446744073709551615 = subst (λ (k : VaultState). k.stamp < 18446744073709551615) (sym c.reserve.ensures.same) (c.is_spent.ensures.left c.if-is_spent.false) in
    subst (λ (k : Course). RegistryInvariant g.D.Disk.tells g.D.Disk.time g.D.Disk.past g.D.Disk.now g.D.Disk.failures k c.prepare.new.self s.held.items new) (sym c.step-in-Ok.ensures.added)
    (prepare_invariant g.D.Disk.tells g.D.Disk.time g.D.Disk.past g.D.Disk.now g.D.Disk.failures g.met.D.Disk.present course v c.prepare.new.self s.held.items c.reserve.new.disk new e c.args.res c.args.pair (version_due (vault_due (opening course) course.entries c.args.res)) holding c.requires.holds c.requires.known refl refl refl c.step-in-Ok.ensures.entry.row c.prepare.ensures.cause.later (c.step-in-Ok.ensures.outcome ∙ stage_done (opening course) course.entries c.args.res c.args.res Prepare (due_asks (opening s.life.course) s.life.course.entries c.args.res Prepare c.requires.due) (λ is. unspent (was_spent course.entries) s.vault.stamp c.requires.kept.spent (c.is_spent.ensures.left c.if-is_spent.false))) c.in-Ok.ensures.ok left c.prepare.ensures.runs c.in-Ok.ensures.closed c.in-Ok.ensures.each)

pub returns-in-Err-clause-kept : goal.returns-in-Err-clause-kept
returns-in-Err-clause-kept g c =
    let s = c.args.self.now in
    let course : Course = s.life.course in
    let v : VaultState = c.reserve.new.self in
    let new = c.prepare.new.disk in
    let e : Entry = entry_by (g.D.Disk.time new) (g.D.Disk.failures new) c.args.actor (Vault c.args.res) c.step-in-Err.result [] in
    let holding : RegistryInvariant g.D.Disk.tells g.D.Disk.time g.D.Disk.past g.D.Disk.now g.D.Disk.failures course v s.held.items c.reserve.new.disk = (invariant_rested g.D.Disk.tells g.D.Disk.time g.D.Disk.past g.D.Disk.now g.D.Disk.failures g.met.D.Disk.present course s.vault c.reserve.new.self s.held.items s.disk c.reserve.new.disk c.requires.kept c.reserve.ensures.unchanged c.reserve.ensures.faults c.reserve.ensures.same) in
    let left : v.stamp < 18446744073709551615 = subst (λ (k : VaultState). k.stamp < 18446744073709551615) (sym c.reserve.ensures.same) (c.is_spent.ensures.left c.if-is_spent.false) in
    subst (λ (k : Course). RegistryInvariant g.D.Disk.tells g.D.Disk.time g.D.Disk.past g.D.Disk.now g.D.Disk.failures k c.prepare.new.self s.held.items new) (sym c.step-in-Err.ensures.added)
    (prepare_failed_invariant g.D.Disk.tells g.D.Disk.time g.D.Disk.past g.D.Disk.now g.D.Disk.failures g.met.D.Disk.present course v c.prepare.new.self s.held.items c.reserve.new.disk new e c.args.res c.args.pair (version_due (vault_due (opening course) course.entries c.args.res)) holding c.requires.holds c.requires.known refl refl refl c.step-in-Err.ensures.entry.row c.prepare.ensures.cause.later (c.step-in-Err.ensures.outcome ∙ stage_failed (opening course) course.entries c.args.res c.args.res Prepare (due_asks (opening s.life.course) s.life.course.entries c.args.res Prepare c.requires.due) (λ is. unspent (was_spent course.entries) s.vault.stamp c.requires.kept.spent (c.is_spent.ensures.left c.if-is_spent.false))) c.in-Err.ensures.err left c.in-Err.ensures.cause.failed c.prepare.ensures.runs c.in-Err.ensures.each)

pub returns-in-Ok-clause-entry : goal.returns-in-Ok-clause-entry
returns-in-Ok-clause-entry g c = c.step-in-Ok.ensures.entry

pub returns-in-Err-clause-entry : goal.returns-in-Err-clause-entry
returns-in-Err-clause-entry g c = c.step-in-Err.ensures.entry

pub returns-then-is_spent-clause-entry : goal.returns-then-is_spent-clause-entry
returns-then-is_spent-clause-entry g c = c.step.ensures.entry
