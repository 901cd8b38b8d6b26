use Rattle.std.proofs.Common.{[], sym, ◌∙◌, ap, subst, refl}
use Rattle.hx_events.specs.declared.event.Event.TheVariants.{Vault}
use Rattle.hx_events.specs.declared.event.Stage.TheVariants.{Open}
use Rattle.hx_events.specs.declared.life.Entry.{Entry}
use Rattle.hx_rules.specs.Backups.{taken}
use Rattle.hx_rules.specs.Due.{version_due}
use Rattle.hx_rules.specs.Entries.{own}
use Rattle.hx_rules.specs.Legal.{restored_at, vault_due}
use Rattle.hx_rules_laws.specs.DueStages.{open_begun}
use Rattle.hx_rules_laws.specs.Taken.{begun_is_taken}
use Rattle.hx_vault.specs.Vaults.{VaultState}
use Rattle.hx_lives.specs.Course.{Course, opening}
use Rattle.hx_pairs.specs.Entry.{invariant_rested}
use Rattle.hx_pairs.specs.Registries.{RegistryInvariant}
use Rattle.hx_pairs.specs.StageEvents.{open_invariant, open_failed_invariant}
use Rattle.hx_registry.specs.Given.{fits_done, stage_done, stage_failed}
use Rattle.hx_rules_laws.specs.Limits.{begun_is_sized}
use Rattle.hx_registry.specs.OpenLives.{entry_by}
use Rattle.hx_registry.specs.Stages.{due_asks}
use Rattle.hx_registry.proofs.parts.Parts.open.Goals as goal

pub step-requires-clause-fits : goal.step-requires-clause-fits
step-requires-clause-fits g c = let s = c.args.self.now in (fits_done _ c.args.res Open (due_asks (opening s.life.course) s.life.course.entries c.args.res Open c.requires.due)).0

pub step-requires-in-Err-clause-fits : goal.step-requires-in-Err-clause-fits
step-requires-in-Err-clause-fits g c = let s = c.args.self.now in (fits_done _ c.args.res Open (due_asks (opening s.life.course) s.life.course.entries c.args.res Open c.requires.due)).1

pub returns-in_err-reserve-clause-kept : goal.returns-in_err-reserve-clause-kept
returns-in_err-reserve-clause-kept g c = let s = c.args.self.now in let course : Course = s.life.course in (invariant_rested g.D.Disk.tells g.D.Disk.time g.D.Disk.past g.D.Disk.now g.D.Disk.failures g.met.D.Disk.present course s.vault c.reserve.new.self s.held.items s.disk c.reserve.new.disk c.requires.kept c.reserve.ensures.unchanged c.reserve.ensures.faults c.reserve.ensures.same)

pub returns-in-Ok-clause-kept : goal.returns-in-Ok-clause-kept
returns-in-Ok-clause-kept g c =
    let s = c.args.self.now in
    let course : Course = s.life.course in
    let v : VaultState = c.reserve.new.self in
    let new = c.open_gate.new.disk in
    let e : Entry = entry_by (g.D.Disk.time new) (g.D.Disk.failures new) c.args.actor (Vault c.args.res) c.step.result [] in
    let holding : RegistryInvariant g.D.Disk.tells g.D.Disk.time g.D.Disk.past g.D.Disk.now g.D.Disk.failures course v s.held.items c.reserve.new.disk = (invariant_rested g.D.Disk.tells g.D.Disk.time g.D.Disk.past g.D.Disk.now g.D.Disk.failures g.met.D.Disk.present course s.vault c.reserve.new.self s.held.items s.disk c.reserve.new.disk c.requires.kept c.reserve.ensures.unchanged c.reserve.ensures.faults c.reserve.ensures.same) in
    let o = open_begun (restored_at (opening course) c.args.res) course.guarded (own c.args.res course.entries) c.requires.due in
    let same = ap (λ n. taken (restored_at (opening course) c.args.res) n (own c.args.res course.entries)) o.version_is ∙ (begun_is_taken (opening course) course.entries c.args.res holding.keeps.holds.legal o.begun o.is).same in
    let sized = begun_is_sized (opening course) course.entries c.args.res o.begun holding.keeps.holds.legal c.reads_whole.ensures o.is in
    subst (λ (k : Course). RegistryInvariant g.D.Disk.tells g.D.Disk.time g.D.Disk.past g.D.Disk.now g.D.Disk.failures k c.open_gate.new.self s.held.items new) (sym c.step.ensures.added)
    (open_invariant g.D.Disk.tells g.D.Disk.time g.D.Disk.past g.D.Disk.now g.D.Disk.failures g.met.D.Disk.present course v c.open_gate.new.self s.held.items c.reserve.new.disk new e c.args.res c.args.pair (version_due (vault_due (opening course) course.entries c.args.res)) holding c.requires.holds c.requires.known refl refl refl c.step.ensures.entry.row c.open_gate.ensures.cause.later o.begun o.is o.next sized same (c.step.ensures.outcome ∙ stage_done (opening course) course.entries c.args.res c.args.res Open (due_asks (opening s.life.course) s.life.course.entries c.args.res Open c.requires.due) (λ is. absurd cc)) c.in-Ok.ensures.ok c.open_gate.ensures.runs c.in-Ok.ensures.opened c.in-Ok.ensures.each)

pub returns-in-Err-clause-kept : goal.returns-in-Err-clause-kept
returns-in-Err-clause-kept g c =
    let s = c.args.self.now in
    let course : Course = s.life.course in
    let v : VaultState = c.reserve.new.self in
    let new = c.open_gate.new.disk in
    let e : Entry = entry_by (g.D.Disk.time new) (g.D.Disk.failures new) c.args.actor (Vault c.args.res) c.step-in-Err.result [] in
    let holding : RegistryInvariant g.D.Disk.tells g.D.Disk.time g.D.Disk.past g.D.Disk.now g.D.Disk.failures course v s.held.items c.reserve.new.disk = (invariant_rested g.D.Disk.tells g.D.Disk.time g.D.Disk.past g.D.Disk.now g.D.Disk.failures g.met.D.Disk.present course s.vault c.reserve.new.self s.held.items s.disk c.reserve.new.disk c.requires.kept c.reserve.ensures.unchanged c.reserve.ensures.faults c.reserve.ensures.same) in
    let o = open_begun (restored_at (opening course) c.args.res) course.guarded (own c.args.res course.entries) c.requires.due in
    let same = ap (λ n. taken (restored_at (opening course) c.args.res) n (own c.args.res course.entries)) o.version_is ∙ (begun_is_taken (opening course) course.entries c.args.res holding.keeps.holds.legal o.begun o.is).same in
    let sized = begun_is_sized (opening course) course.entries c.args.res o.begun holding.keeps.holds.legal c.reads_whole.ensures o.is in
    subst (λ (k : Course). RegistryInvariant g.D.Disk.tells g.D.Disk.time g.D.Disk.past g.D.Disk.now g.D.Disk.failures k c.open_gate.new.self s.held.items new) (sym c.step-in-Err.ensures.added)
    (open_failed_invariant g.D.Disk.tells g.D.Disk.time g.D.Disk.past g.D.Disk.now g.D.Disk.failures g.met.D.Disk.present course v c.open_gate.new.self s.held.items c.reserve.new.disk new e c.args.res c.args.pair (version_due (vault_due (opening course) course.entries c.args.res)) holding c.requires.holds c.requires.known refl refl refl c.step-in-Err.ensures.entry.row c.open_gate.ensures.cause.later o.begun o.is o.next sized same (c.step-in-Err.ensures.outcome ∙ stage_failed (opening course) course.entries c.args.res c.args.res Open (due_asks (opening s.life.course) s.life.course.entries c.args.res Open c.requires.due) (λ is. absurd cc)) c.in-Err.ensures.err c.in-Err.ensures.cause.failed c.open_gate.ensures.runs c.in-Err.ensures.each)
