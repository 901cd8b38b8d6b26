use Rattle.std.proofs.Common.{◌≡◌, [], ◌∷◌, None, sym, ◌∙◌, subst, refl, set}
use Rattle.hx_events.specs.declared.event.Event.TheVariants.{Vault}
use Rattle.hx_events.specs.declared.event.Stage.TheVariants.{Drop}
use Rattle.hx_events.specs.declared.life.Entry.{Entry}
use Rattle.hx_events.specs.declared.outcome.Outcome.TheVariants.{StageOk}
use Rattle.hx_rules.specs.Backups.{tried}
use Rattle.hx_rules.specs.Due.{version_due}
use Rattle.hx_rules.specs.Entries.{own}
use Rattle.hx_rules.specs.Legal.{holds_at, restored_at, vault_due}
use Rattle.hx_rules_laws.specs.Backups.{faded_ends_tried}
use Rattle.hx_rules_laws.specs.DueStages.{discard_due}
use Rattle.hx_vault.specs.declared.pair.PairUse.TheVariants.{Free}
use Rattle.hx_vault.specs.Vaults.{VaultState, pair_at, with_pair, with_use}
use Rattle.hx_lives.specs.Course.{Course, opening, start_of, with_entry}
use Rattle.hx_pairs.specs.Entry.{invariant_rested}
use Rattle.hx_pairs.specs.Owed.{PairsOwe}
use Rattle.hx_pairs.specs.Registries.{RegistryInvariant}
use Rattle.hx_pairs.specs.StageEvents.{drop_owes, drop_bare, drop_invariant, drop_released_invariant, drop_failed_invariant}
use Rattle.hx_pairs.specs.UserFiles.{bare_quiet}
use Rattle.hx_registry.specs.Given.{fits_done, stage_done, stage_failed}
use Rattle.hx_registry.specs.OpenLives.{entry_by}
use Rattle.hx_registry.specs.Stages.{due_asks}
use Rattle.hx_registry.proofs.parts.Parts.discard.Goals as goal

pub step-outcome-requires-clause-fits : goal.step-outcome-requires-clause-fits
step-outcome-requires-clause-fits g c = let s = c.args.self.now in (fits_done _ c.args.res Drop (due_asks (opening s.life.course) s.life.course.entries c.args.res Drop c.requires.due)).0

pub step-requires-clause-fits : goal.step-requires-clause-fits
step-requires-clause-fits g c = let s = c.args.self.now in (fits_done _ c.args.res Drop (due_asks (opening s.life.course) s.life.course.entries c.args.res Drop c.requires.due)).1

pub returns-in_err-reserve-clause-kept : goal.returns-in_err-reserve-clause-kept
returns-in_err-reserve-clause-kept g c = let s = c.args.self.now in let course : Course = s.life.course in (invariant_rested g.D.Disk.tells g.D.Disk.time g.D.Disk.past g.D.Disk.now g.D.Disk.failures g.met.D.Disk.present course s.vault c.reserve.new.self s.held.items s.disk c.reserve.new.disk c.requires.kept c.reserve.ensures.unchanged c.reserve.ensures.faults c.reserve.ensures.same)

pub returns-then-holds-clause-kept : goal.returns-then-holds-clause-kept
returns-then-holds-clause-kept g c =
    let s = c.args.self.now in
    let course : Course = s.life.course in
    let v : VaultState = c.reserve.new.self in
    let new = c.drop_newest.new.disk in
    let e : Entry = entry_by (g.D.Disk.time new) (g.D.Disk.failures new) c.args.actor (Vault c.args.res) c.step-outcome.result [] in
    let holding : RegistryInvariant g.D.Disk.tells g.D.Disk.time g.D.Disk.past g.D.Disk.now g.D.Disk.failures course v s.held.items c.reserve.new.disk = (invariant_rested g.D.Disk.tells g.D.Disk.time g.D.Disk.past g.D.Disk.now g.D.Disk.failures g.met.D.Disk.present course s.vault c.reserve.new.self s.held.items s.disk c.reserve.new.disk c.requires.kept c.reserve.ensures.unchanged c.reserve.ensures.faults c.reserve.ensures.same) in
    let d = discard_due (restored_at (opening course) c.args.res) course.guarded (own c.args.res course.entries) Drop refl c.requires.due in
    let faded = d.faded refl in
    let untried : tried (restored_at (opening course) c.args.res) (own c.args.res course.entries) ≡ None = faded_ends_tried (restored_at (opening course) c.args.res) (own c.args.res course.entries) faded in
    let holds_then : c.holds.result ≡ holds_at (opening course) (e ∷ course.entries) c.args.res = subst (λ (k : Course). c.holds.result ≡ holds_at (opening k) k.entries c.args.res) c.step-outcome.ensures.added c.holds.ensures in
    let was : c.step-outcome.result ≡ StageOk Drop (version_due (vault_due (opening course) course.entries c.args.res)) = (c.step-outcome.ensures.outcome ∙ stage_done (opening course) course.entries c.args.res c.args.res Drop (due_asks (opening s.life.course) s.life.course.entries c.args.res Drop c.requires.due) (λ is. absurd cc)) in
    subst (λ (k : Course). RegistryInvariant g.D.Disk.tells g.D.Disk.time g.D.Disk.past g.D.Disk.now g.D.Disk.failures k c.drop_newest.new.self s.held.items new) (sym c.step-outcome.ensures.added)
    (drop_invariant g.D.Disk.tells g.D.Disk.time g.D.Disk.past g.D.Disk.now g.D.Disk.failures g.met.D.Disk.present course v c.drop_newest.new.self s.held.items c.reserve.new.disk new e c.args.res c.args.pair (version_due (vault_due (opening course) course.entries c.args.res)) holding c.requires.holds c.requires.known refl refl refl c.step-outcome.ensures.entry.row c.drop_newest.ensures.cause.later (sym holds_then ∙ c.if-holds.true) d.idle was c.in-Ok.ensures.ok c.drop_newest.ensures.runs (λ told. drop_owes g.D.Disk.tells g.D.Disk.time g.D.Disk.past g.D.Disk.now g.D.Disk.failures g.met.D.Disk.present course v c.drop_newest.new.self s.held.items c.reserve.new.disk new e c.args.res c.args.pair (version_due (vault_due (opening course) course.entries c.args.res)) holding c.requires.holds c.requires.known refl refl refl c.step-outcome.ensures.entry.row c.drop_newest.ensures.cause.later told untried faded d.idle was c.in-Ok.ensures.ok c.in-Ok.ensures.closed c.in-Ok.ensures.each))

pub release-requires-clause-quiet : goal.release-requires-clause-quiet
release-requires-clause-quiet g c = λ told.
    let s = c.args.self.now in
    let course : Course = s.life.course in
    let v : VaultState = c.reserve.new.self in
    let new = c.drop_newest.new.disk in
    let e : Entry = entry_by (g.D.Disk.time new) (g.D.Disk.failures new) c.args.actor (Vault c.args.res) c.step-outcome.result [] in
    let holding : RegistryInvariant g.D.Disk.tells g.D.Disk.time g.D.Disk.past g.D.Disk.now g.D.Disk.failures course v s.held.items c.reserve.new.disk = (invariant_rested g.D.Disk.tells g.D.Disk.time g.D.Disk.past g.D.Disk.now g.D.Disk.failures g.met.D.Disk.present course s.vault c.reserve.new.self s.held.items s.disk c.reserve.new.disk c.requires.kept c.reserve.ensures.unchanged c.reserve.ensures.faults c.reserve.ensures.same) in
    let d = discard_due (restored_at (opening course) c.args.res) course.guarded (own c.args.res course.entries) Drop refl c.requires.due in
    let faded = d.faded refl in
    let untried : tried (restored_at (opening course) c.args.res) (own c.args.res course.entries) ≡ None = faded_ends_tried (restored_at (opening course) c.args.res) (own c.args.res course.entries) faded in
    let was : c.step-outcome.result ≡ StageOk Drop (version_due (vault_due (opening course) course.entries c.args.res)) = (c.step-outcome.ensures.outcome ∙ stage_done (opening course) course.entries c.args.res c.args.res Drop (due_asks (opening s.life.course) s.life.course.entries c.args.res Drop c.requires.due) (λ is. absurd cc)) in
    let bare = drop_bare g.D.Disk.tells g.D.Disk.time g.D.Disk.past g.D.Disk.now g.D.Disk.failures g.met.D.Disk.present course v c.drop_newest.new.self s.held.items c.reserve.new.disk new e c.args.res c.args.pair (version_due (vault_due (opening course) course.entries c.args.res)) holding c.requires.holds c.requires.known refl refl refl c.step-outcome.ensures.entry.row c.drop_newest.ensures.cause.later untried was in
    let owed : PairsOwe g.D.Disk.time g.D.Disk.past g.D.Disk.now (start_of course) course.entries e c.drop_newest.new.self s.held.items c.reserve.new.disk new = drop_owes g.D.Disk.tells g.D.Disk.time g.D.Disk.past g.D.Disk.now g.D.Disk.failures g.met.D.Disk.present course v c.drop_newest.new.self s.held.items c.reserve.new.disk new e c.args.res c.args.pair (version_due (vault_due (opening course) course.entries c.args.res)) holding c.requires.holds c.requires.known refl refl refl c.step-outcome.ensures.entry.row c.drop_newest.ensures.cause.later told untried faded d.idle was c.in-Ok.ensures.ok c.in-Ok.ensures.closed c.in-Ok.ensures.each in
    bare_quiet (start_of course) (e ∷ course.entries) c.drop_newest.new.self s.held.items (g.D.Disk.now new) c.args.res c.args.pair owed.kept c.requires.holds bare.0 bare.1

pub returns-else-holds-clause-kept : goal.returns-else-holds-clause-kept
returns-else-holds-clause-kept g c =
    let s = c.args.self.now in
    let course : Course = s.life.course in
    let v : VaultState = c.reserve.new.self in
    let new = c.drop_newest.new.disk in
    let e : Entry = entry_by (g.D.Disk.time new) (g.D.Disk.failures new) c.args.actor (Vault c.args.res) c.step-outcome.result [] in
    let holding : RegistryInvariant g.D.Disk.tells g.D.Disk.time g.D.Disk.past g.D.Disk.now g.D.Disk.failures course v s.held.items c.reserve.new.disk = (invariant_rested g.D.Disk.tells g.D.Disk.time g.D.Disk.past g.D.Disk.now g.D.Disk.failures g.met.D.Disk.present course s.vault c.reserve.new.self s.held.items s.disk c.reserve.new.disk c.requires.kept c.reserve.ensures.unchanged c.reserve.ensures.faults c.reserve.ensures.same) in
    let d = discard_due (restored_at (opening course) c.args.res) course.guarded (own c.args.res course.entries) Drop refl c.requires.due in
    let faded = d.faded refl in
    let untried : tried (restored_at (opening course) c.args.res) (own c.args.res course.entries) ≡ None = faded_ends_tried (restored_at (opening course) c.args.res) (own c.args.res course.entries) faded in
    let holds_then : c.holds.result ≡ holds_at (opening course) (e ∷ course.entries) c.args.res = subst (λ (k : Course). c.holds.result ≡ holds_at (opening k) k.entries c.args.res) c.step-outcome.ensures.added c.holds.ensures in
    let was : c.step-outcome.result ≡ StageOk Drop (version_due (vault_due (opening course) course.entries c.args.res)) = (c.step-outcome.ensures.outcome ∙ stage_done (opening course) course.entries c.args.res c.args.res Drop (due_asks (opening s.life.course) s.life.course.entries c.args.res Drop c.requires.due) (λ is. absurd cc)) in
    let w : VaultState = c.drop_newest.new.self in
    subst (λ (k : Course). RegistryInvariant g.D.Disk.tells g.D.Disk.time g.D.Disk.past g.D.Disk.now g.D.Disk.failures k c.release.new.self (set s.held.items c.number.result None) new) (sym c.step-outcome.ensures.added)
    (subst (λ (k : VaultState). RegistryInvariant g.D.Disk.tells g.D.Disk.time g.D.Disk.past g.D.Disk.now g.D.Disk.failures (with_entry course e) k (set s.held.items c.number.result None) new) (sym c.release.ensures)
    (subst (λ n. RegistryInvariant g.D.Disk.tells g.D.Disk.time g.D.Disk.past g.D.Disk.now g.D.Disk.failures (with_entry course e) (with_pair w c.args.pair (with_use (pair_at w c.args.pair) Free)) (set s.held.items n None) new) (sym c.number.ensures.value)
    (drop_released_invariant g.D.Disk.tells g.D.Disk.time g.D.Disk.past g.D.Disk.now g.D.Disk.failures g.met.D.Disk.present course v c.drop_newest.new.self s.held.items c.reserve.new.disk new e c.args.res c.args.pair (version_due (vault_due (opening course) course.entries c.args.res)) holding c.requires.holds c.requires.known refl refl refl c.step-outcome.ensures.entry.row c.drop_newest.ensures.cause.later (sym holds_then ∙ c.if-holds.false) untried d.idle was c.in-Ok.ensures.ok c.drop_newest.ensures.runs (λ told. drop_owes g.D.Disk.tells g.D.Disk.time g.D.Disk.past g.D.Disk.now g.D.Disk.failures g.met.D.Disk.present course v c.drop_newest.new.self s.held.items c.reserve.new.disk new e c.args.res c.args.pair (version_due (vault_due (opening course) course.entries c.args.res)) holding c.requires.holds c.requires.known refl refl refl c.step-outcome.ensures.entry.row c.drop_newest.ensures.cause.later told untried faded d.idle was c.in-Ok.ensures.ok c.in-Ok.ensures.closed c.in-Ok.ensures.each))))

pub returns-in-Err-clause-kept : goal.returns-in-Err-clause-kept
returns-in-Err-clause-kept g c =
    let s = c.args.self.now in
    let course : Course = s.life.course in
    let v : VaultState = c.reserve.new.self in
    let new = c.drop_newest.new.disk in
    let e : Entry = entry_by (g.D.Disk.time new) (g.D.Disk.failures new) c.args.actor (Vault c.args.res) c.step.result [] in
    let holding : RegistryInvariant g.D.Disk.tells g.D.Disk.time g.D.Disk.past g.D.Disk.now g.D.Disk.failures course v s.held.items c.reserve.new.disk = (invariant_rested g.D.Disk.tells g.D.Disk.time g.D.Disk.past g.D.Disk.now g.D.Disk.failures g.met.D.Disk.present course s.vault c.reserve.new.self s.held.items s.disk c.reserve.new.disk c.requires.kept c.reserve.ensures.unchanged c.reserve.ensures.faults c.reserve.ensures.same) in
    let d = discard_due (restored_at (opening course) c.args.res) course.guarded (own c.args.res course.entries) Drop refl c.requires.due in
    let faded = d.faded refl in
    let untried : tried (restored_at (opening course) c.args.res) (own c.args.res course.entries) ≡ None = faded_ends_tried (restored_at (opening course) c.args.res) (own c.args.res course.entries) faded in
    subst (λ (k : Course). RegistryInvariant g.D.Disk.tells g.D.Disk.time g.D.Disk.past g.D.Disk.now g.D.Disk.failures k c.drop_newest.new.self s.held.items new) (sym c.step.ensures.added)
    (drop_failed_invariant g.D.Disk.tells g.D.Disk.time g.D.Disk.past g.D.Disk.now g.D.Disk.failures g.met.D.Disk.present course v c.drop_newest.new.self s.held.items c.reserve.new.disk new e c.args.res c.args.pair (version_due (vault_due (opening course) course.entries c.args.res)) holding c.requires.holds c.requires.known refl refl refl c.step.ensures.entry.row c.drop_newest.ensures.cause.later untried faded (c.step.ensures.outcome ∙ stage_failed (opening course) course.entries c.args.res c.args.res Drop (due_asks (opening s.life.course) s.life.course.entries c.args.res Drop c.requires.due) (λ is. absurd cc)) c.in-Err.ensures.err c.in-Err.ensures.cause.failed c.drop_newest.ensures.runs c.in-Err.ensures.each)
