use Rattle.std.proofs.Common.{◌≡◌, ◌<◌, ◌≤◌, ◌+◌, ℕ, true, List, [], Some, None, is_some, option_map, length, sym, ◌∙◌, ap, subst, refl, arith}
use Rattle.hx_events.specs.declared.event.Event.TheVariants.{Vault}
use Rattle.hx_events.specs.declared.event.Stage.TheVariants.{Body}
use Rattle.hx_events.specs.declared.life.Entry.{Entry}
use Rattle.hx_rules.specs.Backups.{Begun, begun}
use Rattle.hx_rules.specs.Due.{next_stage, version_due}
use Rattle.hx_rules.specs.Entries.{own}
use Rattle.hx_rules.specs.Legal.{restored_at, vault_due}
use Rattle.hx_rules_laws.specs.DueStages.{body_begun}
use Rattle.hx_vault.specs.Vaults.{VaultState, pair_at, place_of}
use Rattle.hx_lives.specs.Course.{Course, opening, start_of}
use Rattle.hx_lives.specs.CrashSafe.{name_at}
use Rattle.hx_pairs.specs.Entry.{invariant_rested}
use Rattle.hx_pairs.specs.Registries.{RegistryInvariant}
use Rattle.hx_pairs.specs.StageEnds.{body_ready}
use Rattle.hx_pairs.specs.StageEvents.{body_invariant, body_failed_invariant}
use Rattle.hx_pairs.specs.Stages.{IsBlock}
use Rattle.hx_registry.specs.Given.{fits_done, stage_done, stage_failed}
use Rattle.hx_registry.specs.OpenLives.{entry_by}
use Rattle.hx_registry.specs.Stages.{due_asks, fewer_blocks, place_there, same_begun}
use Rattle.hx_registry.proofs.parts.Parts.body.Goals as goal

pub step-requires-clause-fits : goal.step-requires-clause-fits
step-requires-clause-fits g c = let s = c.args.self.now in (fits_done _ c.args.res Body (due_asks (opening s.life.course) s.life.course.entries c.args.res Body c.requires.due)).0

pub step-requires-in-Err-clause-fits : goal.step-requires-in-Err-clause-fits
step-requires-in-Err-clause-fits g c = let s = c.args.self.now in (fits_done _ c.args.res Body (due_asks (opening s.life.course) s.life.course.entries c.args.res Body c.requires.due)).1

pub returns-in_err-reserve-clause-kept : goal.returns-in_err-reserve-clause-kept
returns-in_err-reserve-clause-kept g c = let s = c.args.self.now in let course : Course = s.life.course in (invariant_rested g.D.Disk.tells g.D.Disk.time g.D.Disk.past g.D.Disk.now g.D.Disk.failures g.met.D.Disk.present course s.vault c.reserve.new.self s.held.items s.disk c.reserve.new.disk c.requires.kept c.reserve.ensures.unchanged c.reserve.ensures.faults c.reserve.ensures.same)

pub unreachable-requires : goal.unreachable-requires
unreachable-requires g c =
    let s = c.args.self.now in
    let course : Course = s.life.course in
    let d = body_begun (restored_at (opening course) c.args.res) course.guarded (own c.args.res course.entries) c.requires.due in
    let none : None ≡ Some d.begun = sym (ap (λ x. option_map (λ b. b.now) x) c.in_default.is) ∙ c.begun.ensures.begun ∙ d.is in
    cc

pub next_block-requires-clause-few : goal.next_block-requires-clause-few
next_block-requires-clause-few g c =
    let s = c.args.self.now in
    let course : Course = s.life.course in
    let bg : Begun = c.in-Some.backup.now in
    let begins : begun (restored_at (opening course) c.args.res) course.guarded (own c.args.res course.entries) ≡ Some bg = sym c.begun.ensures.begun ∙ ap (λ x. option_map (λ b. b.now) x) c.in-Some.is in
    let d = body_begun (restored_at (opening course) c.args.res) course.guarded (own c.args.res course.entries) c.requires.due in
    let same : d.begun ≡ bg = same_begun _ d.begun bg d.is begins in
    let few : bg.blocks < 129 = fewer_blocks bg c.in-Some.ensures.sized (subst (λ (b : Begun). next_stage b ≡ Body) same d.next) in
    few

pub end_of-end-requires-clause-low : goal.end_of-end-requires-clause-low
end_of-end-requires-clause-low g c =
    let s = c.args.self.now in
    let course : Course = s.life.course in
    let bg : Begun = c.in-Some.backup.now in
    let begins : begun (restored_at (opening course) c.args.res) course.guarded (own c.args.res course.entries) ≡ Some bg = sym c.begun.ensures.begun ∙ ap (λ x. option_map (λ b. b.now) x) c.in-Some.is in
    let d = body_begun (restored_at (opening course) c.args.res) course.guarded (own c.args.res course.entries) c.requires.due in
    let same : d.begun ≡ bg = same_begun _ d.begun bg d.is begins in
    let few : bg.blocks < 129 = fewer_blocks bg c.in-Some.ensures.sized (subst (λ (b : Begun). next_stage b ≡ Body) same d.next) in
    let there = place_there course s.vault s.held.items c.args.res c.args.pair bg c.requires.kept.putting c.requires.holds begins few in
    omega (arith, there.1, c.place.ensures)

pub body-requires-clause-prepared : goal.body-requires-clause-prepared
body-requires-clause-prepared g c =
    let s = c.args.self.now in
    let course : Course = s.life.course in
    let bg : Begun = c.in-Some.backup.now in
    let begins : begun (restored_at (opening course) c.args.res) course.guarded (own c.args.res course.entries) ≡ Some bg = sym c.begun.ensures.begun ∙ ap (λ x. option_map (λ b. b.now) x) c.in-Some.is in
    let d = body_begun (restored_at (opening course) c.args.res) course.guarded (own c.args.res course.entries) c.requires.due in
    let same : d.begun ≡ bg = same_begun _ d.begun bg d.is begins in
    let few : bg.blocks < 129 = fewer_blocks bg c.in-Some.ensures.sized (subst (λ (b : Begun). next_stage b ≡ Body) same d.next) in
    let there = place_there course s.vault s.held.items c.args.res c.args.pair bg c.requires.kept.putting c.requires.holds begins few in
    subst (λ (k : VaultState). is_some (pair_at k c.args.pair).put ≡ true) (sym c.reserve.ensures.same) there.0

pub body-requires-clause-small : goal.body-requires-clause-small
body-requires-clause-small g c =
    let s = c.args.self.now in
    let course : Course = s.life.course in
    let bg : Begun = c.in-Some.backup.now in
    let begins : begun (restored_at (opening course) c.args.res) course.guarded (own c.args.res course.entries) ≡ Some bg = sym c.begun.ensures.begun ∙ ap (λ x. option_map (λ b. b.now) x) c.in-Some.is in
    let d = body_begun (restored_at (opening course) c.args.res) course.guarded (own c.args.res course.entries) c.requires.due in
    let same : d.begun ≡ bg = same_begun _ d.begun bg d.is begins in
    let few : bg.blocks < 129 = fewer_blocks bg c.in-Some.ensures.sized (subst (λ (b : Begun). next_stage b ≡ Body) same d.next) in
    let there = place_there course s.vault s.held.items c.args.res c.args.pair bg c.requires.kept.putting c.requires.holds begins few in
    let size : length c.deref.result.now ≡ length c.in_ok-block.block.items = ap (λ (l : List ℕ). length l) c.deref.ensures.value in
    subst (λ (k : VaultState). place_of (pair_at k c.args.pair) + length c.deref.result.now < 4294967296) (sym c.reserve.ensures.same) (omega (arith, there.1, size, c.in_ok-block.ensures.short))

pub body-requires-clause-side : goal.body-requires-clause-side
body-requires-clause-side g c = λ told.
    let s = c.args.self.now in
    let course : Course = s.life.course in
    let bg : Begun = c.in-Some.backup.now in
    let begins : begun (restored_at (opening course) c.args.res) course.guarded (own c.args.res course.entries) ≡ Some bg = sym c.begun.ensures.begun ∙ ap (λ x. option_map (λ b. b.now) x) c.in-Some.is in
    let d = body_begun (restored_at (opening course) c.args.res) course.guarded (own c.args.res course.entries) c.requires.due in
    let same : d.begun ≡ bg = same_begun _ d.begun bg d.is begins in
    let few : bg.blocks < 129 = fewer_blocks bg c.in-Some.ensures.sized (subst (λ (b : Begun). next_stage b ≡ Body) same d.next) in
    let there = place_there course s.vault s.held.items c.args.res c.args.pair bg c.requires.kept.putting c.requires.holds begins few in
    let holding : RegistryInvariant g.D.Disk.tells g.D.Disk.time g.D.Disk.past g.D.Disk.now g.D.Disk.failures course c.reserve.new.self s.held.items c.reserve.new.disk = (invariant_rested g.D.Disk.tells g.D.Disk.time g.D.Disk.past g.D.Disk.now g.D.Disk.failures g.met.D.Disk.present course s.vault c.reserve.new.self s.held.items s.disk c.reserve.new.disk c.requires.kept c.reserve.ensures.unchanged c.reserve.ensures.faults c.reserve.ensures.same) in
    body_ready g.D.Disk.time g.D.Disk.past g.D.Disk.now (start_of course) course.entries c.reserve.new.self s.held.items c.reserve.new.disk c.args.res c.args.pair bg (holding.pairs told) c.requires.holds begins (subst (λ (k : VaultState). is_some (pair_at k c.args.pair).put ≡ true) (sym c.reserve.ensures.same) there.0)

pub returns-in-Ok-clause-kept : goal.returns-in-Ok-clause-kept
returns-in-Ok-clause-kept g c =
    let s = c.args.self.now in
    let course : Course = s.life.course in
    let bg : Begun = c.in-Some.backup.now in
    let begins : begun (restored_at (opening course) c.args.res) course.guarded (own c.args.res course.entries) ≡ Some bg = sym c.begun.ensures.begun ∙ ap (λ x. option_map (λ b. b.now) x) c.in-Some.is in
    let d = body_begun (restored_at (opening course) c.args.res) course.guarded (own c.args.res course.entries) c.requires.due in
    let same : d.begun ≡ bg = same_begun _ d.begun bg d.is begins in
    let few : bg.blocks < 129 = fewer_blocks bg c.in-Some.ensures.sized (subst (λ (b : Begun). next_stage b ≡ Body) same d.next) in
    let there = place_there course s.vault s.held.items c.args.res c.args.pair bg c.requires.kept.putting c.requires.holds begins few in
    let v : VaultState = c.reserve.new.self in
    let new = c.body.new.disk in
    let e : Entry = entry_by (g.D.Disk.time new) (g.D.Disk.failures new) c.args.actor (Vault c.args.res) c.step.result [] in
    let holding : RegistryInvariant g.D.Disk.tells g.D.Disk.time g.D.Disk.past g.D.Disk.now g.D.Disk.failures course v s.held.items c.reserve.new.disk = (invariant_rested g.D.Disk.tells g.D.Disk.time g.D.Disk.past g.D.Disk.now g.D.Disk.failures g.met.D.Disk.present course s.vault c.reserve.new.self s.held.items s.disk c.reserve.new.disk c.requires.kept c.reserve.ensures.unchanged c.reserve.ensures.faults c.reserve.ensures.same) in
    let block : IsBlock (name_at (start_of course) c.args.res) v.stamp bg c.deref.result.now =
    subst (λ (l : List ℕ). IsBlock (name_at (start_of course) c.args.res) v.stamp bg l) (sym c.deref.ensures.value)
    (subst (λ (l : List ℕ). IsBlock l v.stamp bg c.in_ok-block.block.items) c.name.ensures.text
    (subst (λ n. IsBlock c.name.result.now n bg c.in_ok-block.block.items) (c.stamp.ensures ∙ ap (λ (k : VaultState). k.stamp) (sym c.reserve.ensures.same)) c.in_ok-block.ensures.block)) in
    let size : length c.deref.result.now ≡ length c.in_ok-block.block.items = ap (λ (l : List ℕ). length l) c.deref.ensures.value in
    let short : length c.deref.result.now ≤ 8192 = omega (arith, size, c.in_ok-block.ensures.short) in
    let prepared : is_some (pair_at v c.args.pair).put ≡ true = subst (λ (k : VaultState). is_some (pair_at k c.args.pair).put ≡ true) (sym c.reserve.ensures.same) there.0 in
    subst (λ (k : Course). RegistryInvariant g.D.Disk.tells g.D.Disk.time g.D.Disk.past g.D.Disk.now g.D.Disk.failures k c.body.new.self s.held.items new) (sym c.step.ensures.added)
    (body_invariant g.D.Disk.tells g.D.Disk.time g.D.Disk.past g.D.Disk.now g.D.Disk.failures g.met.D.Disk.present course v c.body.new.self s.held.items c.reserve.new.disk new e c.args.res c.args.pair (version_due (vault_due (opening course) course.entries c.args.res)) holding c.requires.holds c.requires.known refl refl refl c.step.ensures.entry.row c.body.ensures.cause.later bg c.deref.result.now begins (λ told. block) short prepared (c.step.ensures.outcome ∙ stage_done (opening course) course.entries c.args.res c.args.res Body (due_asks (opening s.life.course) s.life.course.entries c.args.res Body c.requires.due) (λ is. absurd cc)) c.in-Ok.ensures.ok c.body.ensures.runs c.in-Ok.ensures.done c.in-Ok.ensures.each)

pub returns-clause-kept : goal.returns-clause-kept
returns-clause-kept g c =
    let s = c.args.self.now in
    let course : Course = s.life.course in
    let bg : Begun = c.in-Some.backup.now in
    let begins : begun (restored_at (opening course) c.args.res) course.guarded (own c.args.res course.entries) ≡ Some bg = sym c.begun.ensures.begun ∙ ap (λ x. option_map (λ b. b.now) x) c.in-Some.is in
    let d = body_begun (restored_at (opening course) c.args.res) course.guarded (own c.args.res course.entries) c.requires.due in
    let same : d.begun ≡ bg = same_begun _ d.begun bg d.is begins in
    let few : bg.blocks < 129 = fewer_blocks bg c.in-Some.ensures.sized (subst (λ (b : Begun). next_stage b ≡ Body) same d.next) in
    let there = place_there course s.vault s.held.items c.args.res c.args.pair bg c.requires.kept.putting c.requires.holds begins few in
    let v : VaultState = c.reserve.new.self in
    let new = c.body.new.disk in
    let e : Entry = entry_by (g.D.Disk.time new) (g.D.Disk.failures new) c.args.actor (Vault c.args.res) c.step-in-Err.result [] in
    let holding : RegistryInvariant g.D.Disk.tells g.D.Disk.time g.D.Disk.past g.D.Disk.now g.D.Disk.failures course v s.held.items c.reserve.new.disk = (invariant_rested g.D.Disk.tells g.D.Disk.time g.D.Disk.past g.D.Disk.now g.D.Disk.failures g.met.D.Disk.present course s.vault c.reserve.new.self s.held.items s.disk c.reserve.new.disk c.requires.kept c.reserve.ensures.unchanged c.reserve.ensures.faults c.reserve.ensures.same) in
    subst (λ (k : Course). RegistryInvariant g.D.Disk.tells g.D.Disk.time g.D.Disk.past g.D.Disk.now g.D.Disk.failures k c.body.new.self s.held.items new) (sym c.step-in-Err.ensures.added)
    (body_failed_invariant g.D.Disk.tells g.D.Disk.time g.D.Disk.past g.D.Disk.now g.D.Disk.failures g.met.D.Disk.present course v c.body.new.self s.held.items c.reserve.new.disk new e c.args.res c.args.pair (version_due (vault_due (opening course) course.entries c.args.res)) holding c.requires.holds c.requires.known refl refl refl c.step-in-Err.ensures.entry.row c.body.ensures.cause.later bg begins (c.step-in-Err.ensures.outcome ∙ stage_failed (opening course) course.entries c.args.res c.args.res Body (due_asks (opening s.life.course) s.life.course.entries c.args.res Body c.requires.due) (λ is. absurd cc)) c.in-Err.ensures.err c.in-Err.ensures.cause.failed c.body.ensures.runs c.in-Err.ensures.each)
