use Rattle.std.proofs.Common.{◌+◌, ℕ, List, is_some, sym, ◌∙◌, ap, subst, refl}
use Rattle.hx_lives.specs.Course.{Course, opening}
use Rattle.hx_disk.specs.Disk.{Through}
use Rattle.hx_slots.specs.Gate.{IsAnyState}
use Rattle.hx_rules.specs.Due.{run_version}
use Rattle.hx_rules.specs.Entries.{own}
use Rattle.hx_rules.specs.Legal.{restored_at}
use Rattle.hx_rules.specs.Saves.{running, save_steps}
use Rattle.hx_rules.specs.Versions.{version_at, versions}
use Rattle.hx_registry.specs.Files.{IsSavedAs}
use Rattle.hx_pairs.specs.Entry.{invariant_rested}
use Rattle.hx_pairs.specs.Registries.{RegistryInvariant}
use Rattle.hx_resource.specs.declared.asks.Got.TheVariants.{Failed, Found}
use Rattle.hx_resource.specs.declared.asks.Work.TheVariants.{Write}
use Rattle.hx_registry.specs.Given.{flush_given}
use Rattle.hx_registry.specs.Users.{saved_invariant, write_failed_invariant, write_has_run}
use Rattle.hx_registry.proofs.parts.Parts.write.Goals as goal

pub unreachable-requires : goal.unreachable-requires
unreachable-requires g c =
    let s = c.args.self.now in
    let course : Course = s.life.course in
    write_has_run (opening course) course.entries c.args.res c.requires.asked.0 c.requires.asked.1 (sym c.saving.ensures.runs ∙ ap (λ x. is_some x) c.in_default.is)

pub returns-in_err-reserve-clause-kept : goal.returns-in_err-reserve-clause-kept
returns-in_err-reserve-clause-kept g c =
    let s = c.args.self.now in
    let course : Course = s.life.course in
    (invariant_rested g.D.Disk.tells g.D.Disk.time g.D.Disk.past g.D.Disk.now g.D.Disk.failures g.met.D.Disk.present course s.vault s.vault s.held.items s.disk c.reserve.new.self c.requires.kept c.reserve.ensures.unchanged c.reserve.ensures.faults refl)

pub returns-in-Ok-clause-kept : goal.returns-in-Ok-clause-kept
returns-in-Ok-clause-kept g c =
    let s = c.args.self.now in
    let course : Course = s.life.course in
    let new = c.write_out.new.disk in
    let holding : RegistryInvariant g.D.Disk.tells g.D.Disk.time g.D.Disk.past g.D.Disk.now g.D.Disk.failures course s.vault s.held.items c.reserve.new.self = (invariant_rested g.D.Disk.tells g.D.Disk.time g.D.Disk.past g.D.Disk.now g.D.Disk.failures g.met.D.Disk.present course s.vault s.vault s.held.items s.disk c.reserve.new.self c.requires.kept c.reserve.ensures.unchanged c.reserve.ensures.faults refl) in
    let v : ℕ = run_version (running (save_steps (restored_at (opening course) c.args.res) (own c.args.res course.entries))) in
    let at = c.user_file-file.ensures in
    let run : Through g.D.Disk.time g.D.Disk.past (128 + c.args.res) IsAnyState c.reserve.new.self new = subst (λ f. Through g.D.Disk.time g.D.Disk.past f IsAnyState c.reserve.new.self new) at c.write_out.ensures.through in
    subst (λ (k : Course). RegistryInvariant g.D.Disk.tells g.D.Disk.time g.D.Disk.past g.D.Disk.now g.D.Disk.failures k s.vault s.held.items new) (sym c.step.ensures.added)
    (saved_invariant g.D.Disk.tells g.D.Disk.time g.D.Disk.past g.D.Disk.now g.D.Disk.failures g.met.D.Disk.present course s.vault s.held.items c.reserve.new.self new c.args.actor c.args.res c.step.result holding c.write_out.ensures.cause.later v c.in-Ok.found (c.step.ensures.outcome ∙ flush_given (opening course) course.entries c.args.res (Write c.requires.asked.0) (Found c.in-Ok.found) c.requires.asked.1) c.step.ensures.entry.row run
    (λ told. subst (λ f. IsSavedAs (version_at v (versions (restored_at (opening course) c.args.res) (own c.args.res course.entries))).content c.in-Ok.found (g.D.Disk.now new f)) at
    (subst (λ (l : List ℕ). IsSavedAs l c.in-Ok.found (g.D.Disk.now new c.user_file-file.result)) c.in-Some.ensures.content (c.in-Ok.ensures.saved told))))

pub returns-in-Err-clause-kept : goal.returns-in-Err-clause-kept
returns-in-Err-clause-kept g c =
    let s = c.args.self.now in
    let course : Course = s.life.course in
    let new = c.write_out.new.disk in
    let holding : RegistryInvariant g.D.Disk.tells g.D.Disk.time g.D.Disk.past g.D.Disk.now g.D.Disk.failures course s.vault s.held.items c.reserve.new.self = (invariant_rested g.D.Disk.tells g.D.Disk.time g.D.Disk.past g.D.Disk.now g.D.Disk.failures g.met.D.Disk.present course s.vault s.vault s.held.items s.disk c.reserve.new.self c.requires.kept c.reserve.ensures.unchanged c.reserve.ensures.faults refl) in
    let v : ℕ = run_version (running (save_steps (restored_at (opening course) c.args.res) (own c.args.res course.entries))) in
    let at = c.user_file-file.ensures in
    let run : Through g.D.Disk.time g.D.Disk.past (128 + c.args.res) IsAnyState c.reserve.new.self new = subst (λ f. Through g.D.Disk.time g.D.Disk.past f IsAnyState c.reserve.new.self new) at c.write_out.ensures.through in
    subst (λ (k : Course). RegistryInvariant g.D.Disk.tells g.D.Disk.time g.D.Disk.past g.D.Disk.now g.D.Disk.failures k s.vault s.held.items new) (sym c.step-in-Err.ensures.added)
    (write_failed_invariant g.D.Disk.tells g.D.Disk.time g.D.Disk.past g.D.Disk.now g.D.Disk.failures g.met.D.Disk.present course s.vault s.held.items c.reserve.new.self new c.args.actor c.args.res c.step-in-Err.result holding c.write_out.ensures.cause.later v (c.step-in-Err.ensures.outcome ∙ flush_given (opening course) course.entries c.args.res (Write c.requires.asked.0) Failed c.requires.asked.1) c.step-in-Err.ensures.entry.row run c.in-Err.ensures.cause.failed)
