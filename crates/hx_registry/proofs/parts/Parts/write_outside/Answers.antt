use Rattle.std.proofs.Common.{rules, ◌≡◌, ◌+◌, sym, ◌∙◌, ap, subst, refl}
use Rattle.hx_events.specs.declared.event.Event.TheVariants.{Act}
use Rattle.hx_events.specs.declared.event.Command.TheVariants.{Outside}
use Rattle.hx_events.specs.declared.outcome.Outcome.TheVariants.{Written, Fault}
use Rattle.hx_lives.specs.Course.{Course, opening}
use Rattle.hx_disk.specs.Disk.{Through}
use Rattle.hx_slots.specs.Gate.{IsAnyState}
use Rattle.hx_core.specs.Cores.{asks_at, outcome_at}
use Rattle.hx_events.specs.declared.event.Event.{Event}
use Rattle.hx_pairs.specs.Entry.{invariant_rested}
use Rattle.hx_pairs.specs.Registries.{RegistryInvariant}
use Rattle.hx_resource.specs.declared.asks.Asked.TheVariants.{Device}
use Rattle.hx_resource.specs.declared.asks.Got.TheVariants.{Failed, Done}
use Rattle.hx_resource.specs.declared.asks.Work.TheVariants.{OutsideWrite}
use Rattle.hx_registry.specs.Given.{act_given}
use Rattle.hx_registry.specs.Users.{outside_asked, outside_invariant, outside_failed_invariant}
use Rattle.hx_registry.proofs.parts.Parts.write_outside.Goals as goal

pub returns-in_err-reserve-clause-kept : goal.returns-in_err-reserve-clause-kept
returns-in_err-reserve-clause-kept g c =
    let s = c.args.self.now in
    let course : Course = s.life.course in
    (invariant_rested g.D.Disk.tells g.D.Disk.time g.D.Disk.past g.D.Disk.now g.D.Disk.failures g.met.D.Disk.present course s.vault s.vault s.held.items s.disk c.reserve.new.self c.requires.kept c.reserve.ensures.unchanged c.reserve.ensures.faults refl)

pub returns-in-Ok-clause-kept : goal.returns-in-Ok-clause-kept
returns-in-Ok-clause-kept g c =
    let s = c.args.self.now in
    let course : Course = s.life.course in
    let new = c.overwrite.new.disk in
    let holding : RegistryInvariant g.D.Disk.tells g.D.Disk.time g.D.Disk.past g.D.Disk.now g.D.Disk.failures course s.vault s.held.items c.reserve.new.self = (invariant_rested g.D.Disk.tells g.D.Disk.time g.D.Disk.past g.D.Disk.now g.D.Disk.failures g.met.D.Disk.present course s.vault s.vault s.held.items s.disk c.reserve.new.self c.requires.kept c.reserve.ensures.unchanged c.reserve.ensures.faults refl) in
    let at = c.user_file-file.ensures in
    let of : c.args.event ≡ Act (Outside c.in-Outside.res c.in-Outside.mtime c.in-Outside.text) = search rules in
    let asked = subst (λ (e : Event). asks_at (opening course) course.entries e ≡ Device OutsideWrite) c.requires.command.1 c.requires.command.3 in
    let run : Through g.D.Disk.time g.D.Disk.past (128 + c.in-Outside.res) IsAnyState c.reserve.new.self new = subst (λ f. Through g.D.Disk.time g.D.Disk.past f IsAnyState c.reserve.new.self new) at c.overwrite.ensures.through in
    let is : c.step.result ≡ Written = c.step.ensures.outcome ∙ ap (λ (e : Event). outcome_at (opening course) course.entries e Done) c.requires.command.1 ∙ act_given (opening course) course.entries c.requires.command.0 OutsideWrite Done asked in
    subst (λ (k : Course). RegistryInvariant g.D.Disk.tells g.D.Disk.time g.D.Disk.past g.D.Disk.now g.D.Disk.failures k s.vault s.held.items new) (sym c.step.ensures.added)
    (outside_invariant g.D.Disk.tells g.D.Disk.time g.D.Disk.past g.D.Disk.now g.D.Disk.failures g.met.D.Disk.present course s.vault s.held.items c.reserve.new.self new c.args.actor c.in-Outside.res c.step.result holding c.overwrite.ensures.cause.later c.args.event c.in-Outside.mtime c.in-Outside.text of is run (search rules))

pub returns-in-Err-clause-kept : goal.returns-in-Err-clause-kept
returns-in-Err-clause-kept g c =
    let s = c.args.self.now in
    let course : Course = s.life.course in
    let new = c.overwrite.new.disk in
    let holding : RegistryInvariant g.D.Disk.tells g.D.Disk.time g.D.Disk.past g.D.Disk.now g.D.Disk.failures course s.vault s.held.items c.reserve.new.self = (invariant_rested g.D.Disk.tells g.D.Disk.time g.D.Disk.past g.D.Disk.now g.D.Disk.failures g.met.D.Disk.present course s.vault s.vault s.held.items s.disk c.reserve.new.self c.requires.kept c.reserve.ensures.unchanged c.reserve.ensures.faults refl) in
    let at = c.user_file-file.ensures in
    let of : c.args.event ≡ Act (Outside c.in-Outside.res c.in-Outside.mtime c.in-Outside.text) = search rules in
    let asked = subst (λ (e : Event). asks_at (opening course) course.entries e ≡ Device OutsideWrite) c.requires.command.1 c.requires.command.3 in
    let run : Through g.D.Disk.time g.D.Disk.past (128 + c.in-Outside.res) IsAnyState c.reserve.new.self new = subst (λ f. Through g.D.Disk.time g.D.Disk.past f IsAnyState c.reserve.new.self new) at c.overwrite.ensures.through in
    let is : c.step-in-Err.result ≡ Fault = c.step-in-Err.ensures.outcome ∙ ap (λ (e : Event). outcome_at (opening course) course.entries e Failed) c.requires.command.1 ∙ act_given (opening course) course.entries c.requires.command.0 OutsideWrite Failed asked in
    subst (λ (k : Course). RegistryInvariant g.D.Disk.tells g.D.Disk.time g.D.Disk.past g.D.Disk.now g.D.Disk.failures k s.vault s.held.items new) (sym c.step-in-Err.ensures.added)
    (outside_failed_invariant g.D.Disk.tells g.D.Disk.time g.D.Disk.past g.D.Disk.now g.D.Disk.failures g.met.D.Disk.present course s.vault s.held.items c.reserve.new.self new c.args.actor c.in-Outside.res c.step-in-Err.result holding c.overwrite.ensures.cause.later c.args.event c.in-Outside.mtime c.in-Outside.text of is run c.in-Err.ensures.cause.failed)

pub unreachable-requires-in_default-command : goal.unreachable-requires-in_default-command
unreachable-requires-in_default-command g c =
    let s = c.args.self.now in
    let course : Course = s.life.course in
    let asked = subst (λ (e : Event). asks_at (opening course) course.entries e ≡ Device OutsideWrite) c.requires.command.1 c.requires.command.3 in
    outside_asked (opening course) course.entries c.requires.command.0 asked (λ r m t is. c.in_default-command.not-Outside r m t (search (rules, is)))
