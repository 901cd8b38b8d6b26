use Rattle.std.proofs.Common.{rules, sym, ◌∙◌, ap, subst, refl}
use Rattle.hx_lives.specs.Course.{Course, opening}
use Rattle.hx_pairs.specs.Registries.{RegistryInvariant}
use Rattle.hx_resource.specs.declared.asks.Asked.TheVariants.{Device}
use Rattle.hx_registry.specs.Given.{fits_nothing}
use Rattle.hx_registry.specs.Stages.{settled_answered}
use Rattle.hx_registry.specs.Users.{of_command, only_reads_and_writes, reads_by_act}
use Rattle.hx_registry.proofs.parts.Parts.command.Goals as goal

pub answer-requires-clause-of_res : goal.answer-requires-clause-of_res
answer-requires-clause-of_res g c = search (rules, of_command)

pub answer-requires-clause-fits : goal.answer-requires-clause-fits
answer-requires-clause-fits g c = fits_nothing _ _ (sym c.ask.ensures ∙ c.in-Settled.is)

pub answer-requires-clause-answered : goal.answer-requires-clause-answered
answer-requires-clause-answered g c =
    let s = c.args.self.now in
    let now : Course = c.reserve.new.self.course in
    settled_answered g.D.Disk.tells g.D.Disk.time g.D.Disk.past g.D.Disk.now g.D.Disk.failures now s.vault s.held.items s.disk _ _ (subst (λ (k : Course). RegistryInvariant g.D.Disk.tells g.D.Disk.time g.D.Disk.past g.D.Disk.now g.D.Disk.failures k s.vault s.held.items s.disk) (sym c.reserve.ensures.course) c.requires.kept) (sym c.ask.ensures ∙ c.in-Settled.is)

pub read-requires-clause-command : goal.read-requires-clause-command
read-requires-clause-command g c =
    let now : Course = c.reserve.new.self.course in
    (c.args.command, refl, sym c.resource-res.ensures, reads_by_act (opening now) now.entries c.args.command _ (sym c.ask.ensures ∙ c.in-Device.is ∙ ap Device c.in-ReadFile.is), (_, sym c.ask.ensures ∙ c.in-Device.is ∙ ap Device c.in-ReadFile.is))

pub write_outside-requires-clause-command : goal.write_outside-requires-clause-command
write_outside-requires-clause-command g c =
    (c.args.command, refl, search rules, sym c.ask.ensures ∙ c.in-Device.is ∙ ap Device c.in-OutsideWrite.is)

pub unreachable-requires : goal.unreachable-requires
unreachable-requires g c =
    let now : Course = c.reserve.new.self.course in
    only_reads_and_writes (opening now) now.entries c.args.command _ (sym c.ask.ensures ∙ c.in-Device.is) (λ d is. c.in_default.not-ReadFile _ is) (λ is. c.in_default.not-OutsideWrite is)
