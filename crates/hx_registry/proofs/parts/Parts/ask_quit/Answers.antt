use Rattle.std.proofs.Common.{sym, subst, refl}
use Rattle.hx_events.specs.declared.event.Event.TheVariants.{Quit}
use Rattle.hx_lives.specs.Course.{Course, opening}
use Rattle.hx_pairs.specs.Registries.{RegistryInvariant}
use Rattle.hx_registry.specs.Stages.{quit_rests, settled_answered}
use Rattle.hx_registry.proofs.parts.Parts.ask_quit.Goals as goal

pub rest-requires-clause-fits : goal.rest-requires-clause-fits
rest-requires-clause-fits g c = tt

pub rest-requires-clause-same : goal.rest-requires-clause-same
rest-requires-clause-same g c =
    let now : Course = c.reserve.new.self.course in
    quit_rests (opening now) now.entries

pub rest-requires-clause-answered : goal.rest-requires-clause-answered
rest-requires-clause-answered g c =
    let s = c.args.self.now in
    let now : Course = c.reserve.new.self.course in
    settled_answered g.D.Disk.tells g.D.Disk.time g.D.Disk.past g.D.Disk.now g.D.Disk.failures now s.vault s.held.items s.disk Quit _ (subst (λ (k : Course). RegistryInvariant g.D.Disk.tells g.D.Disk.time g.D.Disk.past g.D.Disk.now g.D.Disk.failures k s.vault s.held.items s.disk) (sym c.reserve.ensures.course) c.requires.kept) refl
