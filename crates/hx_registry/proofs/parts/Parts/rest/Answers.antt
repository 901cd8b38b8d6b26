use Rattle.std.proofs.Common.{sym, subst, ◌∙◌, ap}
use Rattle.hx_events.specs.declared.outcome.Outcome.{Outcome}
use Rattle.hx_lives.specs.Course.{Course}
use Rattle.hx_resource.specs.Rooms.{got_content}
use Rattle.hx_pairs.specs.Registries.{RegistryInvariant, same_hold}
use Rattle.hx_registry.specs.Answered.{IsAnswered, answered_rested}
use Rattle.hx_registry.proofs.parts.Parts.rest.Goals as goal

pub returns-clause-kept : goal.returns-clause-kept
returns-clause-kept g c =
    let s = c.args.self.now in
    let course : Course = s.life.course in
    let outcome : Outcome = c.step.result in
    let answered : IsAnswered g.D.Disk.tells g.D.Disk.time g.D.Disk.past g.D.Disk.now g.D.Disk.failures course s.vault s.held.items s.disk c.args.event outcome (got_content c.args.got) =
    subst (λ (o : Outcome). IsAnswered g.D.Disk.tells g.D.Disk.time g.D.Disk.past g.D.Disk.now g.D.Disk.failures course s.vault s.held.items s.disk c.args.event o (got_content c.args.got)) (sym c.step.ensures.outcome) c.requires.answered in
    subst (λ (k : Course). RegistryInvariant g.D.Disk.tells g.D.Disk.time g.D.Disk.past g.D.Disk.now g.D.Disk.failures k s.vault s.held.items s.disk) (sym c.step.ensures.added)
    (answered_rested g.D.Disk.tells g.D.Disk.time g.D.Disk.past g.D.Disk.now g.D.Disk.failures g.met.D.Disk.present course s.vault s.held.items s.disk c.args.actor c.args.event outcome (got_content c.args.got) answered c.step.ensures.entry.row
    (ap same_hold c.step.ensures.outcome ∙ c.requires.same))
