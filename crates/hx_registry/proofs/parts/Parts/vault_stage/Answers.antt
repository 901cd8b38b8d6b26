use Rattle.std.proofs.Common.{sym, ◌∙◌, ap, subst}
use Rattle.hx_lives.specs.Course.{Course, opening}
use Rattle.hx_resource.specs.declared.asks.Asked.TheVariants.{Device}
use Rattle.hx_pairs.specs.Registries.{RegistryInvariant}
use Rattle.hx_registry.specs.Given.{fits_nothing, stage_asked}
use Rattle.hx_registry.specs.Stages.{only_stages, settled_answered, vault_rests}
use Rattle.hx_registry.proofs.parts.Parts.vault_stage.Goals as goal

pub rest-requires-clause-fits : goal.rest-requires-clause-fits
rest-requires-clause-fits g c = fits_nothing _ _ (sym c.ask.ensures ∙ c.in-Settled.is)

pub rest-requires-clause-same : goal.rest-requires-clause-same
rest-requires-clause-same g c =
    let now : Course = c.reserve.new.self.course in
    vault_rests (opening now) now.entries c.args.res _ (sym c.ask.ensures ∙ c.in-Settled.is)

pub rest-requires-clause-answered : goal.rest-requires-clause-answered
rest-requires-clause-answered g c =
    let s = c.args.self.now in
    let now : Course = c.reserve.new.self.course in
    settled_answered g.D.Disk.tells g.D.Disk.time g.D.Disk.past g.D.Disk.now g.D.Disk.failures now s.vault s.held.items s.disk _ _ (subst (λ (k : Course). RegistryInvariant g.D.Disk.tells g.D.Disk.time g.D.Disk.past g.D.Disk.now g.D.Disk.failures k s.vault s.held.items s.disk) (sym c.reserve.ensures.course) c.requires.kept) (sym c.ask.ensures ∙ c.in-Settled.is)

pub stage-requires-clause-due : goal.stage-requires-clause-due
stage-requires-clause-due g c =
    let now : Course = c.reserve.new.self.course in
    stage_asked (opening now) now.entries c.args.res _ _ (sym c.ask.ensures ∙ c.in-Device.is ∙ ap Device c.in-Vault.is)

pub unreachable-requires : goal.unreachable-requires
unreachable-requires g c =
    let now : Course = c.reserve.new.self.course in
    only_stages (opening now) now.entries c.args.res _ (sym c.ask.ensures ∙ c.in-Device.is) (λ d stage is. c.in_default.not-Vault _ _ is)
