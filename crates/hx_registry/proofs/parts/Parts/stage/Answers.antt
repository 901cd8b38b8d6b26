use Rattle.std.proofs.Common.{rules, sym, ◌∙◌}
use Rattle.hx_registry.specs.Stages.{due_has_pair}
use Rattle.hx_registry.proofs.parts.Parts.stage.Goals as goal

pub unreachable-requires : goal.unreachable-requires
unreachable-requires g c =
    let s = c.args.self.now in
    due_has_pair s.life.course s.held.items c.args.res c.args.stage c.requires.kept.keeps.holds.legal c.requires.kept.exact c.requires.known c.requires.due (sym c.pair_of.ensures ∙ c.in_default.is)

pub discard-requires-clause-due : goal.discard-requires-clause-due
discard-requires-clause-due g c = search rules
