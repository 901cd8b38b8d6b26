use Rattle.std.proofs.Common.{◌∙◌, ap, arith}
use Rattle.hx_rules.specs.Versions.{moved_back}
use Rattle.hx_report.proofs.Trails.{undo_is}
use Rattle.hx_report.proofs.trail.VersionTrail.undo.Goals as goal

pub returns-then-self-gt1 : goal.returns-then-self-gt1
returns-then-self-gt1 c = undo_is c.self.inside.ids.items c.self.inside.place (omega (arith, c.if-self-gt1.true)) c.self.invariant ∙ ap moved_back c.self.view_is
