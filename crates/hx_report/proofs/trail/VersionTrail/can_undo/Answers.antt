use Rattle.std.proofs.Common.{◌∙◌, ap}
use Rattle.hx_rules.specs.Versions.{can_undo}
use Rattle.hx_report.proofs.Trails.{undo_can}
use Rattle.hx_report.proofs.trail.VersionTrail.can_undo.Goals as goal

pub returns : goal.returns
returns c = undo_can c.self.inside.ids.items c.self.inside.place c.self.invariant ∙ ap can_undo c.self.view_is
