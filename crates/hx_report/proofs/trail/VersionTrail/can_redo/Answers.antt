use Rattle.std.proofs.Common.{◌∙◌, ap, arith}
use Rattle.hx_rules.specs.Versions.{can_redo}
use Rattle.hx_report.proofs.Trails.{redo_can}
use Rattle.hx_report.proofs.trail.VersionTrail.can_redo.Goals as goal

pub returns : goal.returns
returns c =
    redo_can c.self.inside.ids.items c.self.inside.place c.len.result (omega (arith, c.len.ensures, c.self.inside.ids.ok)) ∙ ap can_redo c.self.view_is
