use Rattle.std.proofs.Common.{◌∙◌, ap, arith}
use Rattle.hx_rules.specs.Versions.{moved_on}
use Rattle.hx_report.proofs.Trails.{redo_is}
use Rattle.hx_report.proofs.trail.VersionTrail.redo.Goals as goal

pub returns-then-self-len : goal.returns-then-self-len
returns-then-self-len c = redo_is c.self.inside.ids.items c.self.inside.place (omega (arith, c.if-self-len.true, c.len.ensures, c.self.inside.ids.ok)) ∙ ap moved_on c.self.view_is
