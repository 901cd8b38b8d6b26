use Rattle.std.proofs.Common.{◌∙◌, ap}
use Rattle.hx_rules.specs.Entries.{past}
use Rattle.hx_rules.specs.Legal.{Opening, holds_at}
use Rattle.hx_lives.specs.Course.{opening}
use Rattle.hx_registry.specs.OpenLives.{OpenLifeState}
use Rattle.hx_registry.proofs.life.OpenLife.holds.Goals as goal

pub returns : goal.returns
returns c =
    let core = c.self.inside.core in
    c.holds.ensures ∙ ap (λ (o : Opening). holds_at o (past core.history) c.args.res) c.self.invariant.begins
    ∙ ap (λ (l : OpenLifeState). holds_at (opening l.course) l.course.entries c.args.res) c.self.view_is
