use Rattle.std.proofs.Common.{rules}
use Rattle.hx_lives.specs.Course.{Course}
use Rattle.hx_closing_laws.specs.Within.{within_limits}
use Rattle.hx_registry.proofs.life.OpenLife.keeps_limits.Goals as goal

pub returns : goal.returns
returns c =
    let course : Course = c.args.self.now.course in
    within_limits course (search rules) (search rules) (search rules)
