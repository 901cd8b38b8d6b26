use Rattle.hx_check.specs.Laws.{may_be_judged}
use Rattle.hx_top.proofs.whole.judge.Goals as goal

pub check-requires : goal.check-requires
check-requires g c = may_be_judged c.in-Ok.trace.lives c.in-Ok.ensures.well_read
