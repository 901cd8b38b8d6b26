use Rattle.std.proofs.Common.{◌∙◌}
use Rattle.hx_report.proofs.Tallying.{dirty_is}
use Rattle.hx_report.proofs.counts.dirty_copies.Goals as goal

pub returns : goal.returns
returns c = c.dirty.ensures ∙ dirty_is c.args.life.now c.in_ok-tally.tally c.in_ok-tally.ensures.count c.in_ok-tally.ensures.tallied
