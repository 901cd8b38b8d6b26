use Rattle.std.proofs.Common.{rules, ◌≡◌, ◌++◌, codes}
use Rattle.hx_report.specs.Summaries.{count_line, dirty_at_last, restored_in}
use Rattle.hx_report.specs.Counting.{count_lines, counted_all, no_counts}
use Rattle.hx_report.proofs.Sums.{summary_is}
use Rattle.hx_report.proofs.counts.summary.Goals as goal

pub returns : goal.returns
returns c =
    let lives = c.args.lives.now in
    let put : c.put_count-3.new.out.items ≡ ((count_line (codes "made") c.args.n ++ count_lines (counted_all lives no_counts)) ++ count_line (codes "restored") (restored_in lives)) ++ count_line (codes "dirty") (dirty_at_last lives) = search rules in
    summary_is c.args.n lives c.put_count-3.new.out.items put
