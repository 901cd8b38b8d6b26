use Rattle.std.proofs.Common.{length, ◌-◌, sym, ◌∙◌}
use Rattle.std.proofs.lemmas.Result.{IfOk-weaker}
use Rattle.hx_report.proofs.Sums.{last_dirty, whole_at}
use Rattle.hx_report.proofs.counts.dirty_at_last.Goals as goal

pub dirty_copies-requires : goal.dirty_copies-requires
dirty_copies-requires c = whole_at c.args.lives.now (length c.args.lives.now - 1) c.in-Some.life.now c.requires c.in-Some.ensures.value

pub returns-in-Some : goal.returns-in-Some
returns-in-Some c =
    IfOk-weaker c.dirty_copies.result _ _ (λ count is. is ∙ sym (last_dirty c.args.lives.now c.in-Some.life.now c.in-Some.ensures.value)) c.dirty_copies.ensures
