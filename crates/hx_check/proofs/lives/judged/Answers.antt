use Rattle.std.proofs.Common.{◌+◌, Some, None, sym, ◌∙◌, drop}
use Rattle.std.proofs.lemmas.List.{at_drop_all}
use Rattle.hx_report.proofs.Walking.{drop_next}
use Rattle.hx_check.specs.Verdicts.{bad_in_lives}
use Rattle.hx_check.proofs.Tails.{life_is_bad, verdict_is}
use Rattle.hx_check.proofs.lives.judged.Goals as goal

pub returns-in-Some : goal.returns-in-Some
returns-in-Some c =
    let items = c.as_slice-life-items.result.now in
    let l = c.life-item.result in
    let i = c.loop-life.life-index in
    let next = drop_next items i l c.loop-life-test.true c.life-item.is in
    verdict_is c.args.trace.now (Some c.in-Some.line) (sym c.loop-life.invariant.rest ∙ life_is_bad l (drop (i + 1) items) (drop i items) c.in-Some.line next (sym c.in_ok-line.ensures ∙ c.in-Some.is))

pub returns : goal.returns
returns c =
    let items = c.as_slice-life-items.result.now in
    verdict_is c.args.trace.now None (sym c.loop-life.invariant.rest ∙ at_drop_all bad_in_lives items c.loop-life.life-index c.loop-life-test.false)
