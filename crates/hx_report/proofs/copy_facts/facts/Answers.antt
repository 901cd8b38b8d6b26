use Rattle.std.proofs.Common.{◌∙◌, ap, length}
use Rattle.std.proofs.lemmas.Result.{IfOk-weaker}
use Rattle.hx_report.specs.Copies.{facts_of_outlines}
use Rattle.hx_report.proofs.Copying.{copies_are}
use Rattle.hx_report.proofs.copy_facts.facts.Goals as goal

pub returns : goal.returns
returns c =
    let life = c.args.life.now in
    IfOk-weaker c.facts_of.result _ _ (λ facts is.
    is ∙ (ap (λ xs. facts_of_outlines xs (length life.names)) c.as_slice.ensures.value
    ∙ copies_are life c.in_ok-tally.tally c.in_ok-tally.ensures.count c.in_ok-tally.ensures.tallied)) c.facts_of.ensures
