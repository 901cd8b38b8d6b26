use Rattle.std.proofs.Common.{sym, ap, ◌∙◌}
use Rattle.hx_rules.specs.Legal.{quit_row}
use Rattle.hx_check.proofs.Judgements.{quit_allowed}
use Rattle.hx_check.proofs.judge.Judge.may_have.Goals as goal

pub returns-in-None : goal.returns-in-None
returns-in-None c = λ o es was.
    c.quit_may.ensures ∙ (ap (λ lowest. quit_row lowest c.args.outcome.now) c.lowest_unsafe.ensures
    ∙ quit_allowed o es c.args.self.now was c.args.event.now c.args.outcome.now (sym c.named.ensures ∙ c.in-None.is))
