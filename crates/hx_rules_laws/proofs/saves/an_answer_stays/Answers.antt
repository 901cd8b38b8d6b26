-- The law itself.
use Rattle.hx_rules_laws.specs.SaveLaws.{answers_stay}
use Rattle.hx_rules_laws.proofs.saves.an_answer_stays.Goals as goal

pub returns : goal.returns
returns c = answers_stay
