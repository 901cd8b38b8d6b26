use Rattle.std.proofs.lemmas.Result.{IfOk-weaker}
use Rattle.hx_check.proofs.Tails.{verdict_means}
use Rattle.hx_check.proofs.lives.check.Goals as goal

pub returns-clause-legal : goal.returns-clause-legal
returns-clause-legal c = IfOk-weaker c.judged.result _ _ (λ verdict is. verdict_means c.args.trace.now verdict is) c.judged.ensures
