use Rattle.hx_closing_laws.specs.Quitting.{quits_as_asked}
use Rattle.hx_registry.proofs.registry.Registry.quit.Goals as goal

pub returns-in-Some-clause-ended : goal.returns-in-Some-clause-ended
returns-in-Some-clause-ended g c =
    quits_as_asked c.args.self.now.course c.settle.new.self.course c.quit_answer.result c.in-Some.outcome c.in_ok-settle.ensures.settled c.quit_answer.ensures c.in-Some.is
