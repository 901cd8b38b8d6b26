use Rattle.hx_lives.specs.Laws.{lives_are_kept, lives_last_on}
use Rattle.hx_lives.proofs.laws.what_holds_of_ended_lives.Goals as goal

pub returns-clause-kept : goal.returns-clause-kept
returns-clause-kept c = lives_are_kept

pub returns-clause-on : goal.returns-clause-on
returns-clause-on c = lives_last_on
