-- The laws themselves.
use Rattle.hx_exit_laws.specs.Decisions.{asks_about_the_lowest_lost, closes_where_a_life_loses_nothing}
use Rattle.hx_exit_laws.proofs.laws.what_comes_of_a_lifes_exit.Goals as goal

pub returns-clause-closes : goal.returns-clause-closes
returns-clause-closes c = closes_where_a_life_loses_nothing

pub returns-clause-asks : goal.returns-clause-asks
returns-clause-asks c = asks_about_the_lowest_lost
