-- The laws themselves.
use Rattle.hx_exit.specs.Laws.{closes_where_nothing_is_lost, confirms_the_first_that_is_lost, triggers_as_the_setting_says}
use Rattle.hx_exit.proofs.laws.what_an_exit_keeps.Goals as goal

pub returns-clause-triggers : goal.returns-clause-triggers
returns-clause-triggers c = triggers_as_the_setting_says

pub returns-clause-closes : goal.returns-clause-closes
returns-clause-closes c = closes_where_nothing_is_lost

pub returns-clause-confirms : goal.returns-clause-confirms
returns-clause-confirms c = confirms_the_first_that_is_lost
