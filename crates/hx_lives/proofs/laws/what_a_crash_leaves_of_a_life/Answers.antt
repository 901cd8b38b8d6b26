use Rattle.hx_lives.specs.Laws.{opening_finds_allowed, crash_leaves_allowed}
use Rattle.hx_lives.proofs.laws.what_a_crash_leaves_of_a_life.Goals as goal

pub returns-clause-found : goal.returns-clause-found
returns-clause-found c = opening_finds_allowed

pub returns-clause-crash : goal.returns-clause-crash
returns-clause-crash c = crash_leaves_allowed
