use Rattle.hx_pairs.specs.FreePairs.{free_pair_is_there, no_pair_is_free, adopted_is_barred}
use Rattle.hx_pairs.proofs.laws.a_free_pair_is_there_where_the_rules_want_one.Goals as goal

pub returns-clause-there : goal.returns-clause-there
returns-clause-there c = free_pair_is_there

pub returns-clause-none : goal.returns-clause-none
returns-clause-none c = no_pair_is_free

pub returns-clause-barred : goal.returns-clause-barred
returns-clause-barred c = adopted_is_barred
