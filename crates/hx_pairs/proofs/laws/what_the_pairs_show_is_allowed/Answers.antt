use Rattle.hx_pairs.specs.Laws.{pair_shows_allowed, pairs_are_safe}
use Rattle.hx_pairs.proofs.laws.what_the_pairs_show_is_allowed.Goals as goal

pub returns-clause-pair : goal.returns-clause-pair
returns-clause-pair c = pair_shows_allowed

pub returns-clause-pairs : goal.returns-clause-pairs
returns-clause-pairs c = pairs_are_safe
