use Rattle.hx_pairs.specs.Laws.{bare_pair_is_quiet}
use Rattle.hx_pairs.proofs.laws.who_holds_nothing_gives_its_pair_back.Goals as goal

pub returns : goal.returns
returns c = bare_pair_is_quiet
