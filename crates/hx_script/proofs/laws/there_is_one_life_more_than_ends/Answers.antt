use Rattle.hx_script.proofs.LivesCount.{counts}
use Rattle.hx_script.proofs.laws.there_is_one_life_more_than_ends.Goals as goal

pub returns : goal.returns
returns c = counts
