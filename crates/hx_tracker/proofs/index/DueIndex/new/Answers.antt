use Rattle.std.proofs.Common.{[], ◌∷◌}
use Rattle.hx_tracker.proofs.Numbers.{none_at_first, length_numbers}
use Rattle.hx_tracker.proofs.index.DueIndex.new.Goals as goal

pub returns-clause-empty : goal.returns-clause-empty
returns-clause-empty c = none_at_first

pub returns-clause-len : goal.returns-clause-len
returns-clause-len c = length_numbers (0 ∷ 0 ∷ 0 ∷ 0 ∷ [])
