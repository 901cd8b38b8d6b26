-- The law itself.
use Rattle.hx_rules_laws.specs.Sizes.{sizes_are_lengths}
use Rattle.hx_rules_laws.proofs.copies.sizes_are_the_lengths_of_contents.Goals as goal

pub returns : goal.returns
returns c = sizes_are_lengths
