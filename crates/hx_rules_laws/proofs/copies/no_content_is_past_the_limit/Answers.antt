-- The law itself.
use Rattle.hx_rules_laws.specs.Limits.{contents_are_short}
use Rattle.hx_rules_laws.proofs.copies.no_content_is_past_the_limit.Goals as goal

pub returns : goal.returns
returns c = contents_are_short
