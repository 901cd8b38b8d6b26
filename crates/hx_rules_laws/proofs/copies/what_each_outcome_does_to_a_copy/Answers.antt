-- The laws themselves.
use Rattle.hx_rules_laws.specs.CopyLaws.{copies_change, trail_is_within_versions}
use Rattle.hx_rules_laws.proofs.copies.what_each_outcome_does_to_a_copy.Goals as goal

pub returns-clause-copy : goal.returns-clause-copy
returns-clause-copy c = copies_change

pub returns-clause-ids : goal.returns-clause-ids
returns-clause-ids c = trail_is_within_versions
