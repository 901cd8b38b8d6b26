-- The law itself.
use Rattle.hx_rules_laws.specs.NotOlder.{saved_is_not_older}
use Rattle.hx_rules_laws.proofs.saves.a_saved_version_is_not_older_than_asked.Goals as goal

pub returns : goal.returns
returns c = saved_is_not_older
