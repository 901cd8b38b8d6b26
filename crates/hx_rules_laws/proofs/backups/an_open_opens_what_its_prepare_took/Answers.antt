use Rattle.hx_rules_laws.specs.Taken.{begun_is_taken}
use Rattle.hx_rules_laws.proofs.backups.an_open_opens_what_its_prepare_took.Goals as goal

pub returns-clause-taken : goal.returns-clause-taken
returns-clause-taken c = begun_is_taken
