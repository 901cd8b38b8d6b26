use Rattle.hx_pairs.specs.Adopting.{opening_gives_vault}
use Rattle.hx_pairs.specs.Laws.{fresh_is_kept}
use Rattle.hx_pairs.proofs.laws.an_opened_vault_keeps_the_pairs.Goals as goal

pub returns-clause-opened : goal.returns-clause-opened
returns-clause-opened c = opening_gives_vault

pub returns-clause-kept : goal.returns-clause-kept
returns-clause-kept c = fresh_is_kept
