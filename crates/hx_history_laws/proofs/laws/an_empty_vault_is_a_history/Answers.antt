use Rattle.hx_history_laws.specs.Histories.{empty_vault}
use Rattle.hx_history_laws.proofs.laws.an_empty_vault_is_a_history.Goals as goal

pub returns : goal.returns
returns c = empty_vault
