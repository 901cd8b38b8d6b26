-- The laws themselves.
use Rattle.hx_closing_laws.specs.Nearer.{few_are_left, save_brings_nearer, vault_brings_nearer}
use Rattle.hx_closing_laws.proofs.laws.each_stage_brings_the_end_nearer.Goals as goal

pub returns-clause-save : goal.returns-clause-save
returns-clause-save c = save_brings_nearer

pub returns-clause-vault : goal.returns-clause-vault
returns-clause-vault c = vault_brings_nearer

pub returns-clause-few : goal.returns-clause-few
returns-clause-few c = few_are_left
