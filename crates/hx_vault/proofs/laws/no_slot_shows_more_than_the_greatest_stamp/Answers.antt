use Rattle.hx_vault.specs.Scans.{no_greater_stamp}
use Rattle.hx_vault.proofs.laws.no_slot_shows_more_than_the_greatest_stamp.Goals as goal

pub returns : goal.returns
returns c = no_greater_stamp
