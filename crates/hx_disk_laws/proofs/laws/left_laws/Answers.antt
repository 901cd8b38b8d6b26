use Rattle.hx_disk.specs.Runs.{left_splits, left_stays}
use Rattle.hx_disk_laws.proofs.laws.left_laws.Goals as goal

pub returns-clause-splits : goal.returns-clause-splits
returns-clause-splits c = left_splits

pub returns-clause-stays : goal.returns-clause-stays
returns-clause-stays c = left_stays
