-- The law itself.
use Rattle.hx_exit_laws.specs.Back.{close_brings_all_back}
use Rattle.hx_exit_laws.proofs.laws.what_comes_back_after_a_close.Goals as goal

pub returns : goal.returns
returns g c = close_brings_all_back g.D.Disk.picked g.D.Disk.tells
