use Rattle.hx_hub.specs.Shared.{so_far}
use Rattle.hx_tests_middle.proofs.actors.named.Given as goal

abbrev pub ghosts-run_over : goal.ghosts-run_over
ghosts-run_over g a = record { table = a.founded.table; life = a.founded.registry.course; disk = so_far g.D.Disk.time g.D.Disk.past g.D.Disk.failures a.founded.registry.disk; windows = a.founded.windows; parts = a.founded.parts }
