use Rattle.hx_hub.specs.Shared.{so_far}
use Rattle.hx_play.proofs.runs.work.Given as goal

abbrev pub ghosts-work_under_name : goal.ghosts-work_under_name
ghosts-work_under_name g a = record { table = a.founded.table; life = a.founded.registry.course; disk = so_far g.D.Disk.time g.D.Disk.past g.D.Disk.failures a.founded.registry.disk; windows = a.founded.windows; parts = a.founded.parts }
