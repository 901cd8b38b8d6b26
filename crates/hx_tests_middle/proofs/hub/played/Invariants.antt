use Rattle.hx_hub.specs.Shared.{so_far}
use Rattle.hx_tests_middle.proofs.hub.played.Given as goal

-- the hub's name says what it was made over
abbrev pub ghosts-named : goal.ghosts-named
ghosts-named g a = record { table = a.founded.table; life = a.founded.registry.course; disk = so_far g.D.Disk.time g.D.Disk.past g.D.Disk.failures a.founded.registry.disk; windows = a.founded.windows; parts = a.founded.parts }
