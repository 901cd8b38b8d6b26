-- The slots so far are planted, and nothing else has changed.
use Rattle.std.proofs.Common.{◌≡◌, IsTrue, reverse, take}
use Rattle.hx_lives.specs.Calls.{HasGoneOn}
use Rattle.hx_play.specs.Planting.{HasPlanted, OnlyPlants}
use Rattle.hx_play.proofs.planting.plant.Given as goal

abbrev pub invariant-loop-slot : goal.invariant-loop-slot
invariant-loop-slot g l = record {
  runs : HasGoneOn g.D.Disk.time g.D.Disk.past g.D.Disk.failures l.initial.disk l.disk;
  others : OnlyPlants (g.D.Disk.past l.disk) (reverse (take l.slot-index l.slots)) (g.D.Disk.time l.initial.disk) (g.D.Disk.time l.disk);
  planted : IsTrue g.D.Disk.tells → HasPlanted (reverse (take l.slot-index l.slots)) (g.D.Disk.past l.disk (g.D.Disk.time l.disk));
  no_fault : g.D.Disk.failures l.disk ≡ g.D.Disk.failures l.initial.disk;
}
