use Rattle.std.proofs.Common.{◌≡◌}
use Rattle.hx_vault.proofs.SyncSteps.{AreSynced}
use Rattle.hx_vault.proofs.syncs.barrier.Given as goal

abbrev pub invariant-loop-number : goal.invariant-loop-number
invariant-loop-number g l =
    AreSynced g.D.Disk.tells g.D.Disk.time g.D.Disk.past g.D.Disk.now g.D.Disk.room l.number l.initial.disk l.disk
    × (g.D.Disk.failures l.disk ≡ g.D.Disk.failures l.initial.disk)
