use Rattle.std.specs.Prelude.{IsTrue}
use Rattle.std.proofs.Common.{◌≡◌, ◌<◌, ◌+◌, ◌*◌, ℕ, length, take}
use Rattle.hx_disk.specs.Disk.{ChangesNothing}
use Rattle.hx_slots.specs.Raws.{raw_at}
use Rattle.hx_vault.proofs.scanning.read_pairs.Given as goal

abbrev pub invariant-loop-number : goal.invariant-loop-number
invariant-loop-number g l =
    (length l.raws.items ≡ l.number)
    × ChangesNothing g.D.Disk.time g.D.Disk.past g.D.Disk.now l.initial.disk l.disk
    × (g.D.Disk.room l.disk ≡ g.D.Disk.room l.initial.disk)
    × (g.D.Disk.failures l.disk ≡ g.D.Disk.failures l.initial.disk)
    × (IsTrue g.D.Disk.tells → (p : ℕ) → p < l.number → (raw_at l.raws.items p).a ≡ take 534305 (g.D.Disk.now l.initial.disk (2 * p)).reading)
    × (IsTrue g.D.Disk.tells → (p : ℕ) → p < l.number → (raw_at l.raws.items p).b ≡ take 534305 (g.D.Disk.now l.initial.disk (2 * p + 1)).reading)
