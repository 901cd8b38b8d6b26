-- The flags that decide which vault stage is due, and the version that it is of.
use Rattle.std.specs.Prelude.{ℕ, not, ◌&&◌, if◌then◌else◌, Some, None}
use Rattle.hx_events.specs.declared.event.Stage.{Stage}
use Rattle.hx_events.specs.declared.event.Stage.TheVariants.{Prepare}
use Rattle.hx_rules.specs.declared.flags.Flags.{Flags}
use Rattle.hx_rules.specs.Due.{stage_due}
use Rattle.hx_resource.specs.Rows.{Facts}

-- The flags of these facts. Safe speaks of the running save of a guarded life: where the copy isn't held it isn't set.
abbrev pub flags_by : Facts → Flags
flags_by f = record { dirty = f.dirty; backed = f.backed; begun = stage_due f.begun; halted = f.halted; opened = f.opened; faded = f.faded; held = f.held; safe = f.held && f.safe; keep = f.keep }

-- the version of a stage where no backup is begun: a Prepare is of the running version, where that waits for its backup,
-- else of the last one; a Fade and a Drop have the version 0
abbrev pub new_version : Facts → Stage → ℕ
new_version f Prepare = if f.held && not f.safe then f.run else f.last
new_version f _ = 0

-- the version of a due stage
abbrev pub version_by : Facts → Stage → ℕ
version_by f stage = elim f.begun [ Some w ↦ w.version | None ↦ new_version f stage ]
