-- Which stage is due for a resource after its deeds, newest first. These rules are this project's own.
use Rattle.std.specs.Prelude.{ℕ, nat_lt, not, Bool, ◌&&◌, ◌||◌, List, if◌then◌else◌, Option, Some, None, is_some}
use Rattle.hx_events.specs.declared.backup.Backup.{Backup}
use Rattle.hx_events.specs.declared.event.Stage.{Stage}
use Rattle.hx_events.specs.declared.event.Stage.TheVariants.{Prepare, Body, Open, Fade, Drop}
use Rattle.hx_rules.specs.declared.flags.Flags.{Flags}
use Rattle.hx_rules.specs.declared.saves.Running.{Running}
use Rattle.hx_rules.specs.Entries.{Deed}
use Rattle.hx_rules.specs.Versions.{last_version}
use Rattle.hx_rules.specs.Copies.{dirty}
use Rattle.hx_rules.specs.Saves.{running, save_steps}
use Rattle.hx_rules.specs.Backups.{Begun, begun, blocks_of, backed, halted, held, wanted, opened, faded, safe, write_failed}

-- A vault stage with its version. A Fade and a Drop have the version 0.
pub record VaultWork : Type 0 where
  pub stage : Stage
  pub version : ℕ

abbrev pub vault_work : Stage → ℕ → VaultWork
vault_work stage version = record { stage = stage; version = version }

-- the stage of what is due, and its version
abbrev pub stage_due : Option VaultWork → Option Stage
stage_due None = None
stage_due (Some w) = Some w.stage

-- Where nothing is due the version is 0, as it is of a Fade and a Drop.
abbrev pub version_due : Option VaultWork → ℕ
version_due None = 0
version_due (Some w) = w.version

-- The next stage of a begun backup: Body while a block is left to write, then Open.
abbrev pub next_stage : Begun → Stage
next_stage b = if nat_lt b.blocks (blocks_of b.size) then Body else Open

-- The version of the running save. Where none runs, 0, which is no version's id: who asks has a running save in hand.
abbrev pub run_version : Option Running → ℕ
run_version None = 0
run_version (Some run) = run.version

-- the first of these that is there
abbrev pub first_of : Option VaultWork → Option VaultWork → Option VaultWork
first_of None other = other
first_of (Some w) other = Some w

abbrev pub work_if : Bool → VaultWork → Option VaultWork
work_if is_due w = if is_due then Some w else None

abbrev pub next_work : Option Begun → Option VaultWork
next_work None = None
next_work (Some b) = Some (vault_work (next_stage b) b.snapshot.version)

module _ (restored : Option Backup) (guarded : Bool) where
  -- the version that a running save of a guarded life waits to see backed up
  abbrev pub running_version : List Deed → ℕ
  running_version ds = run_version (running (save_steps restored ds))

  -- a discard waits in a guarded life for a save that makes a failed write good
  abbrev pub may_discard : List Deed → Bool
  may_discard ds = not (guarded && write_failed ds)

  -- The vault stage that is due. Nothing where the copy is halted, else the first of these: the next stage of a begun
  -- backup; a Prepare of the running version, where the copy is held and that version isn't safe; a Prepare of the last
  -- version, where the copy is dirty and that version isn't backed up; where no backup is wanted and a gate was opened, a
  -- Drop after a completed Fade, else a Fade.
  abbrev pub due_vault : List Deed → Option VaultWork
  due_vault ds =
      if halted ds then None else
      first_of (next_work (begun restored guarded ds))
      (first_of (work_if (held restored guarded ds && not (safe (running_version ds) ds)) (vault_work Prepare (running_version ds)))
      (first_of (work_if (dirty restored ds && not (backed restored ds)) (vault_work Prepare (last_version restored ds)))
      (work_if (not (wanted restored guarded ds) && opened restored ds && may_discard ds) (vault_work (if faded ds then Drop else Fade) 0))))

-- A save stage: the check of the running save, the write of its version, or the refusal to write it.
pub data SaveWork : Type 0 where
  Check : SaveWork
  Write : (version : ℕ) → SaveWork
  Refuse : (version : ℕ) → SaveWork

-- The save stage of a running save. After its check it is the write, in a guarded life only once its version is safe; where
-- that can't come about because the copy is halted, it is the refusal.
abbrev pub save_work : Bool → Bool → Bool → Option Running → Option SaveWork
save_work guarded is_safe is_halted None = None
save_work guarded is_safe is_halted (Some run) =
    if not run.checked then Some Check
    else if not guarded || is_safe then Some (Write run.version)
    else if is_halted then Some (Refuse run.version)
    else None

module _ (restored : Option Backup) (guarded : Bool) where
  -- the save stage that is due
  abbrev pub due_save : List Deed → Option SaveWork
  due_save ds = save_work guarded (safe (running_version restored guarded ds) ds) (halted ds) (running (save_steps restored ds))

-- The same rules over flags, without the versions.
abbrev pub due_by : Flags → Option Stage
due_by f =
    if f.halted then None
    else if is_some f.begun then f.begun
    else if f.held && not f.safe then Some Prepare
    else if f.dirty && not f.backed then Some Prepare
    else if not (f.dirty || f.held) && f.opened && not f.keep then Some (if f.faded then Drop else Fade)
    else None

abbrev pub next_stage_of : Option Begun → Option Stage
next_stage_of None = None
next_stage_of (Some b) = Some (next_stage b)

module _ (restored : Option Backup) (guarded : Bool) where
  -- The flags of a copy after its deeds. Held and safe speak of the running save of a guarded life: without one neither is set.
  abbrev pub flags_of : List Deed → Flags
  flags_of ds = record {
    dirty = dirty restored ds;
    backed = backed restored ds;
    begun = next_stage_of (begun restored guarded ds);
    halted = halted ds;
    opened = opened restored ds;
    faded = faded ds;
    held = held restored guarded ds;
    safe = held restored guarded ds && safe (running_version restored guarded ds) ds;
    keep = guarded && write_failed ds;
  }
