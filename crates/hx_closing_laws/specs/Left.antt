-- How many stages the Closer may still have to do of one resource, at most.
use Rattle.std.specs.Prelude.{ℕ, ◌+◌, ◌-◌, ◌==◌, not, Bool, true, false, ◌&&◌, ◌||◌, List, if◌then◌else◌, Option, Some, None, is_some}
use Rattle.hx_events.specs.declared.backup.Backup.{Backup}
use Rattle.hx_rules.specs.declared.saves.QueuedSave.{QueuedSave}
use Rattle.hx_rules.specs.declared.saves.Running.{Running}
use Rattle.hx_rules.specs.Entries.{Deed, own}
use Rattle.hx_rules.specs.Versions.{last_version}
use Rattle.hx_rules.specs.Copies.{dirty}
use Rattle.hx_rules.specs.Saves.{running, queued, save_steps}
use Rattle.hx_rules.specs.Backups.{Begun, begun, blocks_of, halted, backed, opened, faded, safe}
use Rattle.hx_rules.specs.Legal.{restored_at}
use Rattle.hx_lives.specs.Course.{Course, opening}

-- the check and the write of the running save
abbrev pub run_left : Option Running → ℕ
run_left None = 0
run_left (Some run) = if run.checked then 1 else 2

-- those of the save that waits
abbrev pub queue_left : Option QueuedSave → ℕ
queue_left None = 0
queue_left (Some q) = 2

-- the blocks that a begun backup lacks, and its Open
abbrev pub begun_left : Option Begun → ℕ
begun_left None = 0
begun_left (Some b) = (blocks_of b.size - b.blocks) + 1

-- a whole backup, unless it is there: a Prepare, the 128 blocks of the longest content, an Open
abbrev pub backup_left : Bool → ℕ
backup_left is_there = if is_there then 0 else 130

-- a Fade and a Drop
abbrev pub discard_left : Bool → Bool → ℕ
discard_left false is_faded = 0
discard_left true is_faded = if is_faded then 1 else 2

-- Of a copy that isn't halted, where no save runs: the rest of a begun backup, and one of the last version if that is a
-- later one; else one of the last version, where the copy is dirty; else a discard.
abbrev pub work_left : Option Begun → Bool → Bool → Bool → Bool → ℕ → ℕ
work_left (Some b) is_dirty is_backed is_opened is_faded last = begun_left (Some b) + backup_left (b.snapshot.version == last)
work_left None true is_backed is_opened is_faded last = backup_left is_backed
work_left None false is_backed is_opened is_faded last = discard_left is_opened is_faded

-- the vault stages that may come where no save runs: of a halted copy none
abbrev pub vault_left : Bool → Option Begun → Bool → Bool → Bool → Bool → ℕ → ℕ
vault_left true begun_now is_dirty is_backed is_opened is_faded last = 0
vault_left false begun_now is_dirty is_backed is_opened is_faded last = work_left begun_now is_dirty is_backed is_opened is_faded last

-- The backup that a guarded save of the version v may wait for, unless the copy is halted: none where that of v is begun,
-- or where v is safe and, if it is the last version, backed up.
abbrev pub wait_left : Bool → Option Begun → Bool → Bool → ℕ → ℕ → ℕ
wait_left true begun_now is_backed is_safe v last = 0
wait_left false (Some b) is_backed is_safe v last = backup_left (b.snapshot.version == v)
wait_left false None is_backed is_safe v last = backup_left (is_safe && (not (v == last) || is_backed))

-- What may come after a guarded save: where one waits, a backup for that one, which is of the last version, and a discard;
-- where none waits, a discard after a save of the last version, and else a backup of that.
abbrev pub after_left : Option QueuedSave → Bool → ℕ
after_left (Some q) is_last = 132
after_left None true = 2
after_left None false = 130

-- a guarded save runs
abbrev pub held_by : Bool → Option Running → Bool
held_by guarded run = elim guarded [ true ↦ is_some run | false ↦ false ]

-- The stages that may come. In a life that isn't guarded a running save waits for no backup, so all vault stages come after it.
abbrev pub left_by : Option Running → Bool → Option QueuedSave → Option Begun → Bool → Bool → Bool → Bool → Bool → (ℕ → Bool) → ℕ → ℕ
left_by None guarded queue begun_now is_halted is_dirty is_backed is_opened is_faded is_safe last = vault_left is_halted begun_now is_dirty is_backed is_opened is_faded last
left_by (Some run) false queue begun_now is_halted is_dirty is_backed is_opened is_faded is_safe last = run_left (Some run) + queue_left queue + begun_left begun_now + 130
left_by (Some run) true queue begun_now is_halted is_dirty is_backed is_opened is_faded is_safe last =
    run_left (Some run) + queue_left queue + begun_left begun_now + wait_left is_halted begun_now is_backed (is_safe run.version) run.version last + after_left queue (run.version == last)

module _ (restored : Option Backup) (guarded : Bool) where
  abbrev pub left_after : List Deed → ℕ
  left_after ds = left_by (running (save_steps restored ds)) guarded (queued (save_steps restored ds)) (begun restored guarded ds) (halted ds) (dirty restored ds) (backed restored ds) (opened restored ds) (faded ds) (λ v. safe v ds) (last_version restored ds)

  -- How many stages the Closer may still have to do of the resource after these deeds, at most.
  unfoldable pub stages_left : List Deed → ℕ
  stages_left ds = left_after ds

-- the same of the resource c of a life
abbrev pub left_at : Course → ℕ → ℕ
left_at course c = stages_left (restored_at (opening course) c) course.guarded (own c course.entries)
