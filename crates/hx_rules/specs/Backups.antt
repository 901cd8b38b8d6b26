-- The backups of a working copy after the deeds of its resource, newest first. The stages of a backup, what is halted and
-- what a crash may bring back are this project's own rules.
use Rattle.std.specs.Prelude.{ℕ, ◌+◌, ◌/◌, ◌==◌, max, nat_le, Bool, true, false, ◌||◌, List, [], ◌∷◌, if◌then◌else◌, Option, Some, None, is_some}
use Rattle.hx_etag.specs.declared.stat.Stat.{Stat}
use Rattle.hx_events.specs.declared.backup.Backup.{Backup}
use Rattle.hx_events.specs.declared.event.Stage.TheVariants.{Prepare, Body, Open, Fade, Drop}
use Rattle.hx_events.specs.declared.outcome.Outcome.{Outcome}
use Rattle.hx_events.specs.declared.outcome.Outcome.TheVariants.{Closed, Saved, WriteFault, StageOk, StageFault, Spent}
use Rattle.hx_rules.specs.Entries.{Deed}
use Rattle.hx_rules.specs.Versions.{last_version, versions, version_at, adds_version}
use Rattle.hx_rules.specs.Copies.{registered, dirty, kept}
use Rattle.hx_rules.specs.Saves.{running, save_steps}

-- What a backup holds of its copy: a version with its content, and the stat that the copy kept.
pub record Snapshot : Type 0 where
  pub version : ℕ
  pub base : Option Stat
  pub content : List ℕ

abbrev pub snapshot : ℕ → Option Stat → List ℕ → Snapshot
snapshot version base content = record { version = version; base = base; content = content }

-- the backup of the resource that this is
abbrev pub backup_of : List ℕ → Snapshot → Backup
backup_of resource s = record { resource = resource; base = s.base; content = s.content }

-- a restored copy's backup is of its first version
abbrev pub restored_snapshot : Option Backup → Option Snapshot
restored_snapshot None = None
restored_snapshot (Some b) = Some (snapshot 1 b.base b.content)

-- what an outcome makes of the stat at the last Prepare
abbrev pub prepared_base_after : Outcome → Option Stat → Option Stat → Option Stat
prepared_base_after (StageOk Prepare v) now was = now
prepared_base_after _ now was = was

module _ (restored : Option Backup) where
  -- The stat that the copy kept at the last completed Prepare. Without one it is none; in a legal history each Open has a
  -- Prepare before it.
  abbrev pub prepared_base : List Deed → Option Stat
  prepared_base [] = None
  prepared_base (d ∷ ds) = prepared_base_after d.outcome (kept restored ds) (prepared_base ds)

  -- What an Open stage of the version v after these deeds opens: that version, with the stat that the copy kept at the
  -- last completed Prepare.
  abbrev pub taken : ℕ → List Deed → Snapshot
  taken v ds = snapshot v (prepared_base ds) (version_at v (versions restored ds)).content

-- what an outcome makes of the completed backup
abbrev pub done_after : Outcome → (ℕ → Snapshot) → Option Snapshot → Option Snapshot
done_after (StageOk Open v) opens was = Some (opens v)
done_after (StageOk Drop v) opens was = None
done_after _ opens was = was

-- what an outcome makes of the backup whose Open failed
abbrev pub tried_after : Outcome → (ℕ → Snapshot) → Option Snapshot → Option Snapshot
tried_after (StageFault Open v) opens was = Some (opens v)
tried_after (StageOk Open v) opens was = None
tried_after (StageOk Prepare v) opens was = None
tried_after (StageOk Fade v) opens was = None
tried_after _ opens was = was

-- what an outcome makes of a failed discard
abbrev pub undone_after : Outcome → Bool → Bool
undone_after (StageFault Drop v) was = true
undone_after (StageOk Open v) was = false
undone_after (StageOk Drop v) was = false
undone_after _ was = was

-- A discard was tried and failed, and since then no backup was completed and no discard.
abbrev pub undone : List Deed → Bool
undone [] = false
undone (d ∷ ds) = undone_after d.outcome (undone ds)

-- what an outcome makes of an opened gate
abbrev pub opened_after : Outcome → Bool → Bool
opened_after (StageOk Open v) was = true
opened_after (StageFault Open v) was = true
opened_after (StageOk Drop v) was = false
opened_after _ was = was

-- Something changes the copy: a new version, a close, a completed save.
abbrev pub is_change : Outcome → Bool
is_change Closed = true
is_change (Saved v x) = true
is_change outcome = adds_version outcome

-- what an outcome makes of a halt
abbrev pub halted_after : Outcome → Bool → Bool
halted_after (StageFault s v) was = true
halted_after Spent was = true
halted_after outcome was = if is_change outcome then false else was

-- A vault stage was answered by a fault or Spent since the copy's last change, or since the opening where there is none.
abbrev pub halted : List Deed → Bool
halted [] = false
halted (d ∷ ds) = halted_after d.outcome (halted ds)

-- what an outcome makes of a completed Fade
abbrev pub faded_after : Outcome → Bool → Bool
faded_after (StageOk Fade v) was = true
faded_after (StageOk s v) was = false
faded_after (StageFault s v) was = false
faded_after Spent was = false
faded_after _ was = was

-- The last vault entry other than Idle is a completed Fade.
abbrev pub faded : List Deed → Bool
faded [] = false
faded (d ∷ ds) = faded_after d.outcome (faded ds)

-- what an outcome makes of a version's safety
abbrev pub safe_after : ℕ → Outcome → Bool → Bool
safe_after v (StageOk Open w) was = nat_le v w || was
safe_after v (StageOk Drop w) was = false
safe_after v (StageFault Drop w) was = false
safe_after v _ was = was

-- A backup of the version v, or of a later one, was completed, and no discard has been completed or tried since.
abbrev pub safe : ℕ → List Deed → Bool
safe v [] = false
safe v (d ∷ ds) = safe_after v d.outcome (safe v ds)

-- what an outcome makes of a failed write
abbrev pub write_failed_after : Outcome → Bool → Bool
write_failed_after (WriteFault v) was = true
write_failed_after (Saved v x) was = false
write_failed_after _ was = was

-- A write has failed, and no save was completed since.
abbrev pub write_failed : List Deed → Bool
write_failed [] = false
write_failed (d ∷ ds) = write_failed_after d.outcome (write_failed ds)

-- A backup that is begun: what it holds, the size of its version, and how many blocks of its body are written.
pub record Begun : Type 0 where
  pub snapshot : Snapshot
  pub size : ℕ
  pub blocks : ℕ

abbrev pub begun_of : Snapshot → ℕ → ℕ → Begun
begun_of s size blocks = record { snapshot = s; size = size; blocks = blocks }

abbrev pub one_block_more : Option Begun → Option Begun
one_block_more None = None
one_block_more (Some b) = Some (begun_of b.snapshot b.size (b.blocks + 1))

-- A backup goes on while its copy is wanted, and ends by its Open, or by any fault of a stage.
abbrev pub begun_after : Outcome → Bool → (ℕ → Begun) → Option Begun → Option Begun
begun_after (StageOk Prepare v) is_wanted prepares was = Some (prepares v)
begun_after (StageOk Open v) is_wanted prepares was = None
begun_after (StageFault s v) is_wanted prepares was = None
begun_after (StageOk Body v) is_wanted prepares was = if is_wanted then one_block_more was else None
begun_after _ is_wanted prepares was = if is_wanted then was else None

-- How many blocks of 4,096 bytes a content of this size has: at least one.
abbrev pub blocks_of : ℕ → ℕ
blocks_of size = max 1 ((size + 4095) / 4096)

module _ (restored : Option Backup) where
  -- The completed backup: that of the last Open stage answered ok with no completed Drop after it. A restored copy begins
  -- with its backup.
  abbrev pub done : List Deed → Option Snapshot
  done [] = restored_snapshot restored
  done (d ∷ ds) = done_after d.outcome (λ v. taken restored v ds) (done ds)

  -- The backup whose Open stage failed: that of the last such stage, where no completed Open, Prepare or Fade follows it.
  abbrev pub tried : List Deed → Option Snapshot
  tried [] = None
  tried (d ∷ ds) = tried_after d.outcome (λ v. taken restored v ds) (tried ds)

  -- A gate was opened, or that was tried, since the last completed Drop. A restored copy has an opened one.
  abbrev pub opened : List Deed → Bool
  opened [] = is_some restored
  opened (d ∷ ds) = opened_after d.outcome (opened ds)

  -- The resource holds a pair of slot files: its copy is registered, or something of it may show there.
  abbrev pub holds : List Deed → Bool
  holds ds = registered restored ds || opened ds

  -- The completed backup is of the last version.
  abbrev pub backed : List Deed → Bool
  backed ds = elim (done ds) [ None ↦ false | Some b ↦ b.version == last_version restored ds ]

  -- The life is guarded and a save of the copy runs.
  abbrev pub held : Bool → List Deed → Bool
  held guarded ds = elim guarded [ true ↦ is_some (running (save_steps restored ds)) | false ↦ false ]

  -- A backup of the copy is wanted: it is dirty, or its running save waits for one.
  abbrev pub wanted : Bool → List Deed → Bool
  wanted guarded ds = dirty restored ds || held guarded ds

  -- what a Prepare of the version v after these deeds begins
  abbrev pub prepared : ℕ → List Deed → Begun
  prepared v ds = begun_of (snapshot v (kept restored ds) (version_at v (versions restored ds)).content) (version_at v (versions restored ds)).size 0

  -- The backup that is begun: by a Prepare answered ok, after which there is no completed Open, no fault of a stage, and
  -- no deed after which the copy isn't wanted.
  abbrev pub begun : Bool → List Deed → Option Begun
  begun guarded [] = None
  begun guarded (d ∷ ds) = begun_after d.outcome (wanted guarded (d ∷ ds)) (λ v. prepared v ds) (begun guarded ds)
