-- The invariant of one pair that a resource holds, over data alone: what stands on its two sides, by the marks of its backups.
use Rattle.std.specs.Prelude.{◌≡◌, ◌<◌, ◌≤◌, ℕ, ◌*◌, Bool, true, false, List, [], ◌++◌, take, Option, Some, None, is_some, Result, Ok, Err}
use Rattle.hx_events.specs.declared.backup.Backup.{Backup}
use Rattle.hx_events.specs.declared.backup.Side.{Side}
use Rattle.hx_events.specs.declared.backup.Side.TheVariants.{A, B}
use Rattle.hx_record.specs.declared.error.RecordError.{RecordError}
use Rattle.hx_record.specs.Records.{record_in}
use Rattle.hx_rules.specs.Backups.{Snapshot, Begun, backup_of}
use Rattle.hx_rules.specs.Marks.{Marks}
use Rattle.hx_slots.specs.Frames.{Frame}
use Rattle.hx_vault.specs.Sides.{SideState, Shut, Still, is_closed, IsFrame}

-- no image shows anything, now or after a torn write of the gate
abbrev pub Quiet : SideState → Type 0
Quiet (Shut frame) = Unit {0}
Quiet (Still None sure) = Unit {0}
Quiet (Still (Some frame) sure) = ⊥

abbrev pub Reads : Frame → Backup → Type 0
Reads frame backup = record_in frame.form frame.body ≡ Ok backup

-- the stamp that the side shows
abbrev pub side_stamp : SideState → ℕ
side_stamp (Shut frame) = 0
side_stamp (Still None sure) = 0
side_stamp (Still (Some frame) sure) = frame.stamp

-- the home side holds the completed backup, and shows it for sure unless a discard failed
abbrev pub IsHome : List ℕ → ℕ → Bool → Option Snapshot → SideState → Type 0
IsHome resource most undone None side = Quiet side
IsHome resource most undone (Some b) (Shut frame) = ⊥
IsHome resource most undone (Some b) (Still None sure) = ⊥
IsHome resource most undone (Some b) (Still (Some frame) sure) = Reads frame (backup_of resource b) × (frame.stamp ≤ most) × (undone ≡ false → sure ≡ true)

-- beside a home of the stamp s, a frame of the stamp t that reads so doesn't count
abbrev pub LosesTo : Side → ℕ → ℕ → Result Backup RecordError → Type 0
LosesTo home s t (Err error) = Unit {0}
LosesTo A s t (Ok backup) = t ≤ s
LosesTo B s t (Ok backup) = t < s

abbrev pub Loses : Side → ℕ → SideState → Type 0
Loses home s (Shut frame) = Unit {0}
Loses home s (Still None sure) = Unit {0}
Loses home s (Still (Some frame) sure) = LosesTo home s frame.stamp (record_in frame.form frame.body)

-- the other side holds the backup whose Open failed; else it is quiet, or doesn't count beside a home that shows for sure
abbrev pub IsAway : Side → List ℕ → Bool → Option Snapshot → Option Snapshot → ℕ → SideState → Type 0
IsAway home resource undone was (Some t) s (Shut frame) = ⊥
IsAway home resource undone was (Some t) s (Still None sure) = ⊥
IsAway home resource undone was (Some t) s (Still (Some frame) sure) = Reads frame (backup_of resource t)
IsAway home resource undone None None s side = Quiet side
IsAway home resource true (Some b) None s side = Quiet side
IsAway home resource false (Some b) None s side = Loses home s side

-- Some blocks of a begun backup stand behind the gate: the head of its frame, and so many blocks of its content.
pub record IsPutting (resource : List ℕ) (most : ℕ) (was : Option Snapshot) (s : ℕ) (b : Begun) (put : List ℕ) : Type 0 where
  pub head : List ℕ
  pub frame : Frame
  pub whole : IsFrame (head ++ b.snapshot.content) frame
  pub reads : Reads frame (backup_of resource b.snapshot)
  pub within : frame.stamp ≤ most
  pub above : is_some was ≡ true → s < frame.stamp
  pub bytes : put ≡ head ++ take (4096 * b.blocks) b.snapshot.content

-- a begun backup stands behind a closed gate
abbrev pub IsBegun : List ℕ → ℕ → Option Snapshot → ℕ → Option Begun → SideState → Type 0
IsBegun resource most was s None side = Unit {0}
IsBegun resource most was s (Some b) (Still frame sure) = ⊥
IsBegun resource most done s (Some b) (Shut put) = (is_some done ≡ true → s < most) × (b.blocks ≡ 0 → put ≡ []) × (0 < b.blocks → IsPutting resource most done s b put)

-- The pair of a resource with these marks, its home side first.
pub record PairInvariant (resource : List ℕ) (m : Marks) (home : Side) (most : ℕ) (here away : SideState) : Type 0 where
  pub at_home : IsHome resource most m.undone m.done here
  pub at_away : IsAway home resource m.undone m.done m.tried (side_stamp here) away
  pub if_faded : m.faded ≡ true → is_closed away ≡ true
  pub if_begun : IsBegun resource most m.done (side_stamp here) m.begun away
