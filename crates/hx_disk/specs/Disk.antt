-- How a disk goes from moment to moment, and its room.
use Rattle.std.specs.Prelude.{◌≡◌, ◌≢◌, ◌≤◌, ℕ, ◌+◌, List}
use Rattle.hx_disk.specs.File.{FileState, IsImage}

-- The room that the last reserve has made: for so many calls, on this file up to this end.
pub record Room : Type 0 where
  pub file : ℕ
  pub end : ℕ
  pub calls : ℕ

-- The first room is part of the second: on the same file no further end, and no more calls.
pub record IsRoomWithin (part whole : Room) : Type 0 where
  pub file : part.file ≡ whole.file
  pub end : part.end ≤ whole.end
  pub calls : part.calls ≤ whole.calls

-- Calls have used up at most so many of those that there is room for, and made no new room.
pub record UsesCalls (count : ℕ) (old new : Room) : Type 0 where
  pub file : new.file ≡ old.file
  pub end : new.end ≡ old.end
  pub calls : old.calls ≤ new.calls + count
  pub no_more : new.calls ≤ old.calls

-- Time goes on by at most one moment, and past moments stay as they were.
-- So a crash inside a call finds the moment before the call or the one after it.
pub record Elapses {D : Type 0} (moment : D → ℕ) (past : D → ℕ → ℕ → FileState) (old new : D) : Type 0 where
  pub later : moment old ≤ moment new
  pub by_one : moment new ≤ moment old + 1
  pub kept : (t f : ℕ) → t ≤ moment old → past new t f ≡ past old t f

-- One call on this file, which changes no other file.
pub record ChangesOnly {D : Type 0} (moment : D → ℕ) (past : D → ℕ → ℕ → FileState) (now : D → ℕ → FileState) (file : ℕ) (old new : D) : Type 0 where
  pub time : Elapses moment past old new
  pub others : (f : ℕ) → f ≢ file → now new f ≡ now old f

-- A call that changes nothing of what the disk holds or held.
pub record ChangesNothing {D : Type 0} (moment : D → ℕ) (past : D → ℕ → ℕ → FileState) (now : D → ℕ → FileState) (old new : D) : Type 0 where
  pub still : moment new ≡ moment old
  pub kept : (t f : ℕ) → t ≤ moment old → past new t f ≡ past old t f
  pub same : (f : ℕ) → now new f ≡ now old f

-- A crash may leave of each file what the image says of it. Files are independent of each other.
abbrev pub IsDiskImage : (ℕ → FileState) → (ℕ → List ℕ) → Type 0
IsDiskImage files image = (f : ℕ) → IsImage (files f) (image f)

-- A crash at some moment from a to b might have left this image of the whole disk.
abbrev pub Left : (ℕ → ℕ → FileState) → ℕ → ℕ → (ℕ → List ℕ) → Type 0
Left past a b image = (t : ℕ) × (a ≤ t) × (t ≤ b) × IsDiskImage (past t) image

-- A run of calls on this file: P held of it at each moment, and the other files stayed as they were.
pub record Through {D : Type 0} (moment : D → ℕ) (past : D → ℕ → ℕ → FileState) (file : ℕ) (P : FileState → Type 0) (old new : D) : Type 0 where
  pub later : moment old ≤ moment new
  pub kept : (t f : ℕ) → t ≤ moment old → past new t f ≡ past old t f
  pub each : (t : ℕ) → moment old ≤ t → t ≤ moment new → P (past new t file)
  pub others : (t f : ℕ) → f ≢ file → moment old ≤ t → t ≤ moment new → past new t f ≡ past old (moment old) f

-- A run of calls on any files: at each moment P held of each of them.
pub record ThroughAll {D : Type 0} (moment : D → ℕ) (past : D → ℕ → ℕ → FileState) (P : ℕ → FileState → Type 0) (old new : D) : Type 0 where
  pub later : moment old ≤ moment new
  pub kept : (t f : ℕ) → t ≤ moment old → past new t f ≡ past old t f
  pub each : (t f : ℕ) → moment old ≤ t → t ≤ moment new → P f (past new t f)
