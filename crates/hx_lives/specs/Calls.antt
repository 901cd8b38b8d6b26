-- What the calls of a registry do to the life and to the disk.
use Rattle.std.specs.Prelude.{◌≡◌, ◌≤◌, ℕ, ◌+◌, ◌*◌, Bool, true, false, IsTrue, if◌then◌else◌, List, [], ◌∷◌, ◌++◌, length, Option, Some, None, Result, Ok, Err}
use Rattle.hx_events.specs.declared.event.Actor.{Actor}
use Rattle.hx_events.specs.declared.event.Event.{Event}
use Rattle.hx_events.specs.declared.life.Ended.{Ended}
use Rattle.hx_events.specs.declared.life.Ended.TheVariants.{Crash, Cut}
use Rattle.hx_events.specs.declared.life.Entry.{Entry}
use Rattle.hx_events.specs.declared.outcome.Outcome.{Outcome}
use Rattle.hx_rules.specs.Interleavings.{is_end, are_closing}
use Rattle.hx_rules.specs.Legal.{is_quiet, is_row, with_restored}
use Rattle.hx_lives.specs.Course.{Course, start_of, Past, with_entry, opening, last_moment, last_faults}
use Rattle.hx_lives.specs.Holds.{LifeHolds}
use Rattle.hx_lives.specs.Chained.{IsOpened, OnlySyncs}
use Rattle.hx_lives.specs.Quiet.{is_quiet_before_quit}
use Rattle.hx_lives.specs.State.{RegistryState}

-- with these entries more, the newest first
abbrev pub with_entries : Course → List Entry → Course
with_entries c es = record { names = c.names; base = c.base; guarded = c.guarded; moment = c.moment; faults = c.faults; entries = es ++ c.entries }

-- The disk has gone on: past moments stay as they were, and the count of faults doesn't fall. It holds of every disk.
pub record HasGoneOn {D : Type 0} (time : D → ℕ) (past : D → Past) (failures : D → ℕ) (old new : D) : Type 0 where
  pub later : time old ≤ time new
  pub kept : (t f : ℕ) → t ≤ time old → past new t f ≡ past old t f
  pub no_fewer : failures old ≤ failures new

-- A vault was opened on the disk: a life begins, guarded or not, over the declared names and the restored ones.
pub record Begins {D : Type 0} (time : D → ℕ) (failures : D → ℕ) (guarded : Bool) (declared : List (List ℕ)) (disk : D) (r : RegistryState D) : Type 0 where
  pub named : r.course.names ≡ with_restored declared r.course.base
  pub guarded_so : r.course.guarded ≡ guarded
  pub empty : r.course.entries ≡ []
  pub moment : r.course.moment ≡ time r.disk
  pub no_fewer : failures disk ≤ r.course.faults
  pub counted : r.course.faults ≤ failures r.disk

-- The disk is handed back where no life began: it has gone on, and where it tells its content it did nothing but sync.
pub record HandsBack {D : Type 0} (tells : Bool) (time : D → ℕ) (past : D → Past) (failures : D → ℕ) (disk back : D) : Type 0 where
  pub runs : HasGoneOn time past failures disk back
  pub syncs : IsTrue tells → OnlySyncs (past back) (time disk) (time back)

-- one entry more, of this actor's event, which came to this
pub record AddsEntry (actor : Actor) (event : Event) (outcome : Outcome) (old new : Course) : Type 0 where
  pub entry : Entry
  pub by_actor : entry.actor ≡ actor
  pub of_event : entry.event ≡ event
  pub came_to : entry.outcome ≡ outcome
  pub row : is_row (opening old) old.entries event outcome ≡ true
  pub grown : new ≡ with_entry old entry

-- stages of the Closer more, some that were due
pub record AddsStages (old new : Course) : Type 0 where
  pub stages : List Entry
  pub grown : new ≡ with_entries old stages
  pub close : are_closing (opening old) stages old.entries ≡ true

-- stages of the Closer more, all that were due
pub record Settles (old new : Course) : Type 0 where
  pub stages : List Entry
  pub grown : new ≡ with_entries old stages
  pub close : are_closing (opening old) stages old.entries ≡ true
  pub quiet : is_quiet (opening old) new.entries ≡ true

-- How many of the Closer's stages one resource may want at the end of a life: those of a save and of one that waits, of a
-- backup that is begun and of one more; in a guarded life also of the backup that a save waits for.
abbrev pub stages_at_most : Bool → ℕ
stages_at_most guarded = if guarded then 400 else 263

-- no more entries than that for each resource
abbrev pub AddsFew : Course → Course → Type 0
AddsFew old new = length new.entries ≤ length old.entries + stages_at_most old.guarded * length old.names

-- the outcome of the newest entry
abbrev pub last_outcome : List Entry → Option Outcome
last_outcome [] = None
last_outcome (e ∷ es) = Some e.outcome

-- the end of a life more: the Closer's stages until nothing is due, and a question whether the program may end, unless
-- that was the last entry
pub record Quits (old new : Course) : Type 0 where
  pub end : List Entry
  pub grown : new ≡ with_entries old end
  pub ends : is_end (opening old) end old.entries ≡ true
  pub quiet : is_quiet_before_quit (opening old) new.entries ≡ true

-- how a life ends that is told to crash: it is cut off where memory for that runs out
abbrev pub crash_end : {E : Type 0} → ℕ → Result Unit E → Ended
crash_end pick (Ok x) = Crash pick
crash_end pick (Err e) = Cut

-- an end other than a crash
abbrev pub IsNoCrash : Ended → Type 0
IsNoCrash (Crash pick) = ⊥
IsNoCrash ended = Unit {0}

-- What holds of a life that goes on, up to the present moment of its disk.
pub record IsLivedSoFar {D : Type 0} (tells : Bool) (time : D → ℕ) (past : D → Past) (failures : D → ℕ) (course : Course) (disk : D) : Type 0 where
  pub holds : LifeHolds tells (past disk) (time disk) course
  pub present : time disk ≡ last_moment course
  pub counted : last_faults course ≤ failures disk
  pub opened : IsTrue tells → IsOpened (past disk) (start_of course)
