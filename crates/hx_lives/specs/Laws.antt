-- Laws of lives, as statements.
use Rattle.std.specs.Prelude.{◌≡◌, ◌≤◌, ℕ, Bool, true, IsTrue, List}
use Rattle.hx_disk.specs.File.{FileState, IsImage, IsSound, Crashed}
use Rattle.hx_disk.specs.Disk.{Elapses, ChangesNothing}
use Rattle.hx_faults.specs.Faults.{Rose}
use Rattle.hx_events.specs.declared.life.Ended.TheVariants.{Crash, Cut}
use Rattle.hx_events.specs.declared.life.Entry.{Entry}
use Rattle.hx_events.specs.declared.life.Life.{Life}
use Rattle.hx_rules.specs.Legal.{is_row}
use Rattle.hx_lives.specs.Calls.{HasGoneOn, IsLivedSoFar, IsNoCrash}
use Rattle.hx_lives.specs.Carried.{AgreesTo}
use Rattle.hx_lives.specs.Caused.{is_fault}
use Rattle.hx_lives.specs.Chained.{OnlySyncs, GoesByCrash, IsLived, AreLived}
use Rattle.hx_lives.specs.Course.{Course, Past, course_of, last_moment, opening, start_of, with_entry}
use Rattle.hx_lives.specs.CrashSafe.{IsSafe, IsSafeImage}
use Rattle.hx_lives.specs.Ends.{finished, crashed, cut_off}
use Rattle.hx_lives.specs.Events.{EventOwes, lived_with_entry}
use Rattle.hx_lives.specs.Finds.{reads_safe, safe_behind_crash}
use Rattle.hx_lives.specs.Holds.{readings}
use Rattle.hx_lives.specs.Lasting.{lives_kept, lives_on}

-- Lives that have ended hold for good: past moments stay as they were.
abbrev pub LivesAreKept : Type 0
LivesAreKept = (picked : ℕ → FileState → List ℕ) (tells : Bool) (old new : Past) (start b : ℕ) (lives : List Life) → AgreesTo b old new → AreLived picked tells old start b lives → AreLived picked tells new start b lives

-- While the disk does nothing but sync, they last on, up to the next opening or the return.
abbrev pub LivesLastOn : Type 0
LivesLastOn = (picked : ℕ → FileState → List ℕ) (tells : Bool) (past : Past) (start b z : ℕ) (lives : List Life) → b ≤ z → (IsTrue tells → OnlySyncs past b z) → AreLived picked tells past start b lives → AreLived picked tells past start z lives

-- What the next opening reads was allowed at the end of the life before.
abbrev pub OpeningFindsAllowed : Type 0
OpeningFindsAllowed = (past : Past) (t : ℕ) (c : Course) → ((t f : ℕ) → IsSound (past t f)) → IsSafe (start_of c) c.entries (past t) → IsSafeImage (start_of c) c.entries (readings (past t))

-- Behind a crash the disk goes on to show what was allowed.
abbrev pub CrashLeavesAllowed : Type 0
CrashLeavesAllowed = (picked : ℕ → FileState → List ℕ) (past : Past) (pick z b : ℕ) (c : Course) → ((t f : ℕ) → IsSound (past t f)) → ((pick : ℕ) (file : FileState) → IsSound file → IsImage file (picked pick file))
    → last_moment c ≤ z → IsSafe (start_of c) c.entries (past z) → (goes : GoesByCrash picked past pick z b) → (t : ℕ) → goes.after ≤ t → t ≤ b → IsSafe (start_of c) c.entries (past t)

-- An event that owes nothing more makes the life longer by its entry.
abbrev pub EntryIsLived : {D : Type 0} → Bool → (D → ℕ) → (D → Past) → (D → ℕ) → Type 0
EntryIsLived {D} tells time past failures = (c : Course) (e : Entry) (old new : D) → IsLivedSoFar tells time past failures c old → HasGoneOn time past failures old new → e.moment ≡ time new → e.faults ≡ failures new
    → is_row (opening c) c.entries e.event e.outcome ≡ true → (is_fault e.outcome ≡ true → Rose (failures old) (failures new)) → (IsTrue tells → EventOwes time past c e old new)
    → IsLivedSoFar tells time past failures (with_entry c e) new

-- A life that ends otherwise than by a crash is one that was lived.
abbrev pub FinishedIsLived : {D : Type 0} → (ℕ → FileState → List ℕ) → Bool → (D → ℕ) → (D → Past) → (D → ℕ) → Type 0
FinishedIsLived {D} picked tells time past failures = (course : Course) (disk : D) (life : Life) → course_of life ≡ course → IsNoCrash life.ended → IsLivedSoFar tells time past failures course disk → IsLived picked tells (past disk) (time disk) life

-- So is one that a crash ends, with what the pick leaves.
abbrev pub CrashedIsLived : {D : Type 0} → (ℕ → FileState → List ℕ) → Bool → (D → ℕ) → (D → Past) → (D → ℕ → FileState) → (D → ℕ) → Type 0
CrashedIsLived {D} picked tells time past now failures = (course : Course) (old new : D) (pick : ℕ) (life : Life) → course_of life ≡ course → life.ended ≡ Crash pick → IsLivedSoFar tells time past failures course old
    → Elapses time past old new → (IsTrue tells → (f : ℕ) → Crashed (picked pick (now old f)) (now new f)) → IsLived picked tells (past new) (time new) life

pub lives_are_kept : LivesAreKept
lives_are_kept = lives_kept

pub lives_last_on : LivesLastOn
lives_last_on = lives_on

pub opening_finds_allowed : OpeningFindsAllowed
opening_finds_allowed = reads_safe

pub crash_leaves_allowed : CrashLeavesAllowed
crash_leaves_allowed = safe_behind_crash
