-- What came of the lines of a script of local history: their answers, the entries, and the marks. It is this project's own.
use Rattle.std.specs.Prelude.{◌≡◌, ◌≢◌, ◌≤◌, ◌<◌, ◌+◌, ◌-◌, ◌^◌, ◌==◌, ℕ, Bool, true, false, ◌&&◌, bytes_eq, count_by, IsTrue, if◌then◌else◌, List, [], ◌∷◌, ◌++◌, length}
use Rattle.hx_events.specs.declared.backup.TheConstants.{CONTENT_MAX}
use Rattle.hx_faults.specs.Faults.{Rose}
use Rattle.hx_history_laws.specs.declared.entry.HistoryEntry.{HistoryEntry}
use Rattle.hx_disk.specs.File.{FileState}
use Rattle.hx_history_laws.specs.Stamps.{NoneAbove}
use Rattle.hx_history_laws.specs.Kept.{Save, joins_last, last_number, next}
use Rattle.hx_history_script.specs.declared.answer.Answer.{Answer}
use Rattle.hx_history_script.specs.declared.answer.Answer.TheVariants.{Kept, Merged, TooLarge, Spent, FaultIn, FaultOut, Crashed}
use Rattle.hx_history_script.specs.declared.script.HistoryLine.{HistoryLine}
use Rattle.hx_history_script.specs.declared.script.HistoryLine.TheVariants.{Saved, Crash}

abbrev pub save_at : ℕ → List ℕ → Save
save_at moment content = record { moment = moment; content = content }

abbrev pub is_save : HistoryLine → Bool
is_save (Saved moment content) = true
is_save (Crash pick) = false

-- the last entry is this save
abbrev pub ends_with : List HistoryEntry → Save → Bool
ends_with [] save = false
ends_with (e ∷ []) save = (e.moment == save.moment) && bytes_eq e.content save.content
ends_with (e ∷ f ∷ es) save = ends_with (f ∷ es) save

-- how a save is answered at which the disk failed, by what is found then
abbrev pub fault_answer : List HistoryEntry → Save → Answer
fault_answer found save = if ends_with found save then FaultIn else FaultOut

-- What came of one line where these entries stood before it and those behind it. A save that a failing disk may have kept is answered by
-- what the history has that is opened again. What a disk that doesn't tell its content shows then isn't said.
abbrev pub IsAnswered : Bool → HistoryLine → Answer → List HistoryEntry → List HistoryEntry → Type 0
IsAnswered tells (Saved moment content) (Kept number) es fs = (joins_last es moment ≡ false) × (fs ≡ next es (save_at moment content)) × (number ≡ last_number fs)
IsAnswered tells (Saved moment content) (Merged number) es fs = (joins_last es moment ≡ true) × (fs ≡ next es (save_at moment content)) × (number ≡ last_number fs)
IsAnswered tells (Saved moment content) TooLarge es fs = (CONTENT_MAX < length content) × (fs ≡ es)
IsAnswered tells (Saved moment content) Spent es fs = (length content ≤ CONTENT_MAX) × (fs ≡ es)
IsAnswered tells (Saved moment content) FaultIn es fs = (ends_with fs (save_at moment content) ≡ true) × (IsTrue tells → fs ≡ next es (save_at moment content))
IsAnswered tells (Saved moment content) FaultOut es fs = (ends_with fs (save_at moment content) ≡ false) × (IsTrue tells → (fs ≡ es) × (es ≢ next es (save_at moment content)))
IsAnswered tells (Crash pick) Crashed es fs = IsTrue tells → fs ≡ es
IsAnswered tells line answer es fs = ⊥

-- the last of these marks, or the first count where there is none
abbrev pub last_mark : ℕ → List ℕ → ℕ
last_mark first [] = first
last_mark first (mark ∷ marks) = last_mark mark marks

-- Marks never fall.
abbrev pub NeverFall : ℕ → List ℕ → Type 0
NeverFall first [] = Unit {0}
NeverFall first (mark ∷ marks) = (first ≤ mark) × NeverFall mark marks

-- a mark of a failed save, which is above the mark before, and one of the opening that followed
pub record HasFailed (before : ℕ) (marks : List ℕ) : Type 0 where
  pub failed : ℕ
  pub opened : ℕ
  pub are : marks ≡ failed ∷ opened ∷ []
  pub rose : Rose before failed

pub record HasOne (marks : List ℕ) : Type 0 where
  pub mark : ℕ
  pub are : marks ≡ mark ∷ []

-- The marks of one answer, behind this mark: one of its save or of its opening, and two where the disk failed.
abbrev pub IsMarked : Answer → ℕ → List ℕ → Type 0
IsMarked FaultIn before marks = HasFailed before marks
IsMarked FaultOut before marks = HasFailed before marks
IsMarked answer before marks = HasOne marks

-- A save is answered `spent` only where so many stamps are the last number of 64 bits.
abbrev pub IsUsedUp : Answer → ℕ → Type 0
IsUsedUp Spent stamps = 2 ^ 64 - 1 ≤ stamps
IsUsedUp answer stamps = Unit {0}

-- One line more came to this answer, its marks and the entries `fs`, behind lines of which this holds.
pub record Comes (tells : Bool) (before : ℕ → FileState) (first : ℕ) (earlier : List HistoryLine) (line : HistoryLine) (answer : Answer) (came : List ℕ → List HistoryEntry → Type 0) (marks : List ℕ) (fs : List HistoryEntry) : Type 0 where
  pub es : List HistoryEntry
  pub front : List ℕ
  pub behind : List ℕ
  pub come : came front es
  pub answered : IsAnswered tells line answer es fs
  pub marked : IsMarked answer (last_mark first front) behind
  pub used_up : IsTrue tells → (most : ℕ) → NoneAbove most before → IsUsedUp answer (most + count_by is_save earlier)
  pub are : marks ≡ front ++ behind

-- These lines came to these answers, each list the newest first, with these marks. The entries were `start` after the first opening, and
-- are es behind the last line. At first the disk had the files `before`, and its count of faults was `first`. A save is answered `spent`
-- only where the greatest stamp that might have shown then, and the saves before it, come to the last number of 64 bits.
abbrev pub HaveCome : Bool → (ℕ → FileState) → ℕ → List HistoryEntry → List HistoryLine → List Answer → List ℕ → List HistoryEntry → Type 0
HaveCome tells before first start [] [] marks es = HasOne marks × (es ≡ start)
HaveCome tells before first start (line ∷ lines) (answer ∷ answers) marks es = Comes tells before first lines line answer (λ front entries. HaveCome tells before first start lines answers front entries) marks es
HaveCome tells before first start lines answers marks es = ⊥

-- the answers to saves that the history has
abbrev pub is_in : Answer → Bool
is_in (Kept number) = true
is_in (Merged number) = true
is_in FaultIn = true
is_in answer = false

abbrev pub with_saved : Bool → HistoryLine → List Save → List Save
with_saved true (Saved moment content) saves = saves ++ save_at moment content ∷ []
with_saved is line saves = saves

-- The saves of these lines that were answered `kept`, `merged` or `fault in`, the oldest first; lines and answers are read newest first.
abbrev pub saves_in : List HistoryLine → List Answer → List Save
saves_in (line ∷ lines) (answer ∷ answers) = with_saved (is_in answer) line (saves_in lines answers)
saves_in lines answers = []
