-- A script of local history that is being played, and how far it came.
use Rattle.std.specs.Prelude.{◌≡◌, ◌≢◌, ◌≤◌, ◌<◌, ◌+◌, ◌^◌, ◌⊎◌, ℕ, Bool, count_by, IsTrue, List, [], ◌∷◌, ◌++◌, length, reverse}
use Rattle.hx_disk.specs.File.{FileState}
use Rattle.hx_faults.specs.Faults.{Rose}
use Rattle.hx_lives.specs.Calls.{HandsBack, HasGoneOn}
use Rattle.hx_lives.specs.Course.{Past}
use Rattle.hx_lives.specs.Holds.{readings}
use Rattle.hx_slots.specs.Raws.{greatest_stamp}
use Rattle.hx_history_laws.specs.declared.entry.HistoryEntry.{HistoryEntry}
use Rattle.hx_history_laws.specs.Entries.{AreEntries}
use Rattle.hx_history_laws.specs.Having.{HaveEither, HaveEntries}
use Rattle.hx_history_laws.specs.Histories.{AreHistories, HasEmptyVault}
use Rattle.hx_history_laws.specs.Kept.{Save, kept, next}
use Rattle.hx_history_laws.specs.Opening.{HasHistory}
use Rattle.hx_history_laws.specs.PairRuns.{Moments}
use Rattle.hx_history_laws.specs.Stamps.{AreOwn, NoneAbove}
use Rattle.hx_history_laws.specs.States.{HistoryState}
use Rattle.hx_history_play.specs.Answered.{HaveCome, NeverFall, is_save, last_mark, save_at, saves_in}
use Rattle.hx_history_play.specs.declared.account.Halt.{Halt}
use Rattle.hx_history_play.specs.declared.account.Halt.TheVariants.{Done, OpenFault, NotHistory, NoMemory}
use Rattle.hx_history_script.specs.declared.answer.Answer.{Answer}
use Rattle.hx_history_script.specs.Texts.{history_text}
use Rattle.hx_history_script.specs.declared.script.HistoryLine.{HistoryLine}
use Rattle.hx_history_script.specs.declared.script.HistoryLine.TheVariants.{Saved, Crash}

-- what contracts see of the answers and marks so far, and of the room for more
pub record AccountState : Type 0 where
  pub answers : List Answer
  pub marks : List ℕ
  pub answer_room : ℕ
  pub mark_room : ℕ

-- These lines, the newest first, came to these answers and marks on files that were `before` at first. The entries behind them are es:
-- those that were found at first, with the saves that were kept; where the vault was empty at first, what is kept of just these saves.
pub record HasCome (tells : Bool) (first : ℕ) (before : ℕ → FileState) (lines : List HistoryLine) (answers : List Answer) (marks : List ℕ) (es : List HistoryEntry) : Type 0 where
  pub start : List HistoryEntry
  pub found : IsTrue tells → AreEntries (readings before) start
  pub come : HaveCome tells before first start lines answers marks es
  pub kept : IsTrue tells → HasEmptyVault before → es ≡ kept (saves_in lines answers)

-- A history is open behind these lines.
pub record IsOpen {D : Type 0} (tells : Bool) (time : D → ℕ) (past : D → Past) (now : D → ℕ → FileState) (failures : D → ℕ) (disk : D) (lines : List HistoryLine) (answers : List Answer) (marks : List ℕ) (h : HistoryState D) : Type 0 where
  pub come : HasCome tells (failures disk) (now disk) lines (reverse answers) marks h.entries
  pub few : IsTrue tells → length h.entries ≤ 50
  pub rises : NeverFall (failures disk) marks
  pub counted : last_mark (failures disk) marks ≤ failures h.disk
  pub bounded : last_mark (failures disk) marks < 2 ^ 64
  pub stamped : IsTrue tells → (most : ℕ) → NoneAbove most (now disk) → h.stamp ≤ most + count_by is_save lines
  pub since : IsTrue tells → h.opened ≤ time h.disk
  pub own : IsTrue tells → AreHistories (now disk) → AreOwn (past h.disk h.opened)
  pub runs : IsTrue tells → HasGoneOn time past failures disk h.disk

-- The history is to be opened again behind these lines, on a disk that has the entries es or fs.
pub record IsClosed {D : Type 0} (tells : Bool) (time : D → ℕ) (past : D → Past) (now : D → ℕ → FileState) (failures : D → ℕ) (disk : D) (lines : List HistoryLine) (marks : List ℕ) (es fs : List HistoryEntry) (back : D) : Type 0 where
  pub rises : NeverFall (failures disk) marks
  pub counted : last_mark (failures disk) marks ≤ failures back
  pub bounded : last_mark (failures disk) marks < 2 ^ 64
  pub have : IsTrue tells → HaveEither es fs (now back)
  pub stamped : IsTrue tells → (most : ℕ) → NoneAbove most (now disk) → NoneAbove (most + count_by is_save lines) (now back)
  pub own : IsTrue tells → AreHistories (now disk) → AreHistories (now back)
  pub runs : IsTrue tells → HasGoneOn time past failures disk back

-- Behind these lines the history took a save at which the disk failed, and handed the disk out.
pub record HasFaulted {D : Type 0} (tells : Bool) (time : D → ℕ) (past : D → Past) (now : D → ℕ → FileState) (failures : D → ℕ) (disk : D) (lines : List HistoryLine) (answers : List Answer) (marks : List ℕ) (h : HistoryState D) (save : Save) (back : D) : Type 0 where
  pub open_before : IsOpen tells time past now failures disk lines answers marks h
  pub rose : Rose (failures h.disk) (failures back)
  pub moments : IsTrue tells → Moments time past (HaveEither h.entries (next h.entries save)) h.disk back
  pub stamps : IsTrue tells → NoneAbove (h.stamp + 1) (now back)
  pub histories : IsTrue tells → AreOwn (past h.disk h.opened) → AreHistories (now back)

-- What an opening of a history says of it.
pub record HasOpened {D : Type 0} (tells : Bool) (time : D → ℕ) (past : D → Past) (now : D → ℕ → FileState) (failures : D → ℕ) (disk : D) (h : HistoryState D) : Type 0 where
  pub entries : IsTrue tells → AreEntries (readings (now disk)) h.entries
  pub stamp : IsTrue tells → h.stamp ≡ greatest_stamp (readings (now disk))
  pub opened : h.opened ≡ time h.disk
  pub own : IsTrue tells → AreOwn (now disk) → AreOwn (past h.disk h.opened)
  pub hands : HandsBack tells time past failures disk h.disk
  pub bounded : failures h.disk < 2 ^ 64

-- An opening that failed has only synced. It failed with the disk, or because what stands there is no history, or for want of memory.
pub record HasNotOpened {D : Type 0} (tells : Bool) (time : D → ℕ) (past : D → Past) (now : D → ℕ → FileState) (failures : D → ℕ) (disk : D) (halt : Halt) (back : D) : Type 0 where
  pub hands : HandsBack tells time past failures disk back
  pub cause : halt ≡ OpenFault → Rose (failures disk) (failures back)
  pub foreign : halt ≡ NotHistory → IsTrue tells → HasHistory (readings (now disk)) → ⊥
  pub undone : halt ≢ Done

-- What the line waits for whose opening failed: nothing but the opening behind a crash, and whether the save is in behind a failed save,
-- which has its mark.
abbrev pub IsWaiting : Bool → HistoryLine → ℕ → List HistoryEntry → List ℕ → (ℕ → FileState) → Type 0
IsWaiting tells (Saved moment content) last es marks files = (failed : ℕ) × (marks ≡ failed ∷ []) × Rose last failed × (IsTrue tells → HaveEither es (next es (save_at moment content)) files)
IsWaiting tells (Crash pick) last es marks files = (marks ≡ []) × (IsTrue tells → HaveEntries es files)

-- No opening succeeded yet: there is no mark, and the disk has only synced.
pub record IsUnopened (tells : Bool) (before after : ℕ → FileState) (lines : List HistoryLine) (marks : List ℕ) : Type 0 where
  pub none : lines ≡ []
  pub unmarked : marks ≡ []
  pub empty : IsTrue tells → HasEmptyVault before → HaveEntries [] after

-- All lines so far were answered, and whatever a crash leaves has the entries behind them.
pub record IsBehind (tells : Bool) (first : ℕ) (before after : ℕ → FileState) (lines : List HistoryLine) (marks : List ℕ) : Type 0 where
  pub answers : List Answer
  pub entries : List HistoryEntry
  pub come : HasCome tells first before lines answers marks entries
  pub have : IsTrue tells → HaveEntries entries after

-- All lines but the newest were answered. The newest is a crash or a failed save, behind which the opening failed.
pub record IsAtOpening (tells : Bool) (first : ℕ) (before after : ℕ → FileState) (lines : List HistoryLine) (marks : List ℕ) : Type 0 where
  pub line : HistoryLine
  pub earlier : List HistoryLine
  pub lines_are : lines ≡ line ∷ earlier
  pub answers : List Answer
  pub entries : List HistoryEntry
  pub front : List ℕ
  pub behind : List ℕ
  pub come : HasCome tells first before earlier answers front entries
  pub waits : IsWaiting tells line (last_mark first front) entries behind after
  pub marks_are : marks ≡ front ++ behind

-- How far the lines were taken where playing stopped, the newest first: behind a line only for want of memory.
abbrev pub IsReached : Bool → ℕ → (before after : ℕ → FileState) → List HistoryLine → List ℕ → Halt → Type 0
IsReached tells first before after lines marks halt =
    (IsUnopened tells before after lines marks ⊎ IsAtOpening tells first before after lines marks) ⊎ ((halt ≡ NoMemory) × IsBehind tells first before after lines marks)

-- What holds of the marks and of the disk wherever playing ended: marks never fall, an opening that failed with the disk has raised the
-- count above the last of them, and one that found no history has changed nothing, and was not the first of an empty vault.
pub record Halts {D : Type 0} (tells : Bool) (time : D → ℕ) (past : D → Past) (now : D → ℕ → FileState) (failures : D → ℕ) (disk : D) (marks : List ℕ) (halt : Halt) (back : D) : Type 0 where
  pub rises : NeverFall (failures disk) marks
  pub counted : last_mark (failures disk) marks ≤ failures back
  pub cause : halt ≡ OpenFault → Rose (last_mark (failures disk) marks) (failures back)
  pub foreign : halt ≡ NotHistory → IsTrue tells → AreHistories (now disk) → ⊥
  pub first : halt ≡ NotHistory → marks ≡ [] → HandsBack tells time past failures disk back
  pub runs : IsTrue tells → HasGoneOn time past failures disk back

-- Playing stopped at this line, behind earlier ones: before it for want of memory, or at the opening behind it.
pub record StopsAt {D : Type 0} (tells : Bool) (time : D → ℕ) (past : D → Past) (now : D → ℕ → FileState) (failures : D → ℕ) (disk : D) (earlier : List HistoryLine) (line : HistoryLine) (marks : List ℕ) (halt : Halt) (back : D) : Type 0 where
  pub halts : Halts tells time past now failures disk marks halt back
  pub undone : halt ≢ Done
  pub reached : IsAtOpening tells (failures disk) (now disk) (now back) (line ∷ earlier) marks ⊎ ((halt ≡ NoMemory) × IsBehind tells (failures disk) (now disk) (now back) earlier marks)

-- Playing stopped before the end: some first lines were taken.
pub record StopsEarly (tells : Bool) (first : ℕ) (before after : ℕ → FileState) (lines : List HistoryLine) (marks : List ℕ) (halt : Halt) : Type 0 where
  pub taken : List HistoryLine
  pub left : List HistoryLine
  pub lines_are : lines ≡ taken ++ left
  pub reached : IsReached tells first before after (reverse taken) marks halt

-- All lines were played: this is the text of what came of them and of the entries behind them, which whatever a crash leaves has.
pub record IsPlayedOut (tells : Bool) (first : ℕ) (before after : ℕ → FileState) (lines : List HistoryLine) (text marks : List ℕ) : Type 0 where
  pub answers : List Answer
  pub entries : List HistoryEntry
  pub come : HasCome tells first before (reverse lines) (reverse answers) marks entries
  pub text_is : text ≡ history_text answers entries
  pub have : IsTrue tells → HaveEntries entries after
