-- What a run of local history has done.
use Rattle.std.specs.Prelude.{◌≡◌, ◌≢◌, ◌≤◌, ℕ, Bool, IsTrue, List}
use Rattle.hx_disk.specs.File.{FileState}
use Rattle.hx_faults.specs.Faults.{Rose}
use Rattle.hx_history_laws.specs.Histories.{AreHistories}
use Rattle.hx_history_play.specs.Answered.{NeverFall, last_mark}
use Rattle.hx_history_play.specs.Playing.{IsPlayedOut, StopsEarly}
use Rattle.hx_history_play.specs.declared.account.Halt.{Halt}
use Rattle.hx_history_play.specs.declared.account.Halt.TheVariants.{Done as ToTheEnd, OpenFault as ToAnOpening, NotHistory as ToNoHistory, NoMemory as ToWantOfMemory}
use Rattle.hx_history_script.specs.Scripts.{history_script_in}
use Rattle.hx_history_script.specs.declared.script.HistoryLine.{HistoryLine}
use Rattle.hx_io.specs.Streams.{AddsFront, added}
use Rattle.hx_script.specs.Readings.{Reads}
use Rattle.hx_top.specs.declared.whole.End.{End}
use Rattle.hx_top.specs.declared.whole.End.TheVariants.{Done, WriteFault, OpenFault, NotHistory}

-- how far the script was played, by how the run ended
abbrev pub halt_of : End → Halt
halt_of Done = ToTheEnd
halt_of WriteFault = ToTheEnd
halt_of OpenFault = ToAnOpening
halt_of NotHistory = ToNoHistory
halt_of end = ToWantOfMemory

-- a front of the text was written
pub record IsPlayedInPart (tells : Bool) (first : ℕ) (before after : ℕ → FileState) (lines : List HistoryLine) (taken now_taken marks : List ℕ) : Type 0 where
  pub text : List ℕ
  pub out : IsPlayedOut tells first before after lines text marks
  pub front : AddsFront text taken now_taken

-- The lines were played on files that were `before` at first and are `after` now, while the count of faults went from `first` to `count`:
-- at the end their text was written, or a front of it; some first lines were taken where the run stopped before that. Marks never fall,
-- the vault couldn't be opened only where the count rose above the last of them, and where all that a crash might have left at first was a
-- history, as in an empty vault, there is one still.
pub record HasPlayedLines (tells : Bool) (first count : ℕ) (before after : ℕ → FileState) (lines : List HistoryLine) (taken now_taken : List ℕ) (end : End) (marks : List ℕ) : Type 0 where
  pub done : end ≡ Done → IsPlayedOut tells first before after lines (added taken now_taken) marks
  pub in_part : end ≡ WriteFault → IsPlayedInPart tells first before after lines taken now_taken marks
  pub early : halt_of end ≢ ToTheEnd → StopsEarly tells first before after lines marks (halt_of end)
  pub rises : NeverFall first marks
  pub counted : last_mark first marks ≤ count
  pub cause : end ≡ OpenFault → Rose (last_mark first marks) count
  pub foreign : end ≡ NotHistory → IsTrue tells → AreHistories before → ⊥

-- The source's lines were played so.
pub record HasPlayedHistory (tells : Bool) (first count : ℕ) (before after : ℕ → FileState) (input taken now_taken : List ℕ) (end : End) (marks : List ℕ) : Type 0 where
  pub lines : List HistoryLine
  pub reads : history_script_in input ≡ Reads lines
  pub played : HasPlayedLines tells first count before after lines taken now_taken end marks
