-- What a run of the program has done, from its words and streams to its end.
use Rattle.std.specs.Prelude.{◌≡◌, ℕ, Bool, true, IsTrue, List, reverse, Option, Some, None}
use Rattle.hx_disk.specs.File.{FileState}
use Rattle.hx_events.specs.declared.life.Life.{Life}
use Rattle.hx_faults.specs.Faults.{Rose}
use Rattle.hx_guarded_laws.specs.Lives.{HaveKept}
use Rattle.hx_io.specs.Streams.{AddsFront, added}
use Rattle.hx_lives.specs.Calls.{HasGoneOn}
use Rattle.hx_lives.specs.Chained.{faults_of as faults_over}
use Rattle.hx_lives.specs.Course.{Past}
use Rattle.hx_memdisk.specs.declared.memdisk.MemDisk.{MemDisk}
use Rattle.hx_memdisk.specs.MemDisk.{course_of, faults_of, files_of, past_of, recorded}
use Rattle.hx_memdisk.specs.Replay.{no_file, pick_of}
use Rattle.hx_report.specs.Traces.{trace_text}
use Rattle.hx_script.specs.declared.why.Why.{Why}
use Rattle.hx_top.specs.declared.program.NoWords.{NoWords}
use Rattle.hx_top.specs.declared.program.NoWords.TheVariants.{NotText, OutOfMemory}
use Rattle.hx_top.specs.declared.whole.End.{End}
use Rattle.hx_top.specs.declared.whole.End.TheVariants.{Done, Usage, NoMemory, WriteFault, OpenFault}
use Rattle.hx_top.specs.declared.words.DiskChoice.TheVariants.{Memory}
use Rattle.hx_top.specs.declared.words.Order.{Order}
use Rattle.hx_top.specs.declared.words.Order.TheVariants.{History, Play}
use Rattle.hx_top.specs.declared.words.RunOrder.{RunOrder}
use Rattle.hx_top.specs.declared.exits.ExitOrder.{ExitOrder}
use Rattle.hx_top.specs.declared.words.Task.{Task}
use Rattle.hx_top.specs.declared.words.Task.TheVariants.{Exit}
use Rattle.hx_top.specs.Asking.{ClosesSafely}
use Rattle.hx_top.specs.Histories.{HasPlayedHistory}
use Rattle.hx_top.specs.Runs.{HasBeenRun, run_refusal}
use Rattle.hx_top.specs.Whole.{HavePlayed, IsOfInput, printed, refusal}
use Rattle.hx_top.specs.Words.{IsChosen, order_in, run_in}

-- what is printed at the end: a run's trace, or what the other commands print
abbrev pub printed_by : Option RunOrder → List (List ℕ) → List ℕ → List Life → List ℕ
printed_by (Some order) words input lives = trace_text lives
printed_by None words input lives = printed (order_in words) input lives

-- what is printed tells of lives, and of no local history
abbrev pub IsOfLives : Option RunOrder → Option Order → Type 0
IsOfLives None (Some History) = ⊥
IsOfLives run asked = Unit {0}

-- the first bad line of what was read, with its reason
abbrev pub refusal_by : Option RunOrder → List (List ℕ) → List ℕ → Option (ℕ × Why)
refusal_by (Some order) words input = run_refusal input
refusal_by None words input = refusal (order_in words) input

-- The disk in memory that the words name, as it is made: it fails as they plan it, no call was made on it, and no file stands on it.
pub record IsNewDisk (words : List (List ℕ)) (disk : MemDisk) : Type 0 where
  pub planned : IsChosen words (Memory (course_of disk).plan)
  pub empty : (f : ℕ) → files_of disk f ≡ no_file
  pub unused : recorded disk ≡ 0
  pub no_fault : faults_of disk ≡ 0

-- The words were served on a disk that has the past `past`, from the moment a on and from the count of faults `start`: these lives
-- were led, the oldest first, and the disk came to the moment b and to the count `count`. What was printed behind what stood there
-- `before` is their text, or a front of it where a write failed. They are the lives of the windows of the script that was read for a
-- run's words, and else of its steps. Where the disk tells, guarded ones have kept what guarded lives keep, and where an exit closes, all
-- that is dirty comes back. A local history was played on the files that there were at first, up to those that there are at the end.
pub record HasServed (picked : ℕ → FileState → List ℕ) (tells : Bool) (past : Past) (words : List (List ℕ)) (input before now : List ℕ) (end : End) (a start b count : ℕ) (lives : List Life) (at_first at_end : ℕ → FileState) (marks : List ℕ) : Type 0 where
  pub done : IsOfLives (run_in words) (order_in words) → end ≡ Done → added before now ≡ printed_by (run_in words) words input lives
  pub front : IsOfLives (run_in words) (order_in words) → end ≡ WriteFault → AddsFront (printed_by (run_in words) words input lives) before now
  pub played : (task : Task) → run_in words ≡ None → order_in words ≡ Some (Play task) → IsOfInput end → HavePlayed picked tells past task input end a start b count (reverse lives)
  pub ran : (order : RunOrder) → run_in words ≡ Some order → IsOfInput end → HasBeenRun picked tells past order.guarded input end a start b count (reverse lives)
  pub kept : IsTrue tells → HaveKept past b (reverse lives)
  pub closes : (order : ExitOrder) → run_in words ≡ None → order_in words ≡ Some (Play (Exit order)) → IsTrue tells → end ≡ Done → ClosesSafely order past b (reverse lives)
  pub open_fault : end ≡ OpenFault → Rose (faults_over start (reverse lives)) count
  pub history : run_in words ≡ None → order_in words ≡ Some History → IsOfInput end → HasPlayedHistory tells start count at_first at_end input before now end marks

-- the same on this disk, which has gone on to another one
pub record HasServedOn {D : Type 0} (picked : ℕ → FileState → List ℕ) (tells : Bool) (time : D → ℕ) (past : D → Past) (files : D → ℕ → FileState) (failures : D → ℕ) (disk : D) (words : List (List ℕ)) (input before now : List ℕ) (end : End) : Type 0 where
  pub back : D
  pub lives : List Life
  pub marks : List ℕ
  pub runs : IsTrue tells → HasGoneOn time past failures disk back
  pub served : HasServed picked tells (past back) words input before now end (time disk) (failures disk) (time back) (failures back) lives (files disk) (files back) marks

-- the words were served on a new disk in memory, which fails as they plan it
pub record ServedInMemory (words : List (List ℕ)) (input before now : List ℕ) (end : End) : Type 0 where
  pub disk : MemDisk
  pub new : IsNewDisk words disk
  pub on : HasServedOn pick_of true recorded past_of files_of faults_of disk words input before now end

-- the words were served on some disk, of which nothing more is known: what the files of a folder hold is told by no clause
pub record ServedInFolder (words : List (List ℕ)) (input before now : List ℕ) (end : End) : Type 0 where
  pub picked : ℕ → FileState → List ℕ
  pub tells : Bool
  pub past : Past
  pub a : ℕ
  pub start : ℕ
  pub b : ℕ
  pub count : ℕ
  pub lives : List Life
  pub at_first : ℕ → FileState
  pub at_end : ℕ → FileState
  pub marks : List ℕ
  pub served : HasServed picked tells past words input before now end a start b count lives at_first at_end marks

-- the words were served on the disk that they name: on the files of a folder, or in memory
abbrev pub ServedBy : Option (List ℕ) → (words : List (List ℕ)) (input before now : List ℕ) (end : End) → Type 0
ServedBy (Some folder) words input before now end = ServedInFolder words input before now end
ServedBy None words input before now end = ServedInMemory words input before now end

-- how a program ends whose words could not be had
abbrev pub end_without : NoWords → End
end_without NotText = Usage
end_without OutOfMemory = NoMemory
