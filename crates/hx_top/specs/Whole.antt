-- What a whole run has done.
use Rattle.std.specs.Prelude.{◌≡◌, ℕ, Bool, true, false, List, [], ◌∷◌, ◌++◌, reverse, codes, decimal, Option, Some, None}
use Rattle.hx_disk.specs.File.{FileState}
use Rattle.hx_events.specs.declared.life.Life.{Life}
use Rattle.hx_check.specs.declared.verdict.Verdict.{Verdict}
use Rattle.hx_check.specs.declared.verdict.Verdict.TheVariants.{Legal, NotAt}
use Rattle.hx_check.specs.Verdicts.{verdict_on}
use Rattle.hx_report.specs.Summaries.{summary_text}
use Rattle.hx_report.specs.Traces.{pair_lines, trace_text}
use Rattle.hx_script.specs.declared.script.Form.TheVariants.{Replay as ForReplay, Restore as ForRestore}
use Rattle.hx_script.specs.declared.script.Script.{Script}
use Rattle.hx_script.specs.declared.script.Step.{Step}
use Rattle.hx_script.specs.declared.trace.Trace.{Trace}
use Rattle.hx_script.specs.declared.why.Why.{Why}
use Rattle.hx_script.specs.Follows.{AtAnOpening, AtTheEnd, FollowsTo, ForMemory}
use Rattle.hx_history_script.specs.Scripts.{history_script_in}
use Rattle.hx_script.specs.Made.{made_script}
use Rattle.hx_script.specs.Readings.{Reading, Reads, Refused}
use Rattle.hx_script.specs.Scripts.{script_in}
use Rattle.hx_script.specs.Traces.{trace_in}
use Rattle.hx_lives.specs.Course.{Past}
use Rattle.hx_play.specs.Played.{ArePlayed}
use Rattle.hx_play.specs.declared.playing.Halt.{Halt}
use Rattle.hx_play.specs.declared.playing.Halt.TheVariants.{Done as ToTheEnd, OpenFault as ToAnOpening, NoMemory as ToWantOfMemory}
use Rattle.hx_top.specs.declared.whole.End.{End}
use Rattle.hx_top.specs.declared.whole.End.TheVariants.{Done, Usage, BadScript, ReadFault, WriteFault, NoMemory, OpenFault, NotHistory}
use Rattle.hx_top.specs.declared.words.Order.{Order}
use Rattle.hx_top.specs.declared.words.Order.TheVariants.{Check, History, Play}
use Rattle.hx_top.specs.declared.words.Task.{Task}
use Rattle.hx_top.specs.declared.words.Task.TheVariants.{Replay, Restore, Made, Exit}
use Rattle.hx_top.specs.Asking.{exit_text}

-- the script that a task plays: the one that was read, or the one that is generated
abbrev pub script_of : Task → List ℕ → Reading Script
script_of (Replay guarded) input = script_in ForReplay input
script_of Restore input = script_in ForRestore input
script_of (Exit order) input = script_in ForReplay input
script_of (Made n) input = Reads (made_script n)

-- the lines of the pairs that the first life began with
abbrev pub restored_text : List Life → List ℕ
restored_text [] = []
restored_text (life ∷ lives) = pair_lines 0 life.base

-- What is printed of the lives, the oldest first: they themselves, what was restored, the counts, or what comes of an exit.
abbrev pub text_of : Task → List Life → List ℕ
text_of (Replay guarded) lives = trace_text lives
text_of Restore lives = restored_text lives
text_of (Exit order) lives = exit_text order lives
text_of (Made n) lives = summary_text n lives

-- what is printed of a verdict
abbrev pub verdict_text : Verdict → List ℕ
verdict_text Legal = codes "legal\n"
verdict_text (NotAt line) = codes "not at " ++ decimal line ++ codes "\n"

-- what is printed of a trace that was read
abbrev pub judged_text : Reading Trace → List ℕ
judged_text (Reads trace) = verdict_text (verdict_on trace)
judged_text (Refused line why) = []

-- Does the run read its source?
abbrev pub reads_source : Option Order → Bool
reads_source None = false
reads_source (Some Check) = true
reads_source (Some History) = true
reads_source (Some (Play (Replay guarded))) = true
reads_source (Some (Play Restore)) = true
reads_source (Some (Play (Exit order))) = true
reads_source (Some (Play (Made n))) = false

-- the most bytes that are read, as a script or as a trace; what is longer is refused
abbrev pub limit : Option Order → ℕ
limit None = 0
limit (Some Check) = 67108864
limit (Some History) = 4194304
limit (Some (Play task)) = 4194304

-- the first bad line of what was read, with its reason
abbrev pub refusal_of : {A : Type 0} → Reading A → Option (ℕ × Why)
refusal_of (Reads value) = None
refusal_of (Refused line why) = Some (line, why)

abbrev pub refusal : Option Order → List ℕ → Option (ℕ × Why)
refusal None input = None
refusal (Some Check) input = refusal_of (trace_in input)
refusal (Some History) input = refusal_of (history_script_in input)
refusal (Some (Play task)) input = refusal_of (script_of task input)

-- what is printed at the end, by what was read and by the lives, the oldest first; a local history has none, and has a text of its own
abbrev pub printed : Option Order → List ℕ → List Life → List ℕ
printed None input lives = []
printed (Some Check) input lives = judged_text (trace_in input)
printed (Some History) input lives = []
printed (Some (Play task)) input lives = text_of task lives

-- Which lives the steps have made, by how the run ended. The lives are read newest first, the steps oldest first.
abbrev pub FollowTo : End → Bool → List (List ℕ) → List Step → List Life → Type 0
FollowTo Done guarded declared steps lives = FollowsTo AtTheEnd guarded declared steps lives
FollowTo WriteFault guarded declared steps lives = FollowsTo AtTheEnd guarded declared steps lives
FollowTo OpenFault guarded declared steps lives = FollowsTo AtAnOpening guarded declared steps lives
FollowTo NoMemory guarded declared steps lives = FollowsTo ForMemory guarded declared steps lives
FollowTo end guarded declared steps lives = ⊥

-- are the task's lives guarded?
abbrev pub is_guarded : Task → Bool
is_guarded (Replay guarded) = guarded
is_guarded task = false

-- The task's script was planted and its steps made these lives, the newest first, from the moment a on and from the count of
-- faults `start`; the disk came to the moment b and to the count `count`.
pub record HavePlayed (picked : ℕ → FileState → List ℕ) (tells : Bool) (past : Past) (task : Task) (input : List ℕ) (end : End) (a start b count : ℕ) (lives : List Life) : Type 0 where
  pub script : Script
  pub reads : script_of task input ≡ Reads script
  pub follow : FollowTo end (is_guarded task) script.names script.steps lives
  pub played : ArePlayed picked tells past (reverse script.slots) a start b count lives

-- No call of the disk was made, and there are no lives.
pub record IsUntouched {D : Type 0} (old new : D) (lives : List Life) : Type 0 where
  pub same : new ≡ old
  pub none : lives ≡ []

-- the ends before a device call
abbrev pub IsBeforeDisk : End → Type 0
IsBeforeDisk Usage = Unit {0}
IsBeforeDisk (BadScript line why) = Unit {0}
IsBeforeDisk ReadFault = Unit {0}
IsBeforeDisk end = ⊥

-- the ends at which nothing was written
abbrev pub IsSilent : End → Type 0
IsSilent Done = ⊥
IsSilent WriteFault = ⊥
IsSilent end = Unit {0}

-- the ends of reading and judging a source
abbrev pub IsOfReading : End → Type 0
IsOfReading (BadScript line why) = Unit {0}
IsOfReading ReadFault = Unit {0}
IsOfReading NoMemory = Unit {0}
IsOfReading end = ⊥

-- the ends of playing a script
abbrev pub IsOfPlay : End → Type 0
IsOfPlay Done = Unit {0}
IsOfPlay WriteFault = Unit {0}
IsOfPlay NoMemory = Unit {0}
IsOfPlay OpenFault = Unit {0}
IsOfPlay end = ⊥

-- the ends of judging a trace
abbrev pub IsOfCheck : End → Type 0
IsOfCheck Usage = ⊥
IsOfCheck OpenFault = ⊥
IsOfCheck NotHistory = ⊥
IsOfCheck end = Unit {0}

-- the ends of printing
abbrev pub IsOfPrint : End → Type 0
IsOfPrint Done = Unit {0}
IsOfPrint WriteFault = Unit {0}
IsOfPrint NoMemory = Unit {0}
IsOfPrint end = ⊥

-- How a run ends by how far its script was played: where that was to the end, as printing ends.
abbrev pub EndsAs : Halt → End → Type 0
EndsAs ToTheEnd end = IsOfPrint end
EndsAs ToAnOpening end = end ≡ OpenFault
EndsAs ToWantOfMemory end = end ≡ NoMemory

-- the ends that follow on a valid input alone
abbrev pub IsOfInput : End → Type 0
IsOfInput Done = Unit {0}
IsOfInput WriteFault = Unit {0}
IsOfInput OpenFault = Unit {0}
IsOfInput NotHistory = Unit {0}
IsOfInput end = ⊥

-- the ends of playing a local history
abbrev pub IsOfHistory : End → Type 0
IsOfHistory Usage = ⊥
IsOfHistory (BadScript line why) = ⊥
IsOfHistory ReadFault = ⊥
IsOfHistory end = Unit {0}

-- The ends of a run to which nothing was refused and in which no fault came. What stands in a vault need not be a history.
abbrev pub IsCompleted : End → Option Order → Type 0
IsCompleted Done order = Unit {0}
IsCompleted NoMemory order = Unit {0}
IsCompleted NotHistory (Some History) = Unit {0}
IsCompleted end order = ⊥

-- the ends of a run of windows to which nothing was refused and in which no fault came
abbrev pub IsDoneOrNoMemory : End → Type 0
IsDoneOrNoMemory Done = Unit {0}
IsDoneOrNoMemory NoMemory = Unit {0}
IsDoneOrNoMemory end = ⊥
