-- Which outcome the fields of a text are. The texts are this project's own. Lives of a trace are plain ones, so a guarded
-- life's refusal to write has no form.
use Rattle.std.specs.Prelude.{ℕ, List, [], ◌∷◌, bytes_eq, codes, if◌then◌else◌, Option, Some, None, Result, Ok, Err}
use Rattle.hx_etag.specs.declared.stat.Stat.{Stat}
use Rattle.hx_events.specs.declared.event.Stage.{Stage}
use Rattle.hx_events.specs.declared.event.Stage.TheVariants.{Prepare, Body, Open as OpenGate, Fade, Drop}
use Rattle.hx_events.specs.declared.outcome.Outcome.{Outcome}
use Rattle.hx_events.specs.declared.outcome.Outcome.TheVariants.{Opened, Created, Edited, Undone, Redone, Joined, Clean, Queued, Started, Reverted, Closed, Written, Missing, NoPair, AlreadyOpen, NotOpen, OutOfContent, TooLarge, NoUndo, NoRedo, Saving, Fault, Idle, Spent, StageOk, StageFault, Checked, Modified, CheckFault, Saved, WriteFault, Quit, Vetoed}
use Rattle.hx_script.specs.declared.why.Why.{Why}
use Rattle.hx_script.specs.declared.why.Why.TheVariants.{Form}
use Rattle.hx_script.specs.Readings.{and_then}
use Rattle.hx_script.specs.Values.{number_in}
use Rattle.hx_script.specs.Events.{one_resource}

-- the outcomes that are a word alone
abbrev pub plain_outcome : List ℕ → Option Outcome
plain_outcome word =
    if bytes_eq word (codes "joined") then Some Joined
    else if bytes_eq word (codes "clean") then Some Clean
    else if bytes_eq word (codes "queued") then Some Queued
    else if bytes_eq word (codes "closed") then Some Closed
    else if bytes_eq word (codes "written") then Some Written
    else if bytes_eq word (codes "idle") then Some Idle
    else if bytes_eq word (codes "spent") then Some Spent
    else if bytes_eq word (codes "fault") then Some Fault
    else if bytes_eq word (codes "quit") then Some Quit
    else None

-- and the refusals that are
abbrev pub plain_refusal : List ℕ → Option Outcome
plain_refusal word =
    if bytes_eq word (codes "missing") then Some Missing
    else if bytes_eq word (codes "nopair") then Some NoPair
    else if bytes_eq word (codes "alreadyopen") then Some AlreadyOpen
    else if bytes_eq word (codes "notopen") then Some NotOpen
    else if bytes_eq word (codes "outofcontent") then Some OutOfContent
    else if bytes_eq word (codes "toolarge") then Some TooLarge
    else if bytes_eq word (codes "noundo") then Some NoUndo
    else if bytes_eq word (codes "noredo") then Some NoRedo
    else if bytes_eq word (codes "saving") then Some Saving
    else None

abbrev pub first_of : Option Outcome → Option Outcome → Option Outcome
first_of (Some outcome) other = Some outcome
first_of None other = other

abbrev pub or_no_form : Option Outcome → Result Outcome Why
or_no_form None = Err Form
or_no_form (Some outcome) = Ok outcome

-- the outcome of a word, where nothing stands behind it
abbrev pub word_alone : List ℕ → Result Outcome Why
word_alone word = or_no_form (first_of (plain_outcome word) (plain_refusal word))

-- one version id
abbrev pub one_number : List (List ℕ) → Result ℕ Why
one_number (field ∷ []) = number_in field
one_number fields = Err Form

-- a stat: a time and a size
abbrev pub stat_of : (mtime size : List ℕ) → Result Stat Why
stat_of mtime size = and_then (number_in mtime) (λ time. and_then (number_in size) (λ bytes. Ok (record { mtime = time; size = bytes })))

abbrev pub one_stat : List (List ℕ) → Result Stat Why
one_stat (mtime ∷ size ∷ []) = stat_of mtime size
one_stat fields = Err Form

-- a stage of a backup, with its version and its end
abbrev pub stage_of : Stage → (version end : List ℕ) → Result Outcome Why
stage_of stage version end =
    if bytes_eq end (codes "ok") then and_then (number_in version) (λ v. Ok (StageOk stage v))
    else if bytes_eq end (codes "fault") then and_then (number_in version) (λ v. Ok (StageFault stage v))
    else Err Form

abbrev pub stage_in : Stage → List (List ℕ) → Result Outcome Why
stage_in stage (version ∷ end ∷ []) = stage_of stage version end
stage_in stage fields = Err Form

-- a stage of a discard, with its end
abbrev pub discard_in : Stage → List (List ℕ) → Result Outcome Why
discard_in stage (end ∷ []) = if bytes_eq end (codes "ok") then Ok (StageOk stage 0) else if bytes_eq end (codes "fault") then Ok (StageFault stage 0) else Err Form
discard_in stage fields = Err Form

-- a check before a write: it found a stat or no file, or failed
abbrev pub check_in : List (List ℕ) → Result Outcome Why
check_in (end ∷ []) = if bytes_eq end (codes "none") then Ok (Checked None) else if bytes_eq end (codes "fault") then Ok CheckFault else Err Form
check_in (mtime ∷ size ∷ []) = and_then (stat_of mtime size) (λ stat. Ok (Checked (Some stat)))
check_in fields = Err Form

-- a version that was saved, and the stat behind it, if there was a file
abbrev pub saved_in : List (List ℕ) → Result Outcome Why
saved_in (version ∷ end ∷ []) = if bytes_eq end (codes "none") then and_then (number_in version) (λ v. Ok (Saved v None)) else Err Form
saved_in (version ∷ mtime ∷ size ∷ []) = and_then (number_in version) (λ v. and_then (stat_of mtime size) (λ stat. Ok (Saved v (Some stat))))
saved_in fields = Err Form

abbrev pub write_in : List (List ℕ) → Result Outcome Why
write_in (version ∷ end ∷ []) = if bytes_eq end (codes "fault") then and_then (number_in version) (λ v. Ok (WriteFault v)) else Err Form
write_in fields = Err Form

-- an outcome that has a version or a stat
abbrev pub change_in : List ℕ → List (List ℕ) → Result Outcome Why
change_in word fields =
    if bytes_eq word (codes "opened") then and_then (one_stat fields) (λ stat. Ok (Opened stat))
    else if bytes_eq word (codes "reverted") then and_then (one_stat fields) (λ stat. Ok (Reverted stat))
    else if bytes_eq word (codes "created") then and_then (one_number fields) (λ v. Ok (Created v))
    else if bytes_eq word (codes "edited") then and_then (one_number fields) (λ v. Ok (Edited v))
    else if bytes_eq word (codes "undone") then and_then (one_number fields) (λ v. Ok (Undone v))
    else if bytes_eq word (codes "redone") then and_then (one_number fields) (λ v. Ok (Redone v))
    else if bytes_eq word (codes "started") then and_then (one_number fields) (λ v. Ok (Started v))
    else if bytes_eq word (codes "modified") then and_then (one_stat fields) (λ stat. Ok (Modified stat))
    else Err Form

-- an outcome of a stage, or of the question whether the program may end
abbrev pub work_in : List (List ℕ) → List ℕ → List (List ℕ) → Result Outcome Why
work_in names word fields =
    if bytes_eq word (codes "prepare") then stage_in Prepare fields
    else if bytes_eq word (codes "body") then stage_in Body fields
    else if bytes_eq word (codes "open") then stage_in OpenGate fields
    else if bytes_eq word (codes "fade") then discard_in Fade fields
    else if bytes_eq word (codes "drop") then discard_in Drop fields
    else if bytes_eq word (codes "check") then check_in fields
    else if bytes_eq word (codes "saved") then saved_in fields
    else if bytes_eq word (codes "write") then write_in fields
    else if bytes_eq word (codes "vetoed") then and_then (one_resource names fields) (λ c. Ok (Vetoed c))
    else change_in word fields

abbrev pub words_in : List (List ℕ) → List ℕ → List (List ℕ) → Result Outcome Why
words_in names word [] = word_alone word
words_in names word fields = work_in names word fields

-- the outcome of a text's fields
abbrev pub outcome_in : List (List ℕ) → List (List ℕ) → Result Outcome Why
outcome_in names [] = Err Form
outcome_in names (word ∷ fields) = words_in names word fields
