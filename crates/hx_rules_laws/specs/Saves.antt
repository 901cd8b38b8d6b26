-- The saves of a resource, in the words of the rules.
use Rattle.std.specs.Prelude.{◌≡◌, ℕ, ◌==◌, ◌<◌, ◌≤◌, not, Bool, true, false, ◌&&◌, ◌||◌, List, [], ◌∷◌, ◌++◌, if◌then◌else◌, Option, Some, None}
use Rattle.hx_events.specs.declared.backup.Backup.{Backup}
use Rattle.hx_events.specs.declared.life.Entry.{Entry}
use Rattle.hx_rules.specs.declared.saves.Asked.{Asked}
use Rattle.hx_rules.specs.declared.saves.Asked.TheVariants.{Queued as SaidQueued, Started as SaidStarted}
use Rattle.hx_rules.specs.declared.saves.Running.{Running}
use Rattle.hx_rules.specs.declared.saves.QueuedSave.{QueuedSave}
use Rattle.hx_rules.specs.declared.saves.SaveAnswer.{SaveAnswer}
use Rattle.hx_rules.specs.declared.saves.SaveAnswer.TheVariants.{Clean as AnswerClean}
use Rattle.hx_rules.specs.Entries.{own}
use Rattle.hx_rules.specs.Versions.{last_version}
use Rattle.hx_rules.specs.Saves.{SaveStep, Ask, Check, Finish, queued, starts, running, Runs, standing_asked, answer, save_steps}
use Rattle.hx_rules.specs.Legal.{Opening, restored_at, is_legal}

-- a step that is no finish
abbrev pub is_finish : SaveStep → Bool
is_finish (Finish last is_dirty answer) = true
is_finish _ = false

abbrev pub no_finish : List SaveStep → Bool
no_finish [] = true
no_finish (step ∷ steps) = not (is_finish step) && no_finish steps

-- a request that was queued
abbrev pub is_waiting : SaveStep → Bool
is_waiting (Ask ticket last is_dirty force over SaidQueued) = true
is_waiting _ = false

abbrev pub no_waiting : List SaveStep → Bool
no_waiting [] = true
no_waiting (step ∷ steps) = not (is_waiting step) && no_waiting steps

-- a request with this ticket
abbrev pub asks_for : ℕ → SaveStep → Bool
asks_for t (Ask ticket last is_dirty force over asked) = ticket == t
asks_for t _ = false

abbrev pub no_request : ℕ → List SaveStep → Bool
no_request t [] = true
no_request t (step ∷ steps) = not (asks_for t step) && no_request t steps

-- These steps, newest first, have a last queued request since the last finish, and it is this one.
pub record IsLastQueued (steps : List SaveStep) (q : QueuedSave) : Type 0 where
  pub later : List SaveStep
  pub ticket : ℕ
  pub last : ℕ
  pub is_dirty : Bool
  pub before : List SaveStep
  pub whole : steps ≡ later ++ Ask ticket last is_dirty q.force q.over SaidQueued ∷ before
  pub no_later : no_waiting later ≡ true
  pub since_finish : no_finish later ≡ true

abbrev pub IsQueueOf : List SaveStep → Option QueuedSave → Type 0
IsQueueOf steps None = (later before : List SaveStep) (step : SaveStep) → steps ≡ later ++ step ∷ before → is_waiting step ≡ true → no_finish later ≡ false
IsQueueOf steps (Some q) = IsLastQueued steps q

-- What waits is the last queued request since the last finish; where nothing waits, each queued request has a later finish.
abbrev pub QueueIsTheLastQueued : Type 0
QueueIsTheLastQueued = (steps : List SaveStep) → IsQueueOf steps (queued steps)

-- what a start begins: the version and whether it overwrites
pub record Begins : Type 0 where
  pub version : ℕ
  pub over : Bool

abbrev pub begins : ℕ → Bool → Begins
begins version over = record { version = version; over = over }

abbrev pub begins_queued : Option QueuedSave → Bool → ℕ → Option Begins
begins_queued None is_dirty last = None
begins_queued (Some q) is_dirty last = if is_dirty || q.force then Some (begins last q.over) else None

-- A start, with the steps before it: a request that was answered Started, or a finish with a queued request since the
-- finish before it, where the copy is dirty after it or that request forces the save. It is of the version that is the
-- last one then.
abbrev pub start_of : SaveStep → List SaveStep → Option Begins
start_of (Ask ticket last is_dirty force over SaidStarted) before = Some (begins last over)
start_of (Finish last is_dirty answer) before = begins_queued (queued before) is_dirty last
start_of _ before = None

-- no request that was answered Started
abbrev pub is_started_request : SaveStep → Bool
is_started_request (Ask ticket last is_dirty force over SaidStarted) = true
is_started_request _ = false

abbrev pub no_started : List SaveStep → Bool
no_started [] = true
no_started (step ∷ steps) = not (is_started_request step) && no_started steps

abbrev pub is_check_step : SaveStep → Bool
is_check_step Check = true
is_check_step _ = false

abbrev pub has_check : List SaveStep → Bool
has_check [] = false
has_check (step ∷ steps) = is_check_step step || has_check steps

-- These steps have a last start, and no finish after it; it is checked where a completed check follows it.
pub record IsLastStart (steps : List SaveStep) (run : Running) : Type 0 where
  pub later : List SaveStep
  pub start : SaveStep
  pub before : List SaveStep
  pub whole : steps ≡ later ++ start ∷ before
  pub is_start : start_of start before ≡ Some (begins run.version run.over)
  pub no_later : no_started later ≡ true
  pub not_finished : no_finish later ≡ true
  pub is_checked : has_check later ≡ run.checked

abbrev pub IsRunOf : List SaveStep → Option Running → Type 0
IsRunOf steps None = (later before : List SaveStep) (step : SaveStep) (b : Begins) → steps ≡ later ++ step ∷ before → start_of step before ≡ Some b → no_finish later ≡ false
IsRunOf steps (Some run) = IsLastStart steps run

-- The running save is the last start that no finish follows; where none runs, each start has a later finish.
abbrev pub RunIsTheLastStart : Type 0
RunIsTheLastStart = (steps : List SaveStep) → IsRunOf steps (running steps)

-- A request that was Started or Joined is answered by the first finish after it.
abbrev pub RunningIsAnsweredByTheNextFinish : Type 0
RunningIsAnsweredByTheNextFinish = (t last n : ℕ) (was_dirty is_dirty force over : Bool) (asked : Asked) (a : SaveAnswer) (later between before : List SaveStep)
    → standing_asked asked ≡ Runs → no_request t later ≡ true → no_request t between ≡ true → no_finish between ≡ true
    → answer t (later ++ Finish n is_dirty a ∷ (between ++ Ask t last was_dirty force over asked ∷ before)) ≡ Some a

-- A request that was Queued is answered by the finish after the next one, where the next one is a start, and else Clean.
abbrev pub QueuedIsAnsweredByTheSecondFinish : Type 0
QueuedIsAnsweredByTheSecondFinish = (t last n m : ℕ) (was_dirty is_dirty dirty_then force over : Bool) (a b : SaveAnswer) (later middle between before : List SaveStep)
    → no_request t later ≡ true → no_request t middle ≡ true → no_request t between ≡ true → no_finish between ≡ true → no_finish middle ≡ true
    → starts (queued (between ++ Ask t last was_dirty force over SaidQueued ∷ before)) is_dirty ≡ true
    → answer t (later ++ Finish m dirty_then b ∷ (middle ++ Finish n is_dirty a ∷ (between ++ Ask t last was_dirty force over SaidQueued ∷ before))) ≡ Some b

abbrev pub QueuedIsCleanWithoutAStart : Type 0
QueuedIsCleanWithoutAStart = (t last n : ℕ) (was_dirty is_dirty force over : Bool) (a : SaveAnswer) (later between before : List SaveStep)
    → no_request t later ≡ true → no_request t between ≡ true → no_finish between ≡ true
    → starts (queued (between ++ Ask t last was_dirty force over SaidQueued ∷ before)) is_dirty ≡ false
    → answer t (later ++ Finish n is_dirty a ∷ (between ++ Ask t last was_dirty force over SaidQueued ∷ before)) ≡ Some AnswerClean

-- Nothing takes an answer back.
abbrev pub AnswersStay : Type 0
AnswersStay = (restored : Option Backup) (c t : ℕ) (a : SaveAnswer) (e : Entry) (es : List Entry) → answer t (save_steps restored (own c es)) ≡ Some a → answer t (save_steps restored (own c (e ∷ es))) ≡ Some a

-- where nothing waits but behind a running save, of a version below the last one, and a running version is no later one
abbrev pub IsQueueBelow : Option Running → Option QueuedSave → ℕ → Type 0
IsQueueBelow None None last = Unit {0}
IsQueueBelow None (Some q) last = ⊥
IsQueueBelow (Some run) None last = run.version ≤ last
IsQueueBelow (Some run) (Some q) last = run.version < last

-- A request waits only while a save of an earlier version runs, so a running save of the last version has no queue.
abbrev pub QueueRunsBelowTheLast : Type 0
QueueRunsBelowTheLast = (o : Opening) (es : List Entry) (c : ℕ) → is_legal o es ≡ true
    → IsQueueBelow (running (save_steps (restored_at o c) (own c es))) (queued (save_steps (restored_at o c) (own c es))) (last_version (restored_at o c) (own c es))
