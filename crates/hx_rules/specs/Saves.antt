-- The saves of a working copy and what each request to save is answered. What a resource's deeds say of saves is a list
-- of steps, newest first. After VS Code, where at most one save runs and one waits, and a waiting save decides anew when
-- it runs.
use Rattle.std.specs.Prelude.{ℕ, ◌==◌, not, Bool, true, false, ◌&&◌, ◌||◌, List, [], ◌∷◌, if◌then◌else◌, Option, Some, None, is_some}
use Rattle.hx_events.specs.declared.backup.Backup.{Backup}
use Rattle.hx_events.specs.declared.event.Command.TheVariants.{Save}
use Rattle.hx_events.specs.declared.event.Event.{Event}
use Rattle.hx_events.specs.declared.event.Event.TheVariants.{Act}
use Rattle.hx_events.specs.declared.outcome.Outcome.{Outcome}
use Rattle.hx_events.specs.declared.outcome.Outcome.TheVariants.{Joined, Clean, Queued, Started, Checked, CheckFault, Modified, WriteFault, Unguarded, Saved}
use Rattle.hx_rules.specs.declared.saves.Asked.{Asked}
use Rattle.hx_rules.specs.declared.saves.Asked.TheVariants.{Joined as SaidJoined, Clean as SaidClean, Queued as SaidQueued, Started as SaidStarted}
use Rattle.hx_rules.specs.declared.saves.Running.{Running}
use Rattle.hx_rules.specs.declared.saves.QueuedSave.{QueuedSave}
use Rattle.hx_rules.specs.declared.saves.SaveAnswer.{SaveAnswer}
use Rattle.hx_rules.specs.declared.saves.SaveAnswer.TheVariants.{Saved as AnswerSaved, Clean as AnswerClean, ModifiedSince, DiskFault, Unguarded as AnswerUnguarded}
use Rattle.hx_rules.specs.Entries.{Deed}
use Rattle.hx_rules.specs.Versions.{last_version}
use Rattle.hx_rules.specs.Copies.{dirty}

-- One step of a resource's saves.
pub data SaveStep : Type 0 where
  -- the request with this ticket: the last version and whether the copy was dirty then, what it gave, what it came to
  Ask : (ticket : ℕ) (last : ℕ) (is_dirty : Bool) (force : Bool) (over : Bool) (asked : Asked) → SaveStep
  -- the running save's check found no conflict
  Check : SaveStep
  -- the running save ended: the last version then, whether the copy is dirty after it, and how it ended
  Finish : (last : ℕ) (is_dirty : Bool) (answer : SaveAnswer) → SaveStep

-- is a save of this version running?
abbrev pub runs_version : ℕ → Option Running → Bool
runs_version n None = false
runs_version n (Some run) = run.version == n

-- What a request comes to: Joined where a save of the last version runs; else Clean where the copy isn't dirty and
-- nothing is forced; else Queued where a save runs; else Started.
abbrev pub asked_by : Option Running → ℕ → Bool → Bool → Asked
asked_by run last is_dirty force =
    if runs_version last run then SaidJoined
    else if not is_dirty && not force then SaidClean
    else if is_some run then SaidQueued
    else SaidStarted

-- what a request makes of the queue
abbrev pub queued_after : Asked → Bool → Bool → Option QueuedSave → Option QueuedSave
queued_after SaidQueued force over was = Some record { force = force; over = over }
queued_after _ force over was = was

-- The last request that was queued since the last finish: a further one replaces it.
abbrev pub queued : List SaveStep → Option QueuedSave
queued [] = None
queued (Ask ticket last is_dirty force over asked ∷ steps) = queued_after asked force over (queued steps)
queued (Check ∷ steps) = queued steps
queued (Finish last is_dirty answer ∷ steps) = None

-- Does a finish with this queue start a save? Where the copy is dirty after it, or the queued request forces it.
abbrev pub starts : Option QueuedSave → Bool → Bool
starts None is_dirty = false
starts (Some q) is_dirty = is_dirty || q.force

-- is the queued request, if there is one, to overwrite?
abbrev pub overwrites : Option QueuedSave → Bool
overwrites None = false
overwrites (Some q) = q.over

-- what a request makes of the running save
abbrev pub run_asked : Asked → ℕ → Bool → Option Running → Option Running
run_asked SaidStarted last over was = Some record { version = last; over = over; checked = false }
run_asked _ last over was = was

-- what runs after a finish: a save of the last version, where the finish starts what was queued
abbrev pub run_finished : Option QueuedSave → Bool → ℕ → Option Running
run_finished q is_dirty last = if starts q is_dirty then Some record { version = last; over = overwrites q; checked = false } else None

-- what a check makes of the running save
abbrev pub run_checked : Option Running → Option Running
run_checked None = None
run_checked (Some run) = Some record { version = run.version; over = run.over; checked = true }

-- The running save: the last start that no finish follows. A start is a request that was answered Started, and a finish
-- that starts what was queued. It saves the version that is the last one then.
abbrev pub running : List SaveStep → Option Running
running [] = None
running (Ask ticket last is_dirty force over asked ∷ steps) = run_asked asked last over (running steps)
running (Check ∷ steps) = run_checked (running steps)
running (Finish last is_dirty answer ∷ steps) = run_finished (queued steps) is_dirty last

-- Where a request stands: its save runs, it waits for the running one, or it has its answer.
pub data Standing : Type 0 where
  Runs : Standing
  Waits : Standing
  Has : (answer : SaveAnswer) → Standing

-- where a request stands by what it came to
abbrev pub standing_asked : Asked → Standing
standing_asked SaidJoined = Runs
standing_asked SaidClean = Has AnswerClean
standing_asked SaidQueued = Waits
standing_asked SaidStarted = Runs

-- after a finish: a request whose save ran has its answer, and one that waited runs, or is answered Clean
abbrev pub standing_finished : Bool → SaveAnswer → Standing → Standing
standing_finished started answer Runs = Has answer
standing_finished started answer Waits = if started then Runs else Has AnswerClean
standing_finished started answer (Has a) = Has a

-- the same where it may never have been asked
abbrev pub standing_finished_if : Bool → SaveAnswer → Option Standing → Option Standing
standing_finished_if started answer None = None
standing_finished_if started answer (Some s) = Some (standing_finished started answer s)

-- where the request with this ticket stands, if it was asked
abbrev pub standing : ℕ → List SaveStep → Option Standing
standing t [] = None
standing t (Ask ticket last is_dirty force over asked ∷ steps) = if ticket == t then Some (standing_asked asked) else standing t steps
standing t (Check ∷ steps) = standing t steps
standing t (Finish last is_dirty answer ∷ steps) = standing_finished_if (starts (queued steps) is_dirty) answer (standing t steps)

-- the answer that a standing has
abbrev pub answer_in : Option Standing → Option SaveAnswer
answer_in None = None
answer_in (Some Runs) = None
answer_in (Some Waits) = None
answer_in (Some (Has answer)) = Some answer

-- The answer of a ticket, once it is there. Of a request that was Started or Joined it is that of the next finish; of a
-- Clean one Clean; of a Queued one that of the finish after the next one, where the next one is a start, else Clean.
abbrev pub answer : ℕ → List SaveStep → Option SaveAnswer
answer t steps = answer_in (standing t steps)

-- the last version when the request with this ticket was made
abbrev pub version_asked : ℕ → List SaveStep → Option ℕ
version_asked t [] = None
version_asked t (Ask ticket last is_dirty force over asked ∷ steps) = if ticket == t then Some last else version_asked t steps
version_asked t (Check ∷ steps) = version_asked t steps
version_asked t (Finish last is_dirty answer ∷ steps) = version_asked t steps

-- the step that a request is; no other event is one
abbrev pub asks : Event → ℕ → ℕ → Bool → Asked → List SaveStep → List SaveStep
asks (Act (Save c force over)) place last is_dirty asked steps = Ask place last is_dirty force over asked ∷ steps
asks _ place last is_dirty asked steps = steps

-- what a deed adds to the steps: `before` and `after` say whether the copy was dirty before it and is so after it
abbrev pub steps_after : Outcome → Event → ℕ → ℕ → Bool → Bool → List SaveStep → List SaveStep
steps_after Joined event place last before after steps = asks event place last before SaidJoined steps
steps_after Clean event place last before after steps = asks event place last before SaidClean steps
steps_after Queued event place last before after steps = asks event place last before SaidQueued steps
steps_after (Started v) event place last before after steps = asks event place last before SaidStarted steps
steps_after (Checked x) event place last before after steps = Check ∷ steps
steps_after CheckFault event place last before after steps = Finish last after DiskFault ∷ steps
steps_after (Modified s) event place last before after steps = Finish last after ModifiedSince ∷ steps
steps_after (WriteFault v) event place last before after steps = Finish last after DiskFault ∷ steps
steps_after (Unguarded v) event place last before after steps = Finish last after AnswerUnguarded ∷ steps
steps_after (Saved v x) event place last before after steps = Finish last after (AnswerSaved v) ∷ steps
steps_after _ event place last before after steps = steps

module _ (restored : Option Backup) where
  -- the steps of the resource's saves
  abbrev pub save_steps : List Deed → List SaveStep
  save_steps [] = []
  save_steps (d ∷ ds) = steps_after d.outcome d.event d.place (last_version restored ds) (dirty restored ds) (dirty restored (d ∷ ds)) (save_steps ds)
