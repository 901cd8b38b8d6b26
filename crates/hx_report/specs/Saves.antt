-- What is kept of a resource's saves while its deeds are read once: the request that waits, and the answers of the saves that
-- have ended.
use Rattle.std.specs.Prelude.{not, Bool, ◌&&◌, List, [], ◌∷◌, ◌++◌, if◌then◌else◌, Option, Some, None, is_some}
use Rattle.hx_events.specs.declared.event.Command.TheVariants.{Save}
use Rattle.hx_events.specs.declared.event.Event.{Event}
use Rattle.hx_events.specs.declared.event.Event.TheVariants.{Act}
use Rattle.hx_events.specs.declared.outcome.Outcome.{Outcome}
use Rattle.hx_events.specs.declared.outcome.Outcome.TheVariants.{Queued, Modified, CheckFault, Saved, WriteFault, Unguarded}
use Rattle.hx_rules.specs.declared.saves.QueuedSave.{QueuedSave}
use Rattle.hx_rules.specs.declared.saves.SaveAnswer.{SaveAnswer}
use Rattle.hx_rules.specs.declared.saves.SaveAnswer.TheVariants.{Saved as AnswerSaved, Clean as AnswerClean, ModifiedSince, DiskFault, Unguarded as AnswerUnguarded}
use Rattle.hx_rules.specs.Saves.{SaveStep, Ask, Check, Finish, queued, starts}

-- the answers after the end of a save: its own, and Clean for a request that waited and doesn't start
abbrev pub answers_ended : Option QueuedSave → Bool → SaveAnswer → List SaveAnswer → List SaveAnswer
answers_ended queue is_dirty answer answers = answers ++ answer ∷ (if is_some queue && not (starts queue is_dirty) then AnswerClean ∷ [] else [])

-- the answers of the saves that have ended, the first one's first
abbrev pub answers_of : List SaveStep → List SaveAnswer
answers_of [] = []
answers_of (Ask ticket last is_dirty force over asked ∷ steps) = answers_of steps
answers_of (Check ∷ steps) = answers_of steps
answers_of (Finish last is_dirty answer ∷ steps) = answers_ended (queued steps) is_dirty answer (answers_of steps)

-- the request that waits, and the answers of the saves that have ended
pub record SavesKept : Type 0 where
  pub queue : Option QueuedSave
  pub answers : List SaveAnswer

abbrev pub saves : Option QueuedSave → List SaveAnswer → SavesKept
saves queue answers = record { queue = queue; answers = answers }

-- what is kept of these steps
abbrev pub saves_of : List SaveStep → SavesKept
saves_of steps = saves (queued steps) (answers_of steps)

-- the answer of a save that ends so, if one does
abbrev pub ends_save : Outcome → Option SaveAnswer
ends_save CheckFault = Some DiskFault
ends_save (Modified s) = Some ModifiedSince
ends_save (WriteFault v) = Some DiskFault
ends_save (Unguarded v) = Some AnswerUnguarded
ends_save (Saved v x) = Some (AnswerSaved v)
ends_save _ = None

-- the request that waits after one that was queued
abbrev pub queue_by : Event → Option QueuedSave → Option QueuedSave
queue_by (Act (Save c force over)) was = Some record { force = force; over = over }
queue_by _ was = was

abbrev pub queue_after : Event → Outcome → Option QueuedSave → Option QueuedSave
queue_after event Queued was = queue_by event was
queue_after event _ was = was

abbrev pub saves_ended : Option SaveAnswer → Event → Outcome → Bool → SavesKept → SavesKept
saves_ended None event outcome is_dirty was = saves (queue_after event outcome was.queue) was.answers
saves_ended (Some answer) event outcome is_dirty was = saves None (answers_ended was.queue is_dirty answer was.answers)

-- the saves after an outcome, with which the copy is dirty or not
abbrev pub saves_after : Event → Outcome → Bool → SavesKept → SavesKept
saves_after event outcome is_dirty was = saves_ended (ends_save outcome) event outcome is_dirty was
