-- A sequencer as plain data, what each call makes of it, and the steps that it stands for.
use Rattle.std.specs.Prelude.{ℕ, zero, suc, ◌≡◌, ◌+◌, ◌==◌, nat_lt, Bool, true, ◌&&◌, ◌||◌, List, [], ◌∷◌, ◌++◌, map, if◌then◌else◌, Option, Some, None, is_some, is_none}
use Rattle.hx_rules.specs.declared.saves.Asked.{Asked}
use Rattle.hx_rules.specs.declared.saves.Asked.TheVariants.{Joined, Clean as SaidClean, Queued, Started as SaidStarted}
use Rattle.hx_rules.specs.declared.saves.Running.{Running}
use Rattle.hx_rules.specs.declared.saves.QueuedSave.{QueuedSave}
use Rattle.hx_rules.specs.declared.saves.SaveAnswer.{SaveAnswer}
use Rattle.hx_rules.specs.declared.saves.SaveAnswer.TheVariants.{Clean as AnswerClean}
use Rattle.hx_rules.specs.Saves.{SaveStep, Standing, Runs, Waits, Has, running, queued, standing, standing_asked, standing_finished, run_asked, run_checked, run_finished, queued_after, starts}
use Rattle.hx_seq.specs.declared.sequencer.Next.{Next}
use Rattle.hx_seq.specs.declared.sequencer.Next.TheVariants.{Empty, Clean, Started}

-- a request to save, and where it stands
pub record Ticket : Type 0 where
  pub number : ℕ
  pub standing : Standing

abbrev pub ticket : ℕ → Standing → Ticket
ticket number stands = record { number = number; standing = stands }

-- the tickets in the order in which they were asked, the running save and the one that waits
pub record Seq : Type 0 where
  pub tickets : List Ticket
  pub run : Option Running
  pub queue : Option QueuedSave

-- a sequencer, and for how many tickets it has room
pub record SeqState : Type 0 where
  pub seq : Seq
  pub room : ℕ

-- where the ticket with this number stands, if it was asked
abbrev pub stand_in : ℕ → List Ticket → Option Standing
stand_in t [] = None
stand_in t (x ∷ xs) = if x.number == t then Some x.standing else stand_in t xs

-- What follows a finish: the save that waits starts, or there is nothing left to save, or none waits.
abbrev pub next_by : Option QueuedSave → Bool → Next
next_by queue is_dirty = if starts queue is_dirty then Started else if is_some queue then Clean else Empty

-- May a request come to this? It joins and waits only while a save runs, and starts one only while none does.
abbrev pub may_come : Asked → Option Running → Bool
may_come Joined run = is_some run
may_come SaidClean run = true
may_come Queued run = is_some run
may_come SaidStarted run = is_none run

-- a ticket after a finish
abbrev pub finished : Bool → SaveAnswer → Ticket → Ticket
finished started answer t = ticket t.number (standing_finished started answer t.standing)

-- the sequencer before any request
abbrev pub empty_seq : Seq
empty_seq = record { tickets = []; run = None; queue = None }

-- the sequencer after a request
abbrev pub asked_seq : ℕ → ℕ → Bool → Bool → Asked → Seq → Seq
asked_seq number last force over asked s = record {
  tickets = s.tickets ++ ticket number (standing_asked asked) ∷ [];
  run = run_asked asked last over s.run;
  queue = queued_after asked force over s.queue;
}

-- the sequencer after a check that found no conflict
abbrev pub checked_seq : Seq → Seq
checked_seq s = record { tickets = s.tickets; run = run_checked s.run; queue = s.queue }

-- the sequencer after a finish
abbrev pub finished_seq : ℕ → Bool → SaveAnswer → Seq → Seq
finished_seq last is_dirty answer s = record {
  tickets = map (finished (starts s.queue is_dirty) answer) s.tickets;
  run = run_finished s.queue is_dirty last;
  queue = None;
}

-- The sequencer is what these steps, newest first, leave: the save that runs, the one that waits, and where each ticket
-- stands, also one that was never asked.
pub record Keeps (steps : List SaveStep) (s : Seq) : Type 0 where
  pub run : s.run ≡ running steps
  pub queue : s.queue ≡ queued steps
  pub tickets : (t : ℕ) → stand_in t s.tickets ≡ standing t steps

-- a call is this step: what it leaves is what the steps so far and this one leave
abbrev pub KeepsWith : SaveStep → Seq → Seq → Type 0
KeepsWith step old new = (steps : List SaveStep) → Keeps steps old → Keeps (step ∷ steps) new

-- ---- how it is kept: the answers of the ended saves, and for each ticket the number of the save that it shares
-- how many saves have no answer yet
abbrev pub open_saves : Option Running → Option QueuedSave → ℕ
open_saves run queue = (if is_some run then 1 else 0) + (if is_some queue then 1 else 0)

-- one save waits only while another runs
abbrev pub waits_for_one : Option Running → Option QueuedSave → Bool
waits_for_one run queue = is_some run || is_none queue

-- The number of the save that a request shares, where so many saves have ended: the running save's, or the next one for
-- the save that waits, or none.
abbrev pub save_asked : Asked → ℕ → Option ℕ
save_asked Joined ended = Some ended
save_asked SaidClean ended = None
save_asked Queued ended = Some (ended + 1)
save_asked SaidStarted ended = Some ended

-- the answers after a finish: that of the running save, and Clean of one that waited and won't run
abbrev pub ended : Next → SaveAnswer → List SaveAnswer → List SaveAnswer
ended Empty answer answers = answers ++ answer ∷ []
ended Clean answer answers = (answers ++ answer ∷ []) ++ AnswerClean ∷ []
ended Started answer answers = answers ++ answer ∷ []

-- how many answers a finish gives
abbrev pub open_by : Next → ℕ
open_by Empty = 1
open_by Clean = 2
open_by Started = 1

-- Where the save with this number stands: the first ones have their answers, the next one runs, and one behind it waits.
abbrev pub stands : List SaveAnswer → ℕ → Standing
stands [] zero = Runs
stands [] (suc n) = Waits
stands (answer ∷ answers) zero = Has answer
stands (answer ∷ answers) (suc n) = stands answers n

-- where a ticket stands that shares this save
abbrev pub shares : List SaveAnswer → Option ℕ → Standing
shares answers None = Has AnswerClean
shares answers (Some save) = stands answers save

-- the tickets that these answers and numbers of saves are
abbrev pub tickets_of : List SaveAnswer → List (ℕ × Option ℕ) → List Ticket
tickets_of answers [] = []
tickets_of answers (e ∷ entries) = ticket e.0 (shares answers e.1) ∷ tickets_of answers entries

-- the save is one of the first n, where the ticket shares one
abbrev pub is_known : ℕ → Option ℕ → Bool
is_known n None = true
is_known n (Some save) = nat_lt save n

-- each ticket shares one of the first n saves, or none
abbrev pub are_known : ℕ → List (ℕ × Option ℕ) → Bool
are_known n [] = true
are_known n (e ∷ entries) = is_known n e.1 && are_known n entries
