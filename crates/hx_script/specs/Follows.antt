-- Which lives the steps of a script make. Steps, lives and entries are read newest first, as histories are everywhere: so one
-- more step, or one more life, is one more item in front. That a life ends by the Closer's stages and one question is after
-- VS Code, which backs up before it quits; the order is this project's own.
use Rattle.std.specs.Prelude.{◌≡◌, ◌⊎◌, ℕ, Bool, true, false, List, [], ◌∷◌, ◌++◌, reverse}
use Rattle.hx_events.specs.declared.event.Actor.{Actor}
use Rattle.hx_events.specs.declared.event.Event.{Event}
use Rattle.hx_events.specs.declared.life.Ended.{Ended}
use Rattle.hx_events.specs.declared.life.Ended.TheVariants.{Script, Restart, Crash, Cut}
use Rattle.hx_events.specs.declared.life.Entry.{Entry}
use Rattle.hx_events.specs.declared.life.Life.{Life}
use Rattle.hx_rules.specs.Interleavings.{is_end, are_closing}
use Rattle.hx_rules.specs.Legal.{with_restored}
use Rattle.hx_lives.specs.Course.{Course, course_of, opening}
use Rattle.hx_lives.specs.Quiet.{is_quiet_before_quit}
use Rattle.hx_script.specs.declared.script.Step.{Step}
use Rattle.hx_script.specs.declared.script.Step.TheVariants.{Do, Crash as CrashStep, Restart as RestartStep}

-- who did what
pub record Move : Type 0 where
  pub actor : Actor
  pub event : Event

abbrev pub move_by : Actor → Event → Move
move_by actor event = record { actor = actor; event = event }

-- who did what by these entries
abbrev pub moves_of : List Entry → List Move
moves_of [] = []
moves_of (e ∷ es) = move_by e.actor e.event ∷ moves_of es

-- who is to do what in the life that runs after these steps
abbrev pub moves_asked : List Step → List Move
moves_asked [] = []
moves_asked (Do actor event ∷ before) = move_by actor event ∷ moves_asked before
moves_asked (CrashStep pick ∷ before) = []
moves_asked (RestartStep ∷ before) = []

-- The entries are the moves that were asked for, each once and in their order, and behind them the end of a life: the
-- Closer's stages, and one question whether the program may end. Nothing was due before that question.
pub record IsClosed (c : Course) (asked : List Move) : Type 0 where
  pub end : List Entry
  pub work : List Entry
  pub whole : c.entries ≡ end ++ work
  pub as_asked : moves_of work ≡ asked
  pub ends : is_end (opening c) end work ≡ true
  pub quiet : is_quiet_before_quit (opening c) c.entries ≡ true

-- The entries are the moves that were asked for, and behind them some of the Closer's stages, where it was its turn.
pub record IsCutOff (is_closing : Bool) (c : Course) (asked : List Move) : Type 0 where
  pub stages : List Entry
  pub work : List Entry
  pub whole : c.entries ≡ stages ++ work
  pub as_asked : moves_of work ≡ asked
  pub close : are_closing (opening c) stages work ≡ true
  pub turn : (stages ≡ []) ⊎ (is_closing ≡ true)

-- What a life that ended so has done: before a crash the moves alone, before any other end the moves and that end.
abbrev pub HasDone : Ended → Course → List Move → Type 0
HasDone (Crash pick) c asked = moves_of c.entries ≡ asked
HasDone Restart c asked = IsClosed c asked
HasDone Script c asked = IsClosed c asked
HasDone Cut c asked = ⊥

-- The life ended so and did what was asked, over the declared names and behind them the restored ones that aren't declared.
pub record HasFollowed (guarded : Bool) (declared : List (List ℕ)) (ended : Ended) (asked : List Move) (life : Life) : Type 0 where
  pub ended_so : life.ended ≡ ended
  pub guarded_so : life.guarded ≡ guarded
  pub named : life.names ≡ with_restored declared life.base
  pub done : HasDone ended (course_of life) asked

-- The lives that these steps have ended: one for each crash and each restart, ended as its step says.
abbrev pub HaveEnded : Bool → List (List ℕ) → List Step → List Life → Type 0
HaveEnded guarded declared [] lives = lives ≡ []
HaveEnded guarded declared (Do actor event ∷ before) lives = HaveEnded guarded declared before lives
HaveEnded guarded declared (CrashStep pick ∷ before) [] = ⊥
HaveEnded guarded declared (CrashStep pick ∷ before) (life ∷ earlier) = HasFollowed guarded declared (Crash pick) (moves_asked before) life × HaveEnded guarded declared before earlier
HaveEnded guarded declared (RestartStep ∷ before) [] = ⊥
HaveEnded guarded declared (RestartStep ∷ before) (life ∷ earlier) = HasFollowed guarded declared Restart (moves_asked before) life × HaveEnded guarded declared before earlier

-- All steps were taken: the last life ended with the script, and those before it by its crashes and restarts.
abbrev pub Follows : Bool → List (List ℕ) → List Step → List Life → Type 0
Follows guarded declared steps [] = ⊥
Follows guarded declared steps (last ∷ earlier) = HasFollowed guarded declared Script (moves_asked steps) last × HaveEnded guarded declared steps earlier

-- A vault is opened after these steps: before the first of all, and after each that ends a life.
abbrev pub opens_after : List Step → Bool
opens_after [] = true
opens_after (Do actor event ∷ before) = false
opens_after (CrashStep pick ∷ before) = true
opens_after (RestartStep ∷ before) = true

-- The Closer has its turn before these steps, the oldest first: before a restart, and at the end of all.
abbrev pub closes_before : List Step → Bool
closes_before [] = true
closes_before (RestartStep ∷ later) = true
closes_before (step ∷ later) = false

-- Some of the steps, here the oldest first, were taken, and the vault that is opened after them wasn't. The lives are those
-- that had ended by then.
pub record StopsAtOpening (guarded : Bool) (declared : List (List ℕ)) (steps : List Step) (lives : List Life) : Type 0 where
  pub taken : List Step
  pub rest : List Step
  pub all : steps ≡ taken ++ rest
  pub opens : opens_after (reverse taken) ≡ true
  pub ended : HaveEnded guarded declared (reverse taken) lives

-- Some of the steps, here the oldest first, were taken when memory ran out, and the life that ran then was cut off.
pub record StopsInLife (guarded : Bool) (declared : List (List ℕ)) (steps : List Step) (lives : List Life) : Type 0 where
  pub taken : List Step
  pub rest : List Step
  pub all : steps ≡ taken ++ rest
  pub cut : Life
  pub earlier : List Life
  pub whole : lives ≡ cut ∷ earlier
  pub ended_so : cut.ended ≡ Cut
  pub guarded_so : cut.guarded ≡ guarded
  pub named : cut.names ≡ with_restored declared cut.base
  pub done : IsCutOff (closes_before rest) (course_of cut) (moves_asked (reverse taken))
  pub ended : HaveEnded guarded declared (reverse taken) earlier

-- memory ran out at an opening, or in a life
abbrev pub StopsForMemory : Bool → List (List ℕ) → List Step → List Life → Type 0
StopsForMemory guarded declared steps lives = StopsAtOpening guarded declared steps lives ⊎ StopsInLife guarded declared steps lives

-- how far the steps were taken
pub data Halt : Type 0 where
  AtTheEnd : Halt
  AtAnOpening : Halt
  ForMemory : Halt

-- The lives that the steps, here the oldest first, have made up to there. Where memory ran out all of them may have been
-- taken, and it was the text of the lives that found none.
abbrev pub FollowsTo : Halt → Bool → List (List ℕ) → List Step → List Life → Type 0
FollowsTo AtTheEnd guarded declared steps lives = Follows guarded declared (reverse steps) lives
FollowsTo AtAnOpening guarded declared steps lives = StopsAtOpening guarded declared steps lives
FollowsTo ForMemory guarded declared steps lives = StopsForMemory guarded declared steps lives ⊎ Follows guarded declared (reverse steps) lives
