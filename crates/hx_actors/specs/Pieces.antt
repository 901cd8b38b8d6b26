-- What the pieces of work are given, and what they hand back. All of this is the project's own.
use Rattle.std.specs.Prelude.{◌≡◌, ◌<◌, ℕ, zero, suc, All, Bool, true, false, ◌&&◌, List, [], ◌∷◌, ◌++◌, map, reverse, if◌then◌else◌}
use Rattle.hx_events.specs.Texts.{resource_of}
use Rattle.hx_events.specs.declared.event.Actor.{Actor}
use Rattle.hx_events.specs.declared.event.Actor.TheVariants.{Window, Writer, Saver}
use Rattle.hx_events.specs.declared.event.Command.{Command}
use Rattle.hx_events.specs.declared.event.Event.{Event}
use Rattle.hx_events.specs.declared.event.Event.TheVariants.{Act}
use Rattle.hx_events.specs.declared.life.Entry.{Entry}
use Rattle.hx_passes.specs.declared.rule.Kind.{Kind}
use Rattle.hx_passes.specs.declared.rule.Kind.TheVariants.{Vault, Save}
use Rattle.hx_passes.specs.declared.rule.Known.{Known}
use Rattle.hx_passes.specs.Rules.{Each, total}
use Rattle.hx_passes.specs.Views.{fresh}
use Rattle.hx_rules.specs.Interleavings.{is_some_window}
use Rattle.hx_actors.specs.Work.{IsBegun, is_full, events, HasLeft, IsInOrder, IsOver}

-- each command names one of so many resources
abbrev pub IsNamed : ℕ → List Command → Type 0
IsNamed names script = All (λ command. resource_of command < names) script

-- the commands as events, the newest first
abbrev pub events_in : List Command → List Event
events_in script = reverse (map Act script)

-- whose work it is, and with which commands
pub record Duty : Type 0 where
  pub actor : Actor
  pub script : List Command

abbrev pub duty : Actor → List Command → Duty
duty actor script = record { actor = actor; script = script }

-- the windows from number k on, those that have commands
abbrev pub windows_from : ℕ → List (List Command) → List Duty
windows_from k [] = []
windows_from k (s ∷ ss) = if is_full s then duty (Window k) s ∷ windows_from (suc k) ss else windows_from (suc k) ss

-- the worker with this number that does the stages of this kind
abbrev pub worker_of : Kind → ℕ → Actor
worker_of Vault k = Writer k
worker_of Save k = Saver k

-- the first n of them
abbrev pub workers_below : Kind → ℕ → List Duty
workers_below kind zero = []
workers_below kind (suc n) = workers_below kind n ++ duty (worker_of kind n) [] ∷ []

-- does the actor do the stages of this kind?
abbrev pub works : Kind → Actor → Bool
works Vault (Writer k) = true
works Save (Saver k) = true
works _ _ = false

-- all windows, writers and savers, in the order in which they are to begin
abbrev pub all_duties : List (List Command) → ℕ → List Duty
all_duties scripts workers = windows_from 0 scripts ++ (workers_below Vault workers ++ workers_below Save workers)

-- a pass that has made nothing, noted nothing and hasn't left
pub record IsUnused (p : Known) : Type 0 where
  pub calls : p.calls ≡ []
  pub notes : p.notes ≡ []
  pub leaves : p.leaves ≡ []

-- its actor, its parts and its leaving stay
pub record Keeps (old new : Known) : Type 0 where
  pub actor : new.actor ≡ old.actor
  pub parts : new.parts ≡ old.parts
  pub leaves : new.leaves ≡ old.leaves

-- all but its parts stays
pub record Lends (old new : Known) : Type 0 where
  pub actor : new.actor ≡ old.actor
  pub calls : new.calls ≡ old.calls
  pub notes : new.notes ≡ old.notes
  pub leaves : new.leaves ≡ old.leaves

-- What holds of a pass at any time, where a window has this script: its calls are in order, and a window's are the first of
-- its script.
pub record IsSoundBy (script : List Command) (p : Known) : Type 0 where
  pub order : IsInOrder p
  pub begun : is_some_window p.actor ≡ true → IsBegun (events_in script) (events p.calls)

-- What holds of a pass whose work has ended: a window has left, and no other has.
pub record IsDone (p : Known) : Type 0 where
  pub left : is_some_window p.actor ≡ true → HasLeft p.leaves p.calls
  pub stays : is_some_window p.actor ≡ false → p.leaves ≡ []

-- And where nothing was left to do: a window has made its script, and a worker has found nothing to do behind all windows.
pub record IsThroughBy (windows : ℕ) (script : List Command) (p : Known) : Type 0 where
  pub made : is_some_window p.actor ≡ true → events p.calls ≡ events_in script
  pub over : IsOver windows p.actor p.notes

-- A piece of work: its pass, a window's commands, and whether it has ended with nothing left to do.
pub record Job : Type 0 where
  pub pass : Known
  pub script : List Command
  pub ended : Bool

-- a piece of work that hasn't begun, with a pass of one part that has seen this history
abbrev pub job_of : Duty → List Entry → Job
job_of d seen = record { pass = fresh d.actor seen 1; script = d.script; ended = false }

-- may the piece begin, where there are so many resources?
pub record IsReady (names : ℕ) (j : Job) : Type 0 where
  pub unused : IsUnused j.pass
  pub named : IsNamed names j.script

-- The piece of work has ended, where so many windows are to leave: what holds of its pass, and what besides where nothing was
-- left to do.
pub record Ends (windows : ℕ) (old new : Job) : Type 0 where
  pub actor : new.pass.actor ≡ old.pass.actor
  pub parts : new.pass.parts ≡ old.pass.parts
  pub sound : IsSoundBy old.script new.pass
  pub done : IsDone new.pass
  pub through : new.ended ≡ true → IsThroughBy windows old.script new.pass

abbrev pub duty_of : Job → Duty
duty_of j = duty j.pass.actor j.script

-- pieces of work for the first of these duties, none of which has begun
pub record IsCrew (names : ℕ) (duties : List Duty) (jobs : List Job) : Type 0 where
  pub later : List Duty
  pub whole : duties ≡ map duty_of jobs ++ later
  pub ready : Each (IsReady names) jobs

-- the parts of all these pieces' passes
abbrev pub parts_of : List Job → ℕ
parts_of jobs = total (λ j. j.pass.parts) jobs

abbrev pub all_ended : List Job → Bool
all_ended [] = true
all_ended (j ∷ js) = j.ended && all_ended js

-- R holds of each in turn
abbrev pub Each2 : {A B : Type 0} → (A → B → Type 0) → List A → List B → Type 0
Each2 R [] [] = Unit {0}
Each2 R (x ∷ xs) (y ∷ ys) = R x y × Each2 R xs ys
Each2 R _ _ = ⊥
