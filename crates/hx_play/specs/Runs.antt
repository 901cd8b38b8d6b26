-- The life of a run: windows that make their commands at once, writers and savers beside them, and the Closer at its end.
-- Entries are read newest first, steps oldest first. These rules are this project's own.
use Rattle.std.specs.Prelude.{◌≡◌, ◌⊎◌, ℕ, zero, suc, Bool, true, false, List, [], ◌∷◌, ◌++◌, if◌then◌else◌}
use Rattle.hx_events.specs.declared.event.Command.{Command}
use Rattle.hx_events.specs.declared.event.Event.TheVariants.{Act}
use Rattle.hx_events.specs.declared.life.Ended.TheVariants.{Script, Cut}
use Rattle.hx_events.specs.declared.life.Entry.{Entry}
use Rattle.hx_events.specs.declared.life.Life.{Life}
use Rattle.hx_rules.specs.Interleavings.{Interleaves, IsWorkOf, are_closing, is_window}
use Rattle.hx_rules.specs.Legal.{with_restored}
use Rattle.hx_script.specs.declared.script.Step.{Step}
use Rattle.hx_script.specs.declared.script.Step.TheVariants.{Do}
use Rattle.hx_lives.specs.Course.{course_of, opening}
use Rattle.hx_lives.specs.Quiet.{is_quiet_before_quit}
use Rattle.hx_actors.specs.Work.{IsPartOf}

-- the commands of window k among these steps, in their order
abbrev pub commands_of : ℕ → List Step → List Command
commands_of k [] = []
commands_of k (Do actor (Act command) ∷ steps) = if is_window k actor then command ∷ commands_of k steps else commands_of k steps
commands_of k (step ∷ steps) = commands_of k steps

-- the commands of each of m windows, from window k on
abbrev pub scripts_from : ℕ → ℕ → List Step → List (List Command)
scripts_from k zero steps = []
scripts_from k (suc m) steps = commands_of k steps ∷ scripts_from (suc k) m steps

-- the commands of each window, 0 to 7
unfoldable pub scripts_of : List Step → List (List Command)
scripts_of steps = scripts_from 0 8 steps

-- with one command more of the window with this number, where there is one
abbrev pub with_command : ℕ → Command → List (List Command) → List (List Command)
with_command number command [] = []
with_command zero command (script ∷ scripts) = (script ++ command ∷ []) ∷ scripts
with_command (suc number) command (script ∷ scripts) = script ∷ with_command number command scripts

-- A whole run of these steps: a life, guarded or not, over the declared names and behind them the restored ones that aren't declared,
-- that ended with the script. Its history is that of windows that each made exactly their commands, of writers and savers,
-- and of the Closer at the end. Nothing was due before its last question.
pub record HasRun (guarded : Bool) (declared : List (List ℕ)) (steps : List Step) (life : Life) : Type 0 where
  pub ended_so : life.ended ≡ Script
  pub guarded_so : life.guarded ≡ guarded
  pub named : life.names ≡ with_restored declared life.base
  pub interleaves : Interleaves (opening (course_of life)) false (scripts_of steps) (course_of life).entries
  pub quiet : is_quiet_before_quit (opening (course_of life)) (course_of life).entries ≡ true

-- A run of these steps that was cut off for want of memory: each window has made the first of its commands, all other entries
-- are of writers and savers, and behind them stand some of the Closer's stages, where all work was done by then.
pub record HasRunInPart (guarded : Bool) (declared : List (List ℕ)) (steps : List Step) (life : Life) : Type 0 where
  pub ended_so : life.ended ≡ Cut
  pub guarded_so : life.guarded ≡ guarded
  pub named : life.names ≡ with_restored declared life.base
  pub stages : List Entry
  pub work : List Entry
  pub whole : (course_of life).entries ≡ stages ++ work
  pub in_part : IsPartOf false (scripts_of steps) work
  pub close : are_closing (opening (course_of life)) stages work ≡ true
  pub turn : (stages ≡ []) ⊎ IsWorkOf (opening (course_of life)) false (scripts_of steps) work

-- the one life of a run that came to its end
abbrev pub HaveRun : Bool → List (List ℕ) → List Step → List Life → Type 0
HaveRun guarded declared steps [] = ⊥
HaveRun guarded declared steps (life ∷ []) = HasRun guarded declared steps life
HaveRun guarded declared steps (life ∷ next ∷ lives) = ⊥

-- the lives of a run for which memory ran out: none where no vault was opened, else one that was cut off
abbrev pub HaveRunInPart : Bool → List (List ℕ) → List Step → List Life → Type 0
HaveRunInPart guarded declared steps [] = Unit {0}
HaveRunInPart guarded declared steps (life ∷ []) = HasRunInPart guarded declared steps life
HaveRunInPart guarded declared steps (life ∷ next ∷ lives) = ⊥
