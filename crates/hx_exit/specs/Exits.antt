-- Whether an exit is a hot one, and what comes of it: VS Code's setting `files.hotExit`.
use Rattle.std.specs.Prelude.{Bool, true, false, not, ◌&&◌, ◌||◌, List, [], ◌∷◌, if◌then◌else◌}
use Rattle.hx_events.specs.declared.copies.CopyFact.{CopyFact}
use Rattle.hx_exit.specs.declared.exit.Setting.{Setting}
use Rattle.hx_exit.specs.declared.exit.Setting.TheVariants.{Off, OnExit, OnExitAndWindowClose}
use Rattle.hx_exit.specs.declared.exit.Ending.{Ending}
use Rattle.hx_exit.specs.declared.exit.Ending.TheVariants.{Quit, CloseWindow}
use Rattle.hx_exit.specs.declared.exit.Situation.{Situation}
use Rattle.hx_exit.specs.declared.exit.Decision.{Decision}
use Rattle.hx_exit.specs.declared.exit.Decision.TheVariants.{Close, Confirm}

-- The program ends: it quits, or its last window closes, but on a Mac, where it goes on without windows.
abbrev pub ends_program : Ending → Situation → Bool
ends_program Quit situation = true
ends_program CloseWindow situation = situation.last && not situation.mac

-- The exit is a hot one, which may leave a dirty copy behind that is backed up: never where the setting is off; else where the
-- program ends; and by the setting that is of windows too also where one with a folder closes. After VS Code's `files.hotExit`.
abbrev pub triggers : Setting → Ending → Situation → Bool
triggers Off ending situation = false
triggers OnExit ending situation = ends_program ending situation
triggers OnExitAndWindowClose ending situation = ends_program ending situation || situation.folder

-- The exit would lose the copy's changes: it is dirty, and the exit isn't a hot one or the last version isn't backed up.
abbrev pub is_lost : (hot : Bool) → CopyFact → Bool
is_lost hot copy = copy.dirty && not (hot && copy.backed)

-- The user is asked about the first copy whose changes would be lost; where there is none, the exit closes. That the copies are
-- asked about one by one, in their order, is this project's own.
abbrev pub decision_by : (hot : Bool) → List CopyFact → Decision
decision_by hot [] = Close
decision_by hot (copy ∷ copies) = if is_lost hot copy then Confirm copy.res else decision_by hot copies
