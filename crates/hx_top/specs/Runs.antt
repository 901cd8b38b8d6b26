-- What a run of windows at once has done.
use Rattle.std.specs.Prelude.{◌≡◌, ◌⊎◌, ℕ, Bool, List, [], reverse, Option}
use Rattle.hx_disk.specs.File.{FileState}
use Rattle.hx_events.specs.declared.life.Life.{Life}
use Rattle.hx_script.specs.declared.script.Form.TheVariants.{Run}
use Rattle.hx_script.specs.declared.script.Script.{Script}
use Rattle.hx_script.specs.declared.script.Step.{Step}
use Rattle.hx_script.specs.declared.why.Why.{Why}
use Rattle.hx_script.specs.Readings.{Reads}
use Rattle.hx_script.specs.Scripts.{script_in}
use Rattle.hx_lives.specs.Course.{Past}
use Rattle.hx_play.specs.Played.{ArePlayed}
use Rattle.hx_play.specs.Runs.{HaveRun, HaveRunInPart}
use Rattle.hx_top.specs.declared.whole.End.{End}
use Rattle.hx_top.specs.declared.whole.End.TheVariants.{Done, WriteFault, NoMemory, OpenFault}
use Rattle.hx_top.specs.Whole.{refusal_of}

-- the first bad line of a run's script, with its reason
abbrev pub run_refusal : List ℕ → Option (ℕ × Why)
run_refusal input = refusal_of (script_in Run input)

-- Which lives a run has made, by how it ended. Where memory ran out the life may be whole, and it was its text that found none.
abbrev pub RunTo : End → Bool → List (List ℕ) → List Step → List Life → Type 0
RunTo Done guarded declared steps lives = HaveRun guarded declared steps lives
RunTo WriteFault guarded declared steps lives = HaveRun guarded declared steps lives
RunTo OpenFault guarded declared steps lives = lives ≡ []
RunTo NoMemory guarded declared steps lives = HaveRunInPart guarded declared steps lives ⊎ HaveRun guarded declared steps lives
RunTo end guarded declared steps lives = ⊥

-- The source's script was planted and its windows ran in these lives, from the moment a on and from the count of faults
-- `start`; the disk came to the moment b and to the count `count`.
pub record HasBeenRun (picked : ℕ → FileState → List ℕ) (tells : Bool) (past : Past) (guarded : Bool) (input : List ℕ) (end : End) (a start b count : ℕ) (lives : List Life) : Type 0 where
  pub script : Script
  pub reads : script_in Run input ≡ Reads script
  pub ran : RunTo end guarded script.names script.steps lives
  pub played : ArePlayed picked tells past (reverse script.slots) a start b count lives
