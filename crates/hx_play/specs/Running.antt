-- A script that is being played: the steps that were taken, the newest first, and the lives that they have ended.
use Rattle.std.specs.Prelude.{◌≡◌, ◌≤◌, ℕ, Bool, true, false, List, ◌∷◌}
use Rattle.hx_disk.specs.File.{FileState}
use Rattle.hx_events.specs.declared.life.Ended.TheVariants.{Cut}
use Rattle.hx_events.specs.declared.life.Life.{Life}
use Rattle.hx_rules.specs.Legal.{with_restored}
use Rattle.hx_script.specs.declared.script.Step.{Step}
use Rattle.hx_script.specs.declared.script.Step.TheVariants.{Do, Crash, Restart}
use Rattle.hx_script.specs.Follows.{HaveEnded, IsCutOff, moves_asked, moves_of, opens_after}
use Rattle.hx_lives.specs.Course.{Past, course_of}
use Rattle.hx_lives.specs.State.{RegistryState}
use Rattle.hx_play.specs.Over.{AreOver}

-- The Closer has its turn at this step.
abbrev pub is_restart : Step → Bool
is_restart Restart = true
is_restart (Do actor event) = false
is_restart (Crash pick) = false

-- A life runs after these steps, and has done what they asked of it.
pub record IsRunning {D : Type 0} (picked : ℕ → FileState → List ℕ) (tells : Bool) (time : D → ℕ) (past : D → Past) (guarded : Bool) (declared : List (List ℕ)) (moment faults : ℕ) (taken : List Step) (lives : List Life) (r : RegistryState D) : Type 0 where
  pub named : r.course.names ≡ with_restored declared r.course.base
  pub guarded_so : r.course.guarded ≡ guarded
  pub as_asked : moves_of r.course.entries ≡ moves_asked taken
  pub ended : HaveEnded guarded declared taken lives
  pub opened : r.course.moment ≤ time r.disk
  pub over : AreOver picked tells (past r.disk) moment faults r.course.moment r.course.faults lives

-- The vault is to be opened after these steps.
pub record IsBetween {D : Type 0} (picked : ℕ → FileState → List ℕ) (tells : Bool) (time : D → ℕ) (past : D → Past) (failures : D → ℕ) (guarded : Bool) (declared : List (List ℕ)) (moment faults : ℕ) (taken : List Step) (lives : List Life) (disk : D) : Type 0 where
  pub opens : opens_after taken ≡ true
  pub ended : HaveEnded guarded declared taken lives
  pub over : AreOver picked tells (past disk) moment faults (time disk) (failures disk) lives

-- The life that runs after these steps is about to be cut off for want of memory.
pub record IsCutting {D : Type 0} (picked : ℕ → FileState → List ℕ) (tells : Bool) (time : D → ℕ) (past : D → Past) (guarded : Bool) (declared : List (List ℕ)) (moment faults : ℕ) (is_closing : Bool) (taken : List Step) (lives : List Life) (r : RegistryState D) : Type 0 where
  pub named : r.course.names ≡ with_restored declared r.course.base
  pub guarded_so : r.course.guarded ≡ guarded
  pub entries : IsCutOff is_closing r.course (moves_asked taken)
  pub ended : HaveEnded guarded declared taken lives
  pub over : AreOver picked tells (past r.disk) moment faults r.course.moment r.course.faults lives

-- The life that ran after these steps was cut off for want of memory.
pub record IsCutShort {D : Type 0} (picked : ℕ → FileState → List ℕ) (tells : Bool) (time : D → ℕ) (past : D → Past) (failures : D → ℕ) (guarded : Bool) (declared : List (List ℕ)) (moment faults : ℕ) (is_closing : Bool) (taken : List Step) (lives : List Life) (disk : D) : Type 0 where
  pub cut : Life
  pub earlier : List Life
  pub whole : lives ≡ cut ∷ earlier
  pub ended_so : cut.ended ≡ Cut
  pub guarded_so : cut.guarded ≡ guarded
  pub named : cut.names ≡ with_restored declared cut.base
  pub entries : IsCutOff is_closing (course_of cut) (moves_asked taken)
  pub ended : HaveEnded guarded declared taken earlier
  pub over : AreOver picked tells (past disk) moment faults (time disk) (failures disk) lives
