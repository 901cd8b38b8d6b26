-- Lives that have ended.
use Rattle.std.specs.Prelude.{◌≡◌, ◌≤◌, ℕ, Bool, List, ◌∷◌}
use Rattle.hx_disk.specs.File.{FileState}
use Rattle.hx_events.specs.declared.life.Ended.{Ended}
use Rattle.hx_events.specs.declared.life.Life.{Life}
use Rattle.hx_lives.specs.Course.{Course, Past, course_of, last_faults}
use Rattle.hx_lives.specs.Chained.{AreLived, IsLived, NeverFall, faults_of}

-- what contracts see of the lives that have ended: they, the newest first, and the room for more
pub record LivesState : Type 0 where
  pub lives : List Life
  pub room : ℕ

-- Lives that have ended, the newest first, from the moment `first` up to the moment b, and from the count of faults `start` up to
-- the count `end`: each of them holds, each goes over into the next, and the counts that they kept never fall.
pub record AreOver (picked : ℕ → FileState → List ℕ) (tells : Bool) (past : Past) (first start b end : ℕ) (lives : List Life) : Type 0 where
  pub lived : AreLived picked tells past first b lives
  pub falls : NeverFall start lives
  pub counted : faults_of start lives ≤ end

-- One life more has ended in this way. It had this course, and up to the present moment of the disk it holds.
pub record EndsLife {D : Type 0} (picked : ℕ → FileState → List ℕ) (tells : Bool) (time : D → ℕ) (past : D → Past) (failures : D → ℕ) (course : Course) (ended : Ended) (old new : List Life) (disk : D) : Type 0 where
  pub life : Life
  pub added : new ≡ life ∷ old
  pub of_course : course_of life ≡ course
  pub ended_so : life.ended ≡ ended
  pub counted : last_faults course ≤ failures disk
  pub lived : IsLived picked tells (past disk) (time disk) life
