-- What holds of a life.
use Rattle.std.specs.Prelude.{◌≡◌, ◌≤◌, ℕ, Bool, true, IsTrue, List}
use Rattle.hx_disk.specs.File.{FileState}
use Rattle.hx_slots.specs.Raws.{greatest_stamp}
use Rattle.hx_rules.specs.Legal.{is_legal}
use Rattle.hx_lives.specs.Course.{Course, Past, start_of, opening, last_moment}
use Rattle.hx_lives.specs.Caused.{AreCaused}
use Rattle.hx_lives.specs.Told.{AreTold}
use Rattle.hx_lives.specs.CrashSafe.{AreSafe, IsSafe}

-- what is read of each file
abbrev pub readings : (ℕ → FileState) → ℕ → List ℕ
readings files f = (files f).reading

-- Each entry tells what was found, and from the last one to the moment z no user's file changes.
pub record IsTold (past : Past) (z : ℕ) (c : Course) : Type 0 where
  pub entries : AreTold past (opening c) c.moment (greatest_stamp (readings (past c.moment))) c.entries
  pub alone : (t f : ℕ) → last_moment c ≤ t → t ≤ z → 128 ≤ f → past t f ≡ past (last_moment c) f

-- What a crash leaves at any moment of the life up to z is safe.
pub record IsCrashSafe (past : Past) (z : ℕ) (c : Course) : Type 0 where
  pub entries : AreSafe past (start_of c) c.entries
  pub behind : (t : ℕ) → last_moment c ≤ t → t ≤ z → IsSafe (start_of c) c.entries (past t)

-- What holds of a life up to the moment z of a disk with this past. It speaks of no moment past z.
pub record LifeHolds (tells : Bool) (past : Past) (z : ℕ) (c : Course) : Type 0 where
  pub legal : is_legal (opening c) c.entries ≡ true
  pub caused : AreCaused c.moment c.faults c.entries
  pub ended : last_moment c ≤ z
  pub told : IsTrue tells → IsTold past z c
  pub safe : IsTrue tells → IsCrashSafe past z c
