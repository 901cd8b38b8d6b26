-- A whole script: what was planted, and the lives behind it.
use Rattle.std.specs.Prelude.{◌≡◌, ◌⊎◌, ℕ, Bool, IsTrue, List, []}
use Rattle.hx_disk.specs.File.{FileState}
use Rattle.hx_events.specs.declared.life.Life.{Life}
use Rattle.hx_script.specs.declared.script.Plant.{Plant}
use Rattle.hx_lives.specs.Course.{Past}
use Rattle.hx_play.specs.Over.{AreOver}
use Rattle.hx_play.specs.Planting.{HasPlanted, OnlyPlants}

-- From the moment a to the moment `first` the slot files were planted and no other file changed, and from there to the moment b
-- the lives were lived.
pub record HaveLived (picked : ℕ → FileState → List ℕ) (tells : Bool) (past : Past) (plants : List Plant) (a start b end : ℕ) (lives : List Life) : Type 0 where
  pub first : ℕ
  pub only : OnlyPlants past plants a first
  pub has : IsTrue tells → HasPlanted plants (past first)
  pub over : AreOver picked tells past first start b end lives

-- Planting failed: there are no lives, and no file changed that isn't planted.
pub record HaveNotLived (past : Past) (plants : List Plant) (a b : ℕ) (lives : List Life) : Type 0 where
  pub none : lives ≡ []
  pub only : OnlyPlants past plants a b

-- What holds behind a script, however far it was played. The plants and the lives are read newest first.
abbrev pub ArePlayed : (picked : ℕ → FileState → List ℕ) (tells : Bool) (past : Past) (plants : List Plant) (a start b end : ℕ) (lives : List Life) → Type 0
ArePlayed picked tells past plants a start b end lives = HaveLived picked tells past plants a start b end lives ⊎ HaveNotLived past plants a b lives
