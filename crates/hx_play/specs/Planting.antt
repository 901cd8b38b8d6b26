-- The slot files that a script plants. The plants are read newest first, so that of two of the same file the later one counts.
-- They are this project's own.
use Rattle.std.specs.Prelude.{◌≡◌, ◌≤◌, ℕ, ◌==◌, List, [], ◌∷◌, Option, Some, None, MatchOption, if◌then◌else◌}
use Rattle.hx_disk.specs.File.{FileState, IsSettled}
use Rattle.hx_script.specs.declared.script.Plant.{Plant}
use Rattle.hx_lives.specs.Course.{Past}

-- the bytes that these plants leave in the file, if they write it
abbrev pub planted : List Plant → ℕ → Option (List ℕ)
planted [] file = None
planted (plant ∷ earlier) file = if plant.file == file then Some plant.bytes else planted earlier file

-- These bytes are read, and a crash leaves nothing else.
pub record IsPlantedWith (bytes : List ℕ) (file : FileState) : Type 0 where
  pub reading : file.reading ≡ bytes
  pub settled : IsSettled file

-- Each file that these plants write has the bytes that they leave in it.
abbrev pub HasPlanted : List Plant → (ℕ → FileState) → Type 0
HasPlanted plants files = (f : ℕ) → MatchOption (planted plants f) (Unit {0}) (λ bytes. IsPlantedWith bytes (files f))

-- From the moment a to the moment b no file has changed but those that these plants write.
pub record OnlyPlants (past : Past) (plants : List Plant) (a b : ℕ) : Type 0 where
  pub later : a ≤ b
  pub others : (t f : ℕ) → a ≤ t → t ≤ b → planted plants f ≡ None → past t f ≡ past a f
