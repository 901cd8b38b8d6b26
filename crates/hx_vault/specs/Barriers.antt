-- What a run of syncs leaves as it was.
use Rattle.std.specs.Prelude.{◌≡◌, ◌≤◌, ℕ, List}
use Rattle.hx_disk.specs.File.{FileState, IsImage}

-- any state of any file: of a run of which only that time goes on and the past stays is said
abbrev pub IsSomeState : ℕ → FileState → Type 0
IsSomeState f file = Unit {0}

-- Of the file the same is read, its stat is the same, and a crash leaves only what it could have left before; and past so
-- many slot files nothing at all is different.
pub record OnlySynced (slots : ℕ) (before : ℕ → FileState) (f : ℕ) (file : FileState) : Type 0 where
  pub reading : file.reading ≡ (before f).reading
  pub stat : file.stat ≡ (before f).stat
  pub no_new : (image : List ℕ) → IsImage file image → IsImage (before f) image
  pub user : slots ≤ f → file ≡ before f
