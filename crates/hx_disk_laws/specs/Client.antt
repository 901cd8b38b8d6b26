-- A file whose first byte is to be 0, whatever a crash leaves.
use Rattle.std.specs.Prelude.{◌≡◌, ◌⊎◌, ◌<◌, ℕ, List, length, slice_index}
use Rattle.hx_disk.specs.File.{FileState, IsImage, Tried}

-- Each image begins with the byte 0.
abbrev pub IsShut : FileState → Type 0
IsShut file = (image : List ℕ) → IsImage file image → (0 < length image) × (slice_index image 0 ≡ 0)

-- On the way there: as it was, or with one byte at the front tried.
abbrev pub OnTheWay : FileState → FileState → Type 0
OnTheWay old file = (file ≡ old) ⊎ (Tried 0 1 old file ⊎ IsShut file)
