-- What a run of calls has added to the bytes that a source has given, or a sink has taken.
use Rattle.std.specs.Prelude.{◌≡◌, ◌≤◌, ℕ, List, ◌++◌, length, take, drop}

-- what stands behind the bytes that stood there before
abbrev pub added : List ℕ → List ℕ → List ℕ
added before now = drop (length before) now

-- what stood there before stands at the front still
abbrev pub Grows : List ℕ → List ℕ → Type 0
Grows before now = now ≡ before ++ added before now

-- a front of these bytes was added behind what stood there
pub record AddsFront (bytes before now : List ℕ) : Type 0 where
  pub count : ℕ
  pub within : count ≤ length bytes
  pub added : now ≡ before ++ take count bytes
