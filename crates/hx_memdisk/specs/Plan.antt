-- Which device calls fail.
use Rattle.std.specs.Prelude.{◌<◌, ◌⊎◌, ℕ, List, Contains, Option, Some, None}

abbrev pub IsBehind : Option ℕ → ℕ → Type 0
IsBehind None call = ⊥
IsBehind (Some last) call = last < call

-- The plan names the call, or the call is behind the fuse.
abbrev pub Fails : List ℕ → Option ℕ → ℕ → Type 0
Fails fails fuse call = Contains fails call ⊎ IsBehind fuse call
