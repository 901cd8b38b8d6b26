-- The sizes of a copy's versions, by their ids.
use Rattle.std.specs.Prelude.{ℕ, zero, suc, List, [], ◌∷◌, ◌++◌, get_or, Option, Some, None}
use Rattle.hx_rules.specs.Versions.{Version}

-- the sizes of these versions, the first one's first
abbrev pub sizes_of : List Version → List ℕ
sizes_of [] = []
sizes_of (v ∷ vs) = sizes_of vs ++ v.size ∷ []

-- the size of the version with this id, or 0 where there is none
abbrev pub size_at : ℕ → List ℕ → ℕ
size_at zero sizes = 0
size_at (suc n) sizes = get_or sizes n 0

-- with the size of a new version behind, if there is one
abbrev pub with_size : Option ℕ → List ℕ → List ℕ
with_size None sizes = sizes
with_size (Some s) sizes = sizes ++ s ∷ []
