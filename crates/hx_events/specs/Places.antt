-- The places of resources in a list of names.
use Rattle.std.specs.Prelude.{◌≡◌, ℕ, Bool, List, [], ◌∷◌, Option, None, bytes_eq, map, Vec}
use Rattle.std.specs.Global.{Global}
use Rattle.std.specs.List.{position_from}

-- the texts that are kept
abbrev pub texts_of : List (Vec ℕ Global) → List (List ℕ)
texts_of names = map (λ name. name.items) names

-- is the name this resource?
abbrev pub is_named : List ℕ → List ℕ → Bool
is_named resource name = bytes_eq name resource

-- The number of a resource: its place in the list of names, from 0, if it stands there.
abbrev pub place_of : List ℕ → List (List ℕ) → Option ℕ
place_of resource names = position_from (is_named resource) 0 names

-- no name stands there twice
abbrev pub IsDistinct : List (List ℕ) → Type 0
IsDistinct [] = Unit {0}
IsDistinct (name ∷ names) = (place_of name names ≡ None) × IsDistinct names
