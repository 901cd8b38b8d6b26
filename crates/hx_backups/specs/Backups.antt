-- The backups model as plain data. It is after VS Code's, without the meta.
use Rattle.std.specs.Prelude.{ℕ, ◌==◌, nat_eq, nat_lt, Bool, true, false, ◌&&◌, List, [], ◌∷◌, Option, Some, None}
use Rattle.std.specs.Map.{lookup}

-- The backed up resources with the version ids of their backups, in the order in which they were added; and for how many
-- more there is room.
pub record BackupsState : Type 0 where
  pub pairs : List (ℕ × ℕ)
  pub room : ℕ

-- the version of the resource's backup, if it has one
abbrev pub version_of : ℕ → List (ℕ × ℕ) → Option ℕ
version_of c pairs = lookup (nat_eq c) pairs

-- Is there a backup, and is it of the version that is asked for? Without one any serves.
abbrev pub is_backed_up : Option ℕ → Option ℕ → Bool
is_backed_up asked None = false
is_backed_up None (Some kept) = true
is_backed_up (Some asked) (Some kept) = kept == asked

-- is each of these a resource's number?
abbrev pub are_numbers : List ℕ → Bool
are_numbers [] = true
are_numbers (n ∷ ns) = nat_lt n 256 && are_numbers ns
