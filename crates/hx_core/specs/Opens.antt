-- What a life begins with: its names, what each resource was restored with, and the list of completed backups.
use Rattle.std.specs.Prelude.{ℕ, ◌≡◌, List, [], ◌∷◌, ◌++◌, map, Option, Some, None, nat_eq, slice_get}
use Rattle.indexmap.specs.IndexMap.{insert_entry}
use Rattle.hx_events.specs.declared.backup.Backup.{Backup}
use Rattle.hx_events.specs.declared.backup.PairFound.{PairFound}
use Rattle.hx_events.specs.declared.backup.PairFound.TheVariants.{Found}
use Rattle.hx_events.specs.Places.{place_of}
use Rattle.hx_rules.specs.Legal.{found_backup, with_name, with_restored}
use Rattle.hx_resource.specs.Kept.{ResourceState, kept_at_first}

-- what each of the names was restored with
abbrev pub restored_of : List (List ℕ) → List PairFound → List (Option Backup)
restored_of names pairs = map (λ name. found_backup name pairs) names

abbrev pub with_first : Option ℕ → List (ℕ × ℕ) → List (ℕ × ℕ)
with_first None was = was
with_first (Some c) was = insert_entry nat_eq was c 1

-- the resources of the found backups, each with version 1, in the order of their pairs, behind those that are there
abbrev pub first_of : List (List ℕ) → List PairFound → List (ℕ × ℕ) → List (ℕ × ℕ)
first_of names [] was = was
first_of names (Found b side ∷ pairs) was = first_of names pairs (with_first (place_of b.resource names) was)
first_of names (_ ∷ pairs) was = first_of names pairs was

-- of each resource is kept what its backup, or none, leaves at the opening
abbrev pub AreFirst : List ResourceState → List (Option Backup) → Type 0
AreFirst [] [] = Unit {0}
AreFirst (s ∷ ss) (r ∷ rs) = (s.kept ≡ kept_at_first r) × AreFirst ss rs
AreFirst _ _ = ⊥

-- each of the names is found at its own number
abbrev pub ArePlaced : List (List ℕ) → Type 0
ArePlaced names = (k : ℕ) (name : List ℕ) → slice_get names k ≡ Some name → place_of name names ≡ Some k
