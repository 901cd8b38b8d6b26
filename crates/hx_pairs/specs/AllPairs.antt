-- The invariant of all pairs: each is held by one resource, quiet, or barred. It is this project's own.
use Rattle.std.specs.Prelude.{◌≡◌, ◌<◌, ◌⊎◌, ℕ, ◌+◌, ◌*◌, List, length, slice_index_or, Option, Some, None}
use Rattle.hx_disk.specs.File.{FileState, IsImage}
use Rattle.hx_events.specs.declared.life.Entry.{Entry}
use Rattle.hx_restore.specs.declared.value.PairValue.{PairValue}
use Rattle.hx_restore.specs.declared.value.PairValue.TheVariants.{Broken, Held}
use Rattle.hx_restore.specs.Values.{value_of, side_of}
use Rattle.hx_events.specs.declared.backup.Backup.{Backup}
use Rattle.hx_events.specs.declared.backup.Side.{Side}
use Rattle.hx_events.specs.declared.backup.PairFound.TheVariants.{Empty, Damaged}
use Rattle.hx_rules.specs.Entries.{own}
use Rattle.hx_rules.specs.Legal.{restored_at}
use Rattle.hx_rules.specs.Marks.{Marks, marks}
use Rattle.hx_slots.specs.Files.{file_of}
use Rattle.hx_slots.specs.Frames.{shown_in}
use Rattle.hx_vault.specs.declared.pair.Pair.{Pair}
use Rattle.hx_vault.specs.declared.pair.PairUse.TheVariants.{Free, Taken, Barred}
use Rattle.hx_vault.specs.Sides.{SideState, Shut, Still, IsSide, is_closed}
use Rattle.hx_vault.specs.Vaults.{VaultState, pair_at, is_shut, other_side}
use Rattle.hx_pairs.specs.OnePair.{Quiet, PairInvariant}
use Rattle.hx_lives.specs.Course.{Start, opening_at}
use Rattle.hx_lives.specs.CrashSafe.{name_at, IsNamed, HasTwin}

-- so many bytes were put behind the gate of the side that isn't home
abbrev pub IsPlace : Option ℕ → SideState → Type 0
IsPlace None side = Unit {0}
IsPlace (Some n) (Shut put) = length put ≡ n
IsPlace (Some n) (Still frame sure) = ⊥

-- the sides of a pair, its home side first
pub record HasSides (pair : Pair) (p : ℕ) (files : ℕ → FileState) (here away : SideState) : Type 0 where
  pub is_here : IsSide here (files (file_of p pair.home))
  pub is_away : IsSide away (files (file_of p (other_side pair.home)))
  pub known_here : is_closed here ≡ is_shut pair pair.home
  pub known_away : is_closed away ≡ is_shut pair (other_side pair.home)
  pub known_put : IsPlace pair.put away

-- a pair that a resource with these marks holds
pub record IsOwned (resource : List ℕ) (m : Marks) (pair : Pair) (p most : ℕ) (files : ℕ → FileState) : Type 0 where
  pub here : SideState
  pub away : SideState
  pub sides : HasSides pair p files here away
  pub keeps : PairInvariant resource m pair.home most here away

-- a free pair
pub record IsQuietPair (pair : Pair) (p : ℕ) (files : ℕ → FileState) : Type 0 where
  pub here : SideState
  pub away : SideState
  pub sides : HasSides pair p files here away
  pub quiet_here : Quiet here
  pub quiet_away : Quiet away

-- the value of a pair that was found to be a twin
pub record IsTwinValue (b : Start) (p : ℕ) (value : PairValue) : Type 0 where
  pub backup : Backup
  pub side : Side
  pub is : value ≡ Held backup side
  pub twin : HasTwin b.base backup.resource
  pub named : IsNamed b.names backup.resource

-- a barred pair, which has one value in every image of these files
pub record IsForeign (b : Start) (p : ℕ) (files : ℕ → FileState) : Type 0 where
  pub value : PairValue
  pub fixed : (x y : List ℕ) → IsImage (files (2 * p)) x → IsImage (files (2 * p + 1)) y → value_of (side_of (shown_in x)) (side_of (shown_in y)) ≡ value
  pub kind : ((value ≡ Broken) × (slice_index_or b.base p Empty ≡ Damaged)) ⊎ IsTwinValue b p value

-- the pair that the resource c holds
abbrev pub held_at : List (Option ℕ) → ℕ → Option ℕ
held_at held c = slice_index_or held c None

-- the marks of the resource's backups after these entries
abbrev pub marks_at : Start → List Entry → ℕ → Marks
marks_at b es c = marks (restored_at (opening_at b) c) (opening_at b).guarded (own c es)

-- what is said of the pair that the resource holds
pub record IsHolder (b : Start) (es : List Entry) (v : VaultState) (files : ℕ → FileState) (c p : ℕ) : Type 0 where
  pub below : p < 64
  pub used : (pair_at v p).used ≡ Taken
  pub owned : IsOwned (name_at b c) (marks_at b es c) (pair_at v p) p v.stamp files

-- some resource holds the pair
pub record IsHeld (held : List (Option ℕ)) (p : ℕ) : Type 0 where
  pub owner : ℕ
  pub is : held_at held owner ≡ Some p

-- The invariant. A resource that holds no pair has no completed backup.
pub record PairsInvariant (b : Start) (es : List Entry) (v : VaultState) (held : List (Option ℕ)) (files : ℕ → FileState) : Type 0 where
  pub names : (c k : ℕ) → c < length b.names → k < length b.names → name_at b c ≡ name_at b k → c ≡ k
  pub owners : length held ≡ length b.names
  pub pairs : length v.pairs ≡ 64
  pub apart : (c k p : ℕ) → held_at held c ≡ Some p → held_at held k ≡ Some p → c ≡ k
  pub taken : (c p : ℕ) → held_at held c ≡ Some p → IsHolder b es v files c p
  pub owned : (p : ℕ) → p < 64 → (pair_at v p).used ≡ Taken → IsHeld held p
  pub free : (p : ℕ) → p < 64 → (pair_at v p).used ≡ Free → IsQuietPair (pair_at v p) p files
  pub barred : (p : ℕ) → p < 64 → (pair_at v p).used ≡ Barred → IsForeign b p files
  pub lacking : (c : ℕ) → held_at held c ≡ None → (marks_at b es c).done ≡ None
