-- Laws of the pairs, as statements.
use Rattle.std.specs.Prelude.{◌≡◌, ◌≤◌, ℕ, Bool, IsTrue, List, [], Option, Some, None}
use Rattle.hx_disk.specs.File.{FileState}
use Rattle.hx_events.specs.declared.backup.Side.{Side}
use Rattle.hx_events.specs.declared.life.Entry.{Entry}
use Rattle.hx_restore.specs.Values.{side_of}
use Rattle.hx_rules.specs.Allowed.{allowed_of}
use Rattle.hx_rules.specs.Marks.{Marks}
use Rattle.hx_slots.specs.Files.{file_of}
use Rattle.hx_slots.specs.Frames.{Frame}
use Rattle.hx_slots.specs.Raws.{greatest_stamp}
use Rattle.hx_vault.specs.Sides.{SideState, CanShow, IsQuietFile}
use Rattle.hx_vault.specs.Vaults.{VaultState, pair_at, is_shut}
use Rattle.hx_lives.specs.Chained.{IsOpened}
use Rattle.hx_lives.specs.Course.{Course, Past, Start, opening, start_of}
use Rattle.hx_lives.specs.CrashSafe.{IsSafe}
use Rattle.hx_lives.specs.Holds.{readings}
use Rattle.hx_pairs.specs.Sufficient.{IsFine, value_at, enough}
use Rattle.hx_pairs.specs.Opened.{IsFresh, fresh_kept}
use Rattle.hx_pairs.specs.OnePair.{PairInvariant}
use Rattle.hx_pairs.specs.AllPairs.{PairsInvariant, held_at, marks_at}
use Rattle.hx_pairs.specs.Safe.{kept_safe}
use Rattle.hx_pairs.specs.UserFiles.{bare_quiet}
use Rattle.hx_pairs.specs.Registries.{IsPlaced, IsExact, RegistryInvariant}

-- Whatever the two sides of a resource's pair can show, the pair's value is allowed.
abbrev pub PairShowsAllowed : Type 0
PairShowsAllowed = (resource : List ℕ) (m : Marks) (home : Side) (most : ℕ) (here away : SideState) → PairInvariant resource m home most here away → (x y : Option Frame) → CanShow here x → CanShow away y
    → IsFine resource (allowed_of m.done m.tried m.undone) (value_at home (side_of x) (side_of y))

-- While the pairs keep their invariant, whatever a crash leaves is safe.
abbrev pub PairsAreSafe : Type 0
PairsAreSafe = (b : Start) (es : List Entry) (v : VaultState) (held : List (Option ℕ)) (files : ℕ → FileState) → PairsInvariant b es v held files → IsSafe b es files

-- A resource of which nothing may come back can give its pair back: both its sides are quiet.
abbrev pub BarePairIsQuiet : Type 0
BarePairIsQuiet = (b : Start) (es : List Entry) (v : VaultState) (held : List (Option ℕ)) (files : ℕ → FileState) (c p : ℕ) → PairsInvariant b es v held files → held_at held c ≡ Some p → (marks_at b es c).done ≡ None → (marks_at b es c).tried ≡ None
    → (s : Side) → IsQuietFile (is_shut (pair_at v p) s) (files (file_of p s))

-- A vault that was just opened keeps the pairs' invariant with no entry.
abbrev pub FreshIsKept : Type 0
FreshIsKept = (b : Start) (v : VaultState) (held : List (Option ℕ)) (files : ℕ → FileState) → IsFresh b v held files → PairsInvariant b [] v held files

-- It is all that a registry keeps.
abbrev pub RegistryBegins : {D : Type 0} → Bool → (D → ℕ) → (D → Past) → (D → ℕ → FileState) → (D → ℕ) → Type 0
RegistryBegins {D} tells time past now failures = (c : Course) (v : VaultState) (held : List (Option ℕ)) (disk : D) → c.entries ≡ [] → c.moment ≡ time disk → c.faults ≤ failures disk → IsPlaced c.names (opening c).barred v held → IsExact c held
    → (IsTrue tells → IsFresh (start_of c) v held (now disk)) → (IsTrue tells → IsOpened (past disk) (start_of c)) → (IsTrue tells → v.stamp ≡ greatest_stamp (readings (past disk c.moment)))
    → RegistryInvariant tells time past now failures c v held disk

pub pair_shows_allowed : PairShowsAllowed
pair_shows_allowed = enough

pub pairs_are_safe : PairsAreSafe
pairs_are_safe = kept_safe

pub bare_pair_is_quiet : BarePairIsQuiet
bare_pair_is_quiet = bare_quiet

pub fresh_is_kept : FreshIsKept
fresh_is_kept = fresh_kept
