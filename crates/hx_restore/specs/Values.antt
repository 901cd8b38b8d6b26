-- What a pair of slot files is worth to a restart, and what a restart finds of a resource.
-- VS Code keeps one file for a backup and finds it by its name. That each backup has a pair of files, and which of the two
-- counts, is this project's own.
use Rattle.std.specs.Prelude.{◌≡◌, ◌<◌, ℕ, zero, suc, ◌+◌, ◌*◌, Bool, false, nat_lt, bytes_eq, if◌then◌else◌, List, [], ◌∷◌, length, take, Option, Some, None, Result, Ok, Err, slice_index_or}
use Rattle.hx_events.specs.declared.backup.Backup.{Backup}
use Rattle.hx_events.specs.declared.backup.PairFound.{PairFound}
use Rattle.hx_events.specs.declared.backup.PairFound.TheVariants.{Empty, Found, Damaged, Twin}
use Rattle.hx_events.specs.declared.backup.Side.TheVariants.{A, B}
use Rattle.hx_record.specs.declared.error.RecordError.{RecordError}
use Rattle.hx_record.specs.Records.{record_in}
use Rattle.hx_restore.specs.declared.value.PairValue.{PairValue}
use Rattle.hx_restore.specs.declared.value.PairValue.TheVariants.{Nothing, Broken, Held}
use Rattle.hx_rules.specs.Legal.{found_backup, lowest_from}
use Rattle.hx_slots.specs.Frames.{Frame, shown_in}
use Rattle.hx_slots.specs.Raws.{raw_at}
use Rattle.hx_slots.specs.declared.pair.RawPair.{RawPair}

-- What a side is worth: it shows nothing, something that doesn't read as a backup in its form, or a backup with its stamp.
pub data SideValue : Type 0 where
  Silent : SideValue
  Spoilt : SideValue
  Holding : (stamp : ℕ) → (backup : Backup) → SideValue

abbrev pub side_by : ℕ → Result Backup RecordError → SideValue
side_by stamp (Ok backup) = Holding stamp backup
side_by stamp (Err error) = Spoilt

-- what a side is worth by the frame that it shows
abbrev pub side_of : Option Frame → SideValue
side_of None = Silent
side_of (Some frame) = side_by frame.stamp (record_in frame.form frame.body)

-- The backup of the larger stamp among the sides that hold one, side A at a tie.
abbrev pub value_of : SideValue → SideValue → PairValue
value_of Silent Silent = Nothing
value_of (Holding s a) (Holding t b) = if nat_lt s t then Held b B else Held a A
value_of (Holding s a) Silent = Held a A
value_of (Holding s a) Spoilt = Held a A
value_of Silent (Holding t b) = Held b B
value_of Spoilt (Holding t b) = Held b B
value_of Silent Spoilt = Broken
value_of Spoilt Silent = Broken
value_of Spoilt Spoilt = Broken

-- the value of a pair whose two files have these bytes
abbrev pub value_by_bytes : List ℕ → List ℕ → PairValue
value_by_bytes a b = value_of (side_of (shown_in a)) (side_of (shown_in b))

-- the value of the pair p in an image of the disk
unfoldable pub pair_value : (ℕ → List ℕ) → ℕ → PairValue
pair_value image p = value_by_bytes (image (2 * p)) (image (2 * p + 1))

-- the backup of this resource in a pair's value
abbrev pub backup_for : List ℕ → PairValue → Option Backup
backup_for resource Nothing = None
backup_for resource Broken = None
backup_for resource (Held b side) = if bytes_eq b.resource resource then Some b else None

abbrev pub holds_for : List ℕ → PairValue → Bool
holds_for resource Nothing = false
holds_for resource Broken = false
holds_for resource (Held b side) = bytes_eq b.resource resource

-- What is found in a pair of this value. It is a twin where an earlier pair holds a backup of the same resource.
abbrev pub found_by : PairValue → Option ℕ → PairFound
found_by Nothing earlier = Empty
found_by Broken earlier = Damaged
found_by (Held b side) None = Found b side
found_by (Held b side) (Some q) = Twin q

-- the lowest pair before p that holds a backup of the same resource as this value
abbrev pub earlier_of : (ℕ → PairValue) → ℕ → PairValue → Option ℕ
earlier_of values p Nothing = None
earlier_of values p Broken = None
earlier_of values p (Held b side) = lowest_from (λ q. holds_for b.resource (values q)) 0 p

-- what is found in n pairs from p on
abbrev pub found_from : (ℕ → PairValue) → ℕ → ℕ → List PairFound
found_from values p zero = []
found_from values p (suc n) = found_by (values p) (earlier_of values p (values p)) ∷ found_from values (p + 1) n

-- What a restart finds in the 64 pairs of an image of the disk.
unfoldable pub restored : (ℕ → List ℕ) → List PairFound
restored image = found_from (pair_value image) 0 64

-- What a restart finds of a resource.
unfoldable pub shows : (ℕ → List ℕ) → List ℕ → Option Backup
shows image resource = found_backup resource (restored image)

-- of n pairs from p on, the first one's backup of this resource
abbrev pub first_backup : List ℕ → (ℕ → PairValue) → ℕ → ℕ → Option Backup
first_backup resource values p zero = None
first_backup resource values p (suc n) = elim (backup_for resource (values p)) [ Some b ↦ Some b | None ↦ first_backup resource values (p + 1) n ]

-- the value of the pair p by what was read
abbrev pub values_in : List RawPair → ℕ → PairValue
values_in pairs p = value_by_bytes (raw_at pairs p).a (raw_at pairs p).b

-- What a restart finds in pairs of which these bytes were read.
unfoldable pub restored_pairs : List RawPair → List PairFound
restored_pairs pairs = found_from (values_in pairs) 0 (length pairs)
