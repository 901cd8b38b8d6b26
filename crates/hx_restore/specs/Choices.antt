-- The choice between two sides by the order in which they are read, and the twin by what was found before.
use Rattle.std.specs.Prelude.{◌≡◌, ◌||◌, ℕ, Bool, true, false, nat_lt, bytes_eq, if◌then◌else◌, List, Option, Some, None, is_some, Result, Ok, Err, MatchOption, slice_range, refl}
use Rattle.std.specs.List.{position}
use Rattle.std.proofs.Common.{sym, ◌∙◌, ap}
use Rattle.hx_events.specs.declared.backup.Backup.{Backup}
use Rattle.hx_events.specs.declared.backup.PairFound.{PairFound}
use Rattle.hx_events.specs.declared.backup.PairFound.TheVariants.{Empty, Found, Damaged, Twin}
use Rattle.hx_events.specs.declared.backup.Side.TheVariants.{A, B}
use Rattle.hx_record.specs.declared.error.RecordError.{RecordError}
use Rattle.hx_record.specs.Records.{record_in}
use Rattle.hx_restore.specs.declared.value.PairValue.{PairValue}
use Rattle.hx_restore.specs.declared.value.PairValue.TheVariants.{Nothing, Broken, Held}
use Rattle.hx_restore.specs.Values.{SideValue, Silent, Spoilt, Holding, side_by, side_of, value_of, value_by_bytes}
use Rattle.hx_slots.specs.Frames.{Frame, shown_in}
use Rattle.hx_slots.specs.declared.slot.Shown.{Shown}

-- the frame that a place in a slot file tells of
abbrev pub frame_at_place : List ℕ → Option Shown → Option Frame
frame_at_place bytes None = None
frame_at_place bytes (Some s) = Some (record { form = s.form; stamp = s.stamp; body = slice_range bytes s.start s.end })

abbrev pub shows_newer : Option Shown → Option Shown → Bool
shows_newer None b = false
shows_newer (Some a) None = false
shows_newer (Some a) (Some b) = nat_lt a.stamp b.stamp

abbrev pub backup_in : SideValue → Option Backup
backup_in Silent = None
backup_in Spoilt = None
backup_in (Holding stamp backup) = Some backup

-- The side that is read first counts where it holds a backup, then the other.
abbrev pub chosen : Bool → Bool → Bool → Option Backup → Option Backup → PairValue
chosen true in_a in_b a (Some b) = Held b B
chosen true in_a in_b (Some a) None = Held a A
chosen true in_a in_b None None = Broken
chosen false in_a in_b (Some a) b = Held a A
chosen false in_a in_b None (Some b) = Held b B
chosen false in_a in_b None None = if in_a || in_b then Broken else Nothing

abbrev pub is_found_of : List ℕ → PairFound → Bool
is_found_of resource Empty = false
is_found_of resource Damaged = false
is_found_of resource (Twin q) = false
is_found_of resource (Found backup side) = bytes_eq backup.resource resource

-- the first pair of these in which a backup of the same resource was found
abbrev pub twin_in : List PairFound → PairValue → Option ℕ
twin_in found Nothing = None
twin_in found Broken = None
twin_in found (Held backup side) = position (is_found_of backup.resource) found

pub shown_at_place : (bytes : List ℕ) (place : Option Shown) → MatchOption place (shown_in bytes ≡ None) (λ s. shown_in bytes ≡ Some (record { form = s.form; stamp = s.stamp; body = slice_range bytes s.start s.end })) → shown_in bytes ≡ frame_at_place bytes place
shown_at_place bytes None shows = shows
shown_at_place bytes (Some s) shows = shows

-- Reading the newer side first chooses the backup of the larger stamp.
two_records : (newer : Bool) (s t : ℕ) (a b : Result Backup RecordError) → nat_lt s t ≡ newer → chosen newer true true (backup_in (side_by s a)) (backup_in (side_by t b)) ≡ value_of (side_by s a) (side_by t b)
two_records true s t (Ok a) (Ok b) is = rw is refl
two_records true s t (Ok a) (Err e) is = refl
two_records true s t (Err e) (Ok b) is = refl
two_records true s t (Err e) (Err d) is = refl
two_records false s t (Ok a) (Ok b) is = rw is refl
two_records false s t (Ok a) (Err e) is = refl
two_records false s t (Err e) (Ok b) is = refl
two_records false s t (Err e) (Err d) is = refl

left_record : (s : ℕ) (a : Result Backup RecordError) → chosen false true false (backup_in (side_by s a)) None ≡ value_of (side_by s a) Silent
left_record s (Ok a) = refl
left_record s (Err e) = refl

right_record : (t : ℕ) (b : Result Backup RecordError) → chosen false false true None (backup_in (side_by t b)) ≡ value_of Silent (side_by t b)
right_record t (Ok b) = refl
right_record t (Err e) = refl

by_places : (x y : List ℕ) (a b : Option Shown) → chosen (shows_newer a b) (is_some a) (is_some b) (backup_in (side_of (frame_at_place x a))) (backup_in (side_of (frame_at_place y b))) ≡ value_of (side_of (frame_at_place x a)) (side_of (frame_at_place y b))
by_places x y None None = refl
by_places x y (Some a) None = left_record a.stamp (record_in a.form (slice_range x a.start a.end))
by_places x y None (Some b) = right_record b.stamp (record_in b.form (slice_range y b.start b.end))
by_places x y (Some a) (Some b) = two_records (nat_lt a.stamp b.stamp) a.stamp b.stamp (record_in a.form (slice_range x a.start a.end)) (record_in b.form (slice_range y b.start b.end)) refl

pub chosen_value : (x y : List ℕ) (a b : Option Shown) → shown_in x ≡ frame_at_place x a → shown_in y ≡ frame_at_place y b
    → chosen (shows_newer a b) (is_some a) (is_some b) (backup_in (side_of (frame_at_place x a))) (backup_in (side_of (frame_at_place y b))) ≡ value_by_bytes x y
chosen_value x y a b is_a is_b =
    by_places x y a b
    ∙ ap (λ (f : Option Frame). value_of (side_of f) (side_of (frame_at_place y b))) (sym is_a)
    ∙ ap (λ (f : Option Frame). value_of (side_of (shown_in x)) (side_of f)) (sym is_b)
