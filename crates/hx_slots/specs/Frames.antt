-- What stands in a slot file, and what it shows. All of it is this project's own.
use Rattle.std.specs.Prelude.{ℕ, ◌+◌, ◌-◌, ◌==◌, ◌&&◌, nat_le, if◌then◌else◌, List, ◌++◌, length, take, drop, slice_index, Option, Some, None}
use Rattle.std.specs.Int.{w32, w64, to_be_bytes}
use Rattle.hx_base.specs.Numbers.{u32_at, u64_at}
use Rattle.hx_slots.specs.declared.slot.Shown.{Shown}
use Rattle.hx_events.specs.declared.backup.SlotForm.{SlotForm}
use Rattle.hx_events.specs.declared.backup.SlotForm.TheVariants.{One, Two}

-- A frame: the form in which it stands, the stamp, and the body.
pub record Frame : Type 0 where
  pub form : SlotForm
  pub stamp : ℕ
  pub body : List ℕ

-- the most bytes of a body
abbrev pub body_limit : SlotForm → ℕ
body_limit One = 272144
body_limit Two = 534288

-- where the body stands behind the gate: behind the stamp and the length, in form Two with the mark between them
abbrev pub body_place : SlotForm → ℕ
body_place One = 12
body_place Two = 16

-- The frame of a length that is known, if it isn't too long and all of it is there. Bytes behind it are ignored.
abbrev pub frame_by : SlotForm → ℕ → List ℕ → Option ℕ → Option Frame
frame_by form stamp rest None = None
frame_by form stamp rest (Some size) =
    if nat_le size (body_limit form) && nat_le (body_place form + size) (length rest)
    then Some (record { form = form; stamp = stamp; body = take size (drop (body_place form) rest) })
    else None

-- The same by the four bytes behind the stamp: the mark `ff ff ff ff` is above each length of form One, so that no
-- bytes are of both forms. The mark tells the forms apart and the gate doesn't, since a torn write may leave any gate.
abbrev pub frame_behind : List ℕ → Option ℕ → Option ℕ → Option Frame
frame_behind rest None word = None
frame_behind rest (Some stamp) None = None
frame_behind rest (Some stamp) (Some word) =
    if word == 0xffff_ffff
    then frame_by Two stamp rest (u32_at rest 12)
    else frame_by One stamp rest (Some word)

-- the frame that these bytes begin with
unfoldable pub frame_in : List ℕ → Option Frame
frame_in rest = frame_behind rest (u64_at rest 0) (u32_at rest 8)

-- the frame behind the gate of a slot file, whatever the gate is
unfoldable pub framed : List ℕ → Option Frame
framed bytes = frame_in (drop 1 bytes)

-- What a slot file shows: the frame behind its gate where the gate, its first byte, is 1. Any other gate is closed.
unfoldable pub shown_in : List ℕ → Option Frame
shown_in bytes = if slice_index bytes 0 == 1 then framed bytes else None

-- The frame that a place in a slot file tells of, by what stands behind the gate.
abbrev pub frame_at : Shown → List ℕ → Frame
frame_at s rest = record { form = s.form; stamp = s.stamp; body = take (s.end - s.start) (drop (s.start - 1) rest) }

-- What a frame in form Two has before a body of this size: the stamp, the mark and the size.
abbrev pub frame_head : ℕ → ℕ → List ℕ
frame_head stamp size = to_be_bytes w64 stamp ++ (to_be_bytes w32 0xffff_ffff ++ to_be_bytes w32 size)

-- The bytes of a frame in form Two.
abbrev pub frame_bytes : ℕ → List ℕ → List ℕ
frame_bytes stamp body = frame_head stamp (length body) ++ body
