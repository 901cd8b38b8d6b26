-- What is known of a slot file, and what each call on it makes of that. All of it is this project's own.
use Rattle.std.specs.Prelude.{◌≡◌, ◌⊎◌, ◌<◌, ◌≤◌, ℕ, suc, ◌+◌, ◌-◌, Bool, true, false, List, [], ◌∷◌, ◌++◌, length, take, drop, Option, Some, None, refl}
use Rattle.std.proofs.Common.{sym, ◌∙◌, ap, subst, inl, inr, arith}
use Rattle.std.proofs.Math.Seq.{take-append_seam}
use Rattle.std.proofs.lemmas.List.{take-append-drop, append_assoc, length-append, length-take, length-drop}
use Rattle.hx_disk.specs.File.{FileState, IsImage, IsSound}
use Rattle.hx_disk.specs.Images.{rest_settled}
use Rattle.hx_disk.specs.Overlay.{overlaid}
use Rattle.hx_slots.specs.Frames.{Frame, frame_in, framed, shown_in}
use Rattle.hx_slots.specs.Gate.{IsShut, Frames, Shows, IsWritten, OnTheWay, shown_cases, shut_shows_nothing, shut_on_the_way, frames_on_the_way, opened_shows}

-- A file whose gate is known closed, with the bytes that were put behind it since; or one of which every image has the
-- same frame behind its gate, or none, and where `sure` every image shows it.
pub data SideState : Type 0 where
  Shut : (put : List ℕ) → SideState
  Still : (frame : Option Frame) → (sure : Bool) → SideState

-- in every image these bytes stand behind the gate
abbrev pub Puts : List ℕ → FileState → Type 0
Puts put file = (image : List ℕ) → IsImage file image → take (length put) (drop 1 image) ≡ put

abbrev pub IsSide : SideState → FileState → Type 0
IsSide (Shut put) file = IsShut file × Puts put file
IsSide (Still frame true) file = Frames frame file × Shows frame file
IsSide (Still frame false) file = Frames frame file

abbrev pub is_closed : SideState → Bool
is_closed (Shut put) = true
is_closed (Still frame sure) = false

-- the bytes begin with this whole frame
abbrev pub IsFrame : List ℕ → Frame → Type 0
IsFrame put frame = (tail : List ℕ) → frame_in (put ++ tail) ≡ Some frame

-- while it is closed, and after a closing that failed
abbrev pub loosened : SideState → SideState
loosened (Shut put) = Shut put
loosened (Still frame sure) = Still frame false

-- What is known of a file, whose gate is marked as known closed or isn't, gives this.
abbrev pub WhereKnown : Bool → FileState → (SideState → Type 0) → Type 0
WhereKnown mark file P = (s : SideState) → is_closed s ≡ mark → IsSide s file → P s

-- No image shows anything, nor would one after a torn write of the gate: either the gate is known closed, or nothing
-- stands behind it.
abbrev pub IsQuietFile : Bool → FileState → Type 0
IsQuietFile true file = IsShut file
IsQuietFile false file = Frames None file

-- what an image may show
abbrev pub CanShow : SideState → Option Frame → Type 0
CanShow (Shut put) shown = shown ≡ None
CanShow (Still frame true) shown = shown ≡ frame
CanShow (Still frame false) shown = (shown ≡ None) ⊎ (shown ≡ frame)

pub can_show : (s : SideState) (file : FileState) → IsSide s file → (image : List ℕ) → IsImage file image → CanShow s (shown_in image)
can_show (Shut put) file side image is = shut_shows_nothing file side.0 image is
can_show (Still frame true) file side image is = side.1 image is
can_show (Still frame false) file side image is = shown_cases image frame (side image is)

-- Each image of a file of which this is known shows what it can.
abbrev pub ShowsWhatItCan : Type 0
ShowsWhatItCan = (s : SideState) (file : FileState) → IsSide s file → (image : List ℕ) → IsImage file image → CanShow s (shown_in image)

pub shows_what_it_can : ShowsWhatItCan
shows_what_it_can = can_show

pub puts_none : (file : FileState) → Puts [] file
puts_none file image is = refl

-- a closed gate's file stays as it is known, and any other is known less well
pub loosened_side : (s : SideState) (file : FileState) → IsSide s file → IsSide (loosened s) file
loosened_side (Shut put) file side = side
loosened_side (Still frame true) file side = side.0
loosened_side (Still frame false) file side = side

-- a file with a closed gate shows nothing
pub shut_nothing : (put : List ℕ) (file : FileState) → IsSide (Shut put) file → Shows None file
shut_nothing put file side = shut_shows_nothing file side.0

pub shut_side : (s : SideState) (file : FileState) → is_closed s ≡ true → IsSide s file → IsSide (Shut []) file
shut_side (Shut put) file closed side = (side.0, puts_none file)
shut_side (Still frame sure) file closed side = absurd cc

-- on the way to a closed gate
pub closing : (s : SideState) (old file : FileState) → is_closed s ≡ false → IsSound old → IsSide s old → OnTheWay 0 (0 ∷ []) old file → IsSide (loosened s) file
closing (Shut put) old file loose sound side way = absurd cc
closing (Still frame true) old file loose sound side way = frames_on_the_way 0 old file frame sound side.0 way
closing (Still frame false) old file loose sound side way = frames_on_the_way 0 old file frame sound side way

-- what was put is the frame behind the gate where it is one
pub put_frames : (put : List ℕ) (frame : Frame) (file : FileState) → IsSide (Shut put) file → IsFrame put frame → Frames (Some frame) file
unfolding framed
put_frames put frame file side whole image is =
    ap frame_in (sym (take-append-drop (length put) (drop 1 image)) ∙ ap (λ (l : List ℕ). l ++ drop (length put) (drop 1 image)) (side.1 image is))
    ∙ whole (drop (length put) (drop 1 image))

-- on the way to an open gate, and there
pub opening : (put : List ℕ) (frame : Frame) (old file : FileState) → IsSound old → IsSide (Shut put) old → IsFrame put frame → OnTheWay 0 (1 ∷ []) old file → IsSide (Still (Some frame) false) file
opening put frame old file sound side whole way = frames_on_the_way 1 old file (Some frame) sound (put_frames put frame old side whole) way

pub opened_now : (put : List ℕ) (frame : Frame) (old file : FileState) → IsSound old → IsSide (Shut put) old → IsFrame put frame → IsWritten 0 (1 ∷ []) old file → IsSide (Still (Some frame) true) file
opened_now put frame old file sound side whole written =
    let frames = put_frames put frame old side whole in
    (frames_on_the_way 1 old file (Some frame) sound frames (inr (inr written)), opened_shows old file (Some frame) sound frames written)

-- there is room for the next bytes right behind those that were put
pub put_within : (put : List ℕ) (old : FileState) → IsSound old → IsSide (Shut put) old → 1 + length put ≤ length old.reading
put_within put old sound side =
    let there : 0 < length old.reading = let sh = side.0 in omega (arith, sound.reading.no_shorter, sh.gate.below) in
    let long : length (take (length put) (drop 1 old.reading)) ≡ length put = ap length (side.1 old.reading sound.reading) in
    omega (arith, long, there, length-take (length put) (drop 1 old.reading), length-drop 1 old.reading)

-- on the way to a block more, and there
pub putting : (put block : List ℕ) (old file : FileState) → IsSound old → IsSide (Shut put) old → OnTheWay (1 + length put) block old file → IsSide (Shut []) file
putting put block old file sound side way = (shut_on_the_way (1 + length put) block old file (omega arith) sound side.0 way, puts_none file)

one_behind : (gate : ℕ) (rest block : List ℕ) (n : ℕ) → drop 1 (overlaid (gate ∷ rest) (suc n) block) ≡ (take n rest ++ block) ++ drop (n + length block) rest
one_behind gate rest block n = ap (λ k. (take n rest ++ block) ++ drop k (gate ∷ rest)) (let e : suc n + length block ≡ suc (n + length block) = omega arith in e)

-- what stands behind the gate after a block was written right behind these bytes
put_behind : (old put block : List ℕ) → 0 < length old → take (length put) (drop 1 old) ≡ put → take (length (put ++ block)) (drop 1 (overlaid old (1 + length put) block)) ≡ put ++ block
put_behind [] put block some is = absurd (omega (arith, some))
put_behind (gate ∷ rest) put block some is =
    ap (λ n. take (length (put ++ block)) (drop 1 (overlaid (gate ∷ rest) n block))) (let e : 1 + length put ≡ suc (length put) = omega arith in e)
    ∙ ap (λ (l : List ℕ). take (length (put ++ block)) l) (one_behind gate rest block (length put))
    ∙ ap (λ (l : List ℕ). take (length (put ++ block)) ((l ++ block) ++ drop (length put + length block) rest)) is
    ∙ take-append_seam (put ++ block) (drop (length put + length block) rest)

pub put_now : (put block : List ℕ) (old file : FileState) → IsSound old → IsSide (Shut put) old → IsWritten (1 + length put) block old file → IsSide (Shut (put ++ block)) file
put_now put block old file sound side written = (
  shut_on_the_way (1 + length put) block old file (omega arith) sound side.0 (inr (inr written)),
  λ image is.
      ap (λ (l : List ℕ). take (length (put ++ block)) (drop 1 l)) (rest_settled file written.rest image is ∙ written.reading)
      ∙ put_behind old.reading put block (let w = put_within put old sound side in omega (arith, w)) (side.1 old.reading sound.reading),
)
