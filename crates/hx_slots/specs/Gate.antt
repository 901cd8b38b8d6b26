-- What the calls on a slot file leave in its images. All of it is this project's own.
use Rattle.std.specs.Prelude.{◌≡◌, ◌≢◌, ◌<◌, ◌≤◌, ◌⊎◌, ℕ, ◌==◌, Bool, true, false, if◌then◌else◌, List, [], ◌∷◌, length, drop, slice_index, get_or, Option, None, Result, Ok, Err, OnOk, refl}
use Rattle.std.proofs.Common.{sym, ◌∙◌, ap, subst, inl, inr, arith}
use Rattle.std.proofs.lemmas.Bool.Decides.{nat_tests}
use Rattle.hx_disk.specs.File.{FileState, IsOutside, IsUntouched, IsImage, IsSound, IsAtRest, Tried}
use Rattle.hx_disk.specs.Images.{IsTorn, rest_settled, write_tears}
use Rattle.hx_disk.specs.Overlay.{overlaid, length-overlaid, overlaid_before}
use Rattle.hx_slots.specs.Frames.{Frame, frame_in, framed, shown_in}

-- The gate is known closed: whatever a crash leaves, a byte stands at place 0, and it isn't 1.
pub record IsShut (file : FileState) : Type 0 where
  -- no call since the last sync has touched it
  pub gate : IsUntouched file 0
  pub shut : slice_index file.stable 0 ≢ 1

-- whatever a crash leaves, this stands behind the gate
abbrev pub Frames : Option Frame → FileState → Type 0
Frames frame file = (image : List ℕ) → IsImage file image → framed image ≡ frame

-- whatever a crash leaves, the file shows this
abbrev pub Shows : Option Frame → FileState → Type 0
Shows frame file = (image : List ℕ) → IsImage file image → shown_in image ≡ frame

-- any state at all: of a run whose other parts alone matter, that time goes on, that the past stays and no other file changes
abbrev pub IsAnyState : FileState → Type 0
IsAnyState file = Unit {0}

-- the old bytes with these at a place, and all of it on the disk
pub record IsWritten (at : ℕ) (bytes : List ℕ) (old new : FileState) : Type 0 where
  pub reading : new.reading ≡ overlaid old.reading at bytes
  pub rest : IsAtRest new

-- On the way there: as it was, or with the range touched and no other, or with the bytes written.
abbrev pub OnTheWay : ℕ → List ℕ → FileState → FileState → Type 0
OnTheWay at bytes old file = (file ≡ old) ⊎ (Tried at (length bytes) old file ⊎ IsWritten at bytes old file)

-- an image shows nothing or what it frames
pub shown_cases : (image : List ℕ) (frame : Option Frame) → framed image ≡ frame → (shown_in image ≡ None) ⊎ (shown_in image ≡ frame)
unfolding shown_in
shown_cases image frame is = by_gate (slice_index image 0 == 1)
  where
    by_gate : (open_gate : Bool) → ((if open_gate then framed image else None) ≡ None) ⊎ ((if open_gate then framed image else None) ≡ frame)
    by_gate true = inr is
    by_gate false = inl refl

other_test : (a b : ℕ) → a ≢ b → (a == b) ≡ false
other_test a b apart = grind (arith, nat_tests)

pub closed_shows_nothing : (image : List ℕ) → slice_index image 0 ≢ 1 → shown_in image ≡ None
unfolding shown_in
closed_shows_nothing image closed = rw (other_test (slice_index image 0) 1 closed) refl

pub open_shows_framed : (image : List ℕ) → slice_index image 0 ≡ 1 → shown_in image ≡ framed image
unfolding shown_in
open_shows_framed image is_open = rw is_open refl

-- A gate that is known closed shows nothing.
pub shut_shows_nothing : (file : FileState) → IsShut file → Shows None file
shut_shows_nothing file shut image is = closed_shows_nothing image (λ one. shut.shut (sym (is.untouched 0 shut.gate) ∙ one))

-- What is put behind the gate leaves it known closed.
tried_shut : (at n : ℕ) (old new : FileState) → 0 < at → IsShut old → Tried at n old new → IsShut new
tried_shut at n old new behind shut tried = record {
  gate = record {
    below = omega (arith, shut.gate.below, tried.least);
    outside = subst (λ (w : List (ℕ × ℕ)). IsOutside w 0) (sym tried.written) (inl behind, shut.gate.outside);
  };
  shut = λ one. shut.shut (ap (λ (l : List ℕ). get_or l 0 0) (sym tried.stable) ∙ one);
}

-- A write of one byte at place 0, torn or not, leaves what stands behind the gate.
torn_gate : (before after : List ℕ) → IsTorn 0 1 before after → framed after ≡ framed before
unfolding framed
torn_gate before after torn = ap frame_in torn.behind

tried_frames : (old new : FileState) (frame : Option Frame) → IsSound old → Tried 0 1 old new → Frames frame old → Frames frame new
tried_frames old new frame sound tried frames image is =
    let tears = write_tears 0 1 old new sound (omega arith) tried image is in
    torn_gate tears.0 image tears.2 ∙ frames tears.0 tears.1

gate_byte : (byte : ℕ) (old : List ℕ) → get_or (overlaid old 0 (byte ∷ [])) 0 0 ≡ byte
gate_byte byte old = refl

behind_gate : (byte : ℕ) (old : List ℕ) → drop 1 (overlaid old 0 (byte ∷ [])) ≡ drop 1 old
behind_gate byte old = refl

-- The first fact: a call on the gate alone keeps what stands behind it, at each of its moments. `old` may have any gate.
written_frames : (byte : ℕ) (old new : FileState) (frame : Option Frame) → IsSound old → IsWritten 0 (byte ∷ []) old new → Frames frame old → Frames frame new
unfolding framed
written_frames byte old new frame sound written frames image is =
    ap framed (rest_settled new written.rest image is ∙ written.reading)
    ∙ ap frame_in (behind_gate byte old.reading)
    ∙ frames old.reading sound.reading

pub frames_on_the_way : (byte : ℕ) (old file : FileState) (frame : Option Frame) → IsSound old → Frames frame old → OnTheWay 0 (byte ∷ []) old file → Frames frame file
frames_on_the_way byte old file frame sound frames (inl same) = subst (Frames frame) (sym same) frames
frames_on_the_way byte old file frame sound frames (inr (inl tried)) = tried_frames old file frame sound tried frames
frames_on_the_way byte old file frame sound frames (inr (inr written)) = written_frames byte old file frame sound written frames

-- After the gate was opened the file shows what stands behind it.
pub opened_shows : (old new : FileState) (frame : Option Frame) → IsSound old → Frames frame old → IsWritten 0 (1 ∷ []) old new → Shows frame new
opened_shows old new frame sound frames written image is =
    open_shows_framed image (ap (λ (l : List ℕ). get_or l 0 0) (rest_settled new written.rest image is ∙ written.reading) ∙ gate_byte 1 old.reading)
    ∙ written_frames 1 old new frame sound written frames image is

-- The second fact: what is put behind a gate that is known closed leaves it so, at each moment.
pub shut_on_the_way : (at : ℕ) (bytes : List ℕ) (old file : FileState) → 1 ≤ at → IsSound old → IsShut old → OnTheWay at bytes old file → IsShut file
shut_on_the_way at bytes old file behind sound shut (inl same) = subst IsShut (sym same) shut
shut_on_the_way at bytes old file behind sound shut (inr (inl tried)) = tried_shut at (length bytes) old file behind shut tried
shut_on_the_way at bytes old file behind sound shut (inr (inr written)) =
    let there : 0 < length old.reading = omega (arith, sound.reading.no_shorter, shut.gate.below) in
    record {
      gate = record {
        below = omega (arith, written.rest.least, ap length written.reading, length-overlaid old.reading at bytes, there);
        outside = subst (λ (w : List (ℕ × ℕ)). IsOutside w 0) (sym written.rest.written) tt;
      };
      shut = λ one. shut.shut
          (sym (sound.reading.untouched 0 shut.gate)
          ∙ sym (overlaid_before old.reading at bytes 0 there (omega arith))
          ∙ sym (ap (λ (l : List ℕ). get_or l 0 0) (written.rest.stable ∙ written.reading))
          ∙ one);
    }

-- what a success gives, and what follows from it
pub on_ok_weaker : {A E : Type 0} (P Q : Type 0) (result : Result A E) → (P → Q) → OnOk result P → OnOk result Q
on_ok_weaker P Q (Ok x) weaker holds = weaker holds
on_ok_weaker P Q (Err e) weaker holds = tt
