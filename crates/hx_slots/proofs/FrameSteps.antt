-- A frame by its parts.
use Rattle.std.proofs.Common.{◌≡◌, ◌<◌, ◌≤◌, ℕ, zero, suc, ◌+◌, ◌-◌, true, false, List, [], ◌∷◌, length, take, drop, Option, Some, None, refl, sym, ◌∙◌, ap, arith, lit<}
use Rattle.std.specs.Prelude.{◌==◌, ◌++◌, ◌^◌, nat_le, slice_index, slice_range, MatchOption, IfSome}
use Rattle.std.specs.Int.{w32, w64, to_be_bytes}
use Rattle.hx_base.specs.Numbers.{u32_at, u64_at, u32_at-written, u64_at-written}
use Rattle.hx_events.specs.declared.backup.SlotForm.TheVariants.{Two}
use Rattle.hx_slots.specs.declared.slot.Shown.{Shown}
use Rattle.std.proofs.Math.Seq.{take-append_seam}
use Rattle.std.proofs.lemmas.List.{length-append}
use Rattle.std.proofs.lemmas.Bool.Decides.{nat_tests}
use Rattle.hx_events.specs.declared.backup.SlotForm.{SlotForm}
use Rattle.hx_slots.specs.Frames.{body_limit, body_place, frame_at, frame_by, frame_behind, frame_in, framed, shown_in, frame_bytes}

within : (a b : ℕ) → a ≤ b → nat_le a b ≡ true
within a b le = grind (arith, nat_tests)

pub by_parts : (form : SlotForm) (stamp size start end : ℕ) (rest : List ℕ) → size ≤ body_limit form → body_place form + size ≤ length rest → start ≡ 1 + body_place form → end ≡ start + size
    → frame_by form stamp rest (Some size) ≡ Some (record { form = form; stamp = stamp; body = take (end - start) (drop (start - 1) rest) })
by_parts form stamp size start end rest short whole start_is end_is =
    rw (within size (body_limit form) short, within (body_place form + size) (length rest) whole)
    (ap (λ (n : ℕ). Some (record { form = form; stamp = stamp; body = take n (drop (body_place form) rest) })) (omega arith)
    ∙ ap (λ (n : ℕ). Some (record { form = form; stamp = stamp; body = take (end - start) (drop n rest) })) (omega arith))

drop_none : (n : ℕ) → drop n (let none : List ℕ = [] in none) ≡ []
drop_none zero = refl
drop_none (suc n) = refl

drop_tail : (xs : List ℕ) (n : ℕ) → 1 ≤ n → drop (n - 1) (drop 1 xs) ≡ drop n xs
drop_tail xs zero above = absurd (omega arith)
drop_tail [] (suc n) above = drop_none (suc n - 1) ∙ sym (drop_none (suc n))
drop_tail (x ∷ xs) (suc n) above = ap (λ k. drop k xs) (omega arith)

-- what is shown of an open file
pub shown_is : (bytes rest : List ℕ) (found : Option Shown) → (slice_index bytes 0 == 1) ≡ true → rest ≡ drop 1 bytes
    → MatchOption found (frame_in rest ≡ None) (λ s. frame_in rest ≡ Some (frame_at s rest)) → IfSome found (λ s. (1 ≤ s.start) × (s.start ≤ s.end) × (s.end ≤ 1 + length rest))
    → MatchOption found (shown_in bytes ≡ None) (λ s. shown_in bytes ≡ Some (record { form = s.form; stamp = s.stamp; body = slice_range bytes s.start s.end }))
unfolding shown_in framed
shown_is bytes rest None is_open is_rest value place = rw is_open (ap frame_in (sym is_rest) ∙ value)
shown_is bytes rest (Some s) is_open is_rest value place =
    rw is_open
    (ap frame_in (sym is_rest) ∙ value
    ∙ ap (λ (body : List ℕ). Some (record { form = s.form; stamp = s.stamp; body = take (s.end - s.start) body }))
    (ap (drop (s.start - 1)) is_rest ∙ drop_tail bytes s.start place.0))

pub none_shown : (bytes : List ℕ) → (slice_index bytes 0 == 1) ≡ false → shown_in bytes ≡ None
unfolding shown_in
none_shown bytes closed = rw closed refl

-- what a frame reads as
frame_from : (rest body : List ℕ) (stamp size : ℕ) → u64_at rest 0 ≡ Some stamp → u32_at rest 8 ≡ Some 0xffff_ffff → u32_at rest 12 ≡ Some size
    → size ≤ 534288 → 16 + size ≤ length rest → take size (drop 16 rest) ≡ body → frame_in rest ≡ Some (record { form = Two; stamp = stamp; body = body })
unfolding frame_in
frame_from rest body stamp size first second third short whole is_body =
    ap (λ (w : Option ℕ). frame_behind rest w (u32_at rest 8)) first
    ∙ ap (frame_behind rest (Some stamp)) second
    ∙ ap (frame_by Two stamp rest) third
    ∙ rw (within size 534288 short, within (16 + size) (length rest) whole) (ap (λ (b : List ℕ). Some (record { form = Two; stamp = stamp; body = b })) is_body)

pub frame_reads : (stamp : ℕ) (body tail : List ℕ) → stamp < 2 ^ 64 → length body ≤ 534288
    → frame_in (frame_bytes stamp body ++ tail) ≡ Some (record { form = Two; stamp = stamp; body = body })
frame_reads stamp body tail small short =
    frame_from (frame_bytes stamp body ++ tail) body stamp (length body)
    (u64_at-written [] (to_be_bytes w32 0xffff_ffff ++ (to_be_bytes w32 (length body) ++ (body ++ tail))) stamp small)
    (u32_at-written (to_be_bytes w64 stamp) (to_be_bytes w32 (length body) ++ (body ++ tail)) 0xffff_ffff (lit< tt))
    (u32_at-written (to_be_bytes w64 stamp ++ to_be_bytes w32 0xffff_ffff) (body ++ tail) (length body) (omega arith))
    short (omega (arith, length-append body tail)) (take-append_seam body tail)

-- the same of bytes that are known to be a frame
pub frame_reads_of : (stamp : ℕ) (body bytes tail : List ℕ) → bytes ≡ frame_bytes stamp body → stamp < 2 ^ 64 → length body ≤ 534288
    → frame_in (bytes ++ tail) ≡ Some (record { form = Two; stamp = stamp; body = body })
frame_reads_of stamp body bytes tail is_frame small short =
    ap (λ (l : List ℕ). frame_in (l ++ tail)) is_frame ∙ frame_reads stamp body tail small short
