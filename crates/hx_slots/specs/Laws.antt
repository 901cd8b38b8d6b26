-- What follows from the form of a slot file.
use Rattle.std.specs.Prelude.{◌≡◌, ◌≤◌, ℕ, zero, suc, ◌+◌, ◌-◌, ◌==◌, ◌&&◌, Bool, true, false, nat_le, min, if◌then◌else◌, List, [], ◌∷◌, length, take, drop, Option, Some, None, refl}
use Rattle.std.proofs.Common.{◌∙◌, ap, arith}
use Rattle.std.proofs.lemmas.Bool.Decides.{nat_tests}
use Rattle.std.proofs.lemmas.List.{drop-take, get_or-take, length-take}
use Rattle.std.specs.Int.{w32, w64, from_be_bytes}
use Rattle.hx_base.specs.Numbers.{u32_at, u64_at}
use Rattle.hx_events.specs.declared.backup.SlotForm.{SlotForm}
use Rattle.hx_events.specs.declared.backup.SlotForm.TheVariants.{One, Two}
use Rattle.hx_slots.specs.Frames.{Frame, body_limit, body_place, frame_by, frame_behind, frame_in, framed, shown_in}

-- Nothing stands behind the gate of an empty file.
abbrev pub EmptyFramesNothing : Type 0
EmptyFramesNothing = framed [] ≡ None

pub empty_frames_nothing : EmptyFramesNothing
unfolding framed frame_in u64_at
empty_frames_nothing = refl

-- What a slot file shows stands within its first 534,305 bytes: the gate, the header of form Two, and the longest body.
abbrev pub ShownWithin : Type 0
ShownWithin = (bytes : List ℕ) → shown_in (take 534305 bytes) ≡ shown_in bytes

-- what is read of the first eight and of the first four bytes
first_eight : (m : ℕ) (xs : List ℕ) → 8 ≤ m → from_be_bytes w64 (take m xs) ≡ from_be_bytes w64 xs
first_eight m xs le =
    simp (get_or-take m xs 0 0 (omega (arith, le)), get_or-take m xs 1 0 (omega (arith, le)), get_or-take m xs 2 0 (omega (arith, le)), get_or-take m xs 3 0 (omega (arith, le)), get_or-take m xs 4 0 (omega (arith, le)), get_or-take m xs 5 0 (omega (arith, le)), get_or-take m xs 6 0 (omega (arith, le)), get_or-take m xs 7 0 (omega (arith, le)))

first_four : (m : ℕ) (xs : List ℕ) → 4 ≤ m → from_be_bytes w32 (take m xs) ≡ from_be_bytes w32 xs
first_four m xs le =
    simp (get_or-take m xs 0 0 (omega (arith, le)), get_or-take m xs 1 0 (omega (arith, le)), get_or-take m xs 2 0 (omega (arith, le)), get_or-take m xs 3 0 (omega (arith, le)))

same_test : (n m k : ℕ) → n ≤ m → nat_le n (min m k) ≡ nat_le n k
same_test n m k le = grind (arith, nat_tests)

-- whether so many bytes are there
there : (n m : ℕ) (xs : List ℕ) → n ≤ m → nat_le n (length (take m xs)) ≡ nat_le n (length xs)
there n m xs le = ap (nat_le n) (length-take m xs) ∙ same_test n m (length xs) le

-- behind a place in the first bytes
behind : (n m : ℕ) (xs : List ℕ) → n ≤ m → drop n (take m xs) ≡ take (m - n) (drop n xs)
behind n m xs le = ap (λ k. drop n (take k xs)) (let e : m ≡ n + (m - n) = omega (arith, le) in e) ∙ drop-take n (m - n) xs

-- the first bytes of the first bytes
shorter : (n m : ℕ) (xs : List ℕ) → n ≤ m → take n (take m xs) ≡ take n xs
shorter zero m xs le = refl
shorter (suc n) zero xs le = absurd (omega (arith, le))
shorter (suc n) (suc m) [] le = refl
shorter (suc n) (suc m) (x ∷ xs) le = ap (λ (l : List ℕ). x ∷ l) (shorter n m xs (omega (arith, le)))

u64_within : (m : ℕ) (xs : List ℕ) → 8 ≤ m → u64_at (take m xs) 0 ≡ u64_at xs 0
unfolding u64_at
u64_within m xs le = rw (there 8 m xs le) (ap (λ n. if nat_le 8 (length xs) then Some n else None) (first_eight m xs le))

u32_within : (at m : ℕ) (xs : List ℕ) → at + 4 ≤ m → u32_at (take m xs) at ≡ u32_at xs at
unfolding u32_at
u32_within at m xs le =
    rw (there (at + 4) m xs le)
    (ap (λ n. if nat_le (at + 4) (length xs) then Some n else None)
    (ap (from_be_bytes w32) (behind at m xs (omega (arith, le))) ∙ first_four (m - at) (drop at xs) (omega (arith, le))))

-- the frame of a length that isn't too long
by_length : (form : SlotForm) (stamp m : ℕ) (rest : List ℕ) (size : Option ℕ) → body_place form + body_limit form ≤ m → frame_by form stamp (take m rest) size ≡ frame_by form stamp rest size
by_length form stamp m rest None le = refl
by_length form stamp m rest (Some size) le = go (nat_le size (body_limit form)) refl
  where
    made : List ℕ → Option Frame
    made body = Some (record { form = form; stamp = stamp; body = body })

    go : (short : Bool) → nat_le size (body_limit form) ≡ short
        → (if short && nat_le (body_place form + size) (length (take m rest)) then made (take size (drop (body_place form) (take m rest))) else None)
        ≡ (if short && nat_le (body_place form + size) (length rest) then made (take size (drop (body_place form) rest)) else None)
    go false is = refl
    go true is =
        let small : size ≤ body_limit form = grind (arith, nat_tests) in
        rw (there (body_place form + size) m rest (omega (arith, le, small)))
        (ap (λ (l : List ℕ). if nat_le (body_place form + size) (length rest) then made l else None)
        (ap (take size) (behind (body_place form) m rest (omega (arith, le))) ∙ shorter size (m - body_place form) (drop (body_place form) rest) (omega (arith, le, small))))

by_word : (m : ℕ) (rest : List ℕ) (stamp word : Option ℕ) → 272156 ≤ m → 534304 ≤ m → frame_behind (take m rest) stamp word ≡ frame_behind rest stamp word
by_word m rest None word one two = refl
by_word m rest (Some stamp) None one two = refl
by_word m rest (Some stamp) (Some word) one two = go (word == 0xffff_ffff)
  where
    go : (marked : Bool) → (if marked then frame_by Two stamp (take m rest) (u32_at (take m rest) 12) else frame_by One stamp (take m rest) (Some word)) ≡ (if marked then frame_by Two stamp rest (u32_at rest 12) else frame_by One stamp rest (Some word))
    go true = by_length Two stamp m rest (u32_at (take m rest) 12) two ∙ ap (frame_by Two stamp rest) (u32_within 12 m rest (omega (arith, two)))
    go false = by_length One stamp m rest (Some word) one

frame_within : (m : ℕ) (rest : List ℕ) → 272156 ≤ m → 534304 ≤ m → frame_in (take m rest) ≡ frame_in rest
unfolding frame_in
frame_within m rest one two =
    ap (λ (s : Option ℕ). frame_behind (take m rest) s (u32_at (take m rest) 8)) (u64_within m rest (omega (arith, two)))
    ∙ ap (frame_behind (take m rest) (u64_at rest 0)) (u32_within 8 m rest (omega (arith, two)))
    ∙ by_word m rest (u64_at rest 0) (u32_at rest 8) one two

shown_of : (m : ℕ) (bytes : List ℕ) → 272156 ≤ m → 534304 ≤ m → shown_in (take (suc m) bytes) ≡ shown_in bytes
unfolding shown_in framed
shown_of m [] one two = refl
shown_of m (gate ∷ rest) one two = ap (λ (f : Option Frame). if gate == 1 then f else None) (frame_within m rest one two)

pub shown_within : ShownWithin
shown_within bytes = shown_of 534304 bytes (omega arith) (omega arith)
