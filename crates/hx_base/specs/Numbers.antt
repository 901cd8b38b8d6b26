-- Numbers as bytes, the high byte first. The form is this project's own.
use Rattle.std.specs.Prelude.{◌≡◌, ◌<◌, ◌≤◌, ◌^◌, ℕ, ◌+◌, true, List, ◌++◌, length, drop, nat_le, if◌then◌else◌, Option, Some, None, refl}
use Rattle.std.specs.Int.{w32, w64, from_be_bytes, to_be_bytes}
use Rattle.std.proofs.Common.{◌∙◌, ap, arith}
use Rattle.std.proofs.Math.Seq.{drop-append_seam}
use Rattle.std.proofs.lemmas.Bool.Decides.{nat_tests}
use Rattle.std.proofs.lemmas.List.{length-append}
use Rattle.std.proofs.lemmas.Nat.{from_be_bytes-to_be_bytes_4, from_be_bytes-to_be_bytes_8}

-- the number that eight bytes from this place on write, if they are there
unfoldable pub u64_at : List ℕ → ℕ → Option ℕ
u64_at bytes at = if nat_le (at + 8) (length bytes) then Some (from_be_bytes w64 (drop at bytes)) else None

-- the number that four bytes from this place on write, if they are there
unfoldable pub u32_at : List ℕ → ℕ → Option ℕ
u32_at bytes at = if nat_le (at + 4) (length bytes) then Some (from_be_bytes w32 (drop at bytes)) else None

within : (a b : ℕ) → a ≤ b → nat_le a b ≡ true
within a b le = grind (arith, nat_tests)

length-to_be_bytes_8 : (n : ℕ) → length (to_be_bytes w64 n) ≡ 8
length-to_be_bytes_8 n = refl

length-to_be_bytes_4 : (n : ℕ) → length (to_be_bytes w32 n) ≡ 4
length-to_be_bytes_4 n = refl

first_eight : (n : ℕ) (rest : List ℕ) → n < 2 ^ 64 → from_be_bytes w64 (to_be_bytes w64 n ++ rest) ≡ n
first_eight n rest small = from_be_bytes-to_be_bytes_8 n small

first_four : (n : ℕ) (rest : List ℕ) → n < 2 ^ 32 → from_be_bytes w32 (to_be_bytes w32 n ++ rest) ≡ n
first_four n rest small = from_be_bytes-to_be_bytes_4 n small

-- what was written at a place is read there, whatever stands around it
pub u64_at-written : (front rest : List ℕ) (n : ℕ) → n < 2 ^ 64 → u64_at (front ++ (to_be_bytes w64 n ++ rest)) (length front) ≡ Some n
unfolding u64_at
u64_at-written front rest n small =
    rw (within (length front + 8) (length (front ++ (to_be_bytes w64 n ++ rest))) (omega (arith, length-append front (to_be_bytes w64 n ++ rest), length-append (to_be_bytes w64 n) rest, length-to_be_bytes_8 n)))
    (ap (λ (l : List ℕ). Some (from_be_bytes w64 l)) (drop-append_seam front (to_be_bytes w64 n ++ rest)) ∙ ap (λ k. Some k) (first_eight n rest small))

pub u32_at-written : (front rest : List ℕ) (n : ℕ) → n < 2 ^ 32 → u32_at (front ++ (to_be_bytes w32 n ++ rest)) (length front) ≡ Some n
unfolding u32_at
u32_at-written front rest n small =
    rw (within (length front + 4) (length (front ++ (to_be_bytes w32 n ++ rest))) (omega (arith, length-append front (to_be_bytes w32 n ++ rest), length-append (to_be_bytes w32 n) rest, length-to_be_bytes_4 n)))
    (ap (λ (l : List ℕ). Some (from_be_bytes w32 l)) (drop-append_seam front (to_be_bytes w32 n ++ rest)) ∙ ap (λ k. Some k) (first_four n rest small))
