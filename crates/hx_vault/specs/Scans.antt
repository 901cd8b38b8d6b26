-- What is known by reading a vault, in words of the files that were read.
use Rattle.std.specs.Prelude.{◌≡◌, ◌<◌, ◌≤◌, ℕ, zero, suc, ◌+◌, ◌*◌, max, List, length, take, Option, Some, None, refl}
use Rattle.std.proofs.Common.{sym, ◌∙◌, ap, ⊎_elim, arith}
use Rattle.std.proofs.lemmas.Bool.Decides.{eqb_tells}
use Rattle.hx_slots.specs.Frames.{Frame, shown_in}
use Rattle.hx_slots.specs.Laws.{shown_within}
use Rattle.hx_slots.specs.Raws.{raw_at, AreReadOf, stamp_of, greatest_shown, greatest_stamp}
use Rattle.hx_slots.specs.declared.pair.RawPair.{RawPair}

-- the greatest stamp of two lists of pairs that show the same stamps
same_greatest : (a b c d : ℕ → List ℕ) (n : ℕ) → ((p : ℕ) → p < n → shown_in (a p) ≡ shown_in (c p)) → ((p : ℕ) → p < n → shown_in (b p) ≡ shown_in (d p)) → greatest_shown a b n ≡ greatest_shown c d n
same_greatest a b c d zero same_a same_b = refl
same_greatest a b c d (suc n) same_a same_b =
    ap (λ k. max k (max (stamp_of (shown_in (a n))) (stamp_of (shown_in (b n))))) (same_greatest a b c d n (λ p lt. same_a p (omega (arith, lt))) (λ p lt. same_b p (omega (arith, lt))))
    ∙ ap (λ (f : Option Frame). max (greatest_shown c d n) (max (stamp_of f) (stamp_of (shown_in (b n))))) (same_a n (omega arith))
    ∙ ap (λ (f : Option Frame). max (greatest_shown c d n) (max (stamp_of (shown_in (c n))) (stamp_of f))) (same_b n (omega arith))

same_count : (a b c d : ℕ → List ℕ) (n m : ℕ) → n ≡ m → ((p : ℕ) → p < m → shown_in (a p) ≡ shown_in (c p)) → ((p : ℕ) → p < m → shown_in (b p) ≡ shown_in (d p)) → greatest_shown a b n ≡ greatest_shown c d m
same_count a b c d n m is same_a same_b = ap (greatest_shown a b) is ∙ same_greatest a b c d m same_a same_b

pub greatest_read : (image : ℕ → List ℕ) (raws : List RawPair) → AreReadOf image raws → greatest_shown (λ p. (raw_at raws p).a) (λ p. (raw_at raws p).b) (length raws) ≡ greatest_stamp image
unfolding greatest_stamp
greatest_read image raws read = same_count (λ p. (raw_at raws p).a) (λ p. (raw_at raws p).b) (λ p. image (2 * p)) (λ p. image (2 * p + 1)) (length raws) 64 read.count
    (λ p below. ap shown_in (read.read_a p below) ∙ shown_within (image (2 * p)))
    (λ p below. ap shown_in (read.read_b p below) ∙ shown_within (image (2 * p + 1)))

-- each stamp that is shown is at most the greatest
within_greatest : (a b : ℕ → List ℕ) (n p : ℕ) → p < n → (stamp_of (shown_in (a p)) ≤ greatest_shown a b n) × (stamp_of (shown_in (b p)) ≤ greatest_shown a b n)
within_greatest a b zero p below = absurd (omega (arith, below))
within_greatest a b (suc n) p below = ⊎_elim
    (λ same. (omega (arith, ap (λ k. stamp_of (shown_in (a k))) same.1), omega (arith, ap (λ k. stamp_of (shown_in (b k))) same.1)))
    (λ apart. let before = within_greatest a b n p (omega (arith, below, apart.1)) in (omega (arith, before.0), omega (arith, before.1)))
    (eqb_tells p n)

-- No slot file of an image shows a greater stamp than the greatest.
abbrev pub NoGreaterStamp : Type 0
NoGreaterStamp = (image : ℕ → List ℕ) (p : ℕ) → p < 64 → (stamp_of (shown_in (image (2 * p))) ≤ greatest_stamp image) × (stamp_of (shown_in (image (2 * p + 1))) ≤ greatest_stamp image)

up_to : (image : ℕ → List ℕ) (n p : ℕ) → p < n → (stamp_of (shown_in (image (2 * p))) ≤ greatest_shown (λ q. image (2 * q)) (λ q. image (2 * q + 1)) n) × (stamp_of (shown_in (image (2 * p + 1))) ≤ greatest_shown (λ q. image (2 * q)) (λ q. image (2 * q + 1)) n)
up_to image n p below = within_greatest (λ q. image (2 * q)) (λ q. image (2 * q + 1)) n p below

pub no_greater_stamp : NoGreaterStamp
unfolding greatest_stamp
no_greater_stamp image p below = up_to image 64 p below
