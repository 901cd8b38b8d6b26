-- What is read of the pairs of slot files.
use Rattle.std.specs.Prelude.{◌≡◌, ◌<◌, ℕ, zero, suc, ◌+◌, ◌*◌, max, List, [], length, take, Option, Some, None, slice_index_or}
use Rattle.hx_slots.specs.Frames.{Frame, shown_in}
use Rattle.hx_slots.specs.declared.pair.RawPair.{RawPair}

-- what was read of the pair p, and nothing of a pair past the last
abbrev pub raw_at : List RawPair → ℕ → RawPair
raw_at pairs p = slice_index_or pairs p (record { a = []; b = [] })

-- These are the 64 pairs of the image, of each file the first bytes, past which nothing can show.
pub record AreReadOf (image : ℕ → List ℕ) (pairs : List RawPair) : Type 0 where
  pub count : length pairs ≡ 64
  pub read_a : (p : ℕ) → p < 64 → (raw_at pairs p).a ≡ take 534305 (image (2 * p))
  pub read_b : (p : ℕ) → p < 64 → (raw_at pairs p).b ≡ take 534305 (image (2 * p + 1))

-- the stamp that is shown, or 0
abbrev pub stamp_of : Option Frame → ℕ
stamp_of None = 0
stamp_of (Some frame) = frame.stamp

-- the greatest stamp that is shown in the first n pairs, of which the sides hold these bytes
abbrev pub greatest_shown : (ℕ → List ℕ) → (ℕ → List ℕ) → ℕ → ℕ
greatest_shown a b zero = 0
greatest_shown a b (suc n) = max (greatest_shown a b n) (max (stamp_of (shown_in (a n))) (stamp_of (shown_in (b n))))

-- The greatest stamp that the 64 pairs of an image of the disk show, or 0.
unfoldable pub greatest_stamp : (ℕ → List ℕ) → ℕ
greatest_stamp image = greatest_shown (λ p. image (2 * p)) (λ p. image (2 * p + 1)) 64
