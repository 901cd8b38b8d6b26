-- A set of numbers below 256, as four words of 64 bits and as the list that says of each number whether it is in the set.
use Rattle.std.specs.Prelude.{ℕ, zero, suc, ◌+◌, ◌/◌, ◌%◌, ◌==◌, Bool, false, List, [], ◌∷◌, slice_index, slice_index_or}
use Rattle.std.specs.Int.{bit_at}

-- is the number in the set?
abbrev pub has_number : List Bool → ℕ → Bool
has_number set k = slice_index_or set k false

-- the test at each of the n numbers from i on
unfoldable pub tested : (ℕ → Bool) → ℕ → ℕ → List Bool
tested test i zero = []
tested test i (suc n) = test i ∷ tested test (i + 1) n

-- is the bit of this number set in the words?
abbrev pub has_bit : List ℕ → ℕ → Bool
has_bit words k = bit_at (slice_index words (k / 64)) (k % 64) == 1

-- the set that the words are
unfoldable pub numbers_in : List ℕ → List Bool
numbers_in words = tested (has_bit words) 0 256
