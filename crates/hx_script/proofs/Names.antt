-- A name that is found stands among the names.
use Rattle.std.proofs.Common.{◌≡◌, ◌<◌, ℕ, ◌+◌, Bool, true, false, cond, List, [], ◌∷◌, length, Some, arith}
use Rattle.std.specs.List.{position_from}
use Rattle.hx_events.specs.Places.{is_named, place_of}

below_from : (r : List ℕ) (i c : ℕ) (names : List (List ℕ)) → position_from (is_named r) i names ≡ Some c → c < i + length names
below_from r i c [] found = absurd cc
below_from r i c (x ∷ xs) found = by_test (is_named r x) found (below_from r (i + 1) c xs)
  where
    by_test : (b : Bool) → cond b (Some i) (position_from (is_named r) (i + 1) xs) ≡ Some c → (position_from (is_named r) (i + 1) xs ≡ Some c → c < i + 1 + length xs) → c < i + length (x ∷ xs)
    by_test true is later = let same : i ≡ c = cc in omega arith
    by_test false is later = let below = later is in omega arith

pub place_is_below : (r : List ℕ) (c : ℕ) (names : List (List ℕ)) → place_of r names ≡ Some c → c < length names
place_is_below r c names found = let below = below_from r 0 c names found in omega arith
