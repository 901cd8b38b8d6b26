-- The keys of the pairs stay resource numbers.
use Rattle.std.proofs.Common.{◌≡◌, ℕ, ◌<◌, Bool, true, false, cond, ◌&&◌, List, [], ◌∷◌, nat_eq, nat_lt, refl, ap, ◌∙◌, arith}
use Rattle.std.proofs.lemmas.Bool.Decides.{nat_tests}
use Rattle.std.specs.Map.{keys_of}
use Rattle.indexmap.specs.IndexMap.{insert_entry, shift_remove_entry}
use Rattle.hx_backups.specs.Backups.{are_numbers}

first : (a b : Bool) → (a && b) ≡ true → a ≡ true
first true b both = refl
first false b both = both

rest : (a b : Bool) → (a && b) ≡ true → b ≡ true
rest true b both = both
rest false b both = absurd cc

joined : (a b : Bool) → a ≡ true → b ≡ true → (a && b) ≡ true
joined a b is_a is_b = ap (λ x. x && b) is_a ∙ is_b

pub numbers_insert : (pairs : List (ℕ × ℕ)) (c v : ℕ) → c < 256 → are_numbers (keys_of pairs) ≡ true → are_numbers (keys_of (insert_entry nat_eq pairs c v)) ≡ true
numbers_insert [] c v less known = joined (nat_lt c 256) true (grind (arith, nat_tests, less)) refl
numbers_insert (p ∷ pairs) c v less known = step (nat_eq c p.0) (numbers_insert pairs c v less (rest (nat_lt p.0 256) (are_numbers (keys_of pairs)) known))
  where
    step : (b : Bool) → are_numbers (keys_of (insert_entry nat_eq pairs c v)) ≡ true → are_numbers (keys_of (cond b ((p.0, v) ∷ pairs) (p ∷ insert_entry nat_eq pairs c v))) ≡ true
    step true others = known
    step false others = joined (nat_lt p.0 256) _ (first (nat_lt p.0 256) _ known) others

pub numbers_remove : (pairs : List (ℕ × ℕ)) (c : ℕ) → are_numbers (keys_of pairs) ≡ true → are_numbers (keys_of (shift_remove_entry (nat_eq c) pairs)) ≡ true
numbers_remove [] c known = refl
numbers_remove (p ∷ pairs) c known = step (nat_eq c p.0) (numbers_remove pairs c (rest (nat_lt p.0 256) (are_numbers (keys_of pairs)) known))
  where
    step : (b : Bool) → are_numbers (keys_of (shift_remove_entry (nat_eq c) pairs)) ≡ true → are_numbers (keys_of (cond b pairs (p ∷ shift_remove_entry (nat_eq c) pairs))) ≡ true
    step true others = rest (nat_lt p.0 256) _ known
    step false others = joined (nat_lt p.0 256) _ (first (nat_lt p.0 256) _ known) others
