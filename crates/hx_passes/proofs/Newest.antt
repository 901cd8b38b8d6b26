-- One history, read from both ends.
use Rattle.std.proofs.Common.{◌≡◌, ℕ, zero, suc, ◌≤◌, ◌<◌, ◌==◌, nat_le, true, false, cond, List, [], ◌∷◌, ◌++◌, length, reverse, slice_get, Some, refl, ap, sym, ◌∙◌, arith, append_assoc, length-append}
use Rattle.std.proofs.lemmas.List.{reverse-append, length-reverse}
use Rattle.std.proofs.lemmas.Bool.Decides.{nat_tests}
use Rattle.hx_events.specs.declared.life.Entry.{Entry}
use Rattle.hx_passes.specs.Newest.{entry_at, oldest, PlacesAgree, BeginningsAgree}

eq_true : (a b : ℕ) → a ≡ b → (a == b) ≡ true
eq_true a b is = grind (arith, nat_tests)

eq_false : (a b : ℕ) → a < b → (a == b) ≡ false
eq_false a b less = grind (arith, nat_tests)

le_true : (a b : ℕ) → a ≤ b → nat_le a b ≡ true
le_true a b le = grind (arith, nat_tests)

le_false : (a b : ℕ) → b < a → nat_le a b ≡ false
le_false a b less = grind (arith, nat_tests)

-- what stands at k cuts the list in two
cut_at : {A : Type 0} (xs : List A) (k : ℕ) (x : A) → slice_get xs k ≡ Some x → (before : List A) × (after : List A) × (xs ≡ before ++ x ∷ after) × (length before ≡ k)
cut_at [] k x got = absurd cc
cut_at (y ∷ ys) zero x got = ([], ys, cc, refl)
cut_at (y ∷ ys) (suc k) x got = let c = cut_at ys k x got in (y ∷ c.0, c.1, ap (λ zs. y ∷ zs) c.2, ap suc c.3)

-- newer entries change no place
place_behind : (news : List Entry) (e : Entry) (olds : List Entry) → entry_at (news ++ e ∷ olds) (suc (length olds)) ≡ Some e
place_behind [] e olds = ap (λ b. cond b (Some e) (entry_at olds (suc (length olds)))) (eq_true (suc (length olds)) (suc (length olds)) refl)
place_behind (x ∷ xs) e olds =
    let long = length-append xs (e ∷ olds) in
    ap (λ b. cond b (Some x) (entry_at (xs ++ e ∷ olds) (suc (length olds)))) (eq_false (suc (length olds)) (suc (length (xs ++ e ∷ olds))) (omega (arith, long))) ∙ place_behind xs e olds

all_oldest : (olds : List Entry) → oldest (length olds) olds ≡ olds
all_oldest [] = refl
all_oldest (x ∷ xs) = ap (λ b. cond b (x ∷ xs) (oldest (suc (length xs)) xs)) (le_true (suc (length xs)) (suc (length xs)) (omega arith))

-- nor do they change what was made first
oldest_behind : (news olds : List Entry) → oldest (length olds) (news ++ olds) ≡ olds
oldest_behind [] olds = all_oldest olds
oldest_behind (x ∷ xs) olds =
    let long = length-append xs olds in
    ap (λ b. cond b (x ∷ xs ++ olds) (oldest (length olds) (xs ++ olds))) (le_false (suc (length (xs ++ olds))) (length olds) (omega (arith, long))) ∙ oldest_behind xs olds

pub places_agree : PlacesAgree
places_agree h zero e got = absurd cc
places_agree h (suc k) e got =
    let c = cut_at h k e got in
    let turned : reverse h ≡ reverse c.1 ++ e ∷ reverse c.0 =
    ap reverse c.2 ∙ (reverse-append c.0 (e ∷ c.1) ∙ (ap (λ xs. xs ++ reverse c.0) (reverse-append (e ∷ []) c.1) ∙ append_assoc (reverse c.1) (e ∷ []) (reverse c.0))) in
    let number : length (reverse c.0) ≡ k = length-reverse c.0 ∙ c.3 in
    ap (λ xs. entry_at xs (suc k)) turned ∙ (ap (λ n. entry_at (reverse c.1 ++ e ∷ reverse c.0) (suc n)) (sym number) ∙ place_behind (reverse c.1) e (reverse c.0))

pub beginnings_agree : BeginningsAgree
beginnings_agree h u p =
    let turned : reverse h ≡ reverse p.0 ++ reverse u = ap reverse (sym p.1) ∙ reverse-append u p.0 in
    ap (oldest (length u)) turned ∙ (ap (λ n. oldest n (reverse p.0 ++ reverse u)) (sym (length-reverse u)) ∙ oldest_behind (reverse p.0) (reverse u))
