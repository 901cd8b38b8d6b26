-- A test at each number of a range, as a list; and the lowest number that passes one.
use Rattle.std.proofs.Common.{◌≡◌, ◌≢◌, ◌∙◌, ℕ, zero, suc, ◌+◌, ◌-◌, ◌*◌, ◌/◌, ◌%◌, ◌<◌, ◌≤◌, Bool, true, false, cond, replicate, List, ◌∷◌, length, Some, None, ap, sym, refl, arith, eq-eqb, true≢false}
use Rattle.std.proofs.lemmas.List.{get_or-set_same, get_or-set_other}
use Rattle.std.specs.Prelude.{slice_index, slice_set, nat_eq, nat_lt}
use Rattle.std.proofs.lemmas.Bool.{eqb-true}
use Rattle.std.proofs.lemmas.Bool.Decides.{nat_tests}
use Rattle.std.proofs.lemmas.Nat.Bits.{bit_at-zero}
use Rattle.std.specs.Int.{bit_at}
use Rattle.hx_rules.specs.Legal.{lowest_from}
use Rattle.hx_tracker.specs.Index.{has_number, tested, has_bit, numbers_in}

pub length_tested : (test : ℕ → Bool) (i n : ℕ) → length (tested test i n) ≡ n
unfolding tested
length_tested test i zero = refl
length_tested test i (suc n) = omega (arith, length_tested test (i + 1) n)

pub at_tested : (test : ℕ → Bool) (i n k : ℕ) → k < n → has_number (tested test i n) k ≡ test (i + k)
unfolding tested
at_tested test i zero k less = absurd (omega (arith, less))
at_tested test i (suc n) zero less = ap test (omega arith)
at_tested test i (suc n) (suc k) less = at_tested test (i + 1) n k (omega (arith, less)) ∙ ap test (omega arith)

pub past_tested : (test : ℕ → Bool) (i n k : ℕ) → n ≤ k → has_number (tested test i n) k ≡ false
unfolding tested
past_tested test i zero k past = refl
past_tested test i (suc n) zero past = absurd (omega (arith, past))
past_tested test i (suc n) (suc k) past = past_tested test (i + 1) n k (omega (arith, past))

-- two tests that agree from i on
same_tested : (test other : ℕ → Bool) (i n : ℕ) → ((k : ℕ) → i ≤ k → k < i + n → test k ≡ other k) → tested test i n ≡ tested other i n
unfolding tested
same_tested test other i zero agree = refl
same_tested test other i (suc n) agree =
    (λ j. agree i (omega arith) (omega arith) j ∷ same_tested test other (i + 1) n (λ k from to. agree k (omega (arith, from)) (omega (arith, to))) j)

-- a write at one place of the list changes the test at that number
pub set_tested : (test other : ℕ → Bool) (on : Bool) (i n r : ℕ) → other (i + r) ≡ on → ((k : ℕ) → i ≤ k → k < i + n → k ≢ i + r → test k ≡ other k) → slice_set (tested test i n) r on ≡ tested other i n
unfolding tested
set_tested test other on i zero r at agree = refl
set_tested test other on i (suc n) zero at agree =
    let here : on ≡ other i = sym at ∙ ap other (omega arith) in
    (λ j. here j ∷ same_tested test other (i + 1) n (λ k from to. agree k (omega (arith, from)) (omega (arith, to)) (λ same. omega (arith, same, from))) j)
set_tested test other on i (suc n) (suc r) at agree =
    let here : test i ≡ other i = agree i (omega arith) (omega arith) (λ same. omega (arith, same)) in
    let rest = set_tested test other on (i + 1) n r (ap other (omega arith) ∙ at)
    (λ k from to apart. agree k (omega (arith, from)) (omega (arith, to)) (λ same. apart (omega (arith, same)))) in
    (λ j. here j ∷ rest j)

-- the lowest of the n numbers from i on
pub lowest_at : (test : ℕ → Bool) (i n d : ℕ) → d < n → ((k : ℕ) → k < d → test (i + k) ≡ false) → test (i + d) ≡ true → lowest_from test i n ≡ Some (i + d)
lowest_at test i zero d less below at = absurd (omega (arith, less))
lowest_at test i (suc n) zero less below at =
    ap (λ b. cond b (Some i) (lowest_from test (i + 1) n)) (ap test (omega arith) ∙ at) ∙ ap (λ k. Some k) (omega arith)
lowest_at test i (suc n) (suc d) less below at =
    ap (λ b. cond b (Some i) (lowest_from test (i + 1) n)) (ap test (omega arith) ∙ below 0 (omega arith))
    ∙ (lowest_at test (i + 1) n d (omega (arith, less)) (λ k lower. ap test (omega arith) ∙ below (suc k) (omega (arith, lower))) (ap test (omega arith) ∙ at)
    ∙ ap (λ k. Some k) (omega arith))

-- no number from i on
pub none_lowest : (test : ℕ → Bool) (i n : ℕ) → ((k : ℕ) → i ≤ k → k < i + n → test k ≡ false) → lowest_from test i n ≡ None
none_lowest test i zero none = refl
none_lowest test i (suc n) none =
    ap (λ b. cond b (Some i) (lowest_from test (i + 1) n)) (none i (omega arith) (omega arith))
    ∙ none_lowest test (i + 1) n (λ k from to. none k (omega (arith, from)) (omega (arith, to)))

-- ---- the set that four words are
pub in_numbers : (words : List ℕ) (k : ℕ) → k < 256 → has_number (numbers_in words) k ≡ has_bit words k
unfolding numbers_in
in_numbers words k less = at_tested (has_bit words) 0 256 k less ∙ ap (has_bit words) (omega arith)

pub length_numbers : (words : List ℕ) → length (numbers_in words) ≡ 256
unfolding numbers_in
length_numbers words = length_tested (has_bit words) 0 256

-- a word of which one bit is written, in its place
pub set_numbers : (words : List ℕ) (r w : ℕ) (on : Bool) → length words ≡ 4 → r < 256 → bit_at w (r % 64) ≡ cond on 1 0
    → ((i : ℕ) → i < 64 → i ≢ r % 64 → bit_at w i ≡ bit_at (slice_index words (r / 64)) i)
    → numbers_in (slice_set words (r / 64) w) ≡ slice_set (numbers_in words) r on
unfolding numbers_in
set_numbers words r w on four less same others =
    let written : List ℕ = slice_set words (r / 64) w in
    let within : r / 64 < length words = omega (arith, four, less) in
    let word : slice_index written (r / 64) ≡ w = get_or-set_same words (r / 64) w 0 within in
    sym (set_tested (has_bit words) (has_bit written) on 0 256 r
    (ap (has_bit written) (omega arith) ∙ (ap (λ x. nat_eq (bit_at x (r % 64)) 1) word ∙ (ap (λ x. nat_eq x 1) same ∙ is_one on)))
    (λ k from to apart. agree k (λ equal. apart (equal ∙ omega arith))))
  where
    is_one : (b : Bool) → nat_eq (cond b 1 0) 1 ≡ b
    is_one true = refl
    is_one false = refl

    agree : (k : ℕ) → k ≢ r → has_bit words k ≡ has_bit (slice_set words (r / 64) w) k
    agree k apart = by (nat_eq (k / 64) (r / 64)) refl
      where
        by : (b : Bool) → nat_eq (k / 64) (r / 64) ≡ b → has_bit words k ≡ has_bit (slice_set words (r / 64) w) k
        by true equal =
            let place : k / 64 ≡ r / 64 = eqb-true (k / 64) (r / 64) equal in
            let bit : k % 64 ≢ r % 64 = λ same_bit. apart (omega (arith, place, same_bit)) in
            let word : slice_index (slice_set words (r / 64) w) (k / 64) ≡ w = ap (slice_index (slice_set words (r / 64) w)) place ∙ get_or-set_same words (r / 64) w 0 (omega (arith, four, less)) in
            sym (ap (λ x. nat_eq (bit_at x (k % 64)) 1) word ∙ (ap (λ x. nat_eq x 1) (others (k % 64) (omega arith) bit) ∙ ap (λ p. nat_eq (bit_at (slice_index words p) (k % 64)) 1) (sym place)))
        by false differ =
            let apart_places : k / 64 ≢ r / 64 = λ place. true≢false (sym (eq-eqb (k / 64) (r / 64) place) ∙ differ) in
            ap (λ x. nat_eq (bit_at x (k % 64)) 1) (sym (get_or-set_other words (r / 64) (k / 64) w 0 apart_places))

-- ---- the lowest number in the set
-- no number of a word without a bit
pub none_in_word : (words : List ℕ) (i : ℕ) → slice_index words i ≡ 0 → ((k : ℕ) → k < 64 * i → has_bit words k ≡ false) → (k : ℕ) → k < 64 * (i + 1) → has_bit words k ≡ false
none_in_word words i empty below k less = by (nat_lt k (64 * i)) refl
  where
    by : (b : Bool) → nat_lt k (64 * i) ≡ b → has_bit words k ≡ false
    by true lower = below k (grind (arith, nat_tests, lower))
    by false higher =
        let above : 64 * i ≤ k = grind (arith, nat_tests, higher) in
        let place : k / 64 ≡ i = omega (arith, above, less) in
        ap (λ p. nat_eq (bit_at (slice_index words p) (k % 64)) 1) place ∙ (ap (λ w. nat_eq (bit_at w (k % 64)) 1) empty ∙ ap (λ x. nat_eq x 1) (bit_at-zero (k % 64)))

-- the lowest bit of the first word that has one
pub lowest_in_word : (words : List ℕ) (i b : ℕ) → i < 4 → b < 64 → ((k : ℕ) → k < 64 * i → has_bit words k ≡ false)
    → bit_at (slice_index words i) b ≡ 1 → ((k : ℕ) → k < b → bit_at (slice_index words i) k ≡ 0)
    → lowest_from (has_number (numbers_in words)) 0 256 ≡ Some (64 * i + b)
lowest_in_word words i b within bit below at lower =
    lowest_at (has_number (numbers_in words)) 0 256 (64 * i + b) (omega (arith, within, bit)) none_below here ∙ ap (λ k. Some k) (omega arith)
  where
    of_word : (k : ℕ) → k < 64 → has_bit words (64 * i + k) ≡ nat_eq (bit_at (slice_index words i) k) 1
    of_word k less =
        let place : (64 * i + k) / 64 ≡ i = omega (arith, less) in
        let rest : (64 * i + k) % 64 ≡ k = omega (arith, less) in
        ap (λ p. nat_eq (bit_at (slice_index words p) ((64 * i + k) % 64)) 1) place ∙ ap (λ r. nat_eq (bit_at (slice_index words i) r) 1) rest

    here : has_number (numbers_in words) (0 + (64 * i + b)) ≡ true
    here = in_numbers words (0 + (64 * i + b)) (omega (arith, within, bit)) ∙ (ap (has_bit words) (omega arith) ∙ (of_word b bit ∙ ap (λ x. nat_eq x 1) at))

    none_below : (k : ℕ) → k < 64 * i + b → has_number (numbers_in words) (0 + k) ≡ false
    none_below k less = in_numbers words (0 + k) (omega (arith, within, bit, less)) ∙ (ap (has_bit words) (omega arith) ∙ by (nat_lt k (64 * i)) refl)
      where
        by : (c : Bool) → nat_lt k (64 * i) ≡ c → has_bit words k ≡ false
        by true first = below k (grind (arith, nat_tests, first))
        by false second =
            let above : 64 * i ≤ k = grind (arith, nat_tests, second) in
            ap (has_bit words) (omega (arith, above)) ∙ (of_word (k - 64 * i) (omega (arith, above, less, bit)) ∙ ap (λ x. nat_eq x 1) (lower (k - 64 * i) (omega (arith, above, less))))

-- no number at all
pub lowest_of_none : (words : List ℕ) → ((k : ℕ) → k < 256 → has_bit words k ≡ false) → lowest_from (has_number (numbers_in words)) 0 256 ≡ None
lowest_of_none words none =
    none_lowest (has_number (numbers_in words)) 0 256 (λ k from to. in_numbers words k (omega (arith, to)) ∙ none k (omega (arith, to)))

-- four words of 0 have no number
pub none_at_first : (k : ℕ) → has_number (numbers_in (replicate 4 0)) k ≡ false
unfolding numbers_in
none_at_first k = by (nat_lt k 256) refl
  where
    zero_at : (n i : ℕ) → slice_index (replicate n 0) i ≡ 0
    zero_at zero i = refl
    zero_at (suc n) zero = refl
    zero_at (suc n) (suc i) = zero_at n i

    by : (b : Bool) → nat_lt k 256 ≡ b → has_number (numbers_in (replicate 4 0)) k ≡ false
    by true less =
        in_numbers (replicate 4 0) k (grind (arith, nat_tests, less)) ∙ (ap (λ w. nat_eq (bit_at w (k % 64)) 1) (zero_at 4 (k / 64)) ∙ ap (λ x. nat_eq x 1) (bit_at-zero (k % 64)))
    by false more = past_tested (has_bit (replicate 4 0)) 0 256 k (grind (arith, nat_tests, more))
