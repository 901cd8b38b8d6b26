-- The digits of a number, and that they determine it.
use Rattle.std.proofs.Common.{◌≡◌, ◌<◌, ◌≤◌, ℕ, zero, suc, ◌+◌, ◌*◌, ◌/◌, ◌%◌, List, [], ◌∷◌, ◌++◌, false, refl, sym, ◌∙◌, ap, arith, lit≤, zero-mul, add-zero, append_assoc, Option, Some, None}
use Rattle.std.specs.Prelude.{◌==◌, map, bytes_eq, nat_lt, ◌&&◌, not}
use Rattle.std.specs.Char.{digit_char, digit_value}
use Rattle.std.specs.Int.Digits.{digits_of, number_from_digits, AllBelowBase}
use Rattle.std.proofs.Math.Nat.{div-eq_of_lt, mod-eq_of_lt, div-lt_self, lt-div-mul-add}
use Rattle.std.proofs.lemmas.Int.Digits.{digits_of_step, number_digits_of, all_below_base_digits_of}
use Rattle.std.proofs.lemmas.List.{map-append, append_cancel_left}
use Rattle.std.proofs.lemmas.Str.{digit_value-digit_char}
use Rattle.std.proofs.lemmas.Bool.Decides.{nat_tests, same_from_decides, Decides-like, Decides-eqb}
use Rattle.std.proofs.lemmas.Slice.Eq.{bytes_eq-Decides}
use Rattle.hx_etag.specs.Conflicts.{conflict, modified_since}
use Rattle.hx_etag.specs.Etags.{numeral}
use Rattle.hx_etag.specs.declared.stat.Stat.{Stat}

not_zero : (n : ℕ) → 0 < n → (n == 0) ≡ false
not_zero n above = grind (arith, nat_tests)

pub numeral_above : (base n : ℕ) → 0 < n → numeral base n ≡ map digit_char (digits_of base n)
unfolding numeral
numeral_above base n above = rw (not_zero n above) refl

digits_one : (base n : ℕ) → 0 < n → n < base → digits_of base n ≡ n ∷ []
digits_one base n above small =
    digits_of_step base n (omega arith) above
    ∙ ap (λ q. digits_of base q ++ n % base ∷ []) (div-eq_of_lt small)
    ∙ ap (λ r. r ∷ []) (mod-eq_of_lt small)

pub numeral_one : (base number : ℕ) → number < base → numeral base number ≡ digit_char number ∷ []
unfolding numeral
numeral_one base zero small = refl
numeral_one base (suc k) small =
    numeral_above base (suc k) (omega arith) ∙ ap (map digit_char) (digits_one base (suc k) (omega arith) small)

quotient_above : (base number : ℕ) → 0 < base → base ≤ number → 0 < number / base
quotient_above base number above long =
    let bound : number < number / base * base + base = lt-div-mul-add above in
    not_none (number / base) bound
  where
    not_none : (q : ℕ) → number < q * base + base → 0 < q
    not_none zero bound = absurd (omega (arith, zero-mul base))
    not_none (suc q) bound = omega arith

pub numeral_step : (base number : ℕ) → 2 ≤ base → base ≤ number → numeral base number ≡ numeral base (number / base) ++ digit_char (number % base) ∷ []
numeral_step base number low long =
    numeral_above base number (omega arith)
    ∙ ap (map digit_char) (digits_of_step base number low (omega arith))
    ∙ map-append digit_char (digits_of base (number / base)) (number % base ∷ [])
    ∙ ap (λ (l : List ℕ). l ++ digit_char (number % base) ∷ []) (sym (numeral_above base (number / base) (quotient_above base number (omega arith) long)))

pub more_digits : (old digits new : List ℕ) (base number : ℕ) → 2 ≤ base → base ≤ number → digits ≡ old ++ numeral base (number / base)
    → new ≡ digits ++ digit_char (number % base) ∷ [] → new ≡ old ++ numeral base number
more_digits old digits new base number low long front last =
    last
    ∙ ap (λ (l : List ℕ). l ++ digit_char (number % base) ∷ []) front
    ∙ append_assoc old (numeral base (number / base)) (digit_char (number % base) ∷ [])
    ∙ ap (λ (l : List ℕ). old ++ l) (sym (numeral_step base number low long))

pub one_digit : (old digits new : List ℕ) (base number : ℕ) → number < base → digits ≡ old
    → new ≡ digits ++ digit_char (number % base) ∷ [] → new ≡ old ++ numeral base number
one_digit old digits new base number small front last =
    last
    ∙ ap (λ (l : List ℕ). l ++ digit_char (number % base) ∷ []) front
    ∙ ap (λ r. old ++ digit_char r ∷ []) (mod-eq_of_lt small)
    ∙ ap (λ (l : List ℕ). old ++ l) (sym (numeral_one base number small))

pub smaller : (base number : ℕ) → 2 ≤ base → base ≤ number → number / base < number
smaller base number low long = div-lt_self (omega arith) (omega arith)

-- the digits of a numeral
unwritten : (base : ℕ) (ds : List ℕ) → base ≤ 36 → AllBelowBase base ds → map digit_value (map digit_char ds) ≡ ds
unwritten base [] high below = refl
unwritten base (d ∷ ds) high below =
    rw (digit_value-digit_char d (omega (arith, below.0))) (ap (λ (l : List ℕ). d ∷ l) (unwritten base ds high below.1))

value_of : ℕ → List ℕ → ℕ
value_of base text = number_from_digits base (map digit_value text)

value_of-numeral : (base n : ℕ) → 2 ≤ base → base ≤ 36 → value_of base (numeral base n) ≡ n
unfolding value_of
value_of-numeral base zero low high = unfold numeral in simp (zero-mul, add-zero)
value_of-numeral base (suc k) low high =
    ap (value_of base) (numeral_above base (suc k) (omega arith))
    ∙ ap (number_from_digits base) (unwritten base (digits_of base (suc k)) high (all_below_base_digits_of base (suc k) low))
    ∙ number_digits_of base (suc k) low

pub numeral_injective : (base m n : ℕ) → 2 ≤ base → base ≤ 36 → numeral base m ≡ numeral base n → m ≡ n
numeral_injective base m n low high same =
    sym (value_of-numeral base m low high) ∙ ap (value_of base) same ∙ value_of-numeral base n low high

-- etags of one time differ exactly where the sizes do
pub same_etag : (time left right : ℕ) → bytes_eq (numeral 29 time ++ numeral 31 left) (numeral 29 time ++ numeral 31 right) ≡ (left == right)
same_etag time left right =
    same_from_decides _ _
    (Decides-like _
    (λ same. numeral_injective 31 left right (lit≤ tt) (lit≤ tt) (append_cancel_left (numeral 29 time) (numeral 31 left) (numeral 31 right) same))
    (λ same. ap (λ n. numeral 29 time ++ numeral 31 n) same)
    (bytes_eq-Decides (numeral 29 time ++ numeral 31 left) (numeral 29 time ++ numeral 31 right)))
    (Decides-eqb left right)

pub modified_since_is : (base found : Option Stat) → modified_since base found ≡ conflict base found
modified_since_is None found = refl
modified_since_is (Some base) None = refl
modified_since_is (Some base) (Some found) =
    ap (λ same. nat_lt base.mtime found.mtime && not same) (same_etag base.mtime base.size found.size)
