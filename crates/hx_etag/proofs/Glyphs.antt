-- The digits of an etag are printable, and there are few of them.
use Rattle.std.proofs.Common.{◌≡◌, ◌<◌, ◌≤◌, ◌^◌, ℕ, zero, suc, [], length, sym, ◌∙◌, ap, arith, subst, lit≤}
use Rattle.std.specs.Prelude.{All, map}
use Rattle.std.specs.Char.{digit_char}
use Rattle.std.specs.Int.Digits.{digits_of}
use Rattle.std.proofs.lemmas.Int.Digits.{all_below_base_digits_of, length-digits_of-le}
use Rattle.std.proofs.lemmas.List.{length-map, length-append}
use Rattle.std.proofs.lemmas.List.Elements.{All-map, All-from_recursion, All-weaker, All-append, All-cons, All-nil}
use Rattle.std.proofs.lemmas.Bool.Decides.{nat_tests}
use Rattle.hx_etag.specs.Etags.{numeral, etag_of, IsPrintable}
use Rattle.hx_etag.specs.declared.stat.Stat.{Stat}
use Rattle.hx_etag.proofs.Numerals.{numeral_above}

glyph : (base d : ℕ) → base ≤ 36 → d < base → IsPrintable (digit_char d)
glyph base d high small = (grind (arith, nat_tests), grind (arith, nat_tests))

printable_digits : (base n : ℕ) → 2 ≤ base → base ≤ 36 → All IsPrintable (map digit_char (digits_of base n))
printable_digits base n low high =
    All-map IsPrintable digit_char (digits_of base n)
    (All-weaker (λ d. d < base) (λ d. IsPrintable (digit_char d)) (λ d small. glyph base d high small) (digits_of base n)
    (All-from_recursion (λ d. d < base) (digits_of base n) (all_below_base_digits_of base n low)))

printable_numeral : (base n : ℕ) → 2 ≤ base → base ≤ 36 → All IsPrintable (numeral base n)
unfolding numeral
printable_numeral base zero low high = All-cons IsPrintable 48 [] (lit≤ tt, lit≤ tt) (All-nil IsPrintable)
printable_numeral base (suc k) low high = subst (All IsPrintable) (sym (numeral_above base (suc k) (omega arith))) (printable_digits base (suc k) low high)

pub printable_etag : (stat : Stat) → All IsPrintable (etag_of stat)
printable_etag stat =
    All-append IsPrintable (numeral 29 stat.mtime) (numeral 31 stat.size) (printable_numeral 29 stat.mtime (lit≤ tt) (lit≤ tt)) (printable_numeral 31 stat.size (lit≤ tt) (lit≤ tt))

length_numeral : (base k n : ℕ) → 2 ≤ base → 0 < k → n < base ^ k → length (numeral base n) ≤ k
unfolding numeral
length_numeral base k zero low above small = omega arith
length_numeral base k (suc n) low above small =
    let whole : length (numeral base (suc n)) ≡ length (digits_of base (suc n)) = ap length (numeral_above base (suc n) (omega arith)) ∙ length-map (digits_of base (suc n)) digit_char in
    omega (arith, length-digits_of-le base k (suc n) low small)

pub length_etag : (stat : Stat) → stat.mtime < 2 ^ 64 → stat.size < 2 ^ 64 → length (etag_of stat) ≤ 27
length_etag stat time size =
    let first : length (numeral 29 stat.mtime) ≤ 14 = length_numeral 29 14 stat.mtime (lit≤ tt) (lit≤ tt) (omega arith) in
    let second : length (numeral 31 stat.size) ≤ 13 = length_numeral 31 13 stat.size (lit≤ tt) (lit≤ tt) (omega arith) in
    omega (arith, length-append (numeral 29 stat.mtime) (numeral 31 stat.size))
