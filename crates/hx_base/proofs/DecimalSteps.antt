-- A decimal text and the number that it writes.
use Rattle.std.proofs.Common.{◌≡◌, ◌<◌, ◌^◌, ℕ, Bool, true, false, if◌then◌else◌, List, Some, None, refl, sym, ◌∙◌, ap, subst}
use Rattle.std.specs.Prelude.{decimal}
use Rattle.std.specs.Str.{IsUtf8}
use Rattle.std.specs.Str.Parse.{digits_value}
use Rattle.std.proofs.lemmas.Fmt.{decimal_is_IsNumeral, IsAscii-decimal}
use Rattle.std.proofs.lemmas.Str.{IsUtf8-from_ascii}
use Rattle.std.proofs.lemmas.Bool.Decides.{Decides-ltb, Decides-and}
use Rattle.std.proofs.lemmas.Slice.Eq.{bytes_eq-Decides}
use Rattle.hx_base.specs.Decimals.{decimal_value}

pub value_of_decimal : (n : ℕ) (text : List ℕ) → n < 2 ^ 64 → decimal n ≡ text → decimal_value text ≡ Some n
unfolding decimal_value
value_of_decimal n text small is_text =
    let value : digits_value 10 text ≡ n = ap (digits_value 10) (sym is_text) ∙ (decimal_is_IsNumeral n small).1 in
    rw (value, (Decides-ltb n (2 ^ 64)).1 small, (bytes_eq-Decides (decimal n) text).1 is_text) refl

by_test : (b : Bool) (n : ℕ) → (b ≡ true → ⊥) → (if b then Some n else None) ≡ None
by_test true n never = absurd (never refl)
by_test false n never = refl

pub no_value : (text : List ℕ) → ((n : ℕ) → n < 2 ^ 64 → decimal n ≡ text → ⊥) → decimal_value text ≡ None
unfolding decimal_value
no_value text none =
    by_test _ _ (λ passed.
    let both = (Decides-and _ _ (Decides-ltb (digits_value 10 text) (2 ^ 64)) (bytes_eq-Decides (decimal (digits_value 10 text)) text)).0 passed in
    none (digits_value 10 text) both.0 both.1)

pub decimal_is_utf8 : (n : ℕ) (text : List ℕ) → n < 2 ^ 64 → text ≡ decimal n → IsUtf8 text
decimal_is_utf8 n text small is_text = subst IsUtf8 (sym is_text) (IsUtf8-from_ascii (decimal n) (IsAscii-decimal n small))
