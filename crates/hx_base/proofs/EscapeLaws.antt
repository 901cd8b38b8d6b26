-- Escaping and reading back gives the bytes again.
use Rattle.std.proofs.Common.{◌≡◌, ◌<◌, ℕ, suc, ◌+◌, ◌*◌, ◌/◌, ◌%◌, Bool, true, false, List, [], ◌∷◌, ◌++◌, length, get_or, None, refl, ◌∙◌, ap, arith}
use Rattle.std.specs.Prelude.{◌==◌}
use Rattle.std.specs.Char.{is_ascii_graphic, is_ascii_hexdigit, digit_value}
use Rattle.std.specs.Fmt.{digit_glyph}
use Rattle.std.proofs.lemmas.Bool.Decides.{nat_tests}
use Rattle.hx_base.specs.Escapes.{is_plain, escape_of, escaped, bad_from, bad_place, unescaped}
use Rattle.hx_base.proofs.EscapeSteps.{bad_step}

glyph_value : (n : ℕ) → n < 16 → digit_value (digit_glyph true n) ≡ n
glyph_value n small = grind (arith, nat_tests)

glyph_is_digit : (n : ℕ) → n < 16 → is_ascii_hexdigit (digit_glyph true n) ≡ true
glyph_is_digit n small = grind (arith, nat_tests)

byte_value : (byte : ℕ) → byte < 256 → 16 * digit_value (digit_glyph true (byte / 16)) + digit_value (digit_glyph true (byte % 16)) ≡ byte
byte_value byte small =
    rw (glyph_value (byte / 16) (omega arith), glyph_value (byte % 16) (omega arith)) (omega arith)

mark_split : (byte : ℕ) → is_plain byte ≡ true → (is_ascii_graphic byte ≡ true) × ((byte == 37) ≡ false)
mark_split byte plain = (grind (arith, nat_tests), grind (arith, nat_tests))

unescaped_front : (byte : ℕ) (rest : List ℕ) (plain : Bool) → is_plain byte ≡ plain → byte < 256
    → unescaped (escape_of byte ++ escaped rest) ≡ byte ∷ unescaped (escaped rest)
unescaped_front byte rest true plain small = rw (plain, (mark_split byte plain).1) refl
unescaped_front byte rest false other small = rw other (ap (λ b. b ∷ unescaped (escaped rest)) (byte_value byte small))

bad_front : (at byte : ℕ) (rest : List ℕ) (plain : Bool) → is_plain byte ≡ plain → byte < 256
    → bad_from at (escape_of byte ++ escaped rest) ≡ bad_from (at + length (escape_of byte)) (escaped rest)
bad_front at byte rest true plain small = rw (plain, (mark_split byte plain).1, (mark_split byte plain).0) refl
bad_front at byte rest false other small =
    rw other (bad_step at (digit_glyph true (byte / 16)) (digit_glyph true (byte % 16)) (escaped rest) (glyph_is_digit (byte / 16) (omega arith)) (glyph_is_digit (byte % 16) (omega arith)))

pub unescaped-escaped : (bytes : List ℕ) → ((k : ℕ) → get_or bytes k 0 < 256) → unescaped (escaped bytes) ≡ bytes
unescaped-escaped [] small = refl
unescaped-escaped (byte ∷ rest) small =
    unescaped_front byte rest (is_plain byte) refl (small 0)
    ∙ ap (λ (l : List ℕ). byte ∷ l) (unescaped-escaped rest (λ k. small (suc k)))

pub bad_from-escaped : (at : ℕ) (bytes : List ℕ) → ((k : ℕ) → get_or bytes k 0 < 256) → bad_from at (escaped bytes) ≡ None
bad_from-escaped at [] small = refl
bad_from-escaped at (byte ∷ rest) small =
    bad_front at byte rest (is_plain byte) refl (small 0)
    ∙ bad_from-escaped (at + length (escape_of byte)) rest (λ k. small (suc k))

pub read_back : (bytes text : List ℕ) → text ≡ escaped bytes → ((k : ℕ) → get_or bytes k 0 < 256) → unescaped text ≡ bytes
read_back bytes text is_text small = ap unescaped is_text ∙ unescaped-escaped bytes small

pub good : (bytes text : List ℕ) → text ≡ escaped bytes → ((k : ℕ) → get_or bytes k 0 < 256) → bad_place text ≡ None
good bytes text is_text small = ap bad_place is_text ∙ bad_from-escaped 0 bytes small
