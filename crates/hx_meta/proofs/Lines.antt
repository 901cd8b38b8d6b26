-- The text of a meta object is printable, and not much longer than its type id.
use Rattle.std.proofs.Common.{◌≡◌, ◌<◌, ◌≤◌, ◌^◌, ℕ, ◌+◌, ◌*◌, ◌/◌, ◌%◌, Bool, true, false, ◌&&◌, ◌||◌, if◌then◌else◌, List, [], ◌∷◌, ◌++◌, length, Option, Some, None, refl, ◌∙◌, ap, arith, lit≤, ⊎_elim}
use Rattle.std.specs.Prelude.{◌==◌, All, codes, decimal, nat_lt}
use Rattle.std.specs.List.{list_all}
use Rattle.std.specs.Char.{digit_char}
use Rattle.std.specs.Int.{is_in_range}
use Rattle.std.proofs.lemmas.Bool.Decides.{nat_tests, Decides-ltb}
use Rattle.std.proofs.lemmas.Fmt.{decimal_is_IsNumeral, length-decimal-le}
use Rattle.std.proofs.lemmas.List.{length-append, get_or_past}
use Rattle.std.proofs.lemmas.List.Elements.{All-nil, All-cons, All-head, All-tail, All-append, All-weaker, All-from_get_or}
use Rattle.std.proofs.lemmas.Bool.{cases_lt}
use Rattle.std.specs.Str.{IsUtf8}
use Rattle.std.proofs.lemmas.Str.{IsUtf8-from_ascii}
use Rattle.std.proofs.lemmas.Str.Parse.{digit_at}
use Rattle.json.specs.Print.{escape_letter, escape_byte, escape, quoted}
use Rattle.serde_json.specs.Data.{Data, Members, member, no_members, string, number, unsigned}
use Rattle.serde_json.specs.Written.{compact_text, members_text, comma_if}
use Rattle.hx_etag.specs.declared.stat.Stat.{Stat}
use Rattle.hx_etag.specs.Etags as etags
use Rattle.hx_etag.specs.Etags.{etag_of}
use Rattle.hx_etag.proofs.Glyphs.{printable_etag, length_etag}
use Rattle.hx_meta.specs.Metas.{IsPrintable, StatFits, object_of}

pub also_blank : (text : List ℕ) → All etags.IsPrintable text → All IsPrintable text
also_blank text printable = All-weaker etags.IsPrintable IsPrintable (λ b h. (omega (arith, h.0), h.1)) text printable

-- one byte in a string
letter_of : (x : ℕ) → 32 ≤ x → escape_letter x ≡ (if (x == 34) || (x == 92) then x else 0)
letter_of x above = grind (arith, nat_tests)

not_below : (x : ℕ) → 32 ≤ x → nat_lt x 32 ≡ false
not_below x above = grind (arith, nat_tests)

chosen : (x letter : ℕ) (special : Bool) (long : List ℕ) → 32 ≤ x → letter ≡ (if special then x else 0)
    → (if nat_lt 0 letter then 92 ∷ letter ∷ [] else (if nat_lt x 32 then long else x ∷ [])) ≡ (if special then 92 ∷ x ∷ [] else x ∷ [])
chosen x letter true long above is_x = rw (is_x, (Decides-ltb 0 x).1 (omega arith)) refl
chosen x letter false long above is_none = rw (is_none, not_below x above) refl

escaped_byte : (x : ℕ) (special : Bool) → IsPrintable x → ((x == 34) || (x == 92)) ≡ special → escape_byte x ≡ (if special then 92 ∷ x ∷ [] else x ∷ [])
unfolding escape_byte
escaped_byte x special printable is_special =
    chosen x (escape_letter x) special (92 ∷ 117 ∷ 48 ∷ 48 ∷ digit_char (x / 16) ∷ digit_char (x % 16) ∷ []) printable.0
    (letter_of x printable.0 ∙ ap (λ b. if b then x else 0) is_special)

both_printable : (x : ℕ) (special : Bool) → IsPrintable x → All IsPrintable (if special then 92 ∷ x ∷ [] else x ∷ [])
both_printable x true printable = All-cons IsPrintable 92 (x ∷ []) (lit≤ tt, lit≤ tt) (All-cons IsPrintable x [] printable (All-nil IsPrintable))
both_printable x false printable = All-cons IsPrintable x [] printable (All-nil IsPrintable)

length_both : (x : ℕ) (special : Bool) → length (if special then 92 ∷ x ∷ [] else x ∷ []) ≤ 2
length_both x true = lit≤ tt
length_both x false = lit≤ tt

printable_byte : (x : ℕ) → IsPrintable x → All IsPrintable (escape_byte x)
printable_byte x printable = rw (escaped_byte x _ printable refl) (both_printable x ((x == 34) || (x == 92)) printable)

length_byte : (x : ℕ) → IsPrintable x → length (escape_byte x) ≤ 2
length_byte x printable = rw (escaped_byte x _ printable refl) (length_both x ((x == 34) || (x == 92)))

-- a string
printable_escape : (s : List ℕ) → All IsPrintable s → All IsPrintable (escape s)
printable_escape [] printable = All-nil IsPrintable
printable_escape (x ∷ s) printable =
    All-append IsPrintable (escape_byte x) (escape s) (printable_byte x (All-head IsPrintable x s printable)) (printable_escape s (All-tail IsPrintable x s printable))

length_escape : (s : List ℕ) → All IsPrintable s → length (escape s) ≤ 2 * length s
length_escape [] printable = lit≤ tt
length_escape (x ∷ s) printable =
    omega (arith, length-append (escape_byte x) (escape s), length_byte x (All-head IsPrintable x s printable), length_escape s (All-tail IsPrintable x s printable))

printable_quoted : (s : List ℕ) → All IsPrintable s → All IsPrintable (quoted s)
printable_quoted s printable =
    All-cons IsPrintable 34 (escape s ++ 34 ∷ []) (lit≤ tt, lit≤ tt)
    (All-append IsPrintable (escape s) (34 ∷ []) (printable_escape s printable) (All-cons IsPrintable 34 [] (lit≤ tt, lit≤ tt) (All-nil IsPrintable)))

length_quoted : (s : List ℕ) → All IsPrintable s → length (quoted s) ≤ 2 * length s + 2
length_quoted s printable = omega (arith, length-append (escape s) (34 ∷ []), length_escape s printable)

-- a whole number
printable_decimal : (n : ℕ) → n < 2 ^ 64 → All IsPrintable (decimal n)
printable_decimal n small =
    All-from_get_or IsPrintable (decimal n) 0 (λ i within.
    let digit = digit_at (decimal n) i (decimal_is_IsNumeral n small).0.1 within in
    (omega (arith, digit.0), omega (arith, digit.1)))

length_decimal : (n : ℕ) → n < 2 ^ 64 → length (decimal n) ≤ 20
length_decimal n small = length-decimal-le 20 n (lit≤ tt) (omega arith) small

-- a member and what follows it
printable_comma : (later : Bool) → All IsPrintable (comma_if later)
printable_comma true = All-cons IsPrintable 44 [] (lit≤ tt, lit≤ tt) (All-nil IsPrintable)
printable_comma false = All-nil IsPrintable

length_comma : (later : Bool) → length (comma_if later) ≤ 1
length_comma true = lit≤ tt
length_comma false = lit≤ tt

printable_member : (later : Bool) (key : List ℕ) (value : Data) (rest : Members) → All IsPrintable key → All IsPrintable (compact_text value) → All IsPrintable (members_text true rest)
    → All IsPrintable (members_text later (member key value rest))
printable_member later key value rest key_ok value_ok rest_ok =
    All-append IsPrintable (comma_if later) (quoted key ++ 58 ∷ (compact_text value ++ members_text true rest)) (printable_comma later)
    (All-append IsPrintable (quoted key) (58 ∷ (compact_text value ++ members_text true rest)) (printable_quoted key key_ok)
    (All-cons IsPrintable 58 (compact_text value ++ members_text true rest) (lit≤ tt, lit≤ tt)
    (All-append IsPrintable (compact_text value) (members_text true rest) value_ok rest_ok)))

length_member : (later : Bool) (key : List ℕ) (value : Data) (rest : Members) → All IsPrintable key
    → length (members_text later (member key value rest)) ≤ 4 + 2 * length key + length (compact_text value) + length (members_text true rest)
length_member later key value rest key_ok =
    omega (arith, length-append (comma_if later) (quoted key ++ 58 ∷ (compact_text value ++ members_text true rest)), length_comma later, length-append (quoted key) (58 ∷ (compact_text value ++ members_text true rest)), length_quoted key key_ok, length-append (compact_text value) (members_text true rest))

both_true : (a b : Bool) → (a && b) ≡ true → (a ≡ true) × (b ≡ true)
both_true true b ok = (refl, ok)
both_true false b ok = cc

in_range : (x : ℕ) → is_in_range 32 126 x ≡ true → IsPrintable x
in_range x ok = (grind (arith, nat_tests), grind (arith, nat_tests))

passes : (text : List ℕ) → list_all (is_in_range 32 126) text ≡ true → All IsPrintable text
passes [] ok = All-nil IsPrintable
passes (x ∷ s) ok =
    let parts = both_true (is_in_range 32 126 x) (list_all (is_in_range 32 126) s) ok in
    All-cons IsPrintable x s (in_range x parts.0) (passes s parts.1)

type_id_member : (later : Bool) (type_id : List ℕ) → All IsPrintable type_id → All IsPrintable (members_text later (member (codes "typeId") (string type_id) no_members))
type_id_member later type_id printable =
    printable_member later (codes "typeId") (string type_id) no_members (passes (codes "typeId") refl) (printable_quoted type_id printable) (passes (125 ∷ []) refl)

length_type_id_member : (later : Bool) (type_id : List ℕ) → All IsPrintable type_id → length (members_text later (member (codes "typeId") (string type_id) no_members)) ≤ 19 + 2 * length type_id
length_type_id_member later type_id printable =
    omega (arith, length_member later (codes "typeId") (string type_id) no_members (passes (codes "typeId") refl), length_quoted type_id printable)

pub printable_object : (base : Option Stat) (type_id : List ℕ) → StatFits base → All IsPrintable type_id → All IsPrintable (compact_text (object_of base type_id))
printable_object None type_id fits printable =
    All-cons IsPrintable 123 (members_text false (member (codes "typeId") (string type_id) no_members)) (lit≤ tt, lit≤ tt) (type_id_member false type_id printable)
printable_object (Some stat) type_id fits printable =
    let last = member (codes "typeId") (string type_id) no_members in
    let third = member (codes "size") (number (unsigned stat.size)) last in
    let second = member (codes "mtime") (number (unsigned stat.mtime)) third in
    let last_ok = type_id_member true type_id printable in
    let third_ok = printable_member true (codes "size") (number (unsigned stat.size)) last (passes (codes "size") refl) (printable_decimal stat.size fits.1) last_ok in
    let second_ok = printable_member true (codes "mtime") (number (unsigned stat.mtime)) third (passes (codes "mtime") refl) (printable_decimal stat.mtime fits.0) third_ok in
    let etag_ok = printable_quoted (etag_of stat) (also_blank (etag_of stat) (printable_etag stat)) in
    All-cons IsPrintable 123 (members_text false (member (codes "etag") (string (etag_of stat)) second)) (lit≤ tt, lit≤ tt)
    (printable_member false (codes "etag") (string (etag_of stat)) second (passes (codes "etag") refl) etag_ok second_ok)

pub length_object : (base : Option Stat) (type_id : List ℕ) → StatFits base → All IsPrintable type_id → length (compact_text (object_of base type_id)) ≤ 200 + 2 * length type_id
length_object None type_id fits printable = omega (arith, length_type_id_member false type_id printable)
length_object (Some stat) type_id fits printable =
    let last = member (codes "typeId") (string type_id) no_members in
    let third = member (codes "size") (number (unsigned stat.size)) last in
    let second = member (codes "mtime") (number (unsigned stat.mtime)) third in
    omega (
      arith,
      length_member false (codes "etag") (string (etag_of stat)) second (passes (codes "etag") refl),
      length_member true (codes "mtime") (number (unsigned stat.mtime)) third (passes (codes "mtime") refl),
      length_member true (codes "size") (number (unsigned stat.size)) last (passes (codes "size") refl),
      length_type_id_member true type_id printable,
      length_quoted (etag_of stat) (also_blank (etag_of stat) (printable_etag stat)),
      length_etag stat fits.0 fits.1,
      length_decimal stat.mtime fits.0,
      length_decimal stat.size fits.1,
    )

pub printable_is_utf8 : (text : List ℕ) → All IsPrintable text → IsUtf8 text
printable_is_utf8 text printable =
    IsUtf8-from_ascii text
    (λ i. ⊎_elim (λ within. let byte = printable i 0 within in omega arith) (λ past. omega (arith, get_or_past text i 0 past)) (cases_lt i (length text)))
