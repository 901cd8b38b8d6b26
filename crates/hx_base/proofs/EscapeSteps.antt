-- Runs of plain bytes and escapes of three bytes, as the definitions read them.
use Rattle.std.proofs.Common.{◌≡◌, ◌≤◌, ◌<◌, ℕ, suc, ◌+◌, ◌*◌, ◌/◌, ◌%◌, Bool, true, false, not, ◌&&◌, ◌-◌, length-drop, append_assoc, append-nil, subst, unwrap_or, List, [], ◌∷◌, ◌++◌, length, take, drop, get_or, Option, Some, None, if◌then◌else◌, cond, nat_le, nat_lt, refl, sym, ◌∙◌, ap, arith}
use Rattle.std.proofs.lemmas.List.{drop_more, get_or-drop, get_or_past, drop-drop, take_all}
use Rattle.std.proofs.Math.ListN.{drop_of_length-le}
use Rattle.std.proofs.lemmas.Bool.Decides.{nat_tests}
use Rattle.std.specs.Prelude.{◌==◌, slice_index}
use Rattle.std.specs.Char.{is_ascii_graphic, is_ascii_hexdigit, digit_value}
use Rattle.std.specs.Fmt.{digit_glyph}
use Rattle.std.specs.List.{position_or_len}
use Rattle.hx_base.specs.Escapes.{is_plain, escaped, bad_from, is_bad, unescaped, escape_in}

digit_good : (c : ℕ) (rest : List ℕ) → is_ascii_hexdigit c ≡ true → is_bad c rest ≡ false
digit_good c rest hex = grind (arith, nat_tests)

mark_good : (h l : ℕ) (rest : List ℕ) → is_ascii_hexdigit h ≡ true → is_ascii_hexdigit l ≡ true → is_bad 37 (h ∷ l ∷ rest) ≡ false
mark_good h l rest hex also = rw (hex, also)

pub bad_step : (at h l : ℕ) (rest : List ℕ) → is_ascii_hexdigit h ≡ true → is_ascii_hexdigit l ≡ true → bad_from at (37 ∷ h ∷ l ∷ rest) ≡ bad_from (at + 3) rest
bad_step at h l rest hex also =
    rw (mark_good h l rest hex also, digit_good h (l ∷ rest) hex, digit_good l rest also) (ap (λ n. bad_from n rest) (omega arith))

-- the length of the run of plain bytes in front
abbrev pub run : List ℕ → ℕ
run xs = position_or_len (λ byte. not (is_plain byte)) xs

plain_other : (byte : ℕ) → is_plain byte ≡ true → (byte == 37) ≡ false
plain_other byte plain = grind (arith, nat_tests)

plain_good : (byte : ℕ) (rest : List ℕ) → is_plain byte ≡ true → is_bad byte rest ≡ false
plain_good byte rest plain = grind (arith, nat_tests)

run_more : (x : ℕ) (xs : List ℕ) → is_plain x ≡ true → run (x ∷ xs) ≡ suc (run xs)
run_more x xs plain = rw plain (omega arith)

run_none : (x : ℕ) (xs : List ℕ) → is_plain x ≡ false → run (x ∷ xs) ≡ 0
run_none x xs other = rw other refl

escaped_by : (x : ℕ) (xs : List ℕ) (plain : Bool) → is_plain x ≡ plain → escaped xs ≡ take (run xs) xs ++ escaped (drop (run xs) xs)
    → escaped (x ∷ xs) ≡ take (run (x ∷ xs)) (x ∷ xs) ++ escaped (drop (run (x ∷ xs)) (x ∷ xs))
escaped_by x xs true plain rest =
    subst (λ n. escaped (x ∷ xs) ≡ take n (x ∷ xs) ++ escaped (drop n (x ∷ xs))) (sym (run_more x xs plain)) (rw plain (ap (λ (l : List ℕ). x ∷ l) rest))
escaped_by x xs false other rest =
    subst (λ n. escaped (x ∷ xs) ≡ take n (x ∷ xs) ++ escaped (drop n (x ∷ xs))) (sym (run_none x xs other)) refl

escaped_run : (xs : List ℕ) → escaped xs ≡ take (run xs) xs ++ escaped (drop (run xs) xs)
escaped_run [] = refl
escaped_run (x ∷ xs) = escaped_by x xs (is_plain x) refl (escaped_run xs)

unescaped_by : (x : ℕ) (xs : List ℕ) (plain : Bool) → is_plain x ≡ plain → unescaped xs ≡ take (run xs) xs ++ unescaped (drop (run xs) xs)
    → unescaped (x ∷ xs) ≡ take (run (x ∷ xs)) (x ∷ xs) ++ unescaped (drop (run (x ∷ xs)) (x ∷ xs))
unescaped_by x xs true plain rest =
    subst (λ n. unescaped (x ∷ xs) ≡ take n (x ∷ xs) ++ unescaped (drop n (x ∷ xs))) (sym (run_more x xs plain)) (rw (plain_other x plain) (ap (λ (l : List ℕ). x ∷ l) rest))
unescaped_by x xs false other rest =
    subst (λ n. unescaped (x ∷ xs) ≡ take n (x ∷ xs) ++ unescaped (drop n (x ∷ xs))) (sym (run_none x xs other)) refl

unescaped_run : (xs : List ℕ) → unescaped xs ≡ take (run xs) xs ++ unescaped (drop (run xs) xs)
unescaped_run [] = refl
unescaped_run (x ∷ xs) = unescaped_by x xs (is_plain x) refl (unescaped_run xs)

good_front : (at x : ℕ) (xs : List ℕ) → is_plain x ≡ true → bad_from at (x ∷ xs) ≡ bad_from (at + 1) xs
good_front at x xs plain = rw (plain_good x xs plain) refl

bad_by : (at x : ℕ) (xs : List ℕ) (plain : Bool) → is_plain x ≡ plain → bad_from (at + 1 + run xs) (drop (run xs) xs) ≡ bad_from (at + 1) xs
    → bad_from (at + run (x ∷ xs)) (drop (run (x ∷ xs)) (x ∷ xs)) ≡ bad_from at (x ∷ xs)
bad_by at x xs true plain rest =
    let one : at + suc (run xs) ≡ at + 1 + run xs = omega arith in
    subst (λ n. bad_from (at + n) (drop n (x ∷ xs)) ≡ bad_from at (x ∷ xs)) (sym (run_more x xs plain))
    (ap (λ n. bad_from n (drop (run xs) xs)) one ∙ rest ∙ sym (good_front at x xs plain))
bad_by at x xs false other rest =
    let none : at + 0 ≡ at = omega arith in
    subst (λ n. bad_from (at + n) (drop n (x ∷ xs)) ≡ bad_from at (x ∷ xs)) (sym (run_none x xs other)) (ap (λ n. bad_from n (x ∷ xs)) none)

bad_run : (at : ℕ) (xs : List ℕ) → bad_from (at + run xs) (drop (run xs) xs) ≡ bad_from at xs
bad_run at [] = refl
bad_run at (x ∷ xs) = bad_by at x xs (is_plain x) refl (bad_run (at + 1) xs)

-- what a turn at the place `at` does to the run of plain bytes up to the place `end`
pub escape_turn : (xs : List ℕ) (at end : ℕ) → end ≡ at + run (drop at xs) → escaped (drop at xs) ≡ take (end - at) (drop at xs) ++ escaped (drop end xs)
escape_turn xs at end is =
    escaped_run (drop at xs) ∙ ap (λ k. take k (drop at xs) ++ escaped (drop k (drop at xs))) (omega (arith, is)) ∙ ap (λ (l : List ℕ). take (end - at) (drop at xs) ++ escaped l) (drop-drop (end - at) at xs ∙ ap (λ k. drop k xs) (omega (arith, is)))

pub unescape_turn : (xs : List ℕ) (at end : ℕ) → end ≡ at + run (drop at xs) → unescaped (drop at xs) ≡ take (end - at) (drop at xs) ++ unescaped (drop end xs)
unescape_turn xs at end is =
    unescaped_run (drop at xs) ∙ ap (λ k. take k (drop at xs) ++ unescaped (drop k (drop at xs))) (omega (arith, is)) ∙ ap (λ (l : List ℕ). take (end - at) (drop at xs) ++ unescaped l) (drop-drop (end - at) at xs ∙ ap (λ k. drop k xs) (omega (arith, is)))

pub bad_turn : (xs : List ℕ) (at end : ℕ) → end ≡ at + run (drop at xs) → bad_from end (drop end xs) ≡ bad_from at (drop at xs)
bad_turn xs at end is =
    ap (λ k. bad_from k (drop k xs)) is ∙ ap (bad_from (at + run (drop at xs))) (sym (drop-drop (run (drop at xs)) at xs)) ∙ bad_run at (drop at xs)

not_not : (b : Bool) → not b ≡ true → b ≡ false
not_not true h = absurd cc
not_not false h = refl

-- a byte that isn't plain is written as three
pub escape_here : (xs : List ℕ) (at : ℕ) → at < length xs → is_plain (get_or xs at 0) ≡ false
    → escaped (drop at xs) ≡ (37 ∷ digit_glyph true (get_or xs at 0 / 16) ∷ digit_glyph true (get_or xs at 0 % 16) ∷ []) ++ escaped (drop (at + 1) xs)
escape_here xs at inside other = ap escaped (drop_more xs at 0 inside) ∙ rw other refl

-- some front is written, and the rest is as it was to be
pub write_more : (done new front rest tail whole : List ℕ) → done ++ rest ≡ whole → rest ≡ front ++ tail → new ≡ done ++ front → new ++ tail ≡ whole
write_more done new front rest tail whole so_far step more =
    ap (λ (l : List ℕ). l ++ tail) more ∙ append_assoc done front tail ∙ ap (λ (l : List ℕ). done ++ l) (sym step) ∙ so_far

-- three bytes, one after the other
pub three_pushed : (done first second third : List ℕ) (a b c : ℕ) → first ≡ done ++ a ∷ [] → second ≡ first ++ b ∷ [] → third ≡ second ++ c ∷ [] → third ≡ done ++ a ∷ b ∷ c ∷ []
three_pushed done first second third a b c is_first is_second is_third =
    is_third ∙ ap (λ (l : List ℕ). l ++ c ∷ []) (is_second ∙ ap (λ (l : List ℕ). l ++ b ∷ []) is_first ∙ append_assoc done (a ∷ []) (b ∷ [])) ∙ append_assoc done (a ∷ b ∷ []) (c ∷ [])

three_more : (xs : List ℕ) (at : ℕ) → at + 3 ≤ length xs → drop at xs ≡ get_or xs at 0 ∷ get_or xs (at + 1) 0 ∷ get_or xs (at + 2) 0 ∷ drop (at + 3) xs
three_more xs at long =
    drop_more xs at 0 (omega arith)
    ∙ ap (λ (t : List ℕ). get_or xs at 0 ∷ t) (drop_more xs (at + 1) 0 (omega arith) ∙ ap (λ (t : List ℕ). get_or xs (at + 1) 0 ∷ t) (ap (λ n. drop n xs) (omega arith) ∙ drop_more xs (at + 2) 0 (omega arith) ∙ ap (λ n. get_or xs (at + 2) 0 ∷ drop n xs) (omega arith)))

-- an escape at the front of what is left: two digits of one byte behind the mark
test_left : (a b : Bool) → (a && b) ≡ true → a ≡ true
test_left true b h = refl
test_left false b h = h

test_right : (a b : Bool) → (a && b) ≡ true → b ≡ true
test_right true b h = h
test_right false b h = absurd cc

is_mark : (byte : ℕ) → (byte == 37) ≡ true → byte ≡ 37
is_mark byte h = grind (arith, nat_tests)

-- What an escape in front of a text is made of: the mark and two digits, which stand for one byte.
pub record IsEscape (text : List ℕ) (byte : ℕ) : Type 0 where
  pub mark : slice_index text 0 ≡ 37
  pub high : is_ascii_hexdigit (slice_index text 1) ≡ true
  pub low : is_ascii_hexdigit (slice_index text 2) ≡ true
  pub value : byte ≡ 16 * digit_value (slice_index text 1) + digit_value (slice_index text 2)

pub is_escape : (text : List ℕ) (byte : ℕ) → escape_in text ≡ Some byte → IsEscape text byte
is_escape text byte h = go (slice_index text 0 == 37) (is_ascii_hexdigit (slice_index text 1)) (is_ascii_hexdigit (slice_index text 2)) refl refl refl h
  where
    go : (a b c : Bool) → (slice_index text 0 == 37) ≡ a → is_ascii_hexdigit (slice_index text 1) ≡ b → is_ascii_hexdigit (slice_index text 2) ≡ c
        → (if a && b && c then Some (16 * digit_value (slice_index text 1) + digit_value (slice_index text 2)) else None) ≡ Some byte → IsEscape text byte
    go true true true a b c e = record { mark = is_mark (slice_index text 0) a; high = b; low = c; value = cc }
    go true true false a b c e = absurd cc
    go true false d a b c e = absurd cc
    go false d f a b c e = absurd cc

-- the place of the first that isn't plain, or else the length
pub unwrapped : (xs : List ℕ) (found : Option ℕ) (n : ℕ) → found ≡ cond (nat_lt (run xs) (length xs)) (Some (run xs)) None → n ≡ unwrap_or found (length xs) → run xs ≤ length xs → n ≡ run xs
unwrapped xs found n is value within = go (nat_lt (run xs) (length xs)) refl is
  where
    go : (b : Bool) → nat_lt (run xs) (length xs) ≡ b → found ≡ cond b (Some (run xs)) None → n ≡ run xs
    go true inside found_is = value ∙ ap (λ f. unwrap_or f (length xs)) found_is
    go false past found_is = value ∙ ap (λ f. unwrap_or f (length xs)) found_is ∙ (let at_end : length xs ≤ run xs = grind (arith, nat_tests) in omega (arith, at_end, within))

-- the front of what is left behind a place, by its places
at_front : (text : List ℕ) (at k : ℕ) → slice_index (drop at text) k ≡ get_or text (at + k) 0
at_front text at k = get_or-drop at text k 0

past_end : (text : List ℕ) (n : ℕ) → length text ≤ n → is_ascii_hexdigit (get_or text n 0) ≡ false
past_end text n past = rw (get_or_past text n 0 past) refl

-- an escape needs three bytes
pub escape_within : (text : List ℕ) (at byte : ℕ) → IsEscape (drop at text) byte → at + 3 ≤ length text
escape_within text at byte escape = go (nat_le (at + 3) (length text)) refl
  where
    low : is_ascii_hexdigit (get_or text (at + 2) 0) ≡ true
    low = ap is_ascii_hexdigit (sym (at_front text at 2)) ∙ escape.low

    go : (b : Bool) → nat_le (at + 3) (length text) ≡ b → at + 3 ≤ length text
    go true inside = grind (arith, nat_tests)
    go false past =
        let short : length text ≤ at + 2 = grind (arith, nat_tests) in
        absurd (let no : is_ascii_hexdigit (get_or text (at + 2) 0) ≡ false = past_end text (at + 2) short in let yes : is_ascii_hexdigit (get_or text (at + 2) 0) ≡ true = low in cc)

escape_front : (text : List ℕ) (at byte : ℕ) → IsEscape (drop at text) byte → drop at text ≡ 37 ∷ get_or text (at + 1) 0 ∷ get_or text (at + 2) 0 ∷ drop (at + 3) text
escape_front text at byte escape =
    let none : at + 0 ≡ at = omega arith in
    let mark : get_or text at 0 ≡ 37 = ap (λ n. get_or text n 0) (sym none) ∙ sym (at_front text at 0) ∙ escape.mark in
    three_more text at (escape_within text at byte escape) ∙ ap (λ b. b ∷ get_or text (at + 1) 0 ∷ get_or text (at + 2) 0 ∷ drop (at + 3) text) mark

pub escape_read : (text : List ℕ) (at byte : ℕ) → IsEscape (drop at text) byte → unescaped (drop at text) ≡ (byte ∷ []) ++ unescaped (drop (at + 3) text)
escape_read text at byte escape =
    let value : 16 * digit_value (get_or text (at + 1) 0) + digit_value (get_or text (at + 2) 0) ≡ byte =
    sym (escape.value ∙ ap (λ a. 16 * digit_value a + digit_value (slice_index (drop at text) 2)) (at_front text at 1) ∙ ap (λ b. 16 * digit_value (get_or text (at + 1) 0) + digit_value b) (at_front text at 2)) in
    ap unescaped (escape_front text at byte escape) ∙ ap (λ b. b ∷ unescaped (drop (at + 3) text)) value

pub escape_is_good : (text : List ℕ) (at byte : ℕ) → IsEscape (drop at text) byte → bad_from (at + 3) (drop (at + 3) text) ≡ bad_from at (drop at text)
escape_is_good text at byte escape =
    sym (ap (bad_from at) (escape_front text at byte escape)
    ∙ bad_step at (get_or text (at + 1) 0) (get_or text (at + 2) 0) (drop (at + 3) text)
    (ap is_ascii_hexdigit (sym (at_front text at 1)) ∙ escape.high) (ap is_ascii_hexdigit (sym (at_front text at 2)) ∙ escape.low))

other_graphic : (x : ℕ) → is_plain x ≡ false → (x == 37) ≡ false → is_ascii_graphic x ≡ false
other_graphic x other no_mark = go (is_ascii_graphic x) (x == 37) other no_mark
  where
    go : (g m : Bool) → (g && not m) ≡ false → m ≡ false → g ≡ false
    go true true a b = absurd cc
    go true false a b = absurd cc
    go false m a b = refl

some_is_there : {A : Type 0} (x : A) → Some x ≡ None → ⊥
some_is_there x h = absurd cc

bad_here : (at x : ℕ) (rest : List ℕ) → is_plain x ≡ false → escape_in (x ∷ rest) ≡ None → bad_from at (x ∷ rest) ≡ Some at
bad_here at x rest other none = go (x == 37) (is_ascii_hexdigit (slice_index rest 0)) (is_ascii_hexdigit (slice_index rest 1)) refl refl refl none
  where
    go : (a b c : Bool) → (x == 37) ≡ a → is_ascii_hexdigit (slice_index rest 0) ≡ b → is_ascii_hexdigit (slice_index rest 1) ≡ c
        → (if a && b && c then Some (16 * digit_value (slice_index rest 0) + digit_value (slice_index rest 1)) else None) ≡ None → bad_from at (x ∷ rest) ≡ Some at
    go true true true a b c e = absurd (some_is_there (16 * digit_value (slice_index rest 0) + digit_value (slice_index rest 1)) e)
    go true true false a b c e = rw (a, b, c) refl
    go true false d a b c e = rw (a, b) refl
    go false d f a b c e = rw (a, other_graphic x other a) refl

-- a place at which a run ends and no escape stands is bad
pub no_escape : (text : List ℕ) (at : ℕ) → at < length text → is_plain (get_or text at 0) ≡ false → escape_in (drop at text) ≡ None → bad_from at (drop at text) ≡ Some at
no_escape text at inside other none =
    let front : drop at text ≡ get_or text at 0 ∷ drop (at + 1) text = drop_more text at 0 inside in
    ap (bad_from at) front ∙ bad_here at (get_or text at 0) (drop (at + 1) text) other (ap escape_in (sym front) ∙ none)

-- nothing is left behind the end
pub all_written : (done xs : List ℕ) (at : ℕ) → length xs ≤ at → done ++ escaped (drop at xs) ≡ escaped xs → done ≡ escaped xs
all_written done xs at past is = sym (append-nil done) ∙ ap (λ (l : List ℕ). done ++ escaped l) (sym (drop_of_length-le xs past)) ∙ is

-- a plain byte goes on with the run behind it, which is looked for in what is left of the text
pub run_on : (xs : List ℕ) (at n k : ℕ) → at < length xs → k ≡ length xs - (at + 1) → is_plain (get_or xs at 0) ≡ true → n ≡ run (take k (drop (at + 1) xs)) → at + 1 + n ≡ at + run (drop at xs)
run_on xs at n k inside whole plain is =
    let rest : n ≡ run (drop (at + 1) xs) = is ∙ ap run (take_all k (drop (at + 1) xs) (omega (arith, whole, length-drop (at + 1) xs))) in
    let more : run (drop at xs) ≡ suc (run (drop (at + 1) xs)) = ap run (drop_more xs at 0 inside) ∙ run_more (get_or xs at 0) (drop (at + 1) xs) plain in
    omega (arith, rest, more)

pub front_is : (xs : List ℕ) (at k : ℕ) (found : Option ℕ) → at ≤ length xs → k ≡ length xs - at → found ≡ escape_in (take k (drop at xs)) → found ≡ escape_in (drop at xs)
front_is xs at k found within whole is = is ∙ ap escape_in (take_all k (drop at xs) (omega (arith, whole, length-drop at xs)))
