-- Texts in which bytes are escaped. The form is this project's own, after the percent encoding of URIs, with a plain
-- set of its own.
use Rattle.std.specs.Prelude.{ℕ, zero, suc, ◌+◌, ◌*◌, ◌/◌, ◌%◌, Bool, true, ◌==◌, ◌&&◌, not, if◌then◌else◌, List, [], ◌∷◌, slice_index, Option, Some, None}
use Rattle.std.specs.Char.{is_ascii_graphic, is_ascii_hexdigit, digit_value}
use Rattle.std.specs.Fmt.{digit_glyph}
use Rattle.std.specs.List.{flat_map}

-- A byte that stands for itself: a printable one other than the blank and `%`, which has the code 37.
abbrev pub is_plain : ℕ → Bool
is_plain byte = is_ascii_graphic byte && not (byte == 37)

-- a byte as it is written: itself, or `%` and two upper case hexadecimal digits
abbrev pub escape_of : ℕ → List ℕ
escape_of byte = if is_plain byte then byte ∷ [] else 37 ∷ digit_glyph true (byte / 16) ∷ digit_glyph true (byte % 16) ∷ []

-- the text of these bytes
abbrev pub escaped : List ℕ → List ℕ
escaped = flat_map escape_of

-- the byte that an escape at the front of a text stands for, if one is there
abbrev pub escape_in : List ℕ → Option ℕ
escape_in text =
    if slice_index text 0 == 37 && is_ascii_hexdigit (slice_index text 1) && is_ascii_hexdigit (slice_index text 2)
    then Some (16 * digit_value (slice_index text 1) + digit_value (slice_index text 2))
    else None

-- Whether no text has this byte in front of these: a `%` without two hexadecimal digits of either case behind it, or
-- a byte that is not printable.
abbrev pub is_bad : ℕ → List ℕ → Bool
is_bad byte rest =
    if byte == 37
    then not (is_ascii_hexdigit (slice_index rest 0) && is_ascii_hexdigit (slice_index rest 1))
    else not (is_ascii_graphic byte)

-- the first such place, counted from this one
abbrev pub bad_from : ℕ → List ℕ → Option ℕ
bad_from at [] = None
bad_from at (byte ∷ rest) = if is_bad byte rest then Some at else bad_from (at + 1) rest

-- the first place in a text at which no text goes on
abbrev pub bad_place : List ℕ → Option ℕ
bad_place = bad_from 0

-- what the text stands for behind so many bytes, which belong to the escape before them
abbrev pub unescaped_after : ℕ → List ℕ → List ℕ
unescaped_after skip [] = []
unescaped_after zero (byte ∷ rest) =
    if byte == 37
    then (16 * digit_value (slice_index rest 0) + digit_value (slice_index rest 1)) ∷ unescaped_after 2 rest
    else byte ∷ unescaped_after 0 rest
unescaped_after (suc skip) (byte ∷ rest) = unescaped_after skip rest

-- the bytes that a text without a bad place stands for
abbrev pub unescaped : List ℕ → List ℕ
unescaped = unescaped_after 0
