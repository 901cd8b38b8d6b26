-- How bytes are lines, and lines are fields.
use Rattle.std.specs.Prelude.{ℕ, ◌+◌, ◌==◌, nat_lt, Bool, List, [], ◌∷◌, map, length, bytes_eq, if◌then◌else◌, Option, Some, None, Result, Ok, Err}
use Rattle.std.specs.List.{slice_split, position_or_len, before_first, after_first}
use Rattle.std.specs.Borrow.{Bor}
use Rattle.hx_script.specs.declared.why.Why.{Why}
use Rattle.hx_script.specs.declared.why.Why.TheVariants.{NoEnd, Header}
use Rattle.hx_script.specs.Readings.{Reading, Reads, Refused}

-- the byte is this one
abbrev pub is_byte : ℕ → ℕ → Bool
is_byte wanted byte = byte == wanted

-- the bytes before and behind the first of this value, if there is one
abbrev pub cut_at : ℕ → List ℕ → Option (List ℕ × List ℕ)
cut_at wanted bytes =
    if nat_lt (position_or_len (is_byte wanted) bytes) (length bytes) then Some (before_first (is_byte wanted) bytes, after_first (is_byte wanted) bytes) else None

-- what the fields of a line are, the code's being pieces of it
abbrev pub texts : List (Bor (List ℕ)) → List (List ℕ)
texts fields = map (λ field. field.now) fields

-- the parts of bytes round their line feeds: each part but the last is a line
abbrev pub parts_of : List ℕ → List (List ℕ)
parts_of bytes = slice_split (is_byte 10) bytes

-- the first field of a line, which says of which kind it is, and those behind it
abbrev pub first_field : List (List ℕ) → List ℕ
first_field [] = []
first_field (field ∷ fields) = field

abbrev pub other_fields : List (List ℕ) → List (List ℕ)
other_fields [] = []
other_fields (field ∷ fields) = fields

module _ {S A : Type 0} (line_in : ℕ → S → List ℕ → Result S Why) (end_at : ℕ → S → Reading A) where
  -- What the parts from the line with this number on read as, where the lines before them brought about this state. A last
  -- part that isn't empty is a line that has no end.
  abbrev pub lines_from : ℕ → S → List ℕ → List (List ℕ) → Reading A
  lines_from number state [] [] = end_at number state
  lines_from number state (byte ∷ bytes) [] = Refused number NoEnd
  lines_from number state line (next ∷ parts) = elim (line_in number state line) [ Ok after ↦ lines_from (number + 1) after next parts | Err why ↦ Refused number why ]

  abbrev pub lines_over : ℕ → S → List (List ℕ) → Reading A
  lines_over number state [] = end_at number state
  lines_over number state (part ∷ parts) = lines_from number state part parts

  -- what the lines behind the header read as, of which the first is the second of all
  abbrev pub lines_behind : S → Reading (List ℕ) → Reading A
  lines_behind start (Reads bytes) = lines_over 2 start (parts_of bytes)
  lines_behind start (Refused line why) = Refused line why

abbrev pub header_in : List ℕ → List ℕ → Option (List ℕ × List ℕ) → Reading (List ℕ)
header_in header [] None = Refused 1 Header
header_in header (byte ∷ bytes) None = Refused 1 NoEnd
header_in header bytes (Some parts) = if bytes_eq parts.0 header then Reads parts.1 else Refused 1 Header

-- the bytes behind a first line that is the header
abbrev pub behind_header : List ℕ → List ℕ → Reading (List ℕ)
behind_header header bytes = header_in header bytes (cut_at 10 bytes)
