-- The etag of a file, as VS Code writes it: the time of its last change in base 29, and right behind it the size in
-- base 31.
use Rattle.std.specs.Prelude.{ℕ, ◌==◌, ◌≤◌, if◌then◌else◌, List, [], ◌∷◌, ◌++◌, map}
use Rattle.std.specs.Char.{digit_char}
use Rattle.std.specs.Int.Digits.{digits_of}
use Rattle.hx_etag.specs.declared.stat.Stat.{Stat}

-- the digits `0-9a-z` of a number, the highest first, and one `0` for zero
unfoldable pub numeral : ℕ → ℕ → List ℕ
numeral base number = map digit_char (if number == 0 then 0 ∷ [] else digits_of base number)

-- an ASCII byte that is printed, other than the blank
abbrev pub IsPrintable : ℕ → Type 0
IsPrintable byte = (33 ≤ byte) × (byte ≤ 126)

-- the etag of a file
abbrev pub etag_of : Stat → List ℕ
etag_of stat = numeral 29 stat.mtime ++ numeral 31 stat.size
