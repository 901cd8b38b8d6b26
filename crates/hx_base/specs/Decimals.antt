-- Decimal texts of numbers that fit 64 bits. The form is this project's own.
use Rattle.std.specs.Prelude.{ℕ, ◌^◌, nat_lt, ◌&&◌, if◌then◌else◌, List, Option, Some, None, decimal}
use Rattle.std.specs.Str.{bytes_eq}
use Rattle.std.specs.Str.Parse.{digits_value}

-- The number below 2 ^ 64 of which the text is the decimal text, if there is one.
unfoldable pub decimal_value : List ℕ → Option ℕ
decimal_value text =
    let number = digits_value 10 text in
    if nat_lt number (2 ^ 64) && bytes_eq (decimal number) text then Some number else None
