-- What single fields read as.
use Rattle.std.specs.Prelude.{ℕ, ◌==◌, nat_le, List, [], ◌∷◌, if◌then◌else◌, Option, Some, None, Result, Ok, Err}
use Rattle.hx_base.specs.Decimals.{decimal_value}
use Rattle.hx_base.specs.Escapes.{bad_place, unescaped}
use Rattle.hx_events.specs.Places.{place_of}
use Rattle.hx_script.specs.declared.why.Why.{Why}
use Rattle.hx_script.specs.declared.why.Why.TheVariants.{Number, Escape, Resource}

abbrev pub or_refused : {A : Type 0} → Why → Option A → Result A Why
or_refused why (Some value) = Ok value
or_refused why None = Err why

-- a decimal number of 64 bits
abbrev pub number_in : List ℕ → Result ℕ Why
number_in field = or_refused Number (decimal_value field)

-- a number that is at most this
abbrev pub at_most : ℕ → Result ℕ Why → Result ℕ Why
at_most limit (Ok number) = if nat_le number limit then Ok number else Err Number
at_most limit (Err why) = Err why

-- the number of a resource that is among the names
abbrev pub resource_in : List (List ℕ) → List ℕ → Result ℕ Why
resource_in names field = or_refused Resource (place_of field names)

abbrev pub unescaped_in : Option ℕ → List ℕ → Result (List ℕ) Why
unescaped_in None text = Ok (unescaped text)
unescaped_in (Some place) text = Err Escape

-- `=` and an escaped text
abbrev pub text_in : List ℕ → Result (List ℕ) Why
text_in [] = Err Escape
text_in (mark ∷ text) = if mark == 61 then unescaped_in (bad_place text) text else Err Escape
