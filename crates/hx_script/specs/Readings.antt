-- What is read: a value, or the first reason why there is none.
use Rattle.std.specs.Prelude.{◌≡◌, ℕ, Bool, true, false, Result, Ok, Err}
use Rattle.hx_script.specs.declared.why.Why.{Why}
use Rattle.hx_script.specs.declared.why.Why.TheVariants.{Form, Place, TooMany}
use Rattle.hx_script.specs.declared.why.ScriptError.{ScriptError}
use Rattle.hx_script.specs.declared.why.ScriptError.TheVariants.{Bad as BadAt, NoMemory as NoRoom}
use Rattle.hx_script.specs.declared.why.LineError.{LineError}
use Rattle.hx_script.specs.declared.why.LineError.TheVariants.{Bad, NoMemory}

-- What bytes read as: a value, or the first bad line with its first reason.
pub data Reading (A : Type 0) : Type 0 where
  Reads : (value : A) → Reading A
  Refused : (line : ℕ) → (why : Why) → Reading A

-- a field and then what stands behind it: the first bad field decides
abbrev pub and_then : {A B : Type 0} → Result A Why → (A → Result B Why) → Result B Why
and_then (Ok value) next = next value
and_then (Err why) next = Err why

-- Two parts of a line: that one of them has no form comes first, then the first bad field.
abbrev pub both : {A B : Type 0} → Result A Why → Result B Why → Result (A × B) Why
both (Err Form) second = Err Form
both (Err why) (Err Form) = Err Form
both (Err why) second = Err why
both (Ok left) (Err why) = Err why
both (Ok left) (Ok right) = Ok (left, right)

-- The reasons of a line in their order: a line with no form; then one that isn't allowed at its place; then one too many; then
-- the first bad field.
abbrev pub ranked : {A : Type 0} → Result A Why → Bool → Bool → Result A Why
ranked (Err Form) is_misplaced is_too_many = Err Form
ranked line true is_too_many = Err Place
ranked line false true = Err TooMany
ranked line false false = line

-- What the code answers where this is read: the same value or the same reason, or want of memory in place of either.
abbrev pub Answers : {A : Type 0} → Result A LineError → Result A Why → Type 0
Answers (Ok value) line = line ≡ Ok value
Answers (Err (Bad why)) line = line ≡ Err why
Answers (Err NoMemory) line = Unit {0}

-- The same of a reader that goes from one state to the next.
abbrev pub Takes : {S : Type 0} → Result Unit LineError → S → Result S Why → Type 0
Takes (Ok done) new line = line ≡ Ok new
Takes (Err (Bad why)) new line = line ≡ Err why
Takes (Err NoMemory) new line = Unit {0}

-- the error of a line, at its number
abbrev pub error_at : ℕ → LineError → ScriptError
error_at line (Bad why) = BadAt line why
error_at line NoMemory = NoRoom
