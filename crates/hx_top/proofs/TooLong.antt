-- What is longer than it may be is refused as a whole.
use Rattle.std.specs.Prelude.{◌≡◌, ◌<◌, ℕ, nat_lt, true, List, length}
use Rattle.std.proofs.Common.{◌∙◌, arith}
use Rattle.std.proofs.lemmas.Bool.Decides.{nat_tests}
use Rattle.hx_script.specs.declared.script.Form.{Form}
use Rattle.hx_script.specs.declared.why.Why.{Why}
use Rattle.hx_script.specs.declared.why.Why.TheVariants.{TooLong}
use Rattle.hx_script.specs.Readings.{Reading, Refused}
use Rattle.hx_script.specs.Scripts.{script_in}
use Rattle.hx_script.specs.Traces.{trace_in}
use Rattle.hx_history_script.specs.Scripts.{history_script_in}
use Rattle.hx_top.specs.declared.whole.End.TheVariants.{BadScript}

over : (limit n : ℕ) → limit < n → nat_lt limit n ≡ true
over limit n more = grind (arith, nat_tests)

script_over : (form : Form) (bytes : List ℕ) → nat_lt 4194304 (length bytes) ≡ true → script_in form bytes ≡ Refused 0 TooLong
unfolding script_in
script_over form bytes is = rw is

trace_over : (bytes : List ℕ) → nat_lt 67108864 (length bytes) ≡ true → trace_in bytes ≡ Refused 0 TooLong
unfolding trace_in
trace_over bytes is = rw is

history_over : (bytes : List ℕ) → nat_lt 4194304 (length bytes) ≡ true → history_script_in bytes ≡ Refused 0 TooLong
unfolding history_script_in
history_over bytes is = rw is

pub script_too_long : (form : Form) (bytes : List ℕ) → 4194304 < length bytes → script_in form bytes ≡ Refused 0 TooLong
script_too_long form bytes more = script_over form bytes (over 4194304 (length bytes) more)

pub trace_too_long : (bytes : List ℕ) → 67108864 < length bytes → trace_in bytes ≡ Refused 0 TooLong
trace_too_long bytes more = trace_over bytes (over 67108864 (length bytes) more)

pub history_too_long : (bytes : List ℕ) → 4194304 < length bytes → history_script_in bytes ≡ Refused 0 TooLong
history_too_long bytes more = history_over bytes (over 4194304 (length bytes) more)

-- the end that was answered is the one for a source that is too long
pub same_refusal : {A : Type 0} {r : Reading A} → r ≡ Refused 0 TooLong → (line : ℕ) (why : Why) → BadScript 0 TooLong ≡ BadScript line why → r ≡ Refused line why
same_refusal refused line why is = refused ∙ (λ i. Refused (line_of i) (why_of i))
  where
    line_of : 0 ≡ line
    line_of = cc

    why_of : TooLong ≡ why
    why_of = cc
