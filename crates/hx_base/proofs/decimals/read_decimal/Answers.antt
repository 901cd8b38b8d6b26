use Rattle.std.proofs.Common.{◌≡◌, ◌<◌, ◌^◌, rules, sym, ◌∙◌, ap}
use Rattle.std.specs.Prelude.{decimal}
use Rattle.std.proofs.lemmas.Bool.Decides.{Decides-eqb, not_from_Decides}
use Rattle.std.proofs.lemmas.Slice.Eq.{slice_eq-Decides}
use Rattle.hx_base.proofs.DecimalSteps.{value_of_decimal, no_value}
use Rattle.hx_base.proofs.decimals.read_decimal.Goals as goal

pub returns-then-eq-clause-value : goal.returns-then-eq-clause-value
returns-then-eq-clause-value c =
    let small : c.in_ok-number.number < 2 ^ 64 = search rules in
    let is_text : decimal c.in_ok-number.number ≡ c.args.text.now = search rules in
    sym (value_of_decimal c.in_ok-number.number c.args.text.now small is_text)

pub returns-else-eq-clause-value : goal.returns-else-eq-clause-value
returns-else-eq-clause-value c =
    sym (no_value c.args.text.now (λ n small is_text.
    let found : c.in_ok-number.number ≡ n = cc (c.in_ok-number.was, c.parsed.ensures n small (sym is_text)) in
    let printed : c.as_bytes.result.now ≡ c.args.text.now = c.as_bytes.ensures.value ∙ c.format.ensures.text ∙ ap decimal found ∙ is_text in
    not_from_Decides c.eq.result (slice_eq-Decides Decides-eqb _ _ _ c.eq.ensures) c.if-eq.false printed))
