use Rattle.std.proofs.Common.{◌<◌, ◌++◌, ℕ, length, refl, arith, ◌∙◌, ap}
use Rattle.std.proofs.lemmas.Option.{slice_get_read}
use Rattle.hx_report.specs.Copies.{fact_of_outline}
use Rattle.hx_report.proofs.Copying.{facts_next}
use Rattle.hx_report.proofs.copy_facts.facts_of.Goals as goal

pub loop-place-preserved : goal.loop-place-preserved
loop-place-preserved c =
    let xs = c.args.outlines.now in
    let i = c.loop-place.place in
    let x = c.index-outlines-place.result in
    let within : i < length xs = omega (arith, c.loop-place-test.true, c.len-place-end.ensures, c.requires) in
    facts_next xs i x c.loop-place.facts.items c.put_fact.new.facts.items
    (slice_get_read xs _ i x refl within c.index-outlines-place.is) c.loop-place.invariant
    (c.in_ok-put_fact.ensures ∙ ap (λ (n : ℕ). c.loop-place.facts.items ++ fact_of_outline n x) c.new.ensures)
