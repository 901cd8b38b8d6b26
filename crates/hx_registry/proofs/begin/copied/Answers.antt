-- One name more.
use Rattle.std.proofs.Common.{rules, ◌≡◌, ◌∷◌, ◌++◌, [], ℕ, List, sym, Some, None, ap, subst, ◌∙◌, slice_get, take, arith}
use Rattle.hx_events.specs.Places.{place_of}
use Rattle.hx_opening_laws.specs.Names.{new_text, text_more}
use Rattle.hx_registry.proofs.begin.copied.Goals as goal

pub add-requires-clause-new : goal.add-requires-clause-new
add-requires-clause-new c =
    let names = c.args.names.now in
    let at = subst (λ (k : ℕ). slice_get names k ≡ Some c.text.result.now) c.new.ensures c.text.ensures.text in
    let same : c.in_ok-text.text.items ≡ c.text.result.now = search rules in
    ap (place_of c.in_ok-text.text.items) c.loop-place.invariant
    ∙ ap (λ (r : List ℕ). place_of r (take c.loop-place.place names)) same
    ∙ new_text names c.loop-place.place c.text.result.now c.len-place-end.ensures.distinct (omega (arith, c.loop-place-test.true, c.len-place-end.ensures.count)) at

pub loop-place-preserved : goal.loop-place-preserved
loop-place-preserved c =
    let names = c.args.names.now in
    let at = subst (λ (k : ℕ). slice_get names k ≡ Some c.text.result.now) c.new.ensures c.text.ensures.text in
    let same : c.in_ok-text.text.items ≡ c.text.result.now = search rules in
    let added : c.add.new.self ≡ c.loop-place.copy ++ c.in_ok-text.text.items ∷ [] = search rules in
    added
    ∙ ap (λ (xs : List (List ℕ)). xs ++ c.in_ok-text.text.items ∷ []) c.loop-place.invariant
    ∙ ap (λ (r : List ℕ). take c.loop-place.place names ++ r ∷ []) same
    ∙ text_more names c.loop-place.place c.text.result.now at
