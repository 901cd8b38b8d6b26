-- One name more.
use Rattle.std.proofs.Common.{◌≡◌, ◌∷◌, ◌++◌, [], ℕ, sym, Some, ap, subst, ◌∙◌, slice_get, take}
use Rattle.hx_core.specs.Starting.{restored_more}
use Rattle.hx_opening_laws.specs.FirstPairs.{first_pair, first_pairs}
use Rattle.hx_registry.proofs.begin.first_pairs.Goals as goal

pub loop-place-preserved : goal.loop-place-preserved
loop-place-preserved c =
    let names = c.args.names.now in
    let found = c.args.found.now in
    let at = subst (λ (k : ℕ). slice_get names k ≡ Some c.text.result.now) c.new.ensures c.text.ensures.text in
    c.in_ok-push.ensures.items
    ∙ ap (λ xs. xs ++ c.pair_with.result ∷ []) c.loop-place.invariant
    ∙ ap (λ x. first_pairs (take c.loop-place.place names) found ++ x ∷ []) c.pair_with.ensures
    ∙ restored_more (λ name. first_pair name found) names c.loop-place.place c.text.result.now at
