use Rattle.std.proofs.Common.{◌≡◌, ◌++◌, ◌∷◌, [], ℕ, Some, slice_get, ◌∙◌, subst, codes, rules}
use Rattle.hx_report.proofs.Walking.{names_next}
use Rattle.hx_report.proofs.trace.put_names.Goals as goal

pub loop-place-preserved : goal.loop-place-preserved
loop-place-preserved c =
    let at : slice_get c.args.names.now c.loop-place.place ≡ Some c.text.result.now = subst (λ (k : ℕ). slice_get c.args.names.now k ≡ Some c.text.result.now) c.new.ensures c.text.ensures.text in
    let put : c.push.new.self.items ≡ ((c.loop-place.out.items ++ codes "name ") ++ c.text.result.now) ++ 10 ∷ [] = search rules in
    names_next c.args.names.now c.loop-place.place c.text.result.now c.loop-place.out.items c.push.new.self.items at put ∙ c.loop-place.invariant
