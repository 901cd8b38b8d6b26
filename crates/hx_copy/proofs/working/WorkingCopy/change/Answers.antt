use Rattle.std.proofs.Common.{◌∙◌, ℕ, ◌+◌, ◌≤◌, List, ◌∷◌, length, ap, sym, subst, slice_range, arith}
use Rattle.hx_copy.specs.Steps.{Step, step, IsChain}
use Rattle.hx_copy.specs.Copies.{CopyState, copy_of, place_of, walked, edited_copy}
use Rattle.hx_copy.proofs.Trails.{edited_chain, edited_places}
use Rattle.hx_copy.proofs.working.WorkingCopy.change.Goals as goal

pub invariant_of-self : goal.invariant_of-self
invariant_of-self c =
    let inside = c.self.inside in
    let content = inside.content.items in
    let fits : c.args.off + c.args.del ≤ length content = omega (arith, c.requires.fits, ap (λ (s : CopyState). length s.copy.here.content) c.self.view_is) in
    let steps = c.push.ensures.steps ∙ ap (λ b. step inside.id c.args.off c.args.text.now (slice_range b c.args.off (c.args.off + c.args.del)) ∷ inside.back.steps) c.as_slice.ensures.value in (
      subst (λ (ss : List Step). IsChain c.replace.new.content.items ss) (sym steps)
          (subst (λ (b : List ℕ). IsChain b (step inside.id c.args.off c.args.text.now (slice_range content c.args.off (c.args.off + c.args.del)) ∷ inside.back.steps)) (sym c.replace.ensures.items)
          (edited_chain inside.id c.args.off c.args.del c.args.text.now content inside.back.steps fits c.self.invariant.0)),
      subst (λ (ss : List Step). IsChain c.replace.new.content.items ss) (sym c.clear.ensures) tt,
    )

pub returns-clause-copy : goal.returns-clause-copy
returns-clause-copy c =
    let inside = c.self.inside in
    let content = inside.content.items in
    let fits : c.args.off + c.args.del ≤ length content = omega (arith, c.requires.fits, ap (λ (s : CopyState). length s.copy.here.content) c.self.view_is) in
    let steps = c.push.ensures.steps ∙ ap (λ b. step inside.id c.args.off c.args.text.now (slice_range b c.args.off (c.args.off + c.args.del)) ∷ inside.back.steps) c.as_slice.ensures.value in
    let back = (λ j. walked (c.replace.ensures.items j) (steps j)) ∙ edited_places inside.id c.args.off c.args.del c.args.text.now content inside.back.steps fits in
    let ahead = ap (walked c.replace.new.content.items) c.clear.ensures in
    (λ j. copy_of (inside.version + 1) (place_of (inside.version + 1) (c.replace.ensures.items j)) (back j) (ahead j) inside.mark inside.base)
    ∙ ap (λ (s : CopyState). edited_copy c.args.off c.args.del c.args.text.now s.copy) c.self.view_is
