use Rattle.std.proofs.Common.{◌≡◌, ◌∷◌, [], ℕ, List, Some, slice_get, length, ap, sym, ◌∙◌, subst, arith, ⊎_elim, length-append}
use Rattle.hx_events.specs.Texts.{name_of}
use Rattle.hx_rules.specs.Legal.{found_backup}
use Rattle.hx_report.proofs.Walking.{push_get, name_is}
use Rattle.hx_check.specs.declared.sketch.Sketch.{Sketch}
use Rattle.hx_check.specs.Sketches.{first_sketch}
use Rattle.hx_check.proofs.lives.first_sketches.Goals as goal

pub loop-place-preserved : goal.loop-place-preserved
loop-place-preserved c =
    let xs = c.loop-place.sketches.items in
    let y = c.in_ok-first.field-0 in
    let inv = c.loop-place.invariant in
    let pushed = c.in_ok-push.ensures.items in
    let at : slice_get c.args.names.now c.loop-place.place ≡ Some c.text-name.result.now = subst (λ (k : ℕ). slice_get c.args.names.now k ≡ Some c.text-name.result.now) c.new.ensures c.text-name.ensures.text in
    let name = name_is c.args.names.now c.loop-place.place c.text-name.result.now at in
    record {
      count = ap length pushed ∙ omega (arith, length-append xs (y ∷ []), inv.count);
      each = λ k x h.
          ⊎_elim (λ old. inv.each k x old)
          (λ new. new.1 ∙ (c.in_ok-first.ensures
          ∙ (ap first_sketch c.found_backup.ensures
          ∙ (ap (λ (n : List ℕ). first_sketch (found_backup n c.args.base.now)) (sym name)
          ∙ ap (λ (i : ℕ). first_sketch (found_backup (name_of c.args.names.now i) c.args.base.now)) (sym (new.0 ∙ inv.count))))))
          (push_get xs y k x (subst (λ (zs : List Sketch). slice_get zs k ≡ Some x) pushed h));
    }
