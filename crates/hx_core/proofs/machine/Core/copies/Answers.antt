use Rattle.std.proofs.Common.{◌≡◌, ◌<◌, ◌-◌, ◌+◌, ◌++◌, ◌∷◌, ℕ, true, false, length, subst, sym, ap, ◌∙◌, arith}
use Rattle.hx_rules.specs.Entries.{past}
use Rattle.hx_core.specs.Registered.{copies_from, fact_at, registered_at}
use Rattle.hx_core.specs.Reading.{copies_more, copies_same, copies_push}
use Rattle.hx_core.proofs.machine.Core.copies.Goals as goal
use Rattle.hx_core.proofs.machine.Core.copies.Goals.{then-is_registered+in_ok-push, else-is_registered}

pub loop-i-preserved : goal.loop-i-preserved
loop-i-preserved c =
    let s = c.args.self.now in
    let o = s.opening in
    let es = past s.history in
    let i = c.loop-i.i in
    let n = length s.resources in
    let less : c.loop-i.i < length s.resources = omega (arith, c.loop-i-test.true, c.len-i-end.ensures, ap (λ s. length s.resources) c.self.view_is, c.self.inside.resources.ok.0) in
    elim c.if-is_registered.branch [
      | then-is_registered+in_ok-push w ↦
          let is : registered_at s.opening (past s.history) c.loop-i.i ≡ true = subst (λ (k : ℕ). registered_at s.opening (past s.history) k ≡ true) c.new-res.ensures (sym c.is_registered.ensures ∙ w.if-is_registered.true) in
          let more : copies_from s.opening (past s.history) c.loop-i.i (length s.resources - c.loop-i.i) ≡ w.fact.result ∷ copies_from s.opening (past s.history) (c.loop-i.i + 1) (length s.resources - (c.loop-i.i + 1)) =
          copies_more o es i n less is ∙ ap (λ f. f ∷ copies_from o es (i + 1) (n - (i + 1))) (sym (w.fact.ensures ∙ ap (fact_at o es) c.new-res.ensures)) in
          copies_push c.loop-i.copies.items c.if-is_registered.copies.items w.fact.result _ _ _ c.loop-i.invariant more (ap (λ v. v.items) w.copies-is ∙ w.in_ok-push.ensures.items)
      | else-is_registered w ↦
          let is : registered_at s.opening (past s.history) c.loop-i.i ≡ false = subst (λ (k : ℕ). registered_at s.opening (past s.history) k ≡ false) c.new-res.ensures (sym c.is_registered.ensures ∙ w.if-is_registered.false) in
          c.loop-i.invariant ∙ (ap (λ xs. c.loop-i.copies.items ++ xs) (copies_same o es i n less is) ∙ ap (λ v. v.items ++ copies_from o es (i + 1) (n - (i + 1))) (sym w.copies-is))
    ]
