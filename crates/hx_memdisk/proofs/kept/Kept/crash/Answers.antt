use Rattle.std.proofs.Common.{rules, arith, ◌≡◌, ap, ◌∙◌, length, subst, sym, List, ℕ}
use Rattle.std.proofs.lemmas.List.{with_items_is}
use Rattle.hx_memdisk.specs.Replay.{mixed}
use Rattle.hx_memdisk.specs.Sound.{length-mixed}
use Rattle.hx_memdisk.specs.Touched.{SameOutside}
use Rattle.hx_memdisk.proofs.Touched.{apart_mixed}
use Rattle.hx_memdisk.proofs.kept.Kept.crash.Goals as goal

pub invariant_of-self-in_default : goal.invariant_of-self-in_default
invariant_of-self-in_default c =
    let old = c.args.self.now in
    let is : c.mix.new.reading ≡ mixed c.args.pick old.bytes.items old.stable.items = c.mix.ensures ∙ ap (λ (l : List ℕ). mixed c.args.pick l c.deref-in_default.result.now) c.deref_mut.ensures.value
    ∙ ap (λ (l : List ℕ). mixed c.args.pick old.bytes.items l) c.deref-in_default.ensures.value in
    let long : length c.mix.new.reading ≡ old.bytes.len = omega (arith, ap length is, length-mixed c.args.pick old.bytes.items old.stable.items, c.deref_mut.ensures.len, ap length c.deref_mut.ensures.value) in
    record {
      same = subst (λ (l : List ℕ). SameOutside old.from old.to l old.stable.items) (sym (with_items_is old.bytes c.mix.new.reading long ∙ is)) (apart_mixed c.args.pick old.from old.to old.bytes.items old.stable.items old.same);
      room_stable = omega (arith, ap length is, length-mixed c.args.pick old.bytes.items old.stable.items, old.room_stable);
      room_bytes = old.room_bytes;
    }
