use Rattle.std.proofs.Common.{◌≡◌, ◌+◌, ℕ, List, false, [], vec_len}
use Rattle.hx_events.specs.declared.life.Entry.{Entry}
use Rattle.hx_passes.specs.Rules.{Each, times, total, up_to, below}
use Rattle.hx_passes.specs.Closing.{IsSound}
use Rattle.hx_passes.proofs.Ends.{Told}
use Rattle.hx_passes.proofs.passes.Passes.close.Given as goal

abbrev pub invariant-loop-pass : goal.invariant-loop-pass
invariant-loop-pass g l = record {
  seat : (l.all.table_id ≡ g.J.Naming.table) × (l.all.me.1 ≡ []) × (l.all.me.0.right ≡ false);
  parts : l.all.me.0.parts + total (λ p. p.parts) l.others.items ≡ g.J.Naming.parts;
  once : (n : ℕ) → times n l.all.me.0.calls + total (λ p. times n p.calls) l.others.items ≡ times n l.fn.first.calls + total (λ p. times n p.calls) l.fn.others.items;
  at_most : (n : ℕ) → up_to n l.all.me.0.leaves + total (λ p. up_to n p.leaves) l.others.items ≡ up_to n l.fn.first.leaves + total (λ p. up_to n p.leaves) l.fn.others.items;
  before_it : (n : ℕ) → below n l.all.me.0.leaves + total (λ p. below n p.leaves) l.others.items ≡ below n l.fn.first.leaves + total (λ p. below n p.leaves) l.fn.others.items;
  sound : (h : List Entry) (ups downs : ℕ → ℕ) → Told h ups downs l.all.me.0 → Each (IsSound g.J.Naming.says h ups downs) l.others.items → IsSound g.J.Naming.says h ups downs l.fn.first × Each (IsSound g.J.Naming.says h ups downs) l.fn.others.items;
}

abbrev pub decreases-loop-pass : goal.decreases-loop-pass
decreases-loop-pass g l = vec_len l.others
