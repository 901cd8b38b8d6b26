use Rattle.std.proofs.Common.{◌≡◌, ◌≤◌, ◌++◌, ◌∷◌, [], List, length, ap, subst, sym, arith}
use Rattle.hx_events.specs.declared.life.Entry.{Entry}
use Rattle.hx_passes.specs.declared.rule.Known.{Known}
use Rattle.hx_passes.specs.Rules.{Each, times, total, up_to, below}
use Rattle.hx_passes.specs.Closing.{IsSound, IsClosed, TakesIn}
use Rattle.hx_passes.specs.Views.{known}
use Rattle.hx_passes.proofs.Lists.{each_append, each_none}
use Rattle.hx_passes.proofs.Totals.{total_push, total_none, times_append, up_to_append, below_append}
use Rattle.hx_passes.proofs.Ends.{told_both, sound, closed}
use Rattle.hx_passes.proofs.passes.Passes.close.Goals as goal

pub loop-pass-init : goal.loop-pass-init
loop-pass-init g c =
    let own = c.first.invariant in
    let e : known c.first.inside.actor c.first.inside.seat.me.0 ≡ c.args.first = c.first.view_is in
    record {
      seat = (own.0, own.1, own.2);
      parts = omega (arith, c.requires, ap (λ (p : Known). p.parts) e);
      once = λ n. omega (arith, ap (λ (p : Known). times n p.calls) e);
      at_most = λ n. omega (arith, ap (λ (p : Known). up_to n p.leaves) e);
      before_it = λ n. omega (arith, ap (λ (p : Known). below n p.leaves) e);
      sound = λ h ups downs told rest. (subst (IsSound g.J.Naming.says h ups downs) e (sound g.J.Naming.says h ups downs c.first.inside.actor c.first.inside.seat.me.0 own.3 told), rest);
    }

pub loop-pass-preserved : goal.loop-pass-preserved
loop-pass-preserved g c =
    let i = c.loop-pass.invariant in
    let v = c.loop-pass.all.me.0 in
    let w = c.pass.inside.seat.me.0 in
    let u = c.take_in.new.to.me.0 in
    let t : TakesIn v w u = c.take_in.ensures.takes in
    let pass : Known = c.in-Some.pass in
    let e : known c.pass.inside.actor w ≡ pass = c.pass.view_is in
    let left : List Known = c.pop.new.self.items in
    let items : c.loop-pass.others.items ≡ left ++ pass ∷ [] = c.in-Some.ensures.items in
    let calls : u.calls ≡ w.calls ++ v.calls = ap (λ u. u.calls) t.same in
    let leaves : u.leaves ≡ w.leaves ++ v.leaves = ap (λ u. u.leaves) t.same in
    record {
      seat = (c.take_in.ensures.table.0, c.take_in.ensures.table.1, ap (λ u. u.right) t.same);
      parts = omega (arith, i.parts, ap (λ u. u.parts) t.same, ap (λ (p : Known). p.parts) e, ap (total (λ (p : Known). p.parts)) items, total_push (λ (p : Known). p.parts) left pass);
      once = λ n. omega (arith, i.once n, ap (times n) calls, times_append n w.calls v.calls, ap (λ (p : Known). times n p.calls) e, ap (total (λ (p : Known). times n p.calls)) items, total_push (λ (p : Known). times n p.calls) left pass);
      at_most = λ n. omega (arith, i.at_most n, ap (up_to n) leaves, up_to_append n w.leaves v.leaves, ap (λ (p : Known). up_to n p.leaves) e, ap (total (λ (p : Known). up_to n p.leaves)) items, total_push (λ (p : Known). up_to n p.leaves) left pass);
      before_it = λ n. omega (arith, i.before_it n, ap (below n) leaves, below_append n w.leaves v.leaves, ap (λ (p : Known). below n p.leaves) e, ap (total (λ (p : Known). below n p.leaves)) items, total_push (λ (p : Known). below n p.leaves) left pass);
      sound = λ h ups downs told rest.
          let says = g.J.Naming.says in
          let b = told_both h ups downs v w u t told in
          let mine = subst (IsSound says h ups downs) e (sound says h ups downs c.pass.inside.actor w c.pass.invariant.3 b.1) in
          i.sound h ups downs b.0 (subst (Each (IsSound says h ups downs)) (sym items) (each_append (IsSound says h ups downs) left (pass ∷ []) rest (mine, tt)));
    }

pub returns : goal.returns
returns g c =
    let n = g.J.Naming in
    let i = c.loop-pass.invariant in
    let v = c.loop-pass.all.me.0 in
    let h = c.clerk.inside.seat.me.0.seen in
    let items : List Known = c.loop-pass.others.items in
    let passes : List Known = c.args.first ∷ c.args.others.items in
    let empty : length items ≤ 0 = omega (arith, c.in_default.ensures.cases.0, c.loop-pass.others.ok.0) in
    subst (λ (h : List Entry). IsClosed n.before n.windows n.says h passes) c.clerk.view_is
    (closed n.before n.windows n.says h v passes c.close.ensures
    (λ n. omega (arith, i.at_most n, total_none (λ (p : Known). up_to n p.leaves) items empty))
    (λ n. omega (arith, i.before_it n, total_none (λ (p : Known). below n p.leaves) items empty))
    (λ n. omega (arith, i.once n, total_none (λ (p : Known). times n p.calls) items empty))
    (λ told. i.sound h (λ n. up_to n v.leaves) (λ n. below n v.leaves) told (each_none (IsSound n.says h (λ n. up_to n v.leaves) (λ n. below n v.leaves)) items empty)))
