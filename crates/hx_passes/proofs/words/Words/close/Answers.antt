use Rattle.std.proofs.Common.{List, sym, ◌∙◌, ap, subst, arith}
use Rattle.hx_events.specs.declared.life.Entry.{Entry}
use Rattle.hx_passes.specs.declared.rule.View.{View}
use Rattle.hx_passes.specs.Rules.{LooksAt}
use Rattle.hx_passes.specs.Closing.{Ends}
use Rattle.hx_passes.proofs.Ends.{closing}
use Rattle.hx_passes.proofs.words.Words.close.Goals as goal

pub free-requires : goal.free-requires
free-requires g c k less = absurd (omega (arith, less, c.close_with.ensures.counts.1, c.args.self.slots))

pub returns : goal.returns
returns g c =
    let s = c.close_with.ensures.values.2 in
    let r = c.requires in
    let e = r.empty in
    let looks = subst (λ (u : View). LooksAt u c.look.result c.look.new.seat.me.0) (ap (λ m. m.0) c.join.ensures.me) c.look.ensures.looks in
    subst (λ (b : List Entry). Ends b c.args.clerk.me.0.seen c.args.seat.me.0) c.args.self.before
    (closing _ _ s.0.words s.0.views _ c.args.seat.me.0 c.args.clerk.me.0 c.look.new.seat.me.0 c.look.result s.1.0 s.1.1 (r.seat.2 ∙ sym c.args.self.parts) r.right e.0 e.1 e.2 e.3 looks)
