use Rattle.std.proofs.Common.{ap, subst}
use Rattle.hx_passes.specs.declared.rule.View.{View}
use Rattle.hx_passes.specs.Rules.{LooksAt}
use Rattle.hx_passes.proofs.Ends.{takes}
use Rattle.hx_passes.proofs.words.Words.take_in.Goals as goal

pub returns-clause-takes : goal.returns-clause-takes
returns-clause-takes g c =
    let looks = subst (λ (u : View). LooksAt u c.look.result c.look.new.seat.me.0) (ap (λ m. m.0) c.join.ensures.me) c.look.ensures.looks in
    takes _ _ _ c.look.result c.requires.from.2 c.requires.to.2 looks
