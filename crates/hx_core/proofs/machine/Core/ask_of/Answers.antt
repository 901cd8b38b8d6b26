use Rattle.std.proofs.Common.{◌≡◌, Bool, ap, subst, ◌∙◌}
use Rattle.hx_rules.specs.Entries.{past}
use Rattle.hx_resource.specs.Asks.{asks_kept}
use Rattle.hx_core.specs.Cores.{CoreState}
use Rattle.hx_core.specs.Stepping.{asks_here, last_counts}
use Rattle.hx_core.proofs.machine.Core.ask_of.Goals as goal

pub ask-requires-clause-last : goal.ask-requires-clause-last
ask-requires-clause-last c =
    let s = c.args.self.now in
    let counts = last_counts s.opening s.history c.args.res c.resource-resource.result.now.kept c.resource-resource.ensures c.next_place.ensures.few in
    counts.last

pub returns : goal.returns
returns c =
    let s = c.args.self.now in
    subst (λ (g : Bool). c.ask.result ≡ asks_kept g c.lacks_for-lacks.result c.resource-resource.result.now.kept c.args.event.now) (ap (λ (x : CoreState). x.opening.guarded) c.self.view_is) c.ask.ensures
    ∙ asks_here s.opening (past s.history) c.args.event.now c.args.res c.resource-resource.result.now.kept c.lacks_for-lacks.result c.requires.named c.lacks_for-lacks.ensures c.resource-resource.ensures
