use Rattle.std.proofs.Common.{◌≡◌, sym, subst}
use Rattle.hx_events.specs.declared.event.Event.{Event}
use Rattle.hx_resource.specs.Asks.{asks_kept}
use Rattle.hx_resource.proofs.resource.Resource.ask.Goals as goal

pub returns-in-Act : goal.returns-in-Act
returns-in-Act c = subst (λ (v : Event). c.ask_command.result ≡ asks_kept c.args.guarded c.args.lacks c.args.self.now.kept v) (sym c.in-Act.is) (c.ask_command.ensures c.args.guarded)
