use Rattle.std.proofs.Common.{◌≡◌, sym, subst}
use Rattle.hx_events.specs.declared.event.Event.{Event}
use Rattle.hx_resource.specs.Rooms.{copied_by}
use Rattle.hx_resource.proofs.resource.Resource.copied_size.Goals as goal

pub returns-in-Act : goal.returns-in-Act
returns-in-Act c = subst (λ (v : Event). c.copied_by_command.result ≡ copied_by c.args.guarded v c.args.read c.args.self.now.kept) (sym c.in-Act.is) (c.copied_by_command.ensures c.args.guarded)
