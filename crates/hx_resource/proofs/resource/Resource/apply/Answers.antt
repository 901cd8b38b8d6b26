use Rattle.hx_resource.proofs.Applying.{applied}
use Rattle.hx_resource.proofs.resource.Resource.apply.Goals as goal

pub returns : goal.returns
returns c =
    applied c.args.guarded c.args.place c.args.event.now c.args.outcome c.args.content.now c.args.self.now.kept c.taken-given.new.self.kept c.change_copy.new.self.kept c.change_saves.new.self.kept c.change_rest.new.self.kept c.taken-given.result
    c.taken-given.ensures.result c.taken-given.ensures.kept c.change_copy.ensures.kept c.change_saves.ensures.kept c.change_rest.ensures
