use Rattle.std.proofs.Common.{◌∙◌, ap, is_some, sym}
use Rattle.hx_top.specs.Words.{order_of, texts_of}
use Rattle.hx_top.proofs.Settings.{order_few, order_many}
use Rattle.hx_top.proofs.words.order_in.Goals as goal

pub returns-in-Some-clause-order : goal.returns-in-Some-clause-order
returns-in-Some-clause-order c = c.order_of.ensures.order ∙ ap order_of c.in-Some.ensures.command ∙ sym (order_few (texts_of c.args.words.now) (sym c.command_in.ensures.few ∙ ap is_some c.in-Some.is))

pub returns-in-None-clause-order : goal.returns-in-None-clause-order
returns-in-None-clause-order c = sym (order_many (texts_of c.args.words.now) (sym c.command_in.ensures.few ∙ ap is_some c.in-None.is))
