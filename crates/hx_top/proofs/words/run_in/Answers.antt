use Rattle.std.proofs.Common.{◌∙◌, ap, is_some, sym}
use Rattle.hx_top.specs.Words.{run_of, texts_of}
use Rattle.hx_top.proofs.Settings.{run_few, run_many}
use Rattle.hx_top.proofs.words.run_in.Goals as goal

pub returns-in-Some-clause-order : goal.returns-in-Some-clause-order
returns-in-Some-clause-order c = c.run_of.ensures.order ∙ ap run_of c.in-Some.ensures.command ∙ sym (run_few (texts_of c.args.words.now) (sym c.command_in.ensures.few ∙ ap is_some c.in-Some.is))

pub returns-in-None-clause-order : goal.returns-in-None-clause-order
returns-in-None-clause-order c = sym (run_many (texts_of c.args.words.now) (sym c.command_in.ensures.few ∙ ap is_some c.in-None.is))
