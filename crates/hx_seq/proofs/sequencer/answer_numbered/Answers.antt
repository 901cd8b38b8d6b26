use Rattle.std.proofs.Common.{◌∙◌}
use Rattle.hx_seq.proofs.Tickets.{answer_lent}
use Rattle.hx_seq.proofs.sequencer.answer_numbered.Goals as goal

pub returns : goal.returns
returns c = c.copied.ensures ∙ answer_lent c.args.answers.now c.args.number c.get.result c.get.ensures.lookup
