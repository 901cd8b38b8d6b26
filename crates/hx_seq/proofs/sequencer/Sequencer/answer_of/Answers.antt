use Rattle.std.proofs.Common.{◌∙◌, ap, sym}
use Rattle.std.specs.Prelude.{option_map}
use Rattle.hx_rules.specs.Saves.{answer_in}
use Rattle.hx_seq.specs.Keeps.{SeqState, shares, stand_in}
use Rattle.hx_seq.proofs.Tickets.{stand_in_shares}
use Rattle.hx_seq.proofs.sequencer.Sequencer.answer_of.Goals as goal

answered : goal.returns-clause-stands
answered c =
    let answers = c.self.inside.answers.items in
    c.answer_at.ensures
    ∙ (ap (λ all. answer_in (option_map (shares all) c.copied.result)) c.as_slice.ensures.value
    ∙ (ap (λ save. answer_in (option_map (shares answers) save)) (c.copied.ensures ∙ c.get.ensures.value)
    ∙ (ap answer_in (sym (stand_in_shares c.args.ticket answers c.self.inside.tickets.entries))
    ∙ ap (λ (s : SeqState). answer_in (stand_in c.args.ticket s.seq.tickets)) c.self.view_is)))

pub returns-clause-stands : goal.returns-clause-stands
returns-clause-stands c = answered c

pub returns-clause-keeps : goal.returns-clause-keeps
returns-clause-keeps c = λ steps keeps. answered c ∙ ap answer_in (keeps.tickets c.args.ticket)
