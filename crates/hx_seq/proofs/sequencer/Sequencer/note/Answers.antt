use Rattle.std.proofs.Common.{◌∙◌, ◌+◌, ap, arith, nat_eq, length}
use Rattle.indexmap.specs.IndexMap.{insert_entry}
use Rattle.hx_seq.specs.Keeps.{SeqState, asked_seq, stand_in, may_come, tickets_of, are_known, open_saves, save_asked}
use Rattle.hx_seq.specs.Keeping.{keeps_with_asked}
use Rattle.hx_seq.proofs.Tickets.{Opens, opened, known_asked, tickets_asked}
use Rattle.hx_seq.proofs.sequencer.Sequencer.note.Goals as goal

pub invariant_of-self : goal.invariant_of-self
invariant_of-self c =
    let inside = c.self.inside in
    let view = c.self.view_is in
    let fresh = ap (λ (s : SeqState). stand_in c.args.ticket s.seq.tickets) view ∙ c.requires.new in
    let may = ap (λ (s : SeqState). may_come c.args.asked s.seq.run) view ∙ c.requires.may_come in
    let opens : Opens c.args.asked inside.run c.run_after-self-inside.result inside.queue c.queue_after-self-inside.result =
    opened c.args.asked inside.run c.run_after-self-inside.result inside.queue c.queue_after-self-inside.result c.args.current c.args.force c.args.over
    c.run_after-self-inside.ensures c.queue_after-self-inside.ensures may c.self.invariant.1 in
    let save = c.save_asked_for-save.ensures ∙ ap (λ answers. save_asked c.args.asked (length answers)) c.as_slice.ensures.value in
    let room = ap (λ (s : SeqState). s.room) view in (
      ap (are_known _) (c.in-Ok.ensures.entries ∙ ap (insert_entry nat_eq inside.tickets.entries c.args.ticket) save)
          ∙ known_asked (length inside.answers.items + open_saves inside.run inside.queue) _ inside.answers.items inside.tickets.entries c.args.ticket (save_asked c.args.asked (length inside.answers.items)) fresh (omega (arith, opens.least)) c.self.invariant.0 (opens.known (length inside.answers.items)),
      opens.waits,
      omega (arith, opens.most, c.requires.room, room, c.self.invariant.2),
    )

noted : goal.returns-clause-seq
noted c =
    let inside = c.self.inside in
    let view = c.self.view_is in
    let fresh = ap (λ (s : SeqState). stand_in c.args.ticket s.seq.tickets) view ∙ c.requires.new in
    let save = c.save_asked_for-save.ensures ∙ ap (λ answers. save_asked c.args.asked (length answers)) c.as_slice.ensures.value in
    let tickets = ap (tickets_of inside.answers.items) (c.in-Ok.ensures.entries ∙ ap (insert_entry nat_eq inside.tickets.entries c.args.ticket) save)
    ∙ tickets_asked inside.answers.items inside.tickets.entries c.args.ticket c.args.asked fresh in
    (λ j. record { tickets = tickets j; run = c.run_after-self-inside.ensures j; queue = c.queue_after-self-inside.ensures j })
    ∙ ap (λ (s : SeqState). asked_seq c.args.ticket c.args.current c.args.force c.args.over c.args.asked s.seq) view

pub returns-clause-seq : goal.returns-clause-seq
returns-clause-seq c = noted c

pub returns-clause-keeps : goal.returns-clause-keeps
returns-clause-keeps c =
    λ dirty. keeps_with_asked c.args.ticket c.args.current dirty c.args.force c.args.over c.args.asked c.args.self.now.seq _ c.requires.new (noted c)
