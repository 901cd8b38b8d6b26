use Rattle.std.proofs.Common.{◌∙◌, ap, None, is_some}
use Rattle.hx_seq.specs.Keeps.{SeqState, finished_seq, tickets_of, ended}
use Rattle.hx_seq.specs.Keeping.{keeps_with_finished}
use Rattle.hx_seq.proofs.Tickets.{tickets_finished}
use Rattle.hx_seq.proofs.sequencer.Sequencer.finish.Goals as goal

finished : goal.returns-clause-seq
finished c =
    let inside = c.self.inside in
    let view = c.self.view_is in
    let runs = ap (λ (s : SeqState). is_some s.seq.run) view ∙ c.requires.runs in
    let answers = c.end_saves.ensures.items ∙ ap (λ next. ended next c.args.answer inside.answers.items) c.next_after-next.ensures in
    let tickets = ap (λ all. tickets_of all inside.tickets.entries) answers
    ∙ tickets_finished inside.answers.items inside.tickets.entries inside.run inside.queue c.args.dirty c.args.answer runs c.self.invariant.0 in
    (λ j. record { tickets = tickets j; run = c.run_started-self-inside.ensures j; queue = None })
    ∙ ap (λ (s : SeqState). finished_seq c.args.current c.args.dirty c.args.answer s.seq) view

pub returns-clause-seq : goal.returns-clause-seq
returns-clause-seq c = finished c

pub returns-clause-keeps : goal.returns-clause-keeps
returns-clause-keeps c =
    keeps_with_finished c.args.current c.args.dirty c.args.answer c.args.self.now.seq _ (finished c)
