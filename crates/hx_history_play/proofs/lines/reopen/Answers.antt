use Rattle.std.proofs.Common.{rules, ◌<◌, ◌^◌, ◌∙◌, ◌++◌, List, [], ◌∷◌, ap}
use Rattle.hx_history_laws.specs.declared.entry.HistoryEntry.{HistoryEntry}
use Rattle.hx_history_script.specs.declared.answer.Answer.{Answer}
use Rattle.hx_history_play.specs.Answered.{fault_answer, save_at}
use Rattle.hx_history_play.specs.Steps.{faulted_open, faulted_shut}
use Rattle.hx_history_play.proofs.lines.reopen.Goals as goal

pub returns-in-Ok-clause-open : goal.returns-in-Ok-clause-open
returns-in-Ok-clause-open g c = λ first lines h is.
    let small : g.D.Disk.failures c.args.disk < 2 ^ 64 = search rules in
    faulted_open g.D.Disk.tells g.D.Disk.time g.D.Disk.past g.D.Disk.now g.D.Disk.failures g.met.D.Disk.present g.met.D.Disk.sound first lines c.args.moment c.args.content.now c.args.account.now.answers c.args.account.now.marks c.mark.new.self.marks h c.args.disk is small
    (c.mark.ensures.marks ∙ ap (λ n. c.args.account.now.marks ++ n ∷ []) c.faults.ensures)
    c.in-Ok.history c.answer.new.self.answers c.answer.new.self.marks c.in-Ok.ensures.opens
    (c.answer.ensures.marks ∙ c.in-Ok.ensures.marks)
    (c.answer.ensures.answers ∙ ap (λ (noted : List Answer). noted ++ c.fault_answer.result ∷ []) (c.open_next.ensures.answers ∙ c.mark.ensures.answers)
    ∙ ap (λ (a : Answer). c.args.account.now.answers ++ a ∷ []) (c.fault_answer.ensures ∙ ap (λ (es : List HistoryEntry). fault_answer es (save_at c.args.moment c.args.content.now)) c.entries.ensures.entries))

pub returns-in-Err-clause-stops : goal.returns-in-Err-clause-stops
returns-in-Err-clause-stops g c = λ first lines h is.
    let small : g.D.Disk.failures c.args.disk < 2 ^ 64 = search rules in
    faulted_shut g.D.Disk.tells g.D.Disk.time g.D.Disk.past g.D.Disk.now g.D.Disk.failures g.met.D.Disk.present g.met.D.Disk.sound first lines c.args.moment c.args.content.now c.args.account.now.answers c.args.account.now.marks c.mark.new.self.marks h c.args.disk is small
    (c.mark.ensures.marks ∙ ap (λ n. c.args.account.now.marks ++ n ∷ []) c.faults.ensures)
    c.in-Err.stop.halt c.in-Err.stop.disk c.open_next.new.account.marks c.in-Err.ensures.shut c.in-Err.ensures.marks_err
