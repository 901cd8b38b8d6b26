use Rattle.std.proofs.Common.{◌≡◌, ◌∙◌, ◌∷◌, IfOk, IfErr, ap, sym, subst}
use Rattle.hx_history_script.specs.declared.script.HistoryLine.{HistoryLine}
use Rattle.hx_history_script.specs.declared.script.HistoryLine.TheVariants.{Saved}
use Rattle.hx_history_play.specs.declared.account.Stopped.{Stopped}
use Rattle.hx_history_play.specs.Playing.{IsOpen, StopsAt}
use Rattle.hx_history_play.specs.Steps.{with_room, without_room}
use Rattle.hx_history_play.proofs.lines.take_line.Goals as goal

pub returns-in_default-clause-stops : goal.returns-in_default-clause-stops
returns-in_default-clause-stops g c = λ first lines is.
    without_room g.D.Disk.tells g.D.Disk.time g.D.Disk.past g.D.Disk.now g.D.Disk.failures g.met.D.Disk.present g.met.D.Disk.sound first lines c.args.line c.args.account.now.answers c.args.account.now.marks c.reserve.new.self.marks c.args.history c.finish.result is c.reserve.ensures.marks c.finish.ensures.disk c.finish.ensures.kept

pub returns-in-Saved-clause-open : goal.returns-in-Saved-clause-open
returns-in-Saved-clause-open g c = λ first lines is.
    let line : Saved c.in-Saved.moment c.as_slice.result.now ≡ c.args.line = ap (Saved c.in-Saved.moment) c.as_slice.ensures ∙ sym c.in-Saved.is in
    subst (λ (l : HistoryLine). IfOk c.take_save.result (λ h. IsOpen g.D.Disk.tells g.D.Disk.time g.D.Disk.past g.D.Disk.now g.D.Disk.failures first (l ∷ lines) c.take_save.new.account.answers c.take_save.new.account.marks h)) line
    (c.take_save.ensures.open first lines (with_room g.D.Disk.tells g.D.Disk.time g.D.Disk.past g.D.Disk.now g.D.Disk.failures g.met.D.Disk.present g.met.D.Disk.sound first lines c.args.account.now.answers c.reserve.new.self.answers c.args.account.now.marks c.reserve.new.self.marks c.args.history c.reserve.ensures.answers c.reserve.ensures.marks is))

pub returns-in-Saved-clause-stops : goal.returns-in-Saved-clause-stops
returns-in-Saved-clause-stops g c = λ first lines is.
    let line : Saved c.in-Saved.moment c.as_slice.result.now ≡ c.args.line = ap (Saved c.in-Saved.moment) c.as_slice.ensures ∙ sym c.in-Saved.is in
    subst (λ (l : HistoryLine). IfErr c.take_save.result (λ (s : Stopped g.row.D.Denot). StopsAt g.D.Disk.tells g.D.Disk.time g.D.Disk.past g.D.Disk.now g.D.Disk.failures first lines l c.take_save.new.account.marks s.halt s.disk)) line
    (c.take_save.ensures.stops first lines (with_room g.D.Disk.tells g.D.Disk.time g.D.Disk.past g.D.Disk.now g.D.Disk.failures g.met.D.Disk.present g.met.D.Disk.sound first lines c.args.account.now.answers c.reserve.new.self.answers c.args.account.now.marks c.reserve.new.self.marks c.args.history c.reserve.ensures.answers c.reserve.ensures.marks is))

pub returns-in-Crash-clause-open : goal.returns-in-Crash-clause-open
returns-in-Crash-clause-open g c = λ first lines is.
    subst (λ (l : HistoryLine). IfOk c.take_crash.result (λ h. IsOpen g.D.Disk.tells g.D.Disk.time g.D.Disk.past g.D.Disk.now g.D.Disk.failures first (l ∷ lines) c.take_crash.new.account.answers c.take_crash.new.account.marks h)) (sym c.in-Crash.is)
    (c.take_crash.ensures.open first lines (with_room g.D.Disk.tells g.D.Disk.time g.D.Disk.past g.D.Disk.now g.D.Disk.failures g.met.D.Disk.present g.met.D.Disk.sound first lines c.args.account.now.answers c.reserve.new.self.answers c.args.account.now.marks c.reserve.new.self.marks c.args.history c.reserve.ensures.answers c.reserve.ensures.marks is))

pub returns-in-Crash-clause-stops : goal.returns-in-Crash-clause-stops
returns-in-Crash-clause-stops g c = λ first lines is.
    subst (λ (l : HistoryLine). IfErr c.take_crash.result (λ (s : Stopped g.row.D.Denot). StopsAt g.D.Disk.tells g.D.Disk.time g.D.Disk.past g.D.Disk.now g.D.Disk.failures first lines l c.take_crash.new.account.marks s.halt s.disk)) (sym c.in-Crash.is)
    (c.take_crash.ensures.stops first lines (with_room g.D.Disk.tells g.D.Disk.time g.D.Disk.past g.D.Disk.now g.D.Disk.failures g.met.D.Disk.present g.met.D.Disk.sound first lines c.args.account.now.answers c.reserve.new.self.answers c.args.account.now.marks c.reserve.new.self.marks c.args.history c.reserve.ensures.answers c.reserve.ensures.marks is))
