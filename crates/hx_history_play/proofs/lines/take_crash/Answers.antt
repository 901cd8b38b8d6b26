use Rattle.std.proofs.Common.{◌∙◌, ◌++◌, List, [], ◌∷◌, ap, refl}
use Rattle.hx_history_script.specs.declared.answer.Answer.{Answer}
use Rattle.hx_history_script.specs.declared.answer.Answer.TheVariants.{Crashed}
use Rattle.hx_history_script.specs.declared.script.HistoryLine.TheVariants.{Crash}
use Rattle.hx_history_play.specs.Files.{crashed_no_new}
use Rattle.hx_history_play.specs.Steps.{crashed, crashed_open, crashed_shut, uncrashed}
use Rattle.hx_history_play.proofs.lines.take_crash.Goals as goal

pub returns-in_default-clause-stops : goal.returns-in_default-clause-stops
returns-in_default-clause-stops g c = λ first lines is.
    uncrashed g.D.Disk.tells g.D.Disk.time g.D.Disk.past g.D.Disk.now g.D.Disk.failures g.met.D.Disk.present g.met.D.Disk.sound first lines (Crash c.args.pick) c.args.account.now.answers c.args.account.now.marks c.args.account.now.marks c.args.history c.finish-disk.result c.crash.new.self is refl c.finish-disk.ensures.disk c.in_default.ensures.err c.crash.ensures.faults c.finish-disk.ensures.kept

pub returns-in-Ok-open_next-clause-open : goal.returns-in-Ok-open_next-clause-open
returns-in-Ok-open_next-clause-open g c = λ first lines is.
    let closed = crashed g.D.Disk.tells g.D.Disk.time g.D.Disk.past g.D.Disk.now g.D.Disk.failures g.met.D.Disk.present g.met.D.Disk.sound first lines c.args.pick c.args.account.now.answers c.args.account.now.marks c.args.history c.finish-disk.result c.crash.new.self is c.finish-disk.ensures.disk c.finish-disk.ensures.kept c.finish-disk.ensures.stamps c.finish-disk.ensures.histories c.crash.ensures.time c.crash.ensures.faults
    (λ told. crashed_no_new g.D.Disk.tells g.D.Disk.time g.D.Disk.past g.D.Disk.now g.D.Disk.failures g.met.D.Disk.present g.met.D.Disk.sound g.D.Disk.picked c.finish-disk.result c.crash.new.self c.args.pick g.met.D.Disk.pick_is_image (c.in-Ok.ensures.ok told) told) in
    crashed_open g.D.Disk.tells g.D.Disk.time g.D.Disk.past g.D.Disk.now g.D.Disk.failures g.met.D.Disk.present g.met.D.Disk.sound first lines c.args.pick c.args.account.now.answers c.args.account.now.marks c.args.history c.crash.new.self is closed c.in-Ok-open_next.history c.answer.new.self.answers c.answer.new.self.marks c.in-Ok-open_next.ensures.opens
    (c.answer.ensures.marks ∙ c.in-Ok-open_next.ensures.marks)
    (c.answer.ensures.answers ∙ ap (λ (noted : List Answer). noted ++ Crashed ∷ []) c.open_next.ensures.answers)

pub returns-in-Err-clause-stops : goal.returns-in-Err-clause-stops
returns-in-Err-clause-stops g c = λ first lines is.
    let closed = crashed g.D.Disk.tells g.D.Disk.time g.D.Disk.past g.D.Disk.now g.D.Disk.failures g.met.D.Disk.present g.met.D.Disk.sound first lines c.args.pick c.args.account.now.answers c.args.account.now.marks c.args.history c.finish-disk.result c.crash.new.self is c.finish-disk.ensures.disk c.finish-disk.ensures.kept c.finish-disk.ensures.stamps c.finish-disk.ensures.histories c.crash.ensures.time c.crash.ensures.faults
    (λ told. crashed_no_new g.D.Disk.tells g.D.Disk.time g.D.Disk.past g.D.Disk.now g.D.Disk.failures g.met.D.Disk.present g.met.D.Disk.sound g.D.Disk.picked c.finish-disk.result c.crash.new.self c.args.pick g.met.D.Disk.pick_is_image (c.in-Ok.ensures.ok told) told) in
    crashed_shut g.D.Disk.tells g.D.Disk.time g.D.Disk.past g.D.Disk.now g.D.Disk.failures g.met.D.Disk.present g.met.D.Disk.sound first lines c.args.pick c.args.account.now.answers c.args.account.now.marks c.args.history c.crash.new.self is closed c.in-Err.stop.halt c.in-Err.stop.disk c.open_next.new.account.marks c.in-Err.ensures.shut c.in-Err.ensures.marks_err
