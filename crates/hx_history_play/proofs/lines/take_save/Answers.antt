use Rattle.std.proofs.Common.{rules, ◌≡◌, ◌∙◌, ap, arith, refl}
use Rattle.hx_history.specs.declared.history.Added.TheVariants.{Refused}
use Rattle.hx_history.specs.declared.history.Refusal.TheVariants.{TooLarge, Spent, NoMemory}
use Rattle.hx_history_laws.specs.Having.{HaveEither}
use Rattle.hx_history_laws.specs.Kept.{last_number, next}
use Rattle.hx_history_script.specs.declared.answer.Answer.TheVariants.{Kept, Merged, TooLarge as TooLong, Spent as UsedUp}
use Rattle.hx_history_script.specs.declared.script.HistoryLine.TheVariants.{Saved}
use Rattle.hx_history_play.specs.Answered.{save_at}
use Rattle.hx_history_play.specs.Steps.{refused, saved}
use Rattle.hx_history_play.proofs.lines.take_save.Goals as goal

pub returns-in-Kept-clause-open : goal.returns-in-Kept-clause-open
returns-in-Kept-clause-open g c = λ first lines is.
    let i = c.in-Kept.history in
    let kept = c.add.ensures.kept i c.in-Kept.is in
    saved g.D.Disk.tells g.D.Disk.time g.D.Disk.past g.D.Disk.now g.D.Disk.failures g.met.D.Disk.present g.met.D.Disk.sound first (HaveEither c.args.history.entries (next c.args.history.entries (save_at c.args.moment c.args.content.now))) lines (Saved c.args.moment c.args.content.now) c.args.account.now.answers c.note.new.account.answers (Kept c.last_number-number.result) c.args.account.now.marks c.note.new.account.marks c.args.history i c.note.result is refl
    (kept.0, kept.1, c.last_number-number.ensures ∙ ap last_number c.entries.ensures.entries) (λ mark. record { mark = mark; are = refl }) (λ told most none_above. tt)
    (c.add.ensures.later_kept i c.in-Kept.is) c.note.ensures.bounded (λ told. c.add.ensures.moments_kept told i c.in-Kept.is) c.note.ensures.history c.note.ensures.answers c.note.ensures.marks

pub returns-in-Merged-clause-open : goal.returns-in-Merged-clause-open
returns-in-Merged-clause-open g c = λ first lines is.
    let i = c.in-Merged.history in
    let merged = c.add.ensures.merged i c.in-Merged.is in
    saved g.D.Disk.tells g.D.Disk.time g.D.Disk.past g.D.Disk.now g.D.Disk.failures g.met.D.Disk.present g.met.D.Disk.sound first (HaveEither c.args.history.entries (next c.args.history.entries (save_at c.args.moment c.args.content.now))) lines (Saved c.args.moment c.args.content.now) c.args.account.now.answers c.note-in-Merged.new.account.answers (Merged c.last_number-number-in-Merged.result) c.args.account.now.marks c.note-in-Merged.new.account.marks c.args.history i c.note-in-Merged.result is refl
    (merged.0, merged.1, c.last_number-number-in-Merged.ensures ∙ ap last_number c.entries-in-Merged.ensures.entries) (λ mark. record { mark = mark; are = refl }) (λ told most none_above. tt)
    (c.add.ensures.later_merged i c.in-Merged.is) c.note-in-Merged.ensures.bounded (λ told. c.add.ensures.moments_merged told i c.in-Merged.is) c.note-in-Merged.ensures.history c.note-in-Merged.ensures.answers c.note-in-Merged.ensures.marks

pub returns-in-Refused-default-TooLarge-clause-open : goal.returns-in-Refused-default-TooLarge-clause-open
returns-in-Refused-default-TooLarge-clause-open g c = λ first lines is.
    let i = c.in-Refused-default-TooLarge.history in
    let so : c.add.result ≡ Refused i TooLarge = search rules in
    saved g.D.Disk.tells g.D.Disk.time g.D.Disk.past g.D.Disk.now g.D.Disk.failures g.met.D.Disk.present g.met.D.Disk.sound first (HaveEither c.args.history.entries (next c.args.history.entries (save_at c.args.moment c.args.content.now))) lines (Saved c.args.moment c.args.content.now) c.args.account.now.answers c.note-in-Refused-default-TooLarge.new.account.answers TooLong c.args.account.now.marks c.note-in-Refused-default-TooLarge.new.account.marks c.args.history i c.note-in-Refused-default-TooLarge.result is refl
    (c.add.ensures.too_large i so, c.add.ensures.refused i TooLarge so) (λ mark. record { mark = mark; are = refl }) (λ told most none_above. tt)
    (c.add.ensures.later_refused i TooLarge so) c.note-in-Refused-default-TooLarge.ensures.bounded (λ told. c.add.ensures.moments_refused told i TooLarge so) c.note-in-Refused-default-TooLarge.ensures.history c.note-in-Refused-default-TooLarge.ensures.answers c.note-in-Refused-default-TooLarge.ensures.marks

pub returns-in-Refused-default-Spent-clause-open : goal.returns-in-Refused-default-Spent-clause-open
returns-in-Refused-default-Spent-clause-open g c = λ first lines is.
    let i = c.in-Refused-default-Spent.history in
    let so : c.add.result ≡ Refused i Spent = search rules in
    let spent = c.add.ensures.spent i so in
    saved g.D.Disk.tells g.D.Disk.time g.D.Disk.past g.D.Disk.now g.D.Disk.failures g.met.D.Disk.present g.met.D.Disk.sound first (HaveEither c.args.history.entries (next c.args.history.entries (save_at c.args.moment c.args.content.now))) lines (Saved c.args.moment c.args.content.now) c.args.account.now.answers c.note-in-Refused-default-Spent.new.account.answers UsedUp c.args.account.now.marks c.note-in-Refused-default-Spent.new.account.marks c.args.history i c.note-in-Refused-default-Spent.result is refl
    (spent.0, c.add.ensures.refused i Spent so) (λ mark. record { mark = mark; are = refl }) (λ told most none_above. let le = is.stamped told most none_above in let all = spent.1 in omega (arith, le, all))
    (c.add.ensures.later_refused i Spent so) c.note-in-Refused-default-Spent.ensures.bounded (λ told. c.add.ensures.moments_refused told i Spent so) c.note-in-Refused-default-Spent.ensures.history c.note-in-Refused-default-Spent.ensures.answers c.note-in-Refused-default-Spent.ensures.marks

pub returns-in-Refused-default-NoMemory-clause-stops : goal.returns-in-Refused-default-NoMemory-clause-stops
returns-in-Refused-default-NoMemory-clause-stops g c = λ first lines is.
    let i = c.in-Refused-default-NoMemory.history in
    let so : c.add.result ≡ Refused i NoMemory = search rules in
    refused g.D.Disk.tells g.D.Disk.time g.D.Disk.past g.D.Disk.now g.D.Disk.failures g.met.D.Disk.present g.met.D.Disk.sound first (HaveEither c.args.history.entries (next c.args.history.entries (save_at c.args.moment c.args.content.now))) lines (Saved c.args.moment c.args.content.now) c.args.account.now.answers c.args.account.now.marks c.args.account.now.marks c.args.history i c.finish.result is refl c.finish.ensures.disk
    (c.add.ensures.refused i NoMemory so) (c.add.ensures.later_refused i NoMemory so) (λ told. c.add.ensures.moments_refused told i NoMemory so) c.finish.ensures.kept

pub returns-in-Faulted-clause-open : goal.returns-in-Faulted-clause-open
returns-in-Faulted-clause-open g c = λ first lines is.
    let back = c.in-Faulted.disk in
    c.reopen.ensures.open first lines c.args.history (record {
      open_before = is;
      rose = c.add.ensures.faulted back c.in-Faulted.is;
      moments = λ told. c.add.ensures.moments_faulted told back c.in-Faulted.is;
      stamps = λ told. c.add.ensures.stamps_faulted told back c.in-Faulted.is;
      histories = λ told. c.add.ensures.histories_faulted told back c.in-Faulted.is;
    })

pub returns-in-Faulted-clause-stops : goal.returns-in-Faulted-clause-stops
returns-in-Faulted-clause-stops g c = λ first lines is.
    let back = c.in-Faulted.disk in
    c.reopen.ensures.stops first lines c.args.history (record {
      open_before = is;
      rose = c.add.ensures.faulted back c.in-Faulted.is;
      moments = λ told. c.add.ensures.moments_faulted told back c.in-Faulted.is;
      stamps = λ told. c.add.ensures.stamps_faulted told back c.in-Faulted.is;
      histories = λ told. c.add.ensures.histories_faulted told back c.in-Faulted.is;
    })
