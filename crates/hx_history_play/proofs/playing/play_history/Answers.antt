use Rattle.std.proofs.Common.{rules, ◌≡◌, ◌∙◌, ◌++◌, ℕ, List, [], ◌∷◌, length, reverse, ap, sym, subst, arith, refl}
use Rattle.std.specs.Vec.Iter.{into_iter_items}
use Rattle.hx_history_script.specs.declared.answer.Answer.{Answer}
use Rattle.hx_history_script.specs.declared.script.HistoryLine.{HistoryLine}
use Rattle.hx_history_script.specs.Texts.{history_text}
use Rattle.hx_history_play.specs.declared.account.Halt.TheVariants.{NoMemory, Done}
use Rattle.hx_history_play.specs.Playing.{Halts, IsOpen, IsUnopened}
use Rattle.hx_history_play.specs.Ends.{all_with, behind_one, early_as, halts_as, no_room_early, no_room_halts, none_left, open_halts, played_out, stops_printing}
use Rattle.hx_history_play.specs.Steps.{never_opened, opened, reversed, stops_at, stops_first}
use Rattle.hx_history_play.proofs.playing.play_history.Goals as goal

-- no room for the first mark
pub returns-in_default-clause-early : goal.returns-in_default-clause-early
returns-in_default-clause-early g c = λ undone.
    no_room_early g.D.Disk.tells g.D.Disk.time g.D.Disk.past g.D.Disk.now g.D.Disk.failures g.met.D.Disk.present g.met.D.Disk.sound c.args.disk c.args.lines.items c.stopped.result.marks.items c.stopped.result.halt c.stopped.result.disk (c.stopped.ensures.marks ∙ c.reserve.ensures.marks ∙ c.new-account.ensures.marks) c.stopped.ensures.disk

pub returns-in_default-clause-halts : goal.returns-in_default-clause-halts
returns-in_default-clause-halts g c =
    no_room_halts g.D.Disk.tells g.D.Disk.time g.D.Disk.past g.D.Disk.now g.D.Disk.failures g.met.D.Disk.present g.met.D.Disk.sound c.args.disk c.stopped.result.marks.items c.stopped.result.halt c.stopped.result.disk (c.stopped.ensures.marks ∙ c.reserve.ensures.marks ∙ c.new-account.ensures.marks) c.stopped.ensures.halt c.stopped.ensures.disk

-- the first opening failed
pub returns-in-Err-clause-early : goal.returns-in-Err-clause-early
returns-in-Err-clause-early g c = λ undone.
    let none : c.open_next.new.account.marks ≡ [] = c.in-Err.ensures.marks_err ∙ c.reserve.ensures.marks ∙ c.new-account.ensures.marks in
    let never : Halts g.D.Disk.tells g.D.Disk.time g.D.Disk.past g.D.Disk.now g.D.Disk.failures c.args.disk c.open_next.new.account.marks c.in-Err.stop.halt c.in-Err.stop.disk × IsUnopened g.D.Disk.tells (g.D.Disk.now c.args.disk) (g.D.Disk.now c.in-Err.stop.disk) [] c.open_next.new.account.marks = never_opened g.D.Disk.tells g.D.Disk.time g.D.Disk.past g.D.Disk.now g.D.Disk.failures g.met.D.Disk.present g.met.D.Disk.sound c.args.disk c.open_next.new.account.marks c.in-Err.stop.halt c.in-Err.stop.disk none c.in-Err.ensures.shut in
    early_as g.D.Disk.tells g.D.Disk.time g.D.Disk.past g.D.Disk.now g.D.Disk.failures g.met.D.Disk.present g.met.D.Disk.sound c.args.disk c.args.lines.items c.open_next.new.account.marks c.in-Err.stop.halt c.in-Err.stop.disk c.stopped-in-Err.result.marks.items c.stopped-in-Err.result.halt c.stopped-in-Err.result.disk c.stopped-in-Err.ensures.marks c.stopped-in-Err.ensures.halt c.stopped-in-Err.ensures.disk
    (stops_first g.D.Disk.tells g.D.Disk.time g.D.Disk.past g.D.Disk.now g.D.Disk.failures g.met.D.Disk.present g.met.D.Disk.sound c.args.disk c.args.lines.items c.open_next.new.account.marks c.in-Err.stop.halt c.in-Err.stop.disk never.1)

pub returns-in-Err-clause-halts : goal.returns-in-Err-clause-halts
returns-in-Err-clause-halts g c =
    let none : c.open_next.new.account.marks ≡ [] = c.in-Err.ensures.marks_err ∙ c.reserve.ensures.marks ∙ c.new-account.ensures.marks in
    halts_as g.D.Disk.tells g.D.Disk.time g.D.Disk.past g.D.Disk.now g.D.Disk.failures g.met.D.Disk.present g.met.D.Disk.sound c.args.disk c.open_next.new.account.marks c.in-Err.stop.halt c.in-Err.stop.disk c.stopped-in-Err.result.marks.items c.stopped-in-Err.result.halt c.stopped-in-Err.result.disk c.stopped-in-Err.ensures.marks c.stopped-in-Err.ensures.halt c.stopped-in-Err.ensures.disk
    ((never_opened g.D.Disk.tells g.D.Disk.time g.D.Disk.past g.D.Disk.now g.D.Disk.failures g.met.D.Disk.present g.met.D.Disk.sound c.args.disk c.open_next.new.account.marks c.in-Err.stop.halt c.in-Err.stop.disk none c.in-Err.ensures.shut).0)

-- an opening that failed isn't done
pub returns-in-Err-clause-done : goal.returns-in-Err-clause-done
returns-in-Err-clause-done g c = λ done. absurd (c.in-Err.ensures.shut.undone (sym c.stopped-in-Err.ensures.halt ∙ done))

-- the lines, one by one
pub loop-line-init : goal.loop-line-init
loop-line-init g c = record {
  rest = sym c.into_iter-line-iterator.ensures.into_iter_gives.0;
  left = search rules;
  open_now = opened g.D.Disk.tells g.D.Disk.time g.D.Disk.past g.D.Disk.now g.D.Disk.failures g.met.D.Disk.present g.met.D.Disk.sound c.args.disk c.open_next.new.account.answers c.open_next.new.account.marks c.in-Ok-open_next.history
      (c.open_next.ensures.answers ∙ c.reserve.ensures.answers ∙ c.new-account.ensures.answers)
      (c.in-Ok-open_next.ensures.marks ∙ ap (λ (ms : List ℕ). ms ++ g.D.Disk.failures c.in-Ok-open_next.history.disk ∷ []) (c.reserve.ensures.marks ∙ c.new-account.ensures.marks))
      c.in-Ok-open_next.ensures.opens;
}

pub loop-line-preserved : goal.loop-line-preserved
loop-line-preserved g c =
    let next : into_iter_items c.loop-line.line-iterator ≡ c.in-Some.line ∷ into_iter_items c.next.new.self = c.in-Some.ensures.steps.0 in
    record {
      rest = all_with c.args.lines.items c.loop-line.yielded (into_iter_items c.loop-line.line-iterator) (into_iter_items c.next.new.self) c.in-Some.line c.loop-line.invariant.rest next ∙ behind_one c.loop-line.yielded c.in-Some.line (into_iter_items c.next.new.self);
      left = omega (arith, ap length next, c.loop-line.invariant.left, c.in-Some.ensures.steps.1);
      open_now = subst (λ (taken : List HistoryLine). IsOpen g.D.Disk.tells g.D.Disk.time g.D.Disk.past g.D.Disk.now g.D.Disk.failures c.args.disk taken c.take_line.new.account.answers c.take_line.new.account.marks c.in-Ok-take_line.next) (sym (reversed c.loop-line.yielded c.in-Some.line))
          (c.in-Ok-take_line.ensures.open c.args.disk (reverse c.loop-line.yielded) c.loop-line.invariant.open_now);
    }

-- a line at which it stopped
pub returns-in-Err-take_line-clause-early : goal.returns-in-Err-take_line-clause-early
returns-in-Err-take_line-clause-early g c = λ undone.
    let all = all_with c.args.lines.items c.loop-line.yielded (into_iter_items c.loop-line.line-iterator) (into_iter_items c.next.new.self) c.in-Some.line c.loop-line.invariant.rest c.in-Some.ensures.steps.0 in
    early_as g.D.Disk.tells g.D.Disk.time g.D.Disk.past g.D.Disk.now g.D.Disk.failures g.met.D.Disk.present g.met.D.Disk.sound c.args.disk c.args.lines.items c.take_line.new.account.marks c.in-Err-take_line.stop.halt c.in-Err-take_line.stop.disk c.stopped-in-Err-take_line.result.marks.items c.stopped-in-Err-take_line.result.halt c.stopped-in-Err-take_line.result.disk c.stopped-in-Err-take_line.ensures.marks c.stopped-in-Err-take_line.ensures.halt c.stopped-in-Err-take_line.ensures.disk
    (stops_at g.D.Disk.tells g.D.Disk.time g.D.Disk.past g.D.Disk.now g.D.Disk.failures g.met.D.Disk.present g.met.D.Disk.sound c.args.disk c.args.lines.items c.loop-line.yielded (into_iter_items c.next.new.self) c.in-Some.line c.take_line.new.account.marks c.in-Err-take_line.stop.halt c.in-Err-take_line.stop.disk all
    (c.in-Err-take_line.ensures.stops c.args.disk (reverse c.loop-line.yielded) c.loop-line.invariant.open_now))

pub returns-in-Err-take_line-clause-halts : goal.returns-in-Err-take_line-clause-halts
returns-in-Err-take_line-clause-halts g c =
    halts_as g.D.Disk.tells g.D.Disk.time g.D.Disk.past g.D.Disk.now g.D.Disk.failures g.met.D.Disk.present g.met.D.Disk.sound c.args.disk c.take_line.new.account.marks c.in-Err-take_line.stop.halt c.in-Err-take_line.stop.disk c.stopped-in-Err-take_line.result.marks.items c.stopped-in-Err-take_line.result.halt c.stopped-in-Err-take_line.result.disk c.stopped-in-Err-take_line.ensures.marks c.stopped-in-Err-take_line.ensures.halt c.stopped-in-Err-take_line.ensures.disk
    (c.in-Err-take_line.ensures.stops c.args.disk (reverse c.loop-line.yielded) c.loop-line.invariant.open_now).halts

pub returns-in-Err-take_line-clause-done : goal.returns-in-Err-take_line-clause-done
returns-in-Err-take_line-clause-done g c = λ done. absurd ((c.in-Err-take_line.ensures.stops c.args.disk (reverse c.loop-line.yielded) c.loop-line.invariant.open_now).undone (sym c.stopped-in-Err-take_line.ensures.halt ∙ done))

-- all lines
pub returns-in-Ok-history_text-clause-done : goal.returns-in-Ok-history_text-clause-done
returns-in-Ok-history_text-clause-done g c = λ done.
    let all : c.args.lines.items ≡ c.loop-line.yielded = c.loop-line.invariant.rest ∙ none_left c.loop-line.yielded (into_iter_items c.loop-line.line-iterator) (omega (arith, c.loop-line.invariant.left, c.in-None.ensures.steps.0)) in
    played_out g.D.Disk.tells g.D.Disk.time g.D.Disk.past g.D.Disk.now g.D.Disk.failures g.met.D.Disk.present g.met.D.Disk.sound c.args.disk c.args.lines.items c.loop-line.yielded c.loop-line.account.answers c.loop-line.account.marks c.in-Ok-history_text.text.items c.into_marks.result.items c.loop-line.history c.finish.result all c.loop-line.invariant.open_now c.finish.ensures.kept c.finish.ensures.disk c.into_marks.ensures
    (c.in-Ok-history_text.ensures ∙ ap (λ (noted : List Answer). history_text noted c.entries.result.now) c.answers.ensures ∙ ap (history_text c.loop-line.account.answers) c.entries.ensures.entries)

pub returns-in-Ok-history_text-clause-halts : goal.returns-in-Ok-history_text-clause-halts
returns-in-Ok-history_text-clause-halts g c =
    halts_as g.D.Disk.tells g.D.Disk.time g.D.Disk.past g.D.Disk.now g.D.Disk.failures g.met.D.Disk.present g.met.D.Disk.sound c.args.disk c.loop-line.account.marks Done c.loop-line.history.disk c.into_marks.result.items Done c.finish.result c.into_marks.ensures refl c.finish.ensures.disk
    (open_halts g.D.Disk.tells g.D.Disk.time g.D.Disk.past g.D.Disk.now g.D.Disk.failures g.met.D.Disk.present g.met.D.Disk.sound c.args.disk (reverse c.loop-line.yielded) c.loop-line.account.answers c.loop-line.account.marks c.loop-line.history Done (λ odd. absurd cc) (λ odd. absurd cc) c.loop-line.invariant.open_now)

pub returns-in-Err-history_text-clause-early : goal.returns-in-Err-history_text-clause-early
returns-in-Err-history_text-clause-early g c = λ undone.
    let all : c.args.lines.items ≡ c.loop-line.yielded = c.loop-line.invariant.rest ∙ none_left c.loop-line.yielded (into_iter_items c.loop-line.line-iterator) (omega (arith, c.loop-line.invariant.left, c.in-None.ensures.steps.0)) in
    early_as g.D.Disk.tells g.D.Disk.time g.D.Disk.past g.D.Disk.now g.D.Disk.failures g.met.D.Disk.present g.met.D.Disk.sound c.args.disk c.args.lines.items c.loop-line.account.marks NoMemory c.loop-line.history.disk c.stopped-in-Err-history_text.result.marks.items c.stopped-in-Err-history_text.result.halt c.stopped-in-Err-history_text.result.disk c.stopped-in-Err-history_text.ensures.marks c.stopped-in-Err-history_text.ensures.halt (c.stopped-in-Err-history_text.ensures.disk ∙ c.finish-in-Err-history_text.ensures.disk)
    (stops_printing g.D.Disk.tells g.D.Disk.time g.D.Disk.past g.D.Disk.now g.D.Disk.failures g.met.D.Disk.present g.met.D.Disk.sound c.args.disk c.args.lines.items c.loop-line.yielded c.loop-line.account.answers c.loop-line.account.marks c.loop-line.history all c.loop-line.invariant.open_now c.finish-in-Err-history_text.ensures.kept)

pub returns-in-Err-history_text-clause-halts : goal.returns-in-Err-history_text-clause-halts
returns-in-Err-history_text-clause-halts g c =
    halts_as g.D.Disk.tells g.D.Disk.time g.D.Disk.past g.D.Disk.now g.D.Disk.failures g.met.D.Disk.present g.met.D.Disk.sound c.args.disk c.loop-line.account.marks NoMemory c.loop-line.history.disk c.stopped-in-Err-history_text.result.marks.items c.stopped-in-Err-history_text.result.halt c.stopped-in-Err-history_text.result.disk c.stopped-in-Err-history_text.ensures.marks c.stopped-in-Err-history_text.ensures.halt (c.stopped-in-Err-history_text.ensures.disk ∙ c.finish-in-Err-history_text.ensures.disk)
    (open_halts g.D.Disk.tells g.D.Disk.time g.D.Disk.past g.D.Disk.now g.D.Disk.failures g.met.D.Disk.present g.met.D.Disk.sound c.args.disk (reverse c.loop-line.yielded) c.loop-line.account.answers c.loop-line.account.marks c.loop-line.history NoMemory (λ odd. absurd cc) (λ odd. absurd cc) c.loop-line.invariant.open_now)
