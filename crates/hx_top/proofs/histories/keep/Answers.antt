use Rattle.std.proofs.Common.{◌≡◌, ◌∙◌, List, ℕ, ap, sym, subst}
use Rattle.hx_history_play.specs.Playing.{IsPlayedOut, StopsEarly}
use Rattle.hx_history_script.specs.declared.script.HistoryLine.{HistoryLine}
use Rattle.hx_io.specs.Streams.{AddsFront}
use Rattle.hx_top.specs.Histories.{halt_of}
use Rattle.hx_top.proofs.Ending.{above_first, played_lines}
use Rattle.hx_top.proofs.histories.keep.Goals as goal

pub returns-clause-played : goal.returns-clause-played
returns-clause-played g c =
    let played = c.play_history-halt in
    let halts = played.ensures.halts in
    let back = played.result.disk in
    let lines : c.into_vec.result.items ≡ c.args.lines = c.into_vec.ensures in
    played_lines g.D.Disk.tells (g.D.Disk.failures c.args.disk) (g.D.Disk.failures back) (g.D.Disk.now c.args.disk) (g.D.Disk.now back) c.args.lines played.result.text.items (g.K.Sink.taken c.args.sink.now) (g.K.Sink.taken c.write_played-end.new.sink) played.result.marks.items played.result.halt c.write_played-end.result c.write_played-end.ensures.halt
    (λ is. subst (λ (ls : List HistoryLine). IsPlayedOut g.D.Disk.tells (g.D.Disk.failures c.args.disk) (g.D.Disk.now c.args.disk) (g.D.Disk.now back) ls played.result.text.items played.result.marks.items) lines (played.ensures.done is))
    (λ is. subst (λ (ls : List HistoryLine). StopsEarly g.D.Disk.tells (g.D.Disk.failures c.args.disk) (g.D.Disk.now c.args.disk) (g.D.Disk.now back) ls played.result.marks.items played.result.halt) lines (played.ensures.early is))
    halts.rises halts.counted halts.cause halts.foreign
    (λ is. c.write_played-end.ensures.done is ∙ c.deref.ensures.value)
    (λ is. subst (λ (text : List ℕ). AddsFront text (g.K.Sink.taken c.args.sink.now) (g.K.Sink.taken c.write_played-end.new.sink)) c.deref.ensures.value (c.write_played-end.ensures.front is))

pub returns-clause-foreign : goal.returns-clause-foreign
returns-clause-foreign g c = λ is none. c.play_history-halt.ensures.halts.first (sym c.write_played-end.ensures.halt ∙ ap halt_of is) none

pub returns-clause-runs : goal.returns-clause-runs
returns-clause-runs g c = c.play_history-halt.ensures.halts.runs

pub returns-clause-open_fault : goal.returns-clause-open_fault
returns-clause-open_fault g c = λ is.
    let halts = c.play_history-halt.ensures.halts in
    above_first (g.D.Disk.failures c.args.disk) (g.D.Disk.failures c.play_history-halt.result.disk) c.play_history-halt.result.marks.items halts.rises (halts.cause (sym c.write_played-end.ensures.halt ∙ ap halt_of is))
