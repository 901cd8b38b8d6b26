use Rattle.std.proofs.Common.{sym, ◌∙◌, subst}
use Rattle.hx_io.specs.Streams.{added}
use Rattle.hx_top.specs.declared.whole.End.{End}
use Rattle.hx_top.specs.Program.{HasServedOn}
use Rattle.hx_top.specs.Words.{texts_of}
use Rattle.hx_top.proofs.Served.{by_run, by_top}
use Rattle.hx_top.proofs.program.serve_on.Goals as goal

pub returns-then-is_run-clause-served : goal.returns-then-is_run-clause-served
returns-then-is_run-clause-served g c =
    let input = added (g.S.Source.given c.args.source.now) (g.S.Source.given c.top_run.new.source) in
    let back = c.top_run.result.disk in
    subst (λ (end : End). HasServedOn g.D.Disk.picked g.D.Disk.tells g.D.Disk.time g.D.Disk.past g.D.Disk.now g.D.Disk.failures c.args.disk (texts_of c.args.words.now) input (g.K.Sink.taken c.args.sink.now) (g.K.Sink.taken c.top_run.new.sink) end) (sym c.ended.ensures)
    (record {
      back = back;
      lives = c.top_run.result.lives.items;
      marks = c.top_run.result.marks.items;
      runs = λ told. c.top_run.ensures.runs;
      served = by_run g.D.Disk.picked g.D.Disk.tells (g.D.Disk.past back) (texts_of c.args.words.now) input (g.K.Sink.taken c.args.sink.now) (g.K.Sink.taken c.top_run.new.sink) c.top_run.result.end (g.D.Disk.time c.args.disk) (g.D.Disk.failures c.args.disk) (g.D.Disk.time back) (g.D.Disk.failures back) c.top_run.result.lives.items (g.D.Disk.now c.args.disk) (g.D.Disk.now back) c.top_run.result.marks.items
          (sym c.is_run.ensures ∙ c.if-is_run.true) c.top_run.ensures.done c.top_run.ensures.front c.top_run.ensures.played c.top_run.ensures.kept c.top_run.ensures.open_fault;
    })

pub returns-else-is_run-clause-served : goal.returns-else-is_run-clause-served
returns-else-is_run-clause-served g c =
    let input = added (g.S.Source.given c.args.source.now) (g.S.Source.given c.top.new.source) in
    let back = c.top.result.disk in
    subst (λ (end : End). HasServedOn g.D.Disk.picked g.D.Disk.tells g.D.Disk.time g.D.Disk.past g.D.Disk.now g.D.Disk.failures c.args.disk (texts_of c.args.words.now) input (g.K.Sink.taken c.args.sink.now) (g.K.Sink.taken c.top.new.sink) end) (sym c.ended-else-is_run.ensures)
    (record {
      back = back;
      lives = c.top.result.lives.items;
      marks = c.top.result.marks.items;
      runs = c.top.ensures.runs_told;
      served = by_top g.D.Disk.picked g.D.Disk.tells (g.D.Disk.past back) (texts_of c.args.words.now) input (g.K.Sink.taken c.args.sink.now) (g.K.Sink.taken c.top.new.sink) c.top.result.end (g.D.Disk.time c.args.disk) (g.D.Disk.failures c.args.disk) (g.D.Disk.time back) (g.D.Disk.failures back) c.top.result.lives.items (g.D.Disk.now c.args.disk) (g.D.Disk.now back) c.top.result.marks.items
          (sym c.is_run.ensures ∙ c.if-is_run.false) c.top.ensures.done c.top.ensures.front c.top.ensures.played c.top.ensures.kept c.top.ensures.closes c.top.ensures.open_fault c.top.ensures.history;
    })
