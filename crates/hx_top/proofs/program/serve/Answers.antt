use Rattle.std.proofs.Common.{subst}
use Rattle.hx_io.specs.Streams.{added}
use Rattle.hx_top.specs.declared.words.DiskChoice.TheVariants.{Memory}
use Rattle.hx_top.specs.Words.{IsChosen, texts_of}
use Rattle.hx_top.proofs.Served.{in_memory, new_disk}
use Rattle.hx_top.proofs.program.serve.Goals as goal

pub returns-in-Ok-clause-served : goal.returns-in-Ok-clause-served
returns-in-Ok-clause-served g c = λ _.
    let chosen : IsChosen (texts_of c.args.words.now) (Memory c.in-Ok-Memory.plan) = subst (IsChosen (texts_of c.args.words.now)) c.in-Ok-Memory.field-0-is c.in-Ok-Memory.ensures in
    in_memory (texts_of c.args.words.now) (added (g.S.Source.given c.args.source.now) (g.S.Source.given c.serve_on.new.source)) (g.K.Sink.taken c.args.sink.now) (g.K.Sink.taken c.serve_on.new.sink) c.serve_on.result chosen.0
    (record {
      disk = c.in-Ok.disk;
      new = new_disk (texts_of c.args.words.now) c.in-Ok-Memory.plan c.in-Ok.disk chosen c.in-Ok.ensures.files c.in-Ok.ensures.moment c.in-Ok.ensures.course;
      on = c.serve_on.ensures.served;
    })
