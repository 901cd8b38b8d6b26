use Rattle.hx_script.specs.Lines.{texts}
use Rattle.hx_script.proofs.TraceSteps.{pair_ranked}
use Rattle.hx_script.proofs.trace_reader.TraceReader.read_pair.Goals as goal

pub returns-clause-answers : goal.returns-clause-answers
returns-clause-answers c =
    let r = c.self.inside in
    pair_ranked c.ranked.result c.pair_in.result c.args.number (texts c.args.fields.now) c.names.result.now c.is_out_of_order.result c.is_past.result r.lives.items r.part r.draft c.args.self.now c.self.view_is
    c.names.ensures c.is_out_of_order.ensures c.is_past.ensures c.pair_in.ensures.answers c.ranked.ensures.answers
