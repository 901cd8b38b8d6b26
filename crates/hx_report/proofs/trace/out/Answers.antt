use Rattle.std.proofs.Common.{◌++◌, List, ℕ, ◌+◌, ◌∙◌, ap, sym, append-nil}
use Rattle.std.proofs.lemmas.List.{at_drop_all}
use Rattle.hx_report.specs.Traces.{life_texts, trace_text}
use Rattle.hx_report.proofs.trace.out.Goals as goal

pub returns : goal.returns
unfolding trace_text
returns c =
    sym (ap (λ (rest : List ℕ). c.loop-index.text.items ++ rest) (at_drop_all (life_texts (c.loop-index.index + 1)) c.args.lives.now c.loop-index.index c.loop-index-test.false) ∙ append-nil c.loop-index.text.items)
    ∙ c.loop-index.invariant.lines
