use Rattle.std.proofs.Common.{rules, ◌++◌, List, ℕ, take, ◌∙◌, ap}
use Rattle.std.proofs.lemmas.List.{take_rest}
use Rattle.hx_io.proofs.Parts.{added_more}
use Rattle.hx_io.proofs.sink.write_all.Goals as goal

pub loop-at-preserved : goal.loop-at-preserved
loop-at-preserved g c = record {
  within = search rules;
  kept = search rules;
  taken = added_more _ _ _ _ _ _ c.loop-at.invariant.taken (c.in_ok-at.ensures.taken ∙ ap (λ (l : List ℕ). g.K.Sink.taken c.loop-at.sink ++ take c.in_ok-at.field-0 l) (take_rest c.args.bytes.now c.loop-at.at));
  unasked = search rules;
}
