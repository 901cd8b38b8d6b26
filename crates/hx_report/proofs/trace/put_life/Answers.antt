use Rattle.std.proofs.Common.{◌++◌, List, ℕ, ap, sym, ◌∙◌, append-nil}
use Rattle.std.proofs.lemmas.Result.{on_ok_weaker}
use Rattle.hx_report.specs.Traces.{life_text, whole_life}
use Rattle.hx_report.proofs.Texts.{cut_text, uncut_text}
use Rattle.hx_report.proofs.trace.put_life.Goals as goal

pub returns-in-Cut : goal.returns-in-Cut
unfolding life_text
returns-in-Cut c =
    let out = c.args.out.now.items in
    sym (append-nil out) ∙ ap (λ (text : List ℕ). out ++ text) (sym (cut_text c.args.life.now.ended (whole_life c.args.number c.args.life.now) c.in-Cut.is))

pub returns-in_default : goal.returns-in_default
unfolding life_text
returns-in_default c =
    let out = c.args.out.now.items in
    on_ok_weaker c.put_whole_life.result (λ is. is ∙ ap (λ (text : List ℕ). out ++ text) (sym (uncut_text c.args.life.now.ended (whole_life c.args.number c.args.life.now) c.in_default.not-Cut))) c.put_whole_life.ensures
