use Rattle.std.proofs.Common.{List, ap, false, map, subst, sym, ◌∙◌}
use Rattle.hx_events.specs.declared.life.Entry.{Entry}
use Rattle.hx_actors.specs.Work.{IsPartOf}
use Rattle.hx_play.proofs.RunSteps.{nothing_made}
use Rattle.hx_play.proofs.runs.work.Goals as goal

-- no hub was made
pub returns-in-Err-clause-part : goal.returns-in-Err-clause-part
returns-in-Err-clause-part g c =
    let scripts = map (λ s. s.items) c.args.scripts.items in
    subst (λ (es : List Entry). IsPartOf false scripts es) (sym (ap (λ r. r.course.entries) c.in-Err.ensures.err ∙ c.requires.empty)) (nothing_made scripts)
