use Rattle.std.proofs.Common.{List, refl, sym, subst, map, length, reverse}
use Rattle.hx_actors.specs.Pieces.{Duty, IsCrew, IsNamed, Job, all_duties}
use Rattle.hx_passes.specs.Rules.{Each}
use Rattle.hx_actors.proofs.Jobs.{named_all}
use Rattle.hx_actors.proofs.running.crew_of.Goals as goal

pub returns-in_default-clause-crew : goal.returns-in_default-clause-crew
returns-in_default-clause-crew g c =
    let duties = reverse (all_duties (map (λ s. s.items) c.args.scripts.items) c.args.workers) in
    subst (λ (jobs : List Job). IsCrew (length g.J.Naming.life.names) duties jobs) (sym c.new-crew.ensures) (record { later = duties; whole = refl; ready = tt })

pub man-manned-requires-clause-named : goal.man-manned-requires-clause-named
man-manned-requires-clause-named g c =
    let names = length g.J.Naming.life.names in
    let scripts = map (λ s. s.items) c.args.scripts.items in
    subst (λ (ds : List Duty). Each (λ d. IsNamed names d.script) ds) (sym c.in-Ok.ensures.duties) (named_all names scripts c.args.workers c.requires.named)
