use Rattle.std.proofs.Common.{◌≡◌, ℕ, List, [], ◌∷◌, None, length, true, map, reverse, rules, arith, subst, ap, sym, ◌∙◌}
use Rattle.hx_events.specs.declared.life.Entry.{Entry}
use Rattle.hx_events.specs.declared.event.Actor.TheVariants.{Closer}
use Rattle.hx_lives.specs.Course.{Course, opening, start_of}
use Rattle.hx_passes.specs.declared.rule.Finding.TheVariants.{NothingDue}
use Rattle.hx_passes.specs.declared.rule.Kind.{Kind}
use Rattle.hx_passes.specs.declared.rule.Known.{Known}
use Rattle.hx_passes.specs.Closing.{IsClosed}
use Rattle.hx_passes.specs.Rules.{total}
use Rattle.hx_rules.specs.Entries.{past}
use Rattle.hx_hub.specs.Shared.{lowest_due, says_of}
use Rattle.hx_actors.specs.Pieces.{Job, all_duties, all_ended, duty_of, parts_of}
use Rattle.hx_actors.proofs.Jobs.{part_after, part_before, parts_after, parts_of_passes, unused_fresh, unused_lent, work_after}
use Rattle.hx_actors.proofs.running.run_all.Goals as goal

due_of : (life : Course) (kind : Kind) (es : List Entry) → says_of (start_of life) (NothingDue kind) es → lowest_due kind (opening life) (reverse es) ≡ None
due_of life kind es none = none

-- of a hub that began without entries, whose passes were these
closed_of : (life : Course) (n : ℕ) (first : Known) (ps : List Known) (jobs : List Job) (es : List Entry) → life.entries ≡ [] → ps ≡ map (λ j. j.pass) jobs → IsClosed (past life.entries) n (says_of (start_of life)) (past es) (first ∷ ps)
    → IsClosed [] n (says_of (start_of life)) (reverse es) (first ∷ map (λ j. j.pass) jobs)
closed_of life n first ps jobs es empty same closed = subst (λ (xs : List Known). IsClosed [] n (says_of (start_of life)) (reverse es) (first ∷ xs)) same (subst (λ (xs : List Entry). IsClosed (past xs) n (says_of (start_of life)) (past es) (first ∷ ps)) empty closed)

pub close-requires : goal.close-requires
close-requires g c =
    let jobs : List Job = c.crew_of-crew.result.0 in
    let a = c.crew_of-crew.ensures.parts in
    let b : total (λ (p : Known). p.parts) c.finish-passes.result.0.items ≡ parts_of jobs = ap (total (λ (p : Known). p.parts)) c.finish-passes.ensures.passes ∙ parts_of_passes jobs in
    let d = ap (λ (p : Known). p.parts) c.requires.first in
    omega (arith, a, b, d)

pub close-registry-requires : goal.close-registry-requires
close-registry-requires g c =
    let jobs : List Job = c.crew_of-crew.result.0 in
    let done : List Job = c.work.new.self in
    let a = c.crew_of-crew.ensures.parts in
    let b : total (λ (p : Known). p.parts) c.finish-passes-2.result.0.items ≡ parts_of done = ap (total (λ (p : Known). p.parts)) c.finish-passes-2.ensures.passes ∙ parts_of_passes done in
    let d = ap (λ (p : Known). p.parts) c.requires.first in
    let e = parts_after g.J.Naming.windows jobs done c.work.ensures in
    omega (arith, a, b, d, e)

pub returns-then-is_err-clause-part : goal.returns-then-is_err-clause-part
returns-then-is_err-clause-part g c =
    let life = g.J.Naming.life in
    let scripts = map (λ s. s.items) c.args.scripts.items in
    let first : Known = c.crew_of-crew.new.pass in
    let lends = c.crew_of-crew.ensures.lends in
    let jobs : List Job = c.crew_of-crew.result.0 in
    let es : List Entry = c.close.result.course.entries in
    part_before (opening life) g.J.Naming.windows (says_of (start_of life)) (due_of life) (length life.names) scripts c.args.workers first (lends.actor ∙ ap (λ p. p.actor) c.requires.first) (unused_lent c.args.pass first lends (unused_fresh Closer [] g.J.Naming.parts c.args.pass c.requires.first)) es jobs c.crew_of-crew.ensures.crew
    (closed_of life g.J.Naming.windows first c.finish-passes.result.0.items jobs es c.requires.empty c.finish-passes.ensures.passes c.close.ensures.closed)

pub returns-then-ended-clause-part : goal.returns-then-ended-clause-part
returns-then-ended-clause-part g c =
    let life = g.J.Naming.life in
    let scripts = map (λ s. s.items) c.args.scripts.items in
    let first : Known = c.crew_of-crew.new.pass in
    let lends = c.crew_of-crew.ensures.lends in
    let jobs : List Job = c.crew_of-crew.result.0 in
    let done : List Job = c.work.new.self in
    let es : List Entry = c.close-registry.result.course.entries in
    part_after (opening life) g.J.Naming.windows (says_of (start_of life)) (due_of life) (length life.names) scripts c.args.workers first (lends.actor ∙ ap (λ p. p.actor) c.requires.first) (unused_lent c.args.pass first lends (unused_fresh Closer [] g.J.Naming.parts c.args.pass c.requires.first)) es jobs done c.crew_of-crew.ensures.crew c.work.ensures
    (closed_of life g.J.Naming.windows first c.finish-passes-2.result.0.items done es c.requires.empty c.finish-passes-2.ensures.passes c.close-registry.ensures.closed)

pub returns-else-ended-clause-part : goal.returns-else-ended-clause-part
returns-else-ended-clause-part g c =
    let life = g.J.Naming.life in
    let scripts = map (λ s. s.items) c.args.scripts.items in
    let first : Known = c.crew_of-crew.new.pass in
    let lends = c.crew_of-crew.ensures.lends in
    let jobs : List Job = c.crew_of-crew.result.0 in
    let done : List Job = c.work.new.self in
    let es : List Entry = c.close-registry.result.course.entries in
    part_after (opening life) g.J.Naming.windows (says_of (start_of life)) (due_of life) (length life.names) scripts c.args.workers first (lends.actor ∙ ap (λ p. p.actor) c.requires.first) (unused_lent c.args.pass first lends (unused_fresh Closer [] g.J.Naming.parts c.args.pass c.requires.first)) es jobs done c.crew_of-crew.ensures.crew c.work.ensures
    (closed_of life g.J.Naming.windows first c.finish-passes-2.result.0.items done es c.requires.empty c.finish-passes-2.ensures.passes c.close-registry.ensures.closed)

pub returns-then-ended-clause-work : goal.returns-then-ended-clause-work
returns-then-ended-clause-work g c =
    let life = g.J.Naming.life in
    let scripts = map (λ s. s.items) c.args.scripts.items in
    let first : Known = c.crew_of-crew.new.pass in
    let lends = c.crew_of-crew.ensures.lends in
    let jobs : List Job = c.crew_of-crew.result.0 in
    let done : List Job = c.work.new.self in
    let es : List Entry = c.close-registry.result.course.entries in
    let ended : all_ended done ≡ true = sym c.finish-passes-2.ensures.ended ∙ c.if-ended.true in
    let manned : reverse (all_duties scripts c.args.workers) ≡ map duty_of jobs = search rules in
    work_after (opening life) g.J.Naming.windows (says_of (start_of life)) (due_of life) (length life.names) scripts c.args.workers first (lends.actor ∙ ap (λ p. p.actor) c.requires.first) (unused_lent c.args.pass first lends (unused_fresh Closer [] g.J.Naming.parts c.args.pass c.requires.first)) es jobs done c.crew_of-crew.ensures.crew manned c.work.ensures ended c.requires.windows c.requires.workers.0
    (closed_of life g.J.Naming.windows first c.finish-passes-2.result.0.items done es c.requires.empty c.finish-passes-2.ensures.passes c.close-registry.ensures.closed)

pub returns-else-ended-clause-work : goal.returns-else-ended-clause-work
returns-else-ended-clause-work g c = tt
