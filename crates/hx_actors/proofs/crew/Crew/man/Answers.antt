use Rattle.std.proofs.Common.{◌≡◌, ◌+◌, List, [], ◌∷◌, ◌++◌, length, map, rules, arith, subst, ap, sym, ◌∙◌}
use Rattle.std.specs.Vec.Iter.{into_iter_items}
use Rattle.hx_passes.specs.Rules.{Each}
use Rattle.hx_passes.proofs.Lists.{each_append}
use Rattle.hx_actors.specs.Pieces.{Duty, IsNamed, IsReady, Job, duty, duty_of, job_of, parts_of}
use Rattle.hx_actors.proofs.Jobs.{lends_next, parts_push, whole_next}
use Rattle.hx_actors.proofs.crew.Crew.man.Goals as goal

pub loop-task-preserved : goal.loop-task-preserved
loop-task-preserved g c =
    let names = length g.J.Naming.life.names in
    let i = c.loop-task.invariant in
    let step = c.in-Some.ensures.steps in
    let qs : List Job = c.loop-task.self in
    let rest : List Duty = into_iter_items c.next.new.self in
    let d : Duty = duty c.into_parts-actor.result.0 c.into_parts-actor.result.1.items in
    let q : Job = job_of d c.loop-task.first.seen in
    let grown : c.add.new.self ≡ qs ++ q ∷ [] = c.in_ok-add.ensures.ok in
    let part : c.add.new.first.parts + 1 ≡ c.loop-task.first.parts = c.in_ok-add.ensures.part in
    let parts : parts_of c.add.new.self ≡ parts_of qs + 1 = ap parts_of grown ∙ parts_push qs q in
    let before : map duty_of qs ++ (c.in-Some.task ∷ rest) ≡ c.args.tasks.items = ap (λ (xs : List Duty). map duty_of qs ++ xs) (sym step.0) ∙ i.whole in
    let named : Each (λ x. IsNamed names x.script) (c.in-Some.task ∷ rest) = subst (λ (xs : List Duty). Each (λ x. IsNamed names x.script) xs) step.0 i.named in
    let mine : IsNamed names d.script = subst (λ (x : Duty). IsNamed names x.script) c.into_parts-actor.ensures named.0 in
    record {
      whole = ap (λ (xs : List Job). map duty_of xs ++ rest) grown ∙ whole_next qs q c.in-Some.task rest c.args.tasks.items c.into_parts-actor.ensures before;
      ready = subst (λ (xs : List Job). Each (IsReady names) xs) (sym grown) (each_append (IsReady names) qs (q ∷ []) i.ready (record { unused = search rules; named = mine }, tt));
      named = named.1;
      parts = omega (arith, parts, part, i.parts);
      room = omega (arith, part, i.room, step.1);
      lends = lends_next c.args.first.now c.loop-task.first c.add.new.first i.lends c.in_ok-add.ensures.lends;
    }
