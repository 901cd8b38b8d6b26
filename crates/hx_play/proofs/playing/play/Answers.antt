use Rattle.std.proofs.Common.{rules, ◌≡◌, ◌∙◌, ◌++◌, true, List, [], ◌∷◌, All, length, reverse, ap, sym, subst, inl, inr, ⊎_elim, arith}
use Rattle.std.specs.Vec.Iter.{into_iter_items}
use Rattle.hx_events.specs.declared.life.Life.{Life}
use Rattle.hx_script.specs.declared.script.Step.{Step}
use Rattle.hx_script.specs.Follows.{Follows, StopsAtOpening}
use Rattle.hx_script.specs.Scripts.{IsStepOf}
use Rattle.hx_play.specs.declared.playing.Halt.TheVariants.{OpenFault, NoMemory}
use Rattle.hx_play.specs.Over.{AreOver}
use Rattle.hx_play.specs.Running.{IsRunning, IsCutShort}
use Rattle.hx_play.proofs.Disks.{gone_on_joined}
use Rattle.hx_play.proofs.Halts.{all_tail, behind_one, none_left, stops_at_end, stops_at_opening, stops_first, stops_in_life, taken_more}
use Rattle.hx_play.proofs.LifeSteps.{all_done, cut_short, cutting_end, started}
use Rattle.hx_play.proofs.playing.play.Goals as goal

-- the first vault wasn't opened
pub returns-in-Err-clause-at_opening : goal.returns-in-Err-clause-at_opening
returns-in-Err-clause-at_opening g c = λ fault.
    subst (λ (ls : List Life). StopsAtOpening c.args.guarded c.args.names.now c.args.steps.items ls) (sym c.in-Err.ensures.lives) (stops_first g.D.Disk.picked g.D.Disk.tells g.D.Disk.time g.D.Disk.past g.D.Disk.failures c.args.guarded c.args.names.now (g.D.Disk.time c.args.disk) (g.D.Disk.failures c.args.disk) c.args.steps.items c.new-lives.result.lives c.args.disk (started g.D.Disk.picked g.D.Disk.tells g.D.Disk.time g.D.Disk.past g.D.Disk.failures c.args.guarded c.args.names.now c.new-lives.result.lives c.args.disk c.new-lives.ensures))

pub returns-in-Err-clause-for_memory : goal.returns-in-Err-clause-for_memory
returns-in-Err-clause-for_memory g c = λ memory.
    inl (subst (λ (ls : List Life). StopsAtOpening c.args.guarded c.args.names.now c.args.steps.items ls) (sym c.in-Err.ensures.lives) (stops_first g.D.Disk.picked g.D.Disk.tells g.D.Disk.time g.D.Disk.past g.D.Disk.failures c.args.guarded c.args.names.now (g.D.Disk.time c.args.disk) (g.D.Disk.failures c.args.disk) c.args.steps.items c.new-lives.result.lives c.args.disk (started g.D.Disk.picked g.D.Disk.tells g.D.Disk.time g.D.Disk.past g.D.Disk.failures c.args.guarded c.args.names.now c.new-lives.result.lives c.args.disk c.new-lives.ensures)))

pub returns-in-Err-clause-over : goal.returns-in-Err-clause-over
returns-in-Err-clause-over g c =
    subst (λ (ls : List Life). AreOver g.D.Disk.picked g.D.Disk.tells (g.D.Disk.past c.in-Err.field-0.disk) (g.D.Disk.time c.args.disk) (g.D.Disk.failures c.args.disk) (g.D.Disk.time c.in-Err.field-0.disk) (g.D.Disk.failures c.in-Err.field-0.disk) ls) (sym c.in-Err.ensures.lives)
    (c.in-Err.ensures.stops (g.D.Disk.time c.args.disk) (g.D.Disk.failures c.args.disk) [] (started g.D.Disk.picked g.D.Disk.tells g.D.Disk.time g.D.Disk.past g.D.Disk.failures c.args.guarded c.args.names.now c.new-lives.result.lives c.args.disk c.new-lives.ensures)).over

-- the steps, one by one
pub loop-step-init : goal.loop-step-init
loop-step-init g c =
    let whole : into_iter_items c.into_iter-step-iterator.result ≡ c.args.steps.items = c.into_iter-step-iterator.ensures.into_iter_gives.0 in
    record {
      rest = sym whole;
      left = search rules;
      room = c.in-Ok.ensures.room;
      named = c.in-Ok.ensures.named;
      known = subst (λ (l : List Step). All (IsStepOf c.args.names.now) l) (sym whole) c.requires.known;
      runs = c.in-Ok.ensures.runs;
      running = subst (λ (ls : List Life). IsRunning g.D.Disk.picked g.D.Disk.tells g.D.Disk.time g.D.Disk.past c.args.guarded c.args.names.now (g.D.Disk.time c.args.disk) (g.D.Disk.failures c.args.disk) [] ls c.in-Ok.registry) (sym c.in-Ok.ensures.lives)
          (c.in-Ok.ensures.begins (g.D.Disk.time c.args.disk) (g.D.Disk.failures c.args.disk) [] (started g.D.Disk.picked g.D.Disk.tells g.D.Disk.time g.D.Disk.past g.D.Disk.failures c.args.guarded c.args.names.now c.new-lives.result.lives c.args.disk c.new-lives.ensures));
    }

pub loop-step-preserved : goal.loop-step-preserved
loop-step-preserved g c =
    let next : into_iter_items c.loop-step.step-iterator ≡ c.in-Some.step ∷ into_iter_items c.next.new.self = c.in-Some.ensures.steps.0 in
    record {
      rest = c.loop-step.invariant.rest ∙ ap (λ (l : List Step). c.loop-step.yielded ++ l) next ∙ behind_one c.loop-step.yielded c.in-Some.step (into_iter_items c.next.new.self);
      left = omega (arith, ap length next, c.loop-step.invariant.left, c.in-Some.ensures.steps.1);
      room = c.in-Ok-take_step.ensures.room;
      named = c.in-Ok-take_step.ensures.named;
      known = all_tail (IsStepOf c.args.names.now) c.in-Some.step (into_iter_items c.next.new.self) (subst (λ (l : List Step). All (IsStepOf c.args.names.now) l) next c.loop-step.invariant.known);
      runs = gone_on_joined g.D.Disk.time g.D.Disk.past g.D.Disk.failures c.args.disk c.loop-step.registry.disk c.in-Ok-take_step.next.disk c.loop-step.invariant.runs c.in-Ok-take_step.ensures.runs;
      running = subst (λ (taken : List Step). IsRunning g.D.Disk.picked g.D.Disk.tells g.D.Disk.time g.D.Disk.past c.args.guarded c.args.names.now (g.D.Disk.time c.args.disk) (g.D.Disk.failures c.args.disk) taken c.take_step.new.lives.lives c.in-Ok-take_step.next) (sym (taken_more c.loop-step.yielded c.in-Some.step))
          (c.in-Ok-take_step.ensures.running (g.D.Disk.time c.args.disk) (g.D.Disk.failures c.args.disk) (reverse c.loop-step.yielded) c.loop-step.invariant.running);
    }

-- a step at which it stopped
pub returns-in-Err-take_step-clause-at_opening : goal.returns-in-Err-take_step-clause-at_opening
returns-in-Err-take_step-clause-at_opening g c = λ fault.
    let all : c.args.steps.items ≡ c.loop-step.yielded ++ (c.in-Some.step ∷ into_iter_items c.next.new.self) = c.loop-step.invariant.rest ∙ ap (λ (l : List Step). c.loop-step.yielded ++ l) c.in-Some.ensures.steps.0 in
    ⊎_elim
    (λ between. stops_at_opening g.D.Disk.picked g.D.Disk.tells g.D.Disk.time g.D.Disk.past g.D.Disk.failures c.args.guarded c.args.names.now (g.D.Disk.time c.args.disk) (g.D.Disk.failures c.args.disk) c.args.steps.items c.loop-step.yielded (into_iter_items c.next.new.self) c.in-Some.step c.take_step.new.lives.lives c.in-Err-take_step.field-0.disk all between)
    (λ short. absurd (let odd : OpenFault ≡ NoMemory = sym fault ∙ short.0 in cc))
    (c.in-Err-take_step.ensures.stopped (g.D.Disk.time c.args.disk) (g.D.Disk.failures c.args.disk) (reverse c.loop-step.yielded) c.loop-step.invariant.running)

pub returns-in-Err-take_step-clause-for_memory : goal.returns-in-Err-take_step-clause-for_memory
returns-in-Err-take_step-clause-for_memory g c = λ memory.
    let all : c.args.steps.items ≡ c.loop-step.yielded ++ (c.in-Some.step ∷ into_iter_items c.next.new.self) = c.loop-step.invariant.rest ∙ ap (λ (l : List Step). c.loop-step.yielded ++ l) c.in-Some.ensures.steps.0 in
    ⊎_elim
    (λ between. inl (stops_at_opening g.D.Disk.picked g.D.Disk.tells g.D.Disk.time g.D.Disk.past g.D.Disk.failures c.args.guarded c.args.names.now (g.D.Disk.time c.args.disk) (g.D.Disk.failures c.args.disk) c.args.steps.items c.loop-step.yielded (into_iter_items c.next.new.self) c.in-Some.step c.take_step.new.lives.lives c.in-Err-take_step.field-0.disk all between))
    (λ short. inr (stops_in_life g.D.Disk.picked g.D.Disk.tells g.D.Disk.time g.D.Disk.past g.D.Disk.failures c.args.guarded c.args.names.now (g.D.Disk.time c.args.disk) (g.D.Disk.failures c.args.disk) c.args.steps.items c.loop-step.yielded (into_iter_items c.next.new.self) c.in-Some.step c.take_step.new.lives.lives c.in-Err-take_step.field-0.disk all short.1))
    (c.in-Err-take_step.ensures.stopped (g.D.Disk.time c.args.disk) (g.D.Disk.failures c.args.disk) (reverse c.loop-step.yielded) c.loop-step.invariant.running)

pub returns-in-Err-take_step-clause-over : goal.returns-in-Err-take_step-clause-over
returns-in-Err-take_step-clause-over g c =
    ⊎_elim (λ between. between.over) (λ short. short.1.over)
    (c.in-Err-take_step.ensures.stopped (g.D.Disk.time c.args.disk) (g.D.Disk.failures c.args.disk) (reverse c.loop-step.yielded) c.loop-step.invariant.running)

-- the end of the last life
pub returns-in-Ok-quit-clause-done : goal.returns-in-Ok-quit-clause-done
returns-in-Ok-quit-clause-done g c = λ is.
    let all : c.args.steps.items ≡ c.loop-step.yielded = c.loop-step.invariant.rest ∙ none_left c.loop-step.yielded (into_iter_items c.loop-step.step-iterator) (omega (arith, c.loop-step.invariant.left, c.in-None.ensures.steps.0)) in
    subst (λ (steps : List Step). Follows c.args.guarded c.args.names.now (reverse steps) c.end_life.new.lives.lives) (sym all)
    ((all_done g.D.Disk.picked g.D.Disk.tells g.D.Disk.time g.D.Disk.past g.D.Disk.failures c.args.guarded c.args.names.now (g.D.Disk.time c.args.disk) (g.D.Disk.failures c.args.disk) (reverse c.loop-step.yielded) c.loop-step.lives.lives c.end_life.new.lives.lives c.loop-step.registry c.quit.new.self c.end_life.result c.loop-step.invariant.running
    c.in-Ok-quit.ensures.ended c.quit.ensures.runs c.end_life.ensures.disk c.end_life.ensures.ends).0)

pub returns-in-Ok-quit-clause-over : goal.returns-in-Ok-quit-clause-over
returns-in-Ok-quit-clause-over g c =
    (all_done g.D.Disk.picked g.D.Disk.tells g.D.Disk.time g.D.Disk.past g.D.Disk.failures c.args.guarded c.args.names.now (g.D.Disk.time c.args.disk) (g.D.Disk.failures c.args.disk) (reverse c.loop-step.yielded) c.loop-step.lives.lives c.end_life.new.lives.lives c.loop-step.registry c.quit.new.self c.end_life.result c.loop-step.invariant.running
    c.in-Ok-quit.ensures.ended c.quit.ensures.runs c.end_life.ensures.disk c.end_life.ensures.ends).1

pub returns-in-Err-quit-clause-for_memory : goal.returns-in-Err-quit-clause-for_memory
returns-in-Err-quit-clause-for_memory g c = λ memory.
    let all : c.args.steps.items ≡ c.loop-step.yielded = c.loop-step.invariant.rest ∙ none_left c.loop-step.yielded (into_iter_items c.loop-step.step-iterator) (omega (arith, c.loop-step.invariant.left, c.in-None.ensures.steps.0)) in
    let short : IsCutShort g.D.Disk.picked g.D.Disk.tells g.D.Disk.time g.D.Disk.past g.D.Disk.failures c.args.guarded c.args.names.now (g.D.Disk.time c.args.disk) (g.D.Disk.failures c.args.disk) true (reverse c.loop-step.yielded) c.cut_off-halt.new.lives.lives c.cut_off-halt.result.disk =
    cut_short g.D.Disk.picked g.D.Disk.tells g.D.Disk.time g.D.Disk.past g.D.Disk.failures c.args.guarded c.args.names.now (g.D.Disk.time c.args.disk) (g.D.Disk.failures c.args.disk) true (reverse c.loop-step.yielded) c.loop-step.lives.lives c.cut_off-halt.new.lives.lives c.quit.new.self c.cut_off-halt.result.disk
    (cutting_end g.D.Disk.picked g.D.Disk.tells g.D.Disk.time g.D.Disk.past g.D.Disk.failures c.args.guarded c.args.names.now (g.D.Disk.time c.args.disk) (g.D.Disk.failures c.args.disk) (reverse c.loop-step.yielded) c.loop-step.lives.lives c.loop-step.registry c.quit.new.self c.loop-step.invariant.running c.in-Err-quit.ensures.err c.quit.ensures.runs)
    c.cut_off-halt.ensures.disk c.cut_off-halt.ensures.ends in
    inr (stops_at_end g.D.Disk.picked g.D.Disk.tells g.D.Disk.time g.D.Disk.past g.D.Disk.failures c.args.guarded c.args.names.now (g.D.Disk.time c.args.disk) (g.D.Disk.failures c.args.disk) c.args.steps.items c.loop-step.yielded c.cut_off-halt.new.lives.lives c.cut_off-halt.result.disk all short)

pub returns-in-Err-quit-clause-over : goal.returns-in-Err-quit-clause-over
returns-in-Err-quit-clause-over g c =
    (cut_short g.D.Disk.picked g.D.Disk.tells g.D.Disk.time g.D.Disk.past g.D.Disk.failures c.args.guarded c.args.names.now (g.D.Disk.time c.args.disk) (g.D.Disk.failures c.args.disk) true (reverse c.loop-step.yielded) c.loop-step.lives.lives c.cut_off-halt.new.lives.lives c.quit.new.self c.cut_off-halt.result.disk
    (cutting_end g.D.Disk.picked g.D.Disk.tells g.D.Disk.time g.D.Disk.past g.D.Disk.failures c.args.guarded c.args.names.now (g.D.Disk.time c.args.disk) (g.D.Disk.failures c.args.disk) (reverse c.loop-step.yielded) c.loop-step.lives.lives c.loop-step.registry c.quit.new.self c.loop-step.invariant.running c.in-Err-quit.ensures.err c.quit.ensures.runs)
    c.cut_off-halt.ensures.disk c.cut_off-halt.ensures.ends).over
