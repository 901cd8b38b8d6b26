use Rattle.std.proofs.Common.{◌∙◌, List, Result, Ok, Err, IfOk, ap}
use Rattle.hx_events.specs.declared.event.Command.{Command}
use Rattle.hx_actors.specs.Work.{EndsOver}
use Rattle.hx_actors.specs.Pieces.{IsThroughBy, works}
use Rattle.hx_actors.proofs.Steps.{worker_done, worker_sound, worker_through}
use Rattle.hx_actors.proofs.pieces.worker.Goals as goal

pub returns-clause-sound : goal.returns-clause-sound
returns-clause-sound g c = λ script. worker_sound c.args.kind script c.stages.new.pass (ap (works c.args.kind) c.stages.ensures.keeps.actor ∙ c.requires.works) c.stages.ensures.order

pub returns-clause-done : goal.returns-clause-done
returns-clause-done g c = worker_done c.args.kind c.stages.new.pass (ap (works c.args.kind) c.stages.ensures.keeps.actor ∙ c.requires.works) (c.stages.ensures.keeps.leaves ∙ c.requires.unused.leaves)

on_ok : {T E : Type 0} (r : Result T E) (P Q : Type 0) → (P → Q) → IfOk r (λ _. P) → IfOk r (λ _. Q)
on_ok (Ok x) P Q next is = next is
on_ok (Err e) P Q next is = tt

pub returns-clause-through : goal.returns-clause-through
returns-clause-through g c =
    on_ok c.stages.result (EndsOver g.J.Naming.windows c.args.kind c.stages.new.pass.notes) ((script : List Command) → IsThroughBy g.J.Naming.windows script c.stages.new.pass)
    (λ over script. worker_through g.J.Naming.windows c.args.kind script c.stages.new.pass (ap (works c.args.kind) c.stages.ensures.keeps.actor ∙ c.requires.works) over) c.stages.ensures.over
