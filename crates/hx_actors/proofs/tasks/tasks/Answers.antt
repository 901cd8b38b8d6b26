use Rattle.std.proofs.Common.{arith, ◌≡◌, ◌∙◌, ◌++◌, List, map, reverse, ap, append_assoc}
use Rattle.std.proofs.lemmas.Grind.{common_steps}
use Rattle.hx_events.specs.declared.event.Actor.TheVariants.{Window}
use Rattle.hx_passes.specs.declared.rule.Kind.TheVariants.{Vault, Save}
use Rattle.hx_actors.specs.Pieces.{Duty, duty, windows_from, workers_below}
use Rattle.hx_actors.proofs.tasks.tasks.Goals as goal
use Rattle.hx_actors.proofs.tasks.tasks.Goals.{then-not-is_empty+in_ok-push, else-not-is_empty}

pub loop-script-preserved : goal.loop-script-preserved
loop-script-preserved c = elim c.if-not-is_empty.branch [
  | then-not-is_empty+in_ok-push w ↦ let own : w.new.result ≡ duty (Window c.loop-script.number) c.in-Some.script.items = w.new.ensures in grind (arith, common_steps)
  | else-not-is_empty w ↦ grind (arith, common_steps)
]

pub returns-clause-duties : goal.returns-clause-duties
returns-clause-duties c =
    let windows : List Duty = windows_from 0 (map (λ s. s.items) c.args.scripts.items) in
    let writers : List Duty = workers_below Vault c.args.workers in
    let savers : List Duty = workers_below Save c.args.workers in
    let all : c.loop-script.tasks.items ≡ windows = grind (arith, common_steps) in
    let more : c.add_workers.new.tasks.items ≡ windows ++ writers = c.in_ok-add_workers.ensures.duties ∙ ap (λ (l : List Duty). l ++ writers) all in
    c.reverse.ensures.items ∙ ap reverse (c.in_ok-add_workers-2.ensures.duties ∙ ap (λ (l : List Duty). l ++ savers) more ∙ append_assoc windows writers savers)
