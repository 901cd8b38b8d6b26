use Rattle.std.proofs.Common.{◌≡◌, ◌≤◌, ◌+◌, drop, map}
use Rattle.hx_actors.specs.Work.{fulls}
use Rattle.hx_actors.proofs.tasks.windows_at_work.Given as goal

abbrev pub invariant-loop-script : goal.invariant-loop-script
invariant-loop-script l = record {
  counted : l.count + fulls (map (λ s. s.items) (drop l.script-index l.scripts)) ≡ fulls (map (λ s. s.items) l.scripts);
  few : l.count ≤ l.script-index;
}
