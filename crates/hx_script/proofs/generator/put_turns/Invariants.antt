use Rattle.std.proofs.Common.{◌≡◌, ◌<◌, ◌++◌}
use Rattle.hx_script.specs.Made.{turns, number_after}
use Rattle.hx_script.proofs.generator.put_turns.Given as goal

abbrev pub invariant-loop-done : goal.invariant-loop-done
invariant-loop-done l = record {
  small : l.number < 65537;
  number : l.number ≡ number_after l.n l.done;
  steps : l.steps.items ≡ l.fn.steps.items ++ turns l.n l.done;
}
