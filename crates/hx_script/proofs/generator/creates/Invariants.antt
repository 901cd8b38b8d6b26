use Rattle.std.proofs.Common.{◌≡◌}
use Rattle.hx_script.specs.Made.{creates}
use Rattle.hx_script.proofs.generator.creates.Given as goal

abbrev pub invariant-loop-number : goal.invariant-loop-number
invariant-loop-number l = l.steps.items ≡ creates l.number
