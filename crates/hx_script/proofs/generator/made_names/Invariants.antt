use Rattle.std.proofs.Common.{◌≡◌}
use Rattle.hx_script.specs.Made.{made_names}
use Rattle.hx_script.proofs.generator.made_names.Given as goal

abbrev pub invariant-loop-number : goal.invariant-loop-number
invariant-loop-number l = l.names ≡ made_names l.number
