use Rattle.std.proofs.Common.{◌≡◌, []}
use Rattle.hx_tests_low.proofs.passes.four.Given as goal

abbrev pub invariant-loop : goal.invariant-loop
invariant-loop g l = record {
  parts : l.pass.parts ≡ 1;
  here : l.pass.leaves ≡ [];
}
