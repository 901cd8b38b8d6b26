use Rattle.hx_actors.specs.Pieces.{IsNamed}
use Rattle.hx_tests_middle.proofs.actors.script.Given as goal

abbrev pub invariant-loop-word : goal.invariant-loop-word
invariant-loop-word l = IsNamed 2 l.script.items
