use Rattle.hx_actors.specs.Work.{IsInOrder}
use Rattle.hx_actors.specs.Pieces.{Keeps}
use Rattle.hx_actors.proofs.pieces.stages.Given as goal

abbrev pub invariant-loop : goal.invariant-loop
invariant-loop g l = record {
  keeps : Keeps l.fn.pass l.pass;
  order : IsInOrder l.pass;
}
