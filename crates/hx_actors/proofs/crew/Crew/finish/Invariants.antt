use Rattle.std.specs.Prelude.{◌≡◌, ◌≤◌, ◌+◌, ◌++◌, ◌&&◌, map, vec_len, vec_capacity}
use Rattle.std.specs.Vec.Iter.{into_iter_items, into_iter_len}
use Rattle.hx_actors.specs.Pieces.{all_ended}
use Rattle.hx_actors.proofs.crew.Crew.finish.Given as goal

abbrev pub invariant-loop-piece : goal.invariant-loop-piece
invariant-loop-piece g l = record {
  passes : l.passes.items ++ map (λ j. j.pass) (into_iter_items l.piece-iterator) ≡ map (λ j. j.pass) l.fn.self;
  ended : (l.ended && all_ended (into_iter_items l.piece-iterator)) ≡ all_ended l.fn.self;
  room : vec_len l.passes + into_iter_len l.piece-iterator ≤ vec_capacity l.passes;
}
