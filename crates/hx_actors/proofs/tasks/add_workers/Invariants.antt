use Rattle.std.specs.Prelude.{◌≡◌, ◌+◌, ◌++◌, vec_len}
use Rattle.hx_actors.specs.Pieces.{workers_below}
use Rattle.hx_actors.proofs.tasks.add_workers.Given as goal

abbrev pub invariant-loop-number : goal.invariant-loop-number
invariant-loop-number l = record {
  duties : l.tasks.items ≡ l.fn.tasks.items ++ workers_below l.kind l.number;
  count : vec_len l.tasks ≡ vec_len l.fn.tasks + l.number;
}
