use Rattle.std.specs.Prelude.{◌≡◌, ◌≤◌, ◌+◌, ◌++◌, vec_len, map}
use Rattle.std.specs.Vec.Iter.{into_iter_items, into_iter_len}
use Rattle.hx_actors.specs.Pieces.{windows_from}
use Rattle.hx_actors.proofs.tasks.tasks.Given as goal

abbrev pub invariant-loop-script : goal.invariant-loop-script
invariant-loop-script l = record {
  duties : l.tasks.items ++ windows_from l.number (map (λ s. s.items) (into_iter_items l.script-iterator)) ≡ windows_from 0 (map (λ s. s.items) l.fn.scripts.items);
  count : l.number + into_iter_len l.script-iterator ≡ vec_len l.fn.scripts;
  few : vec_len l.tasks ≤ l.number;
}
