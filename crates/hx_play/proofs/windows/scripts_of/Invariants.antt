-- The steps so far have been parted.
use Rattle.std.proofs.Common.{◌≡◌, ◌++◌, map, length, vec_len}
use Rattle.std.specs.Vec.Iter.{into_iter_items, into_iter_len}
use Rattle.hx_play.specs.Runs.{scripts_of}
use Rattle.hx_play.proofs.windows.scripts_of.Given as goal

abbrev pub invariant-loop-step : goal.invariant-loop-step
invariant-loop-step l = record {
  rest : l.fn.steps.items ≡ l.yielded ++ into_iter_items l.step-iterator;
  left : into_iter_len l.step-iterator ≡ length (into_iter_items l.step-iterator);
  parted : map (λ s. s.items) l.scripts.items ≡ scripts_of l.yielded;
  all : vec_len l.scripts ≡ 8;
}
