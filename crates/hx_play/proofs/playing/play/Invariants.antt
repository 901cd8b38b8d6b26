-- The steps so far were taken, and a life runs after them.
use Rattle.std.proofs.Common.{◌≡◌, ◌<◌, ◌≤◌, ◌++◌, All, length, reverse}
use Rattle.std.specs.Vec.Iter.{into_iter_items, into_iter_len}
use Rattle.hx_lives.specs.Calls.{HasGoneOn}
use Rattle.hx_script.specs.Scripts.{IsStepOf}
use Rattle.hx_play.specs.Running.{IsRunning}
use Rattle.hx_play.proofs.playing.play.Given as goal

abbrev pub invariant-loop-step : goal.invariant-loop-step
invariant-loop-step g l = record {
  rest : l.fn.steps.items ≡ l.yielded ++ into_iter_items l.step-iterator;
  left : into_iter_len l.step-iterator ≡ length (into_iter_items l.step-iterator);
  room : 0 < l.lives.room;
  named : length l.names ≤ length l.registry.course.names;
  known : All (IsStepOf l.names) (into_iter_items l.step-iterator);
  runs : HasGoneOn g.D.Disk.time g.D.Disk.past g.D.Disk.failures l.fn.disk l.registry.disk;
  running : IsRunning g.D.Disk.picked g.D.Disk.tells g.D.Disk.time g.D.Disk.past l.guarded l.names (g.D.Disk.time l.fn.disk) (g.D.Disk.failures l.fn.disk) (reverse l.yielded) l.lives.lives l.registry;
}
