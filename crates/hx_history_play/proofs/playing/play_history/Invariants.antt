-- The lines so far were taken, and a history is open behind them.
use Rattle.std.proofs.Common.{◌≡◌, ◌++◌, length, reverse}
use Rattle.std.specs.Vec.Iter.{into_iter_items, into_iter_len}
use Rattle.hx_history_play.specs.Playing.{IsOpen}
use Rattle.hx_history_play.proofs.playing.play_history.Given as goal

abbrev pub invariant-loop-line : goal.invariant-loop-line
invariant-loop-line g l = record {
  rest : l.fn.lines.items ≡ l.yielded ++ into_iter_items l.line-iterator;
  left : into_iter_len l.line-iterator ≡ length (into_iter_items l.line-iterator);
  open_now : IsOpen g.D.Disk.tells g.D.Disk.time g.D.Disk.past g.D.Disk.now g.D.Disk.failures l.fn.disk (reverse l.yielded) l.account.answers l.account.marks l.history;
}
