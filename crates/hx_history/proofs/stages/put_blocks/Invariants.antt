-- The blocks so far.
use Rattle.std.proofs.Common.{◌≡◌}
use Rattle.std.specs.Slice.Iter.{chunks_rest, chunks_size}
use Rattle.hx_history_laws.specs.Blocks.{PutsFront}
use Rattle.hx_history.proofs.stages.put_blocks.Given as goal

abbrev pub invariant-loop-block : goal.invariant-loop-block
invariant-loop-block g l = record {
  can : (goal.iterator-loop-block g).can_next l.block-iterator;
  finite : (goal.iterator-loop-block g).is_finite l.block-iterator;
  size : chunks_size l.block-iterator ≡ 4096;
  front : PutsFront g.D.Disk.tells g.D.Disk.time g.D.Disk.past g.D.Disk.now g.D.Disk.failures l.pair l.initial.vault l.vault l.initial.disk l.disk l.bytes (chunks_rest l.block-iterator);
}
