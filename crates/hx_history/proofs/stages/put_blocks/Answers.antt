use Rattle.std.proofs.Common.{rules, ◌∙◌}
use Rattle.std.specs.Slice.Iter.{chunks_rest}
use Rattle.hx_history_laws.specs.Blocks.{puts_none, puts_more, puts_all, next_begun, next_small, next_side, front_run}
use Rattle.hx_history_laws.specs.Stages.{put_owns}
use Rattle.hx_history.proofs.stages.put_blocks.Goals as goal

pub loop-block-init : goal.loop-block-init
loop-block-init g c = record {
  can = search rules;
  finite = tt;
  size = search rules;
  front = puts_none g.D.Disk.tells g.D.Disk.time g.D.Disk.past g.D.Disk.now g.met.D.Disk.present g.D.Disk.failures c.args.pair c.args.vault.now c.args.disk.now c.args.bytes.now _ c.requires.begun (search rules);
}

pub put_block-requires-clause-count : goal.put_block-requires-clause-count
put_block-requires-clause-count g c = c.loop-block.invariant.front.moves.count ∙ c.requires.count

pub put_block-requires-clause-taken : goal.put_block-requires-clause-taken
put_block-requires-clause-taken g c = c.loop-block.invariant.front.moves.used ∙ c.requires.taken

pub put_block-requires-clause-begun : goal.put_block-requires-clause-begun
put_block-requires-clause-begun g c = next_begun g.D.Disk.tells g.D.Disk.time g.D.Disk.past g.D.Disk.now g.met.D.Disk.present g.D.Disk.failures c.args.pair c.args.vault.now c.loop-block.vault c.args.disk.now c.loop-block.disk c.args.bytes.now (chunks_rest c.loop-block.block-iterator) c.loop-block.invariant.front

pub put_block-requires-clause-small : goal.put_block-requires-clause-small
put_block-requires-clause-small g c = next_small g.D.Disk.tells g.D.Disk.time g.D.Disk.past g.D.Disk.now g.met.D.Disk.present g.D.Disk.failures c.args.pair c.args.vault.now c.loop-block.vault c.args.disk.now c.loop-block.disk c.args.bytes.now (chunks_rest c.loop-block.block-iterator) c.loop-block.invariant.front
    c.in-Some.block.now (chunks_rest c.next.new.self) c.in-Some.ensures.steps.1.0 c.requires.small

pub put_block-requires-clause-side : goal.put_block-requires-clause-side
put_block-requires-clause-side g c = λ told. next_side g.D.Disk.tells g.D.Disk.time g.D.Disk.past g.D.Disk.now g.met.D.Disk.present g.D.Disk.failures c.args.pair c.args.vault.now c.loop-block.vault c.args.disk.now c.loop-block.disk c.args.bytes.now (chunks_rest c.loop-block.block-iterator) c.loop-block.invariant.front
    told (c.requires.side told)

pub loop-block-preserved : goal.loop-block-preserved
loop-block-preserved g c = record {
  can = search rules;
  finite = tt;
  size = c.in-Some.ensures.steps.0 ∙ c.loop-block.invariant.size;
  front = puts_more g.D.Disk.tells g.D.Disk.time g.D.Disk.past g.D.Disk.now g.met.D.Disk.present g.D.Disk.failures c.args.pair c.args.vault.now c.loop-block.vault c.args.disk.now c.loop-block.disk c.args.bytes.now (chunks_rest c.loop-block.block-iterator) c.loop-block.invariant.front
      c.put_block.new.vault c.put_block.new.disk c.in-Some.block.now (chunks_rest c.next.new.self) c.in-Some.ensures.steps.1.0 c.put_block.ensures.moves c.put_block.ensures.stamp c.in_ok-put_block.ensures.placed c.in_ok-put_block.ensures.no_fault
      c.in_ok-put_block.ensures.run c.put_block.ensures.stamps c.in_ok-put_block.ensures.ready;
}

pub returns-in_err-put_block-clause-run : goal.returns-in_err-put_block-clause-run
returns-in_err-put_block-clause-run g c = λ told. front_run g.D.Disk.tells g.D.Disk.time g.D.Disk.past g.D.Disk.now g.met.D.Disk.present g.D.Disk.failures c.args.pair c.args.vault.now c.loop-block.vault c.args.disk.now c.loop-block.disk c.args.bytes.now (chunks_rest c.loop-block.block-iterator) c.loop-block.invariant.front
    c.put_block.new.disk told (c.in_err-put_block.ensures.run told)

pub returns-in_err-put_block-clause-kept : goal.returns-in_err-put_block-clause-kept
returns-in_err-put_block-clause-kept g c = λ told resource was put is. c.in_err-put_block.ensures.kept told resource was _ (c.loop-block.invariant.front.ready told resource was put is)

pub returns-clause-run : goal.returns-clause-run
returns-clause-run g c = λ told. c.loop-block.invariant.front.run told

pub returns-clause-ready : goal.returns-clause-ready
returns-clause-ready g c = λ told. puts_all g.D.Disk.tells g.D.Disk.time g.D.Disk.past g.D.Disk.now g.met.D.Disk.present g.D.Disk.failures c.args.pair c.args.vault.now c.loop-block.vault c.args.disk.now c.loop-block.disk c.args.bytes.now (chunks_rest c.loop-block.block-iterator) c.loop-block.invariant.front
    c.in-None.ensures.steps.1.0 told

pub returns-clause-kept : goal.returns-clause-kept
returns-clause-kept g c = λ told resource was put is. put_owns resource was _ c.loop-block.vault c.args.pair (g.D.Disk.now c.loop-block.disk) (c.loop-block.invariant.front.ready told resource was put is)

pub returns-in_err-put_block-clause-stamps : goal.returns-in_err-put_block-clause-stamps
returns-in_err-put_block-clause-stamps g c = λ told own stamped. c.put_block.ensures.stamps told own (c.loop-block.invariant.front.stamped told own stamped)

pub returns-clause-stamps : goal.returns-clause-stamps
returns-clause-stamps g c = λ told own stamped. c.loop-block.invariant.front.stamped told own stamped
