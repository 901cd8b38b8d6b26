use Rattle.std.proofs.Common.{◌≡◌, ◌++◌, take, drop}
use Rattle.hx_memdisk.specs.Replay.{mixed}
use Rattle.hx_memdisk.proofs.carried.mix.Given as goal

abbrev pub invariant-loop-i : goal.invariant-loop-i
invariant-loop-i l = l.reading ≡ take l.i (mixed l.pick l.fn.reading l.stable) ++ drop l.i l.fn.reading
