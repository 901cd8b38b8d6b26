-- The lives so far are right.
use Rattle.std.proofs.Common.{◌≡◌, drop}
use Rattle.hx_check.specs.Verdicts.{AreRead, bad_in_lives}
use Rattle.hx_check.proofs.lives.judged.Given as goal

abbrev pub invariant-loop-life : goal.invariant-loop-life
invariant-loop-life l = record {
  rest : bad_in_lives (drop l.life-index l.life-items) ≡ bad_in_lives l.trace.lives;
  read : AreRead (drop l.life-index l.life-items);
}
