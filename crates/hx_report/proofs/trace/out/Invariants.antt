-- The texts of the lives so far stand there.
use Rattle.std.proofs.Common.{◌≡◌, ◌++◌, ◌+◌, drop, codes}
use Rattle.hx_report.specs.Traces.{AreWhole, life_texts}
use Rattle.hx_report.proofs.trace.out.Given as goal

abbrev pub invariant-loop-index : goal.invariant-loop-index
invariant-loop-index l = record {
  lines : l.text.items ++ life_texts (l.index + 1) (drop l.index l.lives) ≡ codes "hotexit trace 1\n" ++ life_texts 1 l.lives;
  known : AreWhole (drop l.index l.lives);
}
