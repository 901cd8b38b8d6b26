use Rattle.std.proofs.Common.{arith}
use Rattle.std.proofs.Math.Facts.{Fits-lt-pow}
use Rattle.std.specs.Int.{w64}
use Rattle.std.proofs.lemmas.Nat.Bits.{bit_at-trailing_zeros}
use Rattle.hx_tracker.proofs.index.lowest_bit.Goals as goal

pub returns-clause-set : goal.returns-clause-set
returns-clause-set c = (bit_at-trailing_zeros w64 c.args.word (grind (arith, c.if-word-eq0.false)) (Fits-lt-pow c.ranges.word)).1

pub returns-clause-below : goal.returns-clause-below
returns-clause-below c = (bit_at-trailing_zeros w64 c.args.word (grind (arith, c.if-word-eq0.false)) (Fits-lt-pow c.ranges.word)).2
