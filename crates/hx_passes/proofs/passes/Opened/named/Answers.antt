use Rattle.std.proofs.Common.{arith}
use Rattle.hx_passes.proofs.Steps.{hands_over}
use Rattle.hx_passes.proofs.passes.Opened.named.Goals as goal

pub split_seat-clerk-requires : goal.split_seat-clerk-requires
split_seat-clerk-requires g c = (c.self.invariant.0, omega (arith, c.self.invariant.1), hands_over _ _ _ _)
