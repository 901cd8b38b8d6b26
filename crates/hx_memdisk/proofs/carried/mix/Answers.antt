use Rattle.std.proofs.Common.{arith, refl}
use Rattle.hx_memdisk.proofs.Touched.{mix_begins, mix_goes_on, mix_ends}
use Rattle.hx_memdisk.proofs.carried.mix.Goals as goal

pub loop-i-init : goal.loop-i-init
loop-i-init c = mix_begins _ _ _ _ _ c.requires

pub loop-i-preserved : goal.loop-i-preserved
loop-i-preserved c = mix_goes_on _ _ _ _ _ _ _ _ (omega arith) c.loop-i.invariant refl c.chosen_byte.ensures refl

pub returns : goal.returns
returns c = mix_ends _ _ _ _ _ _ _ c.requires (omega arith) c.loop-i.invariant
