use Rattle.std.proofs.Common.{rules, arith}
use Rattle.hx_memdisk.proofs.Touched.{apart_cut}
use Rattle.hx_memdisk.proofs.kept.Kept.cut.Goals as goal

pub invariant_of-self : goal.invariant_of-self
invariant_of-self c = record {
  same = apart_cut _ _ _ _ _ _ _ _ c.truncate.ensures.items (omega arith) (omega arith) (omega arith) (omega arith) c.args.self.now.same;
  room_stable = search rules;
  room_bytes = search rules;
}
