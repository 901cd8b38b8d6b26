use Rattle.std.proofs.Common.{rules, arith, ap, length}
use Rattle.hx_disk.specs.Overlay.{length-overlaid}
use Rattle.hx_memdisk.proofs.Touched.{apart_written}
use Rattle.hx_memdisk.proofs.kept.Kept.write.Goals as goal

pub invariant_of-self : goal.invariant_of-self
invariant_of-self c = record {
  same = apart_written _ _ _ _ _ _ _ _ _ c.requires.within c.in-Ok.ensures.ok (omega arith) (omega arith) (omega arith) (omega arith) c.args.self.now.same;
  room_stable = omega (arith, ap length c.in-Ok.ensures.ok, length-overlaid c.args.self.now.bytes.items c.args.at c.part_of-part.result.now, c.requires.room.stable, c.args.self.now.room_stable, c.part_of-part.ensures.len);
  room_bytes = omega (arith, c.overlay.ensures.capacity, c.args.self.now.room_bytes);
}

pub invariant_of-self-then-ok-2 : goal.invariant_of-self-then-ok-2
invariant_of-self-then-ok-2 c = record {
  same = apart_written _ _ _ _ _ _ _ _ _ c.requires.within c.in-Ok.ensures.ok (omega arith) (omega arith) (omega arith) (omega arith) c.args.self.now.same;
  room_stable = omega (arith, ap length c.in-Ok.ensures.ok, length-overlaid c.args.self.now.bytes.items c.args.at c.part_of-part.result.now, c.requires.room.stable, c.args.self.now.room_stable, c.part_of-part.ensures.len);
  room_bytes = omega (arith, c.overlay.ensures.capacity, c.args.self.now.room_bytes);
}
