use Rattle.std.proofs.Common.{rules}
use Rattle.hx_memdisk.proofs.memdisk.MemDisk.make_room.Goals as goal

pub invariant_of-self : goal.invariant_of-self
invariant_of-self c = record {
  every_file = search rules;
  each_after = λ f d known. c.reserve_file.ensures.same _ _ _ (c.args.self.now.each_after f d known);
  counted = c.args.self.now.counted;
  countable = c.args.self.now.countable;
  file_takes = c.reserve_file.ensures.keeps _ _ c.args.self.now.file_takes;
}
