use Rattle.std.proofs.Common.{rules, arith}
use Rattle.hx_memdisk.proofs.Steps.{length_new}
use Rattle.hx_memdisk.proofs.Calls.{crashed, state_crash, each_crash}
use Rattle.hx_memdisk.specs.MemDisk.{files_of}
use Rattle.hx_memdisk.proofs.memdisk.MemDiskDisk.crash.Goals as goal

pub invariant_of-self : goal.invariant_of-self
invariant_of-self c = record {
  every_file = search rules;
  each_after = each_crash _ _ _ _ _ c.extend.ensures c.args.self.now.each_after (λ f d known. c.crash_files.ensures.each f d (omega (arith, known, c.args.self.now.every_file)));
  counted = omega (arith, c.args.self.now.counted, length_new _ _ _ c.extend.ensures);
  countable = omega arith;
  file_takes = λ d inside. record { bytes = omega arith; stable = omega arith };
}

pub returns-clause-ok : goal.returns-clause-ok
returns-clause-ok c = λ f. crashed c.args.pick (files_of c.args.self.now f) _ (state_crash _ _ _ c.extend.ensures f)

pub returns-clause-files : goal.returns-clause-files
returns-clause-files c = λ f. state_crash _ _ _ c.extend.ensures f
