use Rattle.std.proofs.Common.{rules, arith, ◌<◌, length, true, false, sym, ◌∙◌, ap}
use Rattle.hx_memdisk.proofs.Steps.{length_new, past_kept, others_same}
use Rattle.hx_memdisk.proofs.Calls.{takes_set, each_write, state_write, wrote, tried}
use Rattle.hx_memdisk.specs.MemDisk.{files_of}
use Rattle.hx_memdisk.specs.Replay.{write_after}
use Rattle.hx_memdisk.proofs.memdisk.MemDiskDisk.write_at.Goals as goal

pub invariant_of-self : goal.invariant_of-self
invariant_of-self c =
    let within : c.number-number.result < length c.args.self.now.files.items = search rules in
    record {
      every_file = search rules;
      each_after = each_write _ _ _ _ _ _ within c.number-number.ensures.known c.index_mut.ensures.value c.args.self.now.each_after _ _ _ _ c.extend.ensures c.write.ensures.bytes c.write.ensures.stat c.write.ensures.stable;
      counted = omega (arith, c.args.self.now.counted, length_new _ _ _ c.extend.ensures);
      countable = omega (arith, c.args.self.now.countable);
      file_takes = takes_set _ _ _ _ _ _ within c.index_mut.ensures.value c.write.ensures.keeps c.args.self.now.file_takes;
    }

pub invariant_of-self-else-ok : goal.invariant_of-self-else-ok
invariant_of-self-else-ok c =
    let within : c.number-number.result < length c.args.self.now.files.items = search rules in
    record {
      every_file = search rules;
      each_after = each_write _ _ _ _ _ _ within c.number-number.ensures.known c.index_mut.ensures.value c.args.self.now.each_after _ _ _ _ c.extend.ensures c.write.ensures.bytes c.write.ensures.stat c.write.ensures.stable;
      counted = omega (arith, c.args.self.now.counted, length_new _ _ _ c.extend.ensures);
      countable = omega (arith, c.args.self.now.countable);
      file_takes = takes_set _ _ _ _ _ _ within c.index_mut.ensures.value c.write.ensures.keeps c.args.self.now.file_takes;
    }

pub returns-then-ok-clause-file : goal.returns-then-ok-clause-file
returns-then-ok-clause-file c = state_write _ _ _ _ _ _ _ _ c.number-number.ensures.value c.extend.ensures ∙ ap (λ b. write_after c.args.at c.args.bytes.now b c.next_mtime-mtime.result (files_of c.args.self.now c.args.file)) c.if-ok.true ∙ ap (λ m. write_after c.args.at c.args.bytes.now true m (files_of c.args.self.now c.args.file)) c.next_mtime-mtime.ensures

pub returns-then-ok-clause-only : goal.returns-then-ok-clause-only
returns-then-ok-clause-only c =
    let more = c.extend.ensures in
    record {
      time = record { later = omega (arith, length_new _ _ _ more); by_one = omega (arith, length_new _ _ _ more); kept = past_kept _ _ _ more };
      others = others_same _ _ _ more c.args.file (sym c.number-number.ensures.value);
    }

pub returns-else-ok-clause-file : goal.returns-else-ok-clause-file
returns-else-ok-clause-file c = state_write _ _ _ _ _ _ _ _ c.number-number.ensures.value c.extend.ensures ∙ ap (λ b. write_after c.args.at c.args.bytes.now b c.next_mtime-mtime.result (files_of c.args.self.now c.args.file)) c.if-ok.false ∙ ap (λ m. write_after c.args.at c.args.bytes.now false m (files_of c.args.self.now c.args.file)) c.next_mtime-mtime.ensures

pub returns-else-ok-clause-only : goal.returns-else-ok-clause-only
returns-else-ok-clause-only c =
    let more = c.extend.ensures in
    record {
      time = record { later = omega (arith, length_new _ _ _ more); by_one = omega (arith, length_new _ _ _ more); kept = past_kept _ _ _ more };
      others = others_same _ _ _ more c.args.file (sym c.number-number.ensures.value);
    }

pub returns-then-ok-clause-ok : goal.returns-then-ok-clause-ok
returns-then-ok-clause-ok c = wrote _ _ _ _ _ (state_write _ _ _ _ _ _ _ _ c.number-number.ensures.value c.extend.ensures ∙ ap (λ b. write_after c.args.at c.args.bytes.now b c.next_mtime-mtime.result (files_of c.args.self.now c.args.file)) c.if-ok.true)

pub returns-else-ok-clause-err : goal.returns-else-ok-clause-err
returns-else-ok-clause-err c = tried _ _ _ _ _ _ (state_write _ _ _ _ _ _ _ _ c.number-number.ensures.value c.extend.ensures)
