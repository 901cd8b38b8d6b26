use Rattle.std.proofs.Common.{rules, arith, inl, ◌<◌, length, sym, ◌∙◌, ap}
use Rattle.hx_memdisk.proofs.Steps.{length_new, past_kept, others_same}
use Rattle.hx_memdisk.proofs.Calls.{takes_set, each_mtime, state_mtime, same_content}
use Rattle.hx_disk.specs.File.{FileState}
use Rattle.hx_memdisk.specs.MemDisk.{files_of}
use Rattle.hx_memdisk.specs.Replay.{mtime_after}
use Rattle.hx_memdisk.proofs.memdisk.MemDiskDisk.set_mtime.Goals as goal

pub invariant_of-self : goal.invariant_of-self
invariant_of-self c =
    let within : c.number-number.result < length c.args.self.now.files.items = search rules in
    record {
      every_file = search rules;
      each_after = each_mtime _ _ _ _ _ _ within c.number-number.ensures.known c.index_mut.ensures.value c.args.self.now.each_after _ _ c.extend.ensures c.set_mtime.ensures.bytes c.set_mtime.ensures.stat c.set_mtime.ensures.stable;
      counted = omega (arith, c.args.self.now.counted, length_new _ _ _ c.extend.ensures);
      countable = omega (arith, c.args.self.now.countable);
      file_takes = takes_set _ _ _ _ _ _ within c.index_mut.ensures.value c.set_mtime.ensures.keeps c.args.self.now.file_takes;
    }

pub returns-then-ok-clause-file : goal.returns-then-ok-clause-file
returns-then-ok-clause-file c = state_mtime _ _ _ _ _ _ c.number-number.ensures.value c.extend.ensures ∙ ap (λ b. mtime_after c.args.mtime b (files_of c.args.self.now c.args.file)) c.if-ok.true

pub returns-then-ok-clause-only : goal.returns-then-ok-clause-only
returns-then-ok-clause-only c =
    let more = c.extend.ensures in
    record {
      time = record { later = omega (arith, length_new _ _ _ more); by_one = omega (arith, length_new _ _ _ more); kept = past_kept _ _ _ more };
      others = others_same _ _ _ more c.args.file (sym c.number-number.ensures.value);
    }

pub returns-else-ok-clause-file : goal.returns-else-ok-clause-file
returns-else-ok-clause-file c = state_mtime _ _ _ _ _ _ c.number-number.ensures.value c.extend.ensures ∙ ap (λ b. mtime_after c.args.mtime b (files_of c.args.self.now c.args.file)) c.if-ok.false

pub returns-else-ok-clause-only : goal.returns-else-ok-clause-only
returns-else-ok-clause-only c =
    let more = c.extend.ensures in
    record {
      time = record { later = omega (arith, length_new _ _ _ more); by_one = omega (arith, length_new _ _ _ more); kept = past_kept _ _ _ more };
      others = others_same _ _ _ more c.args.file (sym c.number-number.ensures.value);
    }

pub returns-then-ok-clause-ok : goal.returns-then-ok-clause-ok
returns-then-ok-clause-ok c = ap (λ (s : FileState). s.stat) (state_mtime _ _ _ _ _ _ c.number-number.ensures.value c.extend.ensures ∙ ap (λ b. mtime_after c.args.mtime b (files_of c.args.self.now c.args.file)) c.if-ok.true)

pub returns-else-ok-clause-err : goal.returns-else-ok-clause-err
returns-else-ok-clause-err c = inl (ap (λ (s : FileState). s.stat) (state_mtime _ _ _ _ _ _ c.number-number.ensures.value c.extend.ensures ∙ ap (λ b. mtime_after c.args.mtime b (files_of c.args.self.now c.args.file)) c.if-ok.false))

pub returns-then-ok-clause-content : goal.returns-then-ok-clause-content
returns-then-ok-clause-content c = same_content _ _ _ _ (state_mtime _ _ _ _ _ _ c.number-number.ensures.value c.extend.ensures)

pub returns-else-ok-clause-content : goal.returns-else-ok-clause-content
returns-else-ok-clause-content c = same_content _ _ _ _ (state_mtime _ _ _ _ _ _ c.number-number.ensures.value c.extend.ensures)
