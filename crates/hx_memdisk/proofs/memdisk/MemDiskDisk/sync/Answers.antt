use Rattle.std.proofs.Common.{rules, arith, ◌<◌, length, true, false, sym, ◌∙◌, ap}
use Rattle.hx_memdisk.proofs.Steps.{length_new, past_kept, others_same}
use Rattle.hx_memdisk.proofs.Calls.{takes_set, each_sync, state_sync, synced}
use Rattle.hx_memdisk.specs.MemDisk.{files_of}
use Rattle.hx_memdisk.specs.Replay.{sync_after}
use Rattle.hx_memdisk.proofs.memdisk.MemDiskDisk.sync.Goals as goal

pub invariant_of-self : goal.invariant_of-self
invariant_of-self c =
    let within : c.number-number.result < length c.args.self.now.files.items = search rules in
    record {
      every_file = search rules;
      each_after = each_sync _ _ _ _ _ _ within c.number-number.ensures.known c.index_mut.ensures.value c.args.self.now.each_after _ c.extend.ensures c.sync.ensures.bytes c.sync.ensures.stat c.sync.ensures.stable;
      counted = omega (arith, c.args.self.now.counted, length_new _ _ _ c.extend.ensures);
      countable = omega (arith, c.args.self.now.countable);
      file_takes = takes_set _ _ _ _ _ _ within c.index_mut.ensures.value c.sync.ensures.keeps c.args.self.now.file_takes;
    }

pub returns-then-ok-clause-file : goal.returns-then-ok-clause-file
returns-then-ok-clause-file c = state_sync _ _ _ _ _ c.number-number.ensures.value c.extend.ensures ∙ ap (λ b. sync_after b (files_of c.args.self.now c.args.file)) c.if-ok.true

pub returns-then-ok-clause-only : goal.returns-then-ok-clause-only
returns-then-ok-clause-only c =
    let more = c.extend.ensures in
    record {
      time = record { later = omega (arith, length_new _ _ _ more); by_one = omega (arith, length_new _ _ _ more); kept = past_kept _ _ _ more };
      others = others_same _ _ _ more c.args.file (sym c.number-number.ensures.value);
    }

pub returns-else-ok-clause-file : goal.returns-else-ok-clause-file
returns-else-ok-clause-file c = state_sync _ _ _ _ _ c.number-number.ensures.value c.extend.ensures ∙ ap (λ b. sync_after b (files_of c.args.self.now c.args.file)) c.if-ok.false

pub returns-else-ok-clause-only : goal.returns-else-ok-clause-only
returns-else-ok-clause-only c =
    let more = c.extend.ensures in
    record {
      time = record { later = omega (arith, length_new _ _ _ more); by_one = omega (arith, length_new _ _ _ more); kept = past_kept _ _ _ more };
      others = others_same _ _ _ more c.args.file (sym c.number-number.ensures.value);
    }

pub returns-then-ok-clause-ok : goal.returns-then-ok-clause-ok
returns-then-ok-clause-ok c = synced _ _ (state_sync _ _ _ _ _ c.number-number.ensures.value c.extend.ensures ∙ ap (λ b. sync_after b (files_of c.args.self.now c.args.file)) c.if-ok.true)

pub returns-else-ok-clause-err : goal.returns-else-ok-clause-err
returns-else-ok-clause-err c = state_sync _ _ _ _ _ c.number-number.ensures.value c.extend.ensures ∙ ap (λ b. sync_after b (files_of c.args.self.now c.args.file)) c.if-ok.false
