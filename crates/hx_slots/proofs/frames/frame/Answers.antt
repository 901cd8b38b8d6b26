use Rattle.std.proofs.Common.{◌≡◌, ◌<◌, ◌^◌, rules, arith}
use Rattle.hx_slots.specs.Frames.{frame_bytes}
use Rattle.hx_slots.proofs.FrameSteps.{frame_reads_of}
use Rattle.hx_slots.proofs.frames.frame.Goals as goal

pub returns-clause-shows : goal.returns-clause-shows
returns-clause-shows c = λ tail.
    let body = c.args.body.now in
    let is_frame : c.extend_from_slice.new.self.items ≡ frame_bytes c.args.stamp body = search rules in
    let small : c.args.stamp < 2 ^ 64 = omega arith in
    frame_reads_of c.args.stamp body c.extend_from_slice.new.self.items tail is_frame small c.requires
