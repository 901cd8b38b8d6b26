use Rattle.std.proofs.Common.{[], ◌∷◌, subst}
use Rattle.hx_disk.specs.File.{IsSound}
use Rattle.hx_disk.specs.Runs.{through_weaker}
use Rattle.hx_slots.specs.Gate.{OnTheWay, Frames, frames_on_the_way}
use Rattle.hx_slots.proofs.calls.close_gate.Goals as goal

pub returns-clause-kept : goal.returns-clause-kept
returns-clause-kept g c = λ told frame frames.
    let old = g.D.Disk.now c.args.disk.now c.args.file in
    let sound : IsSound old = subst IsSound (g.met.D.Disk.present c.args.disk.now c.args.file) (g.met.D.Disk.sound c.args.disk.now (g.D.Disk.time c.args.disk.now) c.args.file told) in
    through_weaker g.D.Disk.time g.D.Disk.past g.D.Disk.now g.met.D.Disk.present c.args.file (OnTheWay 0 (0 ∷ []) old) (Frames frame) c.args.disk.now c.put.new.disk
    (λ s way. frames_on_the_way 0 old s frame sound frames way) (c.put.ensures.each told)
