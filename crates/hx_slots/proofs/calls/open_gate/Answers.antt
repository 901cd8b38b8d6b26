use Rattle.std.proofs.Common.{[], ◌∷◌, subst}
use Rattle.hx_disk.specs.File.{IsSound}
use Rattle.hx_disk.specs.Runs.{through_weaker}
use Rattle.hx_slots.specs.Gate.{OnTheWay, IsWritten, Frames, Shows, frames_on_the_way, opened_shows, on_ok_weaker}
use Rattle.hx_slots.proofs.calls.open_gate.Goals as goal

pub returns-clause-kept : goal.returns-clause-kept
returns-clause-kept g c = λ told frame frames.
    let old = g.D.Disk.now c.args.disk.now c.args.file in
    let sound : IsSound old = subst IsSound (g.met.D.Disk.present c.args.disk.now c.args.file) (g.met.D.Disk.sound c.args.disk.now (g.D.Disk.time c.args.disk.now) c.args.file told) in
    through_weaker g.D.Disk.time g.D.Disk.past g.D.Disk.now g.met.D.Disk.present c.args.file (OnTheWay 0 (1 ∷ []) old) (Frames frame) c.args.disk.now c.put.new.disk
    (λ s way. frames_on_the_way 1 old s frame sound frames way) (c.put.ensures.each told)

pub returns-clause-opened : goal.returns-clause-opened
returns-clause-opened g c = λ told frame frames.
    let old = g.D.Disk.now c.args.disk.now c.args.file in
    let new = g.D.Disk.now c.put.new.disk c.args.file in
    let sound : IsSound old = subst IsSound (g.met.D.Disk.present c.args.disk.now c.args.file) (g.met.D.Disk.sound c.args.disk.now (g.D.Disk.time c.args.disk.now) c.args.file told) in
    on_ok_weaker (IsWritten 0 (1 ∷ []) old new) (Shows frame new) c.put.result (λ written. opened_shows old new frame sound frames written) (c.put.ensures.ok told)
