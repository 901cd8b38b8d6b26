use Rattle.std.proofs.Common.{subst, None}
use Rattle.hx_disk.specs.File.{IsSound}
use Rattle.hx_disk.specs.Runs.{through_weaker}
use Rattle.hx_slots.specs.Gate.{OnTheWay, Shows, shut_shows_nothing, shut_on_the_way}
use Rattle.hx_slots.proofs.calls.put_block.Goals as goal

pub returns-clause-nothing : goal.returns-clause-nothing
returns-clause-nothing g c = λ told.
    let old = g.D.Disk.now c.args.disk.now c.args.file in
    let block = c.args.block.now in
    let sound : IsSound old = subst IsSound (g.met.D.Disk.present c.args.disk.now c.args.file) (g.met.D.Disk.sound c.args.disk.now (g.D.Disk.time c.args.disk.now) c.args.file told) in
    through_weaker g.D.Disk.time g.D.Disk.past g.D.Disk.now g.met.D.Disk.present c.args.file (OnTheWay c.args.at block old) (Shows None) c.args.disk.now c.put.new.disk
    (λ s way. shut_shows_nothing s (shut_on_the_way c.args.at block old s c.requires.behind sound (c.requires.shut told) way)) (c.put.ensures.each told)
