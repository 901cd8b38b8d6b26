use Rattle.std.proofs.Common.{rules}
use Rattle.hx_disk.specs.File.{Synced}
use Rattle.hx_registry.specs.Files.{saved_if}
use Rattle.hx_registry.proofs.files.write_out.Goals as goal

pub returns-clause-saved : goal.returns-clause-saved
returns-clause-saved g c = λ told.
    let now = g.D.Disk.now in
    let file = c.args.file in
    let synced : Synced (now c.cut.new.self file) (now c.sync.new.self file) = search rules in
    saved_if c.stat.result c.args.text.now (now c.args.disk.now file) (now c.write_at.new.self file) (now c.cut.new.self file) (now c.sync.new.self file) (now c.stat.new.self file)
    (c.in_ok-write_at.ensures.ok told) (c.in_ok-cut.ensures.ok told) synced (c.stat.ensures.unchanged.same file) (c.stat.ensures.stat told)

pub returns-clause-cause : goal.returns-clause-cause
returns-clause-cause g c = search rules
