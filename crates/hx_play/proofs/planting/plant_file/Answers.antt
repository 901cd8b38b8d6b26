use Rattle.std.proofs.Common.{ℕ, List, Ok, length, subst}
use Rattle.hx_disk.specs.File.{Synced, WasCut}
use Rattle.hx_play.specs.Planting.{IsPlantedWith}
use Rattle.hx_play.proofs.Plants.{planted_with}
use Rattle.hx_play.proofs.planting.plant_file.Goals as goal

pub returns-clause-planted : goal.returns-clause-planted
returns-clause-planted g c = λ told.
    let now = g.D.Disk.now in
    let file = c.args.slot.now.file in
    let bytes : List ℕ = c.as_slice-bytes.result.now in
    let synced : Synced (now c.cut.new.self file) (now c.sync.new.self file) = c.in_ok-sync.ensures.ok told in
    let cut : WasCut (length bytes) (now c.write_at.new.self file) (now c.cut.new.self file) = c.in_ok-cut.ensures.ok told in
    subst (λ (l : List ℕ). IsPlantedWith l (now c.sync.new.self file)) c.as_slice-bytes.ensures
    (planted_with {E = ℕ} (Ok tt) bytes (now c.reserve.new.self file) (now c.write_at.new.self file) (now c.cut.new.self file) (now c.sync.new.self file) (c.in_ok-write_at.ensures.ok told) cut synced)
