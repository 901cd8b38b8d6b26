use Rattle.std.proofs.Common.{◌≡◌, List, All, reverse, sym, subst, inl}
use Rattle.hx_script.specs.declared.script.Plant.{Plant}
use Rattle.hx_script.specs.declared.script.Step.{Step}
use Rattle.hx_script.specs.Scripts.{IsStepOf}
use Rattle.hx_play.specs.Planting.{HasPlanted, OnlyPlants}
use Rattle.hx_play.proofs.Halts.{stops_unplanted}
use Rattle.hx_play.proofs.Plants.{lived_behind}
use Rattle.hx_play.proofs.Whole.{followers_whole}
use Rattle.hx_play.proofs.scripts.play_script.Goals as goal

pub returns-in-Ok-clause-played : goal.returns-in-Ok-clause-played
returns-in-Ok-clause-played g c =
    let slots : c.as_slice.result.now ≡ c.args.script.slots = c.as_slice.ensures in
    inl (lived_behind g.D.Disk.picked g.D.Disk.tells (g.D.Disk.past c.plant.new.disk) (g.D.Disk.past c.play.result.disk) (reverse c.args.script.slots) (g.D.Disk.time c.args.disk) (g.D.Disk.time c.plant.new.disk) (g.D.Disk.time c.play.result.disk) (g.D.Disk.failures c.args.disk) (g.D.Disk.failures c.plant.new.disk) (g.D.Disk.failures c.play.result.disk) c.play.result.lives.lives
    c.play.ensures.runs.kept c.in-Ok.ensures.no_fault
    (subst (λ (ps : List Plant). OnlyPlants (g.D.Disk.past c.plant.new.disk) (reverse ps) (g.D.Disk.time c.args.disk) (g.D.Disk.time c.plant.new.disk)) slots c.plant.ensures.others)
    (λ tells. subst (λ (ps : List Plant). HasPlanted (reverse ps) (g.D.Disk.past c.plant.new.disk (g.D.Disk.time c.plant.new.disk))) slots (c.in-Ok.ensures.planted tells))
    c.play.ensures.over)

pub returns-in-Ok-clause-whole : goal.returns-in-Ok-clause-whole
returns-in-Ok-clause-whole g c = λ done.
    followers_whole g.D.Disk.picked g.D.Disk.tells (g.D.Disk.past c.play.result.disk) (g.D.Disk.time c.plant.new.disk) (g.D.Disk.time c.play.result.disk) c.args.guarded c.args.script.names c.into_vec.result.items c.play.result.lives.lives
    (subst (λ (steps : List Step). All (IsStepOf c.args.script.names) steps) (sym c.into_vec.ensures) c.requires.steps)
    c.play.ensures.over.lived (c.play.ensures.done done)

pub returns-clause-for_memory : goal.returns-clause-for_memory
returns-clause-for_memory g c = λ memory. inl (stops_unplanted c.args.guarded c.args.script.names c.args.script.steps c.new-in-Err-NoMemory.result.lives c.new-in-Err-NoMemory.ensures)
