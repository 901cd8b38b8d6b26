use Rattle.std.proofs.Common.{◌≡◌, ◌∙◌, List, All, length, reverse, ap, sym, subst, inl}
use Rattle.hx_events.specs.declared.event.Command.{Command}
use Rattle.hx_script.specs.declared.script.Plant.{Plant}
use Rattle.hx_actors.specs.Pieces.{IsNamed}
use Rattle.hx_play.specs.Planting.{HasPlanted, OnlyPlants}
use Rattle.hx_play.specs.Runs.{scripts_of}
use Rattle.hx_play.proofs.Commands.{all_scripts_named}
use Rattle.hx_play.proofs.Plants.{lived_behind}
use Rattle.hx_play.proofs.RunWhole.{runs_whole}
use Rattle.hx_play.proofs.runs.run_script.Goals as goal

-- the scripts are of the names
pub run-requires-clause-named : goal.run-requires-clause-named
run-requires-clause-named g c = λ κs after.
    let steps : c.into_vec.result.items ≡ c.args.script.steps = c.into_vec.ensures in
    let parted = c.in-Ok.ensures.scripts in
    subst (λ (ss : List (List Command)). All (IsNamed (length c.args.script.names)) ss) (sym (parted ∙ ap scripts_of steps)) (all_scripts_named c.args.script.names c.args.script.steps c.requires.well_made.steps)

pub returns-in-Ok-plant-clause-done : goal.returns-in-Ok-plant-clause-done
returns-in-Ok-plant-clause-done g c = λ done. c.run.ensures.done done c.args.script.steps (c.in-Ok.ensures.scripts ∙ ap scripts_of c.into_vec.ensures)

pub returns-in-Ok-plant-clause-for_memory : goal.returns-in-Ok-plant-clause-for_memory
returns-in-Ok-plant-clause-for_memory g c = λ memory. c.run.ensures.for_memory memory c.args.script.steps (c.in-Ok.ensures.scripts ∙ ap scripts_of c.into_vec.ensures)

pub returns-in-Ok-plant-clause-played : goal.returns-in-Ok-plant-clause-played
returns-in-Ok-plant-clause-played g c =
    let slots : c.as_slice.result.now ≡ c.args.script.slots = c.as_slice.ensures in
    inl (lived_behind g.D.Disk.picked g.D.Disk.tells (g.D.Disk.past c.plant.new.disk) (g.D.Disk.past c.run.result.disk) (reverse c.args.script.slots) (g.D.Disk.time c.args.disk) (g.D.Disk.time c.plant.new.disk) (g.D.Disk.time c.run.result.disk) (g.D.Disk.failures c.args.disk) (g.D.Disk.failures c.plant.new.disk) (g.D.Disk.failures c.run.result.disk) c.run.result.lives.lives
    c.run.ensures.runs.kept c.in-Ok-plant.ensures.no_fault
    (subst (λ (ps : List Plant). OnlyPlants (g.D.Disk.past c.plant.new.disk) (reverse ps) (g.D.Disk.time c.args.disk) (g.D.Disk.time c.plant.new.disk)) slots c.plant.ensures.others)
    (λ tells. subst (λ (ps : List Plant). HasPlanted (reverse ps) (g.D.Disk.past c.plant.new.disk (g.D.Disk.time c.plant.new.disk))) slots (c.in-Ok-plant.ensures.planted tells))
    c.run.ensures.over)

pub returns-in-Ok-plant-clause-whole : goal.returns-in-Ok-plant-clause-whole
returns-in-Ok-plant-clause-whole g c = λ done.
    runs_whole g.D.Disk.picked g.D.Disk.tells (g.D.Disk.past c.run.result.disk) (g.D.Disk.time c.plant.new.disk) (g.D.Disk.time c.run.result.disk) c.args.guarded c.args.script.names c.args.script.steps c.run.result.lives.lives c.requires.well_made.steps c.run.ensures.over.lived
    (c.run.ensures.done done c.args.script.steps (c.in-Ok.ensures.scripts ∙ ap scripts_of c.into_vec.ensures))
