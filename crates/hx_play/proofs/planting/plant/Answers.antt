use Rattle.std.proofs.Common.{◌≡◌, ◌∙◌, ◌+◌, ◌++◌, ℕ, List, [], ◌∷◌, take, drop, reverse, ap, sym, subst, refl}
use Rattle.std.proofs.lemmas.List.{take_more, reverse-append, take-append-drop}
use Rattle.hx_disk.specs.File.{FileState}
use Rattle.hx_script.specs.declared.script.Plant.{Plant}
use Rattle.hx_play.specs.Planting.{HasPlanted, OnlyPlants}
use Rattle.hx_play.proofs.Halts.{taken_more}
use Rattle.hx_play.proofs.Disks.{gone_on_joined, gone_on_still}
use Rattle.hx_play.proofs.Plants.{gone_on_by, has_more, only_by_all, only_more, only_none}
use Rattle.hx_play.proofs.planting.plant.Goals as goal

pub loop-slot-init : goal.loop-slot-init
loop-slot-init g c = record {
  runs = gone_on_still g.D.Disk.time g.D.Disk.past g.D.Disk.failures c.args.disk.now c.args.disk.now refl;
  others = only_none g.D.Disk.time g.D.Disk.past g.D.Disk.now g.met.D.Disk.present c.args.disk.now;
  planted = λ tells f. tt;
  no_fault = refl;
}

pub loop-slot-preserved : goal.loop-slot-preserved
loop-slot-preserved g c =
    let slots : List Plant = c.args.slots.now in
    let i : ℕ = c.loop-slot.slot-index in
    let slot : Plant = c.slot-item.result in
    let next : reverse (take (i + 1) slots) ≡ slot ∷ reverse (take i slots) = ap reverse (take_more slots i slot c.loop-slot-test.true ∙ ap (λ (p : Plant). take i slots ++ p ∷ []) (sym c.slot-item.is)) ∙ taken_more (take i slots) slot in
    record {
      runs = gone_on_joined g.D.Disk.time g.D.Disk.past g.D.Disk.failures c.args.disk.now c.loop-slot.disk c.plant_file.new.disk c.loop-slot.invariant.runs (gone_on_by g.D.Disk.time g.D.Disk.past g.D.Disk.now g.met.D.Disk.present g.D.Disk.failures slot.file c.loop-slot.disk c.plant_file.new.disk c.plant_file.ensures.through c.plant_file.ensures.later);
      others = subst (λ (ps : List Plant). OnlyPlants (g.D.Disk.past c.plant_file.new.disk) ps (g.D.Disk.time c.args.disk.now) (g.D.Disk.time c.plant_file.new.disk)) (sym next) (only_more g.D.Disk.time g.D.Disk.past g.D.Disk.now g.met.D.Disk.present (g.D.Disk.time c.args.disk.now) slot (reverse (take i slots)) c.loop-slot.disk c.plant_file.new.disk c.loop-slot.invariant.others c.plant_file.ensures.through);
      planted = λ tells. subst (λ (ps : List Plant). HasPlanted ps (g.D.Disk.past c.plant_file.new.disk (g.D.Disk.time c.plant_file.new.disk))) (sym next)
          (subst (λ (files : ℕ → FileState). HasPlanted (slot ∷ reverse (take i slots)) files) (λ i f. sym (g.met.D.Disk.present c.plant_file.new.disk f) i)
          (has_more g.D.Disk.time g.D.Disk.past g.D.Disk.now g.met.D.Disk.present slot (reverse (take i slots)) c.loop-slot.disk c.plant_file.new.disk
          (subst (λ (files : ℕ → FileState). HasPlanted (reverse (take i slots)) files) (λ i f. g.met.D.Disk.present c.loop-slot.disk f i) (c.loop-slot.invariant.planted tells)) c.plant_file.ensures.through (c.in_ok-plant_file.ensures.planted tells)));
      no_fault = c.in_ok-plant_file.ensures.no_fault ∙ c.loop-slot.invariant.no_fault;
    }

pub returns-in_err-plant_file-clause-runs : goal.returns-in_err-plant_file-clause-runs
returns-in_err-plant_file-clause-runs g c =
    gone_on_joined g.D.Disk.time g.D.Disk.past g.D.Disk.failures c.args.disk.now c.loop-slot.disk c.plant_file.new.disk c.loop-slot.invariant.runs (gone_on_by g.D.Disk.time g.D.Disk.past g.D.Disk.now g.met.D.Disk.present g.D.Disk.failures c.slot-item.result.file c.loop-slot.disk c.plant_file.new.disk c.plant_file.ensures.through c.plant_file.ensures.later)

pub returns-in_err-plant_file-clause-others : goal.returns-in_err-plant_file-clause-others
returns-in_err-plant_file-clause-others g c =
    let slots : List Plant = c.args.slots.now in
    let i : ℕ = c.loop-slot.slot-index in
    let slot : Plant = c.slot-item.result in
    let next : reverse (take (i + 1) slots) ≡ slot ∷ reverse (take i slots) = ap reverse (take_more slots i slot c.loop-slot-test.true ∙ ap (λ (p : Plant). take i slots ++ p ∷ []) (sym c.slot-item.is)) ∙ taken_more (take i slots) slot in
    let whole : reverse slots ≡ reverse (drop (i + 1) slots) ++ (slot ∷ reverse (take i slots)) =
    ap reverse (sym (take-append-drop (i + 1) slots)) ∙ reverse-append (take (i + 1) slots) (drop (i + 1) slots) ∙ ap (λ (ps : List Plant). reverse (drop (i + 1) slots) ++ ps) next in
    subst (λ (ps : List Plant). OnlyPlants (g.D.Disk.past c.plant_file.new.disk) ps (g.D.Disk.time c.args.disk.now) (g.D.Disk.time c.plant_file.new.disk)) (sym whole)
    (only_by_all (g.D.Disk.past c.plant_file.new.disk) (reverse (drop (i + 1) slots)) (slot ∷ reverse (take i slots)) (g.D.Disk.time c.args.disk.now) (g.D.Disk.time c.plant_file.new.disk) (only_more g.D.Disk.time g.D.Disk.past g.D.Disk.now g.met.D.Disk.present (g.D.Disk.time c.args.disk.now) slot (reverse (take i slots)) c.loop-slot.disk c.plant_file.new.disk c.loop-slot.invariant.others c.plant_file.ensures.through))
