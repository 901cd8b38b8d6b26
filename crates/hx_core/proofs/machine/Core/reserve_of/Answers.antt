use Rattle.std.proofs.Common.{◌≡◌, ◌<◌, ℕ, Some, length, slice_get, ap, sym, subst, refl, ◌∙◌}
use Rattle.std.proofs.lemmas.Option.{slice_get_read}
use Rattle.hx_rules.specs.Legal.{Opening}
use Rattle.hx_core.specs.Cores.{CoreState}
use Rattle.hx_core.specs.Reading.{room_keeps, resource_room, on_ok_map}
use Rattle.hx_core.proofs.machine.Core.reserve_of.Goals as goal

pub invariant_of-self : goal.invariant_of-self
invariant_of-self c =
    let inside = c.self.inside in
    let o : Opening = record { restored = inside.restored.items; barred = inside.barred; guarded = inside.guarded } in
    let known : c.number.result < length inside.resources.items = subst (λ (k : ℕ). k < length inside.resources.items) (sym c.number.ensures.value) (subst (λ (x : CoreState). c.args.res < length x.resources) (sym c.self.view_is) c.requires.known) in
    let at : slice_get inside.resources.items c.number.result ≡ Some c.index_mut.result.now = slice_get_read inside.resources.items _ c.number.result _ refl known c.index_mut.ensures.value in
    room_keeps o inside.first.items inside.resources.items inside.backups.pairs inside.history.items inside.spent inside.vault inside.save c.number.result c.index_mut.result.now c.reserve.new.self c.self.invariant at c.reserve.ensures.kept

pub returns-clause-resource : goal.returns-clause-resource
returns-clause-resource c =
    on_ok_map c.reserve.result _ _ (resource_room c.self.inside.guarded c.args.event.now c.args.read c.self.inside.resources.items c.number.result c.reserve.new.self (c.requires.named ∙ ap (λ k. Some k) (sym c.number.ensures.value))) c.reserve.ensures.room
