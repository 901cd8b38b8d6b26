use Rattle.std.proofs.Common.{◌≡◌, ◌<◌, ◌+◌, ℕ, true, ◌&&◌, Some, refl, ap, sym, ◌∙◌, subst, slice_get, slice_set, length}
use Rattle.std.proofs.lemmas.Option.{slice_get_read}
use Rattle.hx_events.specs.declared.life.Entry.{Entry}
use Rattle.hx_rules.specs.Entries.{past}
use Rattle.hx_rules.specs.Legal.{Opening, lacks_pair, is_row}
use Rattle.hx_resource.specs.Asks.{FitsAsked}
use Rattle.hx_resource.specs.Kept.{kept_after}
use Rattle.hx_resource.specs.Rooms.{IsRead, got_content}
use Rattle.hx_core.specs.Cores.{CoreState, StepRoom, asks_at, outcome_at, takes_pair}
use Rattle.hx_core.specs.Stepping.{Comes, answer_fits, counts, new_ticket, outcome_is, keeps, may_have}
use Rattle.hx_core.proofs.machine.Core.step_of.Goals as goal

pub step-stepped-requires-clause-fits : goal.step-stepped-requires-clause-fits
step-stepped-requires-clause-fits c =
    let inside = c.self.inside in
    let s = c.index_mut-resource.result.now in
    let o : Opening = record { restored = inside.restored.items; barred = inside.barred; guarded = inside.guarded } in
    let number = c.number.ensures.value in
    let known : c.args.res < length inside.resources.items = subst (λ (x : CoreState). c.args.res < length x.resources) (sym c.self.view_is) c.requires.known in
    let at_number : slice_get inside.resources.items c.number.result ≡ Some s = slice_get_read inside.resources.items _ c.number.result _ refl (subst (λ (k : ℕ). k < length inside.resources.items) (sym number) known) c.index_mut-resource.ensures.value in
    let comes : Comes o inside.first.items inside.resources.items inside.backups.pairs inside.history.items inside.spent inside.vault inside.save c.args.event c.args.res s c.lacks_for-lacks.result = record {
      core = c.self.invariant;
      named_is = c.requires.named;
      known = known;
      state = subst (λ (k : ℕ). slice_get inside.resources.items k ≡ Some s) number at_number;
      lacks_is = subst (λ (x : CoreState). c.lacks_for-lacks.result ≡ (takes_pair c.args.event && lacks_pair x.opening (past x.history) c.args.res)) (sym c.self.view_is) c.lacks_for-lacks.ensures;
    } in
    answer_fits o inside.first.items inside.resources.items inside.backups.pairs inside.history.items inside.spent inside.vault inside.save c.args.event c.args.res s c.lacks_for-lacks.result comes c.args.got (subst (λ (x : CoreState). FitsAsked (asks_at x.opening (past x.history) c.args.event) c.args.got) (sym c.self.view_is) c.requires.fits)

pub step-stepped-requires-clause-room : goal.step-stepped-requires-clause-room
step-stepped-requires-clause-room c =
    let inside = c.self.inside in
    let s = c.index_mut-resource.result.now in
    let o : Opening = record { restored = inside.restored.items; barred = inside.barred; guarded = inside.guarded } in
    let number = c.number.ensures.value in
    let known : c.args.res < length inside.resources.items = subst (λ (x : CoreState). c.args.res < length x.resources) (sym c.self.view_is) c.requires.known in
    let at_number : slice_get inside.resources.items c.number.result ≡ Some s = slice_get_read inside.resources.items _ c.number.result _ refl (subst (λ (k : ℕ). k < length inside.resources.items) (sym number) known) c.index_mut-resource.ensures.value in
    let comes : Comes o inside.first.items inside.resources.items inside.backups.pairs inside.history.items inside.spent inside.vault inside.save c.args.event c.args.res s c.lacks_for-lacks.result = record {
      core = c.self.invariant;
      named_is = c.requires.named;
      known = known;
      state = subst (λ (k : ℕ). slice_get inside.resources.items k ≡ Some s) number at_number;
      lacks_is = subst (λ (x : CoreState). c.lacks_for-lacks.result ≡ (takes_pair c.args.event && lacks_pair x.opening (past x.history) c.args.res)) (sym c.self.view_is) c.lacks_for-lacks.ensures;
    } in
    let room : StepRoom c.args.event (length (got_content c.args.got)) _ = subst (λ (x : CoreState). StepRoom c.args.event (length (got_content c.args.got)) x) (sym c.self.view_is) c.requires.room in
    room.resource c.args.res s c.requires.named comes.state

pub step-stepped-requires-clause-counts : goal.step-stepped-requires-clause-counts
step-stepped-requires-clause-counts c =
    let inside = c.self.inside in
    let s = c.index_mut-resource.result.now in
    let o : Opening = record { restored = inside.restored.items; barred = inside.barred; guarded = inside.guarded } in
    let number = c.number.ensures.value in
    let known : c.args.res < length inside.resources.items = subst (λ (x : CoreState). c.args.res < length x.resources) (sym c.self.view_is) c.requires.known in
    let at_number : slice_get inside.resources.items c.number.result ≡ Some s = slice_get_read inside.resources.items _ c.number.result _ refl (subst (λ (k : ℕ). k < length inside.resources.items) (sym number) known) c.index_mut-resource.ensures.value in
    let comes : Comes o inside.first.items inside.resources.items inside.backups.pairs inside.history.items inside.spent inside.vault inside.save c.args.event c.args.res s c.lacks_for-lacks.result = record {
      core = c.self.invariant;
      named_is = c.requires.named;
      known = known;
      state = subst (λ (k : ℕ). slice_get inside.resources.items k ≡ Some s) number at_number;
      lacks_is = subst (λ (x : CoreState). c.lacks_for-lacks.result ≡ (takes_pair c.args.event && lacks_pair x.opening (past x.history) c.args.res)) (sym c.self.view_is) c.lacks_for-lacks.ensures;
    } in
    counts o inside.first.items inside.resources.items inside.backups.pairs inside.history.items inside.spent inside.vault inside.save c.args.event c.args.res s c.lacks_for-lacks.result comes (subst (λ (x : CoreState). length x.history < 9223372036854775808) (sym c.self.view_is) c.next_place-place.ensures.few)

pub step-stepped-requires-clause-new : goal.step-stepped-requires-clause-new
step-stepped-requires-clause-new c =
    let inside = c.self.inside in
    let s = c.index_mut-resource.result.now in
    let o : Opening = record { restored = inside.restored.items; barred = inside.barred; guarded = inside.guarded } in
    let number = c.number.ensures.value in
    let known : c.args.res < length inside.resources.items = subst (λ (x : CoreState). c.args.res < length x.resources) (sym c.self.view_is) c.requires.known in
    let at_number : slice_get inside.resources.items c.number.result ≡ Some s = slice_get_read inside.resources.items _ c.number.result _ refl (subst (λ (k : ℕ). k < length inside.resources.items) (sym number) known) c.index_mut-resource.ensures.value in
    let comes : Comes o inside.first.items inside.resources.items inside.backups.pairs inside.history.items inside.spent inside.vault inside.save c.args.event c.args.res s c.lacks_for-lacks.result = record {
      core = c.self.invariant;
      named_is = c.requires.named;
      known = known;
      state = subst (λ (k : ℕ). slice_get inside.resources.items k ≡ Some s) number at_number;
      lacks_is = subst (λ (x : CoreState). c.lacks_for-lacks.result ≡ (takes_pair c.args.event && lacks_pair x.opening (past x.history) c.args.res)) (sym c.self.view_is) c.lacks_for-lacks.ensures;
    } in
    let place : c.next_place-place.result ≡ length inside.history.items + 1 = subst (λ (x : CoreState). c.next_place-place.result ≡ length x.history + 1) (sym c.self.view_is) c.next_place-place.ensures.place in
    new_ticket o inside.first.items inside.resources.items inside.backups.pairs inside.history.items inside.spent inside.vault inside.save c.args.event c.args.res s c.lacks_for-lacks.result comes c.next_place-place.result place

pub invariant_of-self : goal.invariant_of-self
invariant_of-self c =
    let inside = c.self.inside in
    let s = c.index_mut-resource.result.now in
    let o : Opening = record { restored = inside.restored.items; barred = inside.barred; guarded = inside.guarded } in
    let number = c.number.ensures.value in
    let known : c.args.res < length inside.resources.items = subst (λ (x : CoreState). c.args.res < length x.resources) (sym c.self.view_is) c.requires.known in
    let at_number : slice_get inside.resources.items c.number.result ≡ Some s = slice_get_read inside.resources.items _ c.number.result _ refl (subst (λ (k : ℕ). k < length inside.resources.items) (sym number) known) c.index_mut-resource.ensures.value in
    let comes : Comes o inside.first.items inside.resources.items inside.backups.pairs inside.history.items inside.spent inside.vault inside.save c.args.event c.args.res s c.lacks_for-lacks.result = record {
      core = c.self.invariant;
      named_is = c.requires.named;
      known = known;
      state = subst (λ (k : ℕ). slice_get inside.resources.items k ≡ Some s) number at_number;
      lacks_is = subst (λ (x : CoreState). c.lacks_for-lacks.result ≡ (takes_pair c.args.event && lacks_pair x.opening (past x.history) c.args.res)) (sym c.self.view_is) c.lacks_for-lacks.ensures;
    } in
    let place : c.next_place-place.result ≡ length inside.history.items + 1 = subst (λ (x : CoreState). c.next_place-place.result ≡ length x.history + 1) (sym c.self.view_is) c.next_place-place.ensures.place in
    let step = c.step-stepped in
    let entry : Entry = record { moment = c.args.moment; faults = c.args.faults; actor = c.args.actor; event = c.args.event; outcome = step.result.outcome; content = c.content_of.result } in
    let is = step.ensures.kept ∙ ap (λ x. kept_after inside.guarded c.next_place-place.result c.args.event step.result.outcome x s.kept) (sym c.content_of.ensures) in
    let read = subst (IsRead step.result.outcome) (sym c.content_of.ensures) step.ensures.read in
    keeps o inside.first.items inside.resources.items inside.backups.pairs inside.history.items inside.spent inside.vault inside.save c.args.event c.args.res s c.lacks_for-lacks.result comes entry refl step.new.self c.next_place-place.result place read step.ensures.row is
    _ c.list_backup.new.backups.pairs c.push_reserved.new.self.items c.spent_after-spent.result step.result.vault step.result.save c.put.new.self c.put-2.new.self
    (ap (λ k. slice_set inside.resources.items k step.new.self) number) c.list_backup.ensures.pairs c.push_reserved.ensures.items c.spent_after-spent.ensures step.ensures.vault step.ensures.save c.put.ensures c.put-2.ensures

pub returns-clause-outcome : goal.returns-clause-outcome
returns-clause-outcome c =
    let inside = c.self.inside in
    let s = c.index_mut-resource.result.now in
    let o : Opening = record { restored = inside.restored.items; barred = inside.barred; guarded = inside.guarded } in
    let number = c.number.ensures.value in
    let known : c.args.res < length inside.resources.items = subst (λ (x : CoreState). c.args.res < length x.resources) (sym c.self.view_is) c.requires.known in
    let at_number : slice_get inside.resources.items c.number.result ≡ Some s = slice_get_read inside.resources.items _ c.number.result _ refl (subst (λ (k : ℕ). k < length inside.resources.items) (sym number) known) c.index_mut-resource.ensures.value in
    let comes : Comes o inside.first.items inside.resources.items inside.backups.pairs inside.history.items inside.spent inside.vault inside.save c.args.event c.args.res s c.lacks_for-lacks.result = record {
      core = c.self.invariant;
      named_is = c.requires.named;
      known = known;
      state = subst (λ (k : ℕ). slice_get inside.resources.items k ≡ Some s) number at_number;
      lacks_is = subst (λ (x : CoreState). c.lacks_for-lacks.result ≡ (takes_pair c.args.event && lacks_pair x.opening (past x.history) c.args.res)) (sym c.self.view_is) c.lacks_for-lacks.ensures;
    } in
    subst (λ (x : CoreState). c.step-stepped.result.outcome ≡ outcome_at x.opening (past x.history) c.args.event c.args.got) c.self.view_is (c.step-stepped.ensures.outcome ∙ outcome_is o inside.first.items inside.resources.items inside.backups.pairs inside.history.items inside.spent inside.vault inside.save c.args.event c.args.res s c.lacks_for-lacks.result comes c.args.got)

pub returns-clause-row : goal.returns-clause-row
returns-clause-row c =
    let inside = c.self.inside in
    let s = c.index_mut-resource.result.now in
    let o : Opening = record { restored = inside.restored.items; barred = inside.barred; guarded = inside.guarded } in
    let number = c.number.ensures.value in
    let known : c.args.res < length inside.resources.items = subst (λ (x : CoreState). c.args.res < length x.resources) (sym c.self.view_is) c.requires.known in
    let at_number : slice_get inside.resources.items c.number.result ≡ Some s = slice_get_read inside.resources.items _ c.number.result _ refl (subst (λ (k : ℕ). k < length inside.resources.items) (sym number) known) c.index_mut-resource.ensures.value in
    let comes : Comes o inside.first.items inside.resources.items inside.backups.pairs inside.history.items inside.spent inside.vault inside.save c.args.event c.args.res s c.lacks_for-lacks.result = record {
      core = c.self.invariant;
      named_is = c.requires.named;
      known = known;
      state = subst (λ (k : ℕ). slice_get inside.resources.items k ≡ Some s) number at_number;
      lacks_is = subst (λ (x : CoreState). c.lacks_for-lacks.result ≡ (takes_pair c.args.event && lacks_pair x.opening (past x.history) c.args.res)) (sym c.self.view_is) c.lacks_for-lacks.ensures;
    } in
    let place : c.next_place-place.result ≡ length inside.history.items + 1 = subst (λ (x : CoreState). c.next_place-place.result ≡ length x.history + 1) (sym c.self.view_is) c.next_place-place.ensures.place in
    let step = c.step-stepped in
    let entry : Entry = record { moment = c.args.moment; faults = c.args.faults; actor = c.args.actor; event = c.args.event; outcome = step.result.outcome; content = c.content_of.result } in
    let is = step.ensures.kept ∙ ap (λ x. kept_after inside.guarded c.next_place-place.result c.args.event step.result.outcome x s.kept) (sym c.content_of.ensures) in
    let read = subst (IsRead step.result.outcome) (sym c.content_of.ensures) step.ensures.read in
    subst (λ (x : CoreState). is_row x.opening (past x.history) c.args.event step.result.outcome ≡ true) c.self.view_is (may_have o inside.first.items inside.resources.items inside.backups.pairs inside.history.items inside.spent inside.vault inside.save c.args.event c.args.res s c.lacks_for-lacks.result comes entry refl step.new.self c.next_place-place.result place read step.ensures.row is)
