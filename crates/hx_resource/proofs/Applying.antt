-- The changes of an outcome, one after another.
use Rattle.std.proofs.Common.{◌≡◌, ℕ, ◌+◌, ◌≤◌, Bool, true, false, arith, List, length, Option, Some, None, refl, ap, ◌∙◌, if◌then◌else◌}
use Rattle.hx_events.specs.declared.event.Event.{Event}
use Rattle.hx_events.specs.declared.event.Stage.TheVariants.{Prepare, Body, Open}
use Rattle.hx_events.specs.declared.outcome.Outcome.{Outcome}
use Rattle.hx_events.specs.declared.outcome.Outcome.TheVariants.{StageOk, StageFault, Started, CheckFault, Modified, WriteFault, Unguarded, Saved}
use Rattle.hx_rules.specs.Saves.{starts}
use Rattle.hx_rules.specs.Backups.{Begun, begun_after}
use Rattle.hx_copy.specs.Copies.{Copy}
use Rattle.hx_resource.specs.Rooms.{copies_first}
use Rattle.hx_resource.specs.Kept.{Kept, begins, snapshot_for, begun_given, copy_after, seq_after, starts_run, dirty_now, content_in, with_copy, with_saves, rest_after, kept_after}

begun_composed : (outcome : Outcome) (w : Bool) (s : Kept) (was : Option Begun) → begun_given outcome w (snapshot_for outcome s) was ≡ begun_after outcome w (λ v. begins v s) was
begun_composed (StageOk Prepare v) w s was = refl
begun_composed (StageOk Body v) w s was = refl
begun_composed (StageOk Open v) w s was = refl
begun_composed (StageOk stage v) w s was = refl
begun_composed (StageFault stage v) w s was = refl
begun_composed _ w s was = refl

abbrev saves_step : ℕ → Event → Outcome → Kept → Kept
saves_step place event outcome s = with_saves (seq_after outcome event place s.last (dirty_now s.copy) s.seq) (if starts_run outcome event (starts s.seq.queue (dirty_now s.copy)) then content_in s.copy else s.saving) s

abbrev copy_step : Event → Outcome → List ℕ → Kept → Kept
copy_step event outcome content s = with_copy (copy_after outcome event content (s.last + 1) s.copy) s

pub applied : (g : Bool) (place : ℕ) (event : Event) (outcome : Outcome) (content : List ℕ) (s0 s1 s2 s3 s4 : Kept) (given : Option Begun)
    → given ≡ snapshot_for outcome s0 → s1 ≡ s0 → s2 ≡ copy_step event outcome content s1 → s3 ≡ saves_step place event outcome s2 → s4 ≡ rest_after g outcome given s3
    → s4 ≡ kept_after g place event outcome content s0
applied g place event outcome content s0 s1 s2 s3 s4 given eg e1 e2 e3 e4 =
    let end = saves_step place event outcome (copy_step event outcome content s0) in
    e4 ∙ (ap (rest_after g outcome given) (e3 ∙ ap (saves_step place event outcome) (e2 ∙ ap (copy_step event outcome content) e1))
    ∙ (ap (λ x. rest_after g outcome x end) eg
    ∙ ap (λ b. record (kept_after g place event outcome content s0) { begun = b }) (begun_composed outcome _ s0 s0.begun)))

-- the content of a save that starts is the one that was there before, and there is room for it still
pub saving_room : (outcome : Outcome) (event : Event) (content : List ℕ) (n old between new : ℕ) (next : Bool) (was : Option Copy)
    → (copies_first outcome ≡ false → between ≡ old) → (copies_first outcome ≡ false → new ≡ between) → (starts_run outcome event next ≡ true → length (content_in was) ≤ old)
    → starts_run outcome event next ≡ true → length (content_in (copy_after outcome event content n was)) ≤ new
saving_room (Started v) event content n old between new next was first second le h = omega (arith, first refl, second refl, le h)
saving_room CheckFault event content n old between new next was first second le h = omega (arith, first refl, second refl, le h)
saving_room (Modified x) event content n old between new next was first second le h = omega (arith, first refl, second refl, le h)
saving_room (WriteFault v) event content n old between new next was first second le h = omega (arith, first refl, second refl, le h)
saving_room (Unguarded v) event content n old between new next was first second le h = omega (arith, first refl, second refl, le h)
saving_room (Saved v x) event content n old between new next None first second le h = omega arith
saving_room (Saved v x) event content n old between new next (Some c) first second le h = omega (arith, first refl, second refl, le h)
saving_room _ event content n old between new next was first second le h = absurd cc
