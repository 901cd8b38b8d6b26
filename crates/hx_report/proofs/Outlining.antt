-- An outline goes with the deeds of its resource.
use Rattle.std.specs.Prelude.{◌≡◌, ℕ, List, [], ◌∷◌, Option, Some, None, is_some, refl}
use Rattle.std.proofs.Common.{sym}
use Rattle.hx_events.specs.declared.backup.Backup.{Backup}
use Rattle.hx_events.specs.declared.event.Event.{Event}
use Rattle.hx_events.specs.declared.event.Stage.TheVariants.{Open, Drop}
use Rattle.hx_events.specs.declared.outcome.Outcome.{Outcome}
use Rattle.hx_events.specs.declared.outcome.Outcome.TheVariants.{StageOk}
use Rattle.hx_rules.specs.Entries.{Deed, deed}
use Rattle.hx_rules.specs.Versions.{last_version, trail}
use Rattle.hx_rules.specs.Copies.{registered, mark, dirty}
use Rattle.hx_rules.specs.Saves.{save_steps}
use Rattle.hx_rules.specs.Backups.{Snapshot, done, done_after, taken}
use Rattle.hx_report.specs.Tails.{version_of}
use Rattle.hx_report.specs.Outlines.{outline, outline_of, outline_after, first_outline, done_version_after}
use Rattle.hx_report.proofs.Saving.{saves_step}

pub first_is : (r : Option Backup) → first_outline (is_some r) ≡ outline r []
first_is None = refl
first_is (Some b) = refl

done_is : (r : Option Backup) (ds : List Deed) (outcome : Outcome) (was : Option Snapshot) → done_version_after outcome (version_of was) ≡ version_of (done_after outcome (λ v. taken r v ds) was)
done_is r ds (StageOk Open v) was = refl
done_is r ds (StageOk Drop v) was = refl
done_is r ds _ was = refl

pub outline_step : (r : Option Backup) (place : ℕ) (event : Event) (outcome : Outcome) (content : List ℕ) (ds : List Deed) → outline_after event outcome (outline r ds) ≡ outline r (deed place event outcome content ∷ ds)
outline_step r place event outcome content ds =
    let next : List Deed = deed place event outcome content ∷ ds in
    (λ j. outline_of (registered r next) (last_version r next) (trail r next) (mark r next) (done_is r ds outcome (done r ds) j)
    (sym (saves_step outcome event place (last_version r ds) (dirty r ds) (dirty r next) (save_steps r ds)) j))
