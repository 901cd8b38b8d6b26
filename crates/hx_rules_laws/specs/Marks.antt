-- How the marks of a resource's backups change when one deed is added, for each kind of outcome.
use Rattle.std.specs.Prelude.{◌≡◌, ℕ, Bool, true, false, List, ◌∷◌, if◌then◌else◌, Option, Some, None, refl}
use Rattle.hx_events.specs.declared.backup.Backup.{Backup}
use Rattle.hx_events.specs.declared.event.Event.{Event}
use Rattle.hx_events.specs.declared.event.Stage.TheVariants.{Prepare, Body, Open, Fade, Drop}
use Rattle.hx_events.specs.declared.outcome.Outcome.{Outcome}
use Rattle.hx_events.specs.declared.outcome.Outcome.TheVariants.{StageOk, StageFault, Spent}
use Rattle.hx_rules.specs.Entries.{Deed, deed}
use Rattle.hx_rules.specs.Backups.{Begun, taken, halted, begun, prepared, wanted, one_block_more, is_change}
use Rattle.hx_rules.specs.Allowed.{allowed}
use Rattle.hx_rules.specs.Marks.{marks}

abbrev pub still : Bool → Option Begun → Option Begun
still is_wanted was = if is_wanted then was else None

-- is it an outcome of a vault stage that isn't Idle?
abbrev pub is_vault_outcome : Outcome → Bool
is_vault_outcome (StageOk s v) = true
is_vault_outcome (StageFault s v) = true
is_vault_outcome Spent = true
is_vault_outcome _ = false

module _ (restored : Option Backup) (guarded : Bool) where
  -- whether a backup of the copy is still wanted when this deed is added
  abbrev pub wanted_with : Deed → List Deed → Bool
  wanted_with d ds = wanted restored guarded (d ∷ ds)

-- What each outcome does to the marks. What isn't named stays.
pub record MarkLaws (restored : Option Backup) (guarded : Bool) (place : ℕ) (event : Event) (content : List ℕ) (ds : List Deed) : Type 0 where
  pub prepare_ok : (v : ℕ) → marks restored guarded (deed place event (StageOk Prepare v) content ∷ ds) ≡ record (marks restored guarded ds) { tried = None; begun = Some (prepared restored v ds); faded = false }
  pub prepare_fault : (v : ℕ) → marks restored guarded (deed place event (StageFault Prepare v) content ∷ ds) ≡ record (marks restored guarded ds) { begun = None; faded = false; halted = true }
  pub spent : marks restored guarded (deed place event Spent content ∷ ds) ≡ record (marks restored guarded ds) { begun = still (wanted_with restored guarded (deed place event Spent content) ds) (begun restored guarded ds); faded = false; halted = true }
  pub body_ok : (v : ℕ) → marks restored guarded (deed place event (StageOk Body v) content ∷ ds) ≡ record (marks restored guarded ds) { begun = still (wanted_with restored guarded (deed place event (StageOk Body v) content) ds) (one_block_more (begun restored guarded ds)); faded = false }
  pub body_fault : (v : ℕ) → marks restored guarded (deed place event (StageFault Body v) content ∷ ds) ≡ record (marks restored guarded ds) { begun = None; faded = false; halted = true }
  pub open_ok : (v : ℕ) → marks restored guarded (deed place event (StageOk Open v) content ∷ ds) ≡ record (marks restored guarded ds) { done = Some (taken restored v ds); tried = None; undone = false; opened = true; begun = None; faded = false }
  pub open_fault : (v : ℕ) → marks restored guarded (deed place event (StageFault Open v) content ∷ ds) ≡ record (marks restored guarded ds) { tried = Some (taken restored v ds); opened = true; begun = None; faded = false; halted = true }
  pub fade_ok : (v : ℕ) → marks restored guarded (deed place event (StageOk Fade v) content ∷ ds) ≡ record (marks restored guarded ds) { tried = None; begun = still (wanted_with restored guarded (deed place event (StageOk Fade v) content) ds) (begun restored guarded ds); faded = true }
  pub fade_fault : (v : ℕ) → marks restored guarded (deed place event (StageFault Fade v) content ∷ ds) ≡ record (marks restored guarded ds) { begun = None; faded = false; halted = true }
  pub drop_ok : (v : ℕ) → marks restored guarded (deed place event (StageOk Drop v) content ∷ ds) ≡ record (marks restored guarded ds) { done = None; undone = false; opened = false; begun = still (wanted_with restored guarded (deed place event (StageOk Drop v) content) ds) (begun restored guarded ds); faded = false }
  pub drop_fault : (v : ℕ) → marks restored guarded (deed place event (StageFault Drop v) content ∷ ds) ≡ record (marks restored guarded ds) { undone = true; begun = None; faded = false; halted = true }
  -- any other outcome ends a begun backup where the copy isn't wanted after it, and a change ends a halt
  pub other : (outcome : Outcome) → is_vault_outcome outcome ≡ false → marks restored guarded (deed place event outcome content ∷ ds) ≡ record (marks restored guarded ds) { begun = still (wanted_with restored guarded (deed place event outcome content) ds) (begun restored guarded ds); halted = if is_change outcome then false else halted ds }
  -- and leaves what a crash may bring back as it was
  pub other_allowed : (outcome : Outcome) → is_vault_outcome outcome ≡ false → allowed restored (deed place event outcome content ∷ ds) ≡ allowed restored ds

abbrev pub MarksChange : Type 0
MarksChange = (restored : Option Backup) (guarded : Bool) (place : ℕ) (event : Event) (content : List ℕ) (ds : List Deed) → MarkLaws restored guarded place event content ds

other_marks : (restored : Option Backup) (guarded : Bool) (place : ℕ) (event : Event) (content : List ℕ) (ds : List Deed) (outcome : Outcome) → is_vault_outcome outcome ≡ false → marks restored guarded (deed place event outcome content ∷ ds) ≡ record (marks restored guarded ds) { begun = still (wanted_with restored guarded (deed place event outcome content) ds) (begun restored guarded ds); halted = if is_change outcome then false else halted ds }
other_marks restored guarded place event content ds (StageOk s v) h = absurd cc
other_marks restored guarded place event content ds (StageFault s v) h = absurd cc
other_marks restored guarded place event content ds Spent h = absurd cc
other_marks restored guarded place event content ds _ h = refl

other_allowed : (restored : Option Backup) (place : ℕ) (event : Event) (content : List ℕ) (ds : List Deed) (outcome : Outcome) → is_vault_outcome outcome ≡ false → allowed restored (deed place event outcome content ∷ ds) ≡ allowed restored ds
other_allowed restored place event content ds (StageOk s v) h = absurd cc
other_allowed restored place event content ds (StageFault s v) h = absurd cc
other_allowed restored place event content ds Spent h = absurd cc
other_allowed restored place event content ds _ h = refl

pub marks_change : MarksChange
marks_change restored guarded place event content ds = record {
  prepare_ok = λ v. refl;
  prepare_fault = λ v. refl;
  spent = refl;
  body_ok = λ v. refl;
  body_fault = λ v. refl;
  open_ok = λ v. refl;
  open_fault = λ v. refl;
  fade_ok = λ v. refl;
  fade_fault = λ v. refl;
  drop_ok = λ v. refl;
  drop_fault = λ v. refl;
  other = other_marks restored guarded place event content ds;
  other_allowed = other_allowed restored place event content ds;
}
