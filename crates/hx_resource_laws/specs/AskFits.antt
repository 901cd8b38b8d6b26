-- Who answers an event, and what its outcome is, by the deeds of its resource; and that what is kept says the same.
use Rattle.std.specs.Prelude.{ℕ, ◌≡◌, Bool, true, false, List, ◌∷◌, length, if◌then◌else◌, Option, Some, None, is_some, IfSome, refl}
use Rattle.std.proofs.Common.{ap, sym, ◌∙◌}
use Rattle.hx_etag.specs.declared.stat.Stat.{Stat}
use Rattle.hx_events.specs.declared.backup.Backup.{Backup}
use Rattle.hx_events.specs.declared.event.Command.TheVariants.{Open, Create, Edit, Undo, Redo, Save, Revert, Close, Outside}
use Rattle.hx_events.specs.declared.event.Event.{Event}
use Rattle.hx_events.specs.declared.event.Event.TheVariants.{Act, Vault, Flush, Quit}
use Rattle.hx_events.specs.declared.outcome.Outcome.{Outcome}
use Rattle.hx_events.specs.declared.outcome.Outcome.TheVariants.{Quit as MayQuit}
use Rattle.hx_rules.specs.Entries.{Deed}
use Rattle.hx_rules.specs.Versions.{last_version, last_content, trail, can_undo, can_redo}
use Rattle.hx_rules.specs.Copies.{registered, dirty, kept}
use Rattle.hx_rules.specs.Saves.{asked_by, running, save_steps}
use Rattle.hx_rules.specs.Due.{due_vault, due_save, version_due, run_version}
use Rattle.hx_rules.specs.Legal.{deletes_past, grows_past, is_over}
use Rattle.hx_copy.specs.Copies.{Copy}
use Rattle.hx_resource.specs.declared.asks.Asked.{Asked}
use Rattle.hx_resource.specs.declared.asks.Asked.TheVariants.{Settled, Device}
use Rattle.hx_resource.specs.declared.asks.Work.{Work}
use Rattle.hx_resource.specs.declared.asks.Work.TheVariants.{ReadFile, OutsideWrite, Check, Write, Vault as VaultStage}
use Rattle.hx_resource.specs.declared.asks.Got.{Got}
use Rattle.hx_resource.specs.Kept.{Kept, dirty_now, content_in, base_in}
use Rattle.hx_resource.specs.Rows.{undo_in, redo_in, vault_due_kept}
use Rattle.hx_resource.specs.Asks.{open_asks, create_asks, edit_asks, undo_asks, redo_asks, save_asks, revert_asks, close_asks, vault_asks, flush_asks, asks_kept, read_outcome, outside_outcome, check_outcome, write_outcome, stage_outcome, work_outcome, outcome_by, outcome_kept}
use Rattle.hx_resource_laws.specs.Fits.{FitsCopy, Fits, ids}
use Rattle.hx_resource_laws.specs.CopyFits.{dirty_is}
use Rattle.hx_resource_laws.specs.RowFits.{places_ids, places_ahead, vault_due_same, save_due_same}

-- Who answers an event of the resource after these deeds: the rules alone, or the device. The resource gets no pair where
-- `lacks` says so.
abbrev pub asks_of : Option Backup → Bool → Bool → List Deed → Event → Asked
asks_of r guarded lacks ds (Act (Open c)) = open_asks c (registered r ds) lacks
asks_of r guarded lacks ds (Act (Create c)) = create_asks (registered r ds) lacks (last_version r ds)
asks_of r guarded lacks ds (Act (Edit c off del text)) = edit_asks (registered r ds) (deletes_past (last_content r ds).size off del) (grows_past (last_content r ds).size del (length text)) (last_version r ds)
asks_of r guarded lacks ds (Act (Undo c)) = undo_asks (registered r ds) (can_undo (trail r ds)) (last_version r ds)
asks_of r guarded lacks ds (Act (Redo c)) = redo_asks (registered r ds) (can_redo (trail r ds)) (last_version r ds)
asks_of r guarded lacks ds (Act (Save c force over)) = save_asks (registered r ds) (asked_by (running (save_steps r ds)) (last_version r ds) (dirty r ds) force) (last_version r ds)
asks_of r guarded lacks ds (Act (Revert c)) = revert_asks c (registered r ds) (is_some (running (save_steps r ds)))
asks_of r guarded lacks ds (Act (Close c)) = close_asks (registered r ds) (is_some (running (save_steps r ds)))
asks_of r guarded lacks ds (Act (Outside c mtime text)) = Device OutsideWrite
asks_of r guarded lacks ds (Vault c) = vault_asks c (due_vault r guarded ds)
asks_of r guarded lacks ds (Flush c) = flush_asks c (due_save r guarded ds)
asks_of r guarded lacks ds Quit = Settled MayQuit

-- the stat that a registered copy keeps
abbrev pub kept_now : Option Backup → List Deed → Option Stat
kept_now r ds = if registered r ds then kept r ds else None

-- what the answer makes of the work after these deeds; `spent` says that a Prepare was answered Spent before
abbrev pub work_of : Option Backup → Bool → Bool → List Deed → Work → Got → Outcome
work_of r guarded spent ds (ReadFile c) got = read_outcome (registered r ds) got
work_of r guarded spent ds OutsideWrite got = outside_outcome got
work_of r guarded spent ds (Check c) got = check_outcome (is_over (running (save_steps r ds))) (kept_now r ds) got
work_of r guarded spent ds (Write c) got = write_outcome (run_version (running (save_steps r ds))) got
work_of r guarded spent ds (VaultStage c stage) got = stage_outcome spent stage (version_due (due_vault r guarded ds)) got

abbrev pub given_of : Option Backup → Bool → Bool → List Deed → Asked → Got → Outcome
given_of r guarded spent ds (Settled outcome) got = outcome
given_of r guarded spent ds (Device work) got = work_of r guarded spent ds work got

-- The outcome of an event of the resource after these deeds: the one that is settled, or the one that the answer gives.
abbrev pub outcome_of : Option Backup → Bool → Bool → Bool → List Deed → Event → Got → Outcome
outcome_of r guarded lacks spent ds event got = given_of r guarded spent ds (asks_of r guarded lacks ds event) got

-- ---- what is kept says the same
edit_same : (r : Option Backup) (ds : List Deed) (copy : Option Copy) (n off del add : ℕ) → IfSome copy (FitsCopy r ds)
    → edit_asks (is_some copy) (deletes_past (length (content_in copy)) off del) (grows_past (length (content_in copy)) del add) n ≡ edit_asks (is_some copy) (deletes_past (last_content r ds).size off del) (grows_past (last_content r ds).size del add) n
edit_same r ds None n off del add fits = refl
edit_same r ds (Some c) n off del add fits = ap (λ v. edit_asks true (deletes_past v.size off del) (grows_past v.size del add) n) (sym fits.now)

undo_same : (r : Option Backup) (ds : List Deed) (copy : Option Copy) (n : ℕ) → IfSome copy (FitsCopy r ds) → undo_asks (is_some copy) (undo_in copy) n ≡ undo_asks (is_some copy) (can_undo (trail r ds)) n
undo_same r ds None n fits = refl
undo_same r ds (Some c) n fits = ap (λ b. undo_asks true b n) (places_ids (ids c.ahead) c.here.id c.back ∙ ap can_undo (sym fits.trail))

redo_same : (r : Option Backup) (ds : List Deed) (copy : Option Copy) (n : ℕ) → IfSome copy (FitsCopy r ds) → redo_asks (is_some copy) (redo_in copy) n ≡ redo_asks (is_some copy) (can_redo (trail r ds)) n
redo_same r ds None n fits = refl
redo_same r ds (Some c) n fits = ap (λ b. redo_asks true b n) (places_ahead (c.here.id ∷ ids c.back) c.ahead ∙ ap can_redo (sym fits.trail))

pub asks_same : (r : Option Backup) (guarded lacks : Bool) (ds : List Deed) (s : Kept) (event : Event) → Fits r guarded ds s → asks_kept guarded lacks s event ≡ asks_of r guarded lacks ds event
asks_same r guarded lacks ds s (Act (Open c)) fits = ap (λ b. open_asks c b lacks) fits.there
asks_same r guarded lacks ds s (Act (Create c)) fits = ap (λ b. create_asks b lacks s.last) fits.there ∙ ap (λ n. create_asks (registered r ds) lacks n) fits.last
asks_same r guarded lacks ds s (Act (Edit c off del text)) fits =
    edit_same r ds s.copy s.last off del (length text) fits.copy
    ∙ (ap (λ b. edit_asks b (deletes_past (last_content r ds).size off del) (grows_past (last_content r ds).size del (length text)) s.last) fits.there
    ∙ ap (λ n. edit_asks (registered r ds) (deletes_past (last_content r ds).size off del) (grows_past (last_content r ds).size del (length text)) n) fits.last)
asks_same r guarded lacks ds s (Act (Undo c)) fits =
    undo_same r ds s.copy s.last fits.copy ∙ (ap (λ b. undo_asks b (can_undo (trail r ds)) s.last) fits.there ∙ ap (λ n. undo_asks (registered r ds) (can_undo (trail r ds)) n) fits.last)
asks_same r guarded lacks ds s (Act (Redo c)) fits =
    redo_same r ds s.copy s.last fits.copy ∙ (ap (λ b. redo_asks b (can_redo (trail r ds)) s.last) fits.there ∙ ap (λ n. redo_asks (registered r ds) (can_redo (trail r ds)) n) fits.last)
asks_same r guarded lacks ds s (Act (Save c force over)) fits =
    ap (λ b. save_asks b (asked_by s.seq.run s.last (dirty_now s.copy) force) s.last) fits.there
    ∙ (ap (λ x. save_asks (registered r ds) (asked_by x s.last (dirty_now s.copy) force) s.last) fits.seq.run
    ∙ (ap (λ x. save_asks (registered r ds) (asked_by (running (save_steps r ds)) s.last x force) s.last) (dirty_is r ds s.copy fits.there fits.copy)
    ∙ ap (λ n. save_asks (registered r ds) (asked_by (running (save_steps r ds)) n (dirty r ds) force) n) fits.last))
asks_same r guarded lacks ds s (Act (Revert c)) fits = ap (λ b. revert_asks c b (is_some s.seq.run)) fits.there ∙ ap (λ x. revert_asks c (registered r ds) (is_some x)) fits.seq.run
asks_same r guarded lacks ds s (Act (Close c)) fits = ap (λ b. close_asks b (is_some s.seq.run)) fits.there ∙ ap (λ x. close_asks (registered r ds) (is_some x)) fits.seq.run
asks_same r guarded lacks ds s (Act (Outside c mtime text)) fits = refl
asks_same r guarded lacks ds s (Vault c) fits = ap (vault_asks c) (vault_due_same r guarded ds s fits)
asks_same r guarded lacks ds s (Flush c) fits = ap (flush_asks c) (save_due_same r guarded ds s fits)
asks_same r guarded lacks ds s Quit fits = refl

base_same : (r : Option Backup) (ds : List Deed) (copy : Option Copy) → is_some copy ≡ registered r ds → IfSome copy (FitsCopy r ds) → base_in copy ≡ kept_now r ds
base_same r ds None there fits = ap (λ b. if b then kept r ds else None) there
base_same r ds (Some c) there fits = fits.base ∙ ap (λ b. if b then kept r ds else None) there

given_same : (r : Option Backup) (guarded spent : Bool) (ds : List Deed) (s : Kept) (asked : Asked) (got : Got) → Fits r guarded ds s → outcome_by guarded spent s asked got ≡ given_of r guarded spent ds asked got
given_same r guarded spent ds s (Settled outcome) got fits = refl
given_same r guarded spent ds s (Device (ReadFile c)) got fits = ap (λ b. read_outcome b got) fits.there
given_same r guarded spent ds s (Device OutsideWrite) got fits = refl
given_same r guarded spent ds s (Device (Check c)) got fits =
    ap (λ x. check_outcome (is_over x) (base_in s.copy) got) fits.seq.run ∙ ap (λ b. check_outcome (is_over (running (save_steps r ds))) b got) (base_same r ds s.copy fits.there fits.copy)
given_same r guarded spent ds s (Device (Write c)) got fits = ap (λ x. write_outcome (run_version x) got) fits.seq.run
given_same r guarded spent ds s (Device (VaultStage c stage)) got fits = ap (λ x. stage_outcome spent stage (version_due x) got) (vault_due_same r guarded ds s fits)

pub outcome_same : (r : Option Backup) (guarded lacks spent : Bool) (ds : List Deed) (s : Kept) (event : Event) (got : Got) → Fits r guarded ds s → outcome_kept guarded lacks spent s event got ≡ outcome_of r guarded lacks spent ds event got
outcome_same r guarded lacks spent ds s event got fits =
    ap (λ a. outcome_by guarded spent s a got) (asks_same r guarded lacks ds s event fits) ∙ given_same r guarded spent ds s (asks_of r guarded lacks ds event) got fits
