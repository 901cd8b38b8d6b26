-- Which outcomes and stages there may be by what is kept, and by the deeds that it fits.
use Rattle.std.specs.Prelude.{◌||◌, not, ℕ, ◌≡◌, ◌==◌, Bool, true, false, ◌&&◌, List, [], ◌∷◌, length, Option, Some, None, is_some, option_map, IfSome, refl}
use Rattle.std.proofs.Common.{ap, sym, ◌∙◌}
use Rattle.hx_etag.specs.declared.stat.Stat.{Stat}
use Rattle.hx_events.specs.declared.backup.Backup.{Backup}
use Rattle.hx_events.specs.declared.event.Command.TheVariants.{Open, Create, Edit, Undo, Redo, Save, Revert, Close, Outside}
use Rattle.hx_events.specs.declared.event.Event.{Event}
use Rattle.hx_events.specs.declared.event.Event.TheVariants.{Act, Vault, Flush, Quit}
use Rattle.hx_events.specs.declared.outcome.Outcome.{Outcome}
use Rattle.hx_events.specs.declared.outcome.Outcome.TheVariants.{Edited, NotOpen, OutOfContent, TooLarge, Undone, NoUndo, Redone, NoRedo, Idle, Modified, CheckFault, Checked, WriteFault, Saved, Unguarded}
use Rattle.hx_rules.specs.declared.saves.Running.{Running}
use Rattle.hx_rules.specs.Entries.{Deed}
use Rattle.hx_rules.specs.Versions.{last_version, last_content, trail, can_undo, can_redo, trail_of}
use Rattle.hx_rules.specs.Copies.{registered, dirty, kept}
use Rattle.hx_rules.specs.Saves.{asked_by, running, save_steps}
use Rattle.hx_rules.specs.Backups.{Snapshot, holds, begun, halted, held, backed, done, opened, faded, safe, write_failed}
use Rattle.hx_rules.specs.Due.{VaultWork, due_vault, due_save, next_work, run_version, running_version, save_work}
use Rattle.hx_rules.specs.Legal.{open_row, create_row, edit_row, undo_row, redo_row, save_row, revert_row, close_row, outside_row, vault_row, flush_row, is_over}
use Rattle.hx_copy.specs.Copies.{Place}
use Rattle.hx_copy.specs.Copies.{Copy, has_places}
use Rattle.hx_resource.specs.Kept.{Kept, dirty_now, content_in, base_in, held_by, is_safe_to}
use Rattle.hx_resource.specs.Rows.{Facts, due_by_facts, facts_kept, is_backed, undo_in, redo_in, vault_due_kept, save_due_kept, row_kept}
use Rattle.hx_resource_laws.specs.Fits.{FitsCopy, Fits, ids}
use Rattle.hx_resource_laws.specs.CopyFits.{dirty_is}
use Rattle.hx_resource_laws.specs.RunFits.{FitsRun}

-- the same facts by the deeds
abbrev pub facts_of : Option Backup → Bool → List Deed → Facts
facts_of r guarded ds = record {
  halted = halted ds;
  begun = next_work (begun r guarded ds);
  held = held r guarded ds;
  safe = safe (running_version r guarded ds) ds;
  run = running_version r guarded ds;
  dirty = dirty r ds;
  backed = backed r ds;
  last = last_version r ds;
  opened = opened r ds;
  keep = guarded && write_failed ds;
  faded = faded ds;
}

-- the rules of due are over these facts
pub due_is : (r : Option Backup) (guarded : Bool) (ds : List Deed) → due_by_facts (facts_of r guarded ds) ≡ due_vault r guarded ds
due_is r guarded ds = refl

backed_is : (n : ℕ) (x : Option Snapshot) → is_backed n (option_map (λ b. b.version) x) ≡ (elim x [ None ↦ false | Some b ↦ b.version == n ])
backed_is n None = refl
backed_is n (Some b) = refl

abbrev facts : Bool → Option VaultWork → Bool → Bool → ℕ → Bool → Bool → ℕ → Bool → Bool → Bool → Facts
facts halted begun held safe run dirty backed last opened keep faded = record { halted = halted; begun = begun; held = held; safe = safe; run = run; dirty = dirty; backed = backed; last = last; opened = opened; keep = keep; faded = faded }

pub facts_same : (r : Option Backup) (guarded : Bool) (ds : List Deed) (s : Kept) → Fits r guarded ds s → facts_kept guarded s ≡ facts_of r guarded ds
facts_same r guarded ds s fits =
    let k = facts_kept guarded s in
    let f = facts_of r guarded ds in
    let run = fits.seq.run in
    ap (λ x. facts x k.begun k.held k.safe k.run k.dirty k.backed k.last k.opened k.keep k.faded) fits.halted
    ∙ (ap (λ x. facts f.halted (next_work x) k.held k.safe k.run k.dirty k.backed k.last k.opened k.keep k.faded) fits.begun
    ∙ (ap (λ x. facts f.halted f.begun (held_by guarded x) (is_safe_to (run_version x) s.safe) (run_version x) k.dirty k.backed k.last k.opened k.keep k.faded) run
    ∙ (ap (λ x. facts f.halted f.begun f.held x f.run k.dirty k.backed k.last k.opened k.keep k.faded) (fits.safe f.run)
    ∙ (ap (λ x. facts f.halted f.begun f.held f.safe f.run x k.backed k.last k.opened k.keep k.faded) (dirty_is r ds s.copy fits.there fits.copy)
    ∙ (ap (λ x. facts f.halted f.begun f.held f.safe f.run f.dirty (is_backed s.last x) k.last k.opened k.keep k.faded) fits.done
    ∙ (ap (λ x. facts f.halted f.begun f.held f.safe f.run f.dirty x k.last k.opened k.keep k.faded) (backed_is s.last (done r ds))
    ∙ (ap (λ x. facts f.halted f.begun f.held f.safe f.run f.dirty (elim (done r ds) [ None ↦ false | Some b ↦ b.version == x ]) x k.opened k.keep k.faded) fits.last
    ∙ (ap (λ x. facts f.halted f.begun f.held f.safe f.run f.dirty f.backed f.last x k.keep k.faded) fits.opened
    ∙ (ap (λ x. facts f.halted f.begun f.held f.safe f.run f.dirty f.backed f.last f.opened (guarded && x) k.faded) fits.write_failed
    ∙ ap (λ x. facts f.halted f.begun f.held f.safe f.run f.dirty f.backed f.last f.opened f.keep x) fits.faded)))))))))

pub vault_due_same : (r : Option Backup) (guarded : Bool) (ds : List Deed) (s : Kept) → Fits r guarded ds s → vault_due_kept guarded s ≡ due_vault r guarded ds
vault_due_same r guarded ds s fits = ap due_by_facts (facts_same r guarded ds s fits)

pub save_due_same : (r : Option Backup) (guarded : Bool) (ds : List Deed) (s : Kept) → Fits r guarded ds s → save_due_kept guarded s ≡ due_save r guarded ds
save_due_same r guarded ds s fits =
    ap (λ x. save_work guarded (is_safe_to (run_version x) s.safe) s.halted x) fits.seq.run
    ∙ (ap (λ x. save_work guarded x s.halted (running (save_steps r ds))) (fits.safe (running_version r guarded ds))
    ∙ ap (λ x. save_work guarded (safe (running_version r guarded ds) ds) x (running (save_steps r ds))) fits.halted)

-- The row of an event of one resource.
abbrev pub row_of : Option Backup → Bool → Bool → Bool → List Deed → Event → Outcome → Bool
row_of r guarded lacks spent ds (Act (Open c)) outcome = open_row (registered r ds) lacks outcome
row_of r guarded lacks spent ds (Act (Create c)) outcome = create_row (registered r ds) lacks (last_version r ds) outcome
row_of r guarded lacks spent ds (Act (Edit c off del text)) outcome = edit_row (registered r ds) (last_content r ds).size off del (length text) (last_version r ds) outcome
row_of r guarded lacks spent ds (Act (Undo c)) outcome = undo_row (registered r ds) (can_undo (trail r ds)) (last_version r ds) outcome
row_of r guarded lacks spent ds (Act (Redo c)) outcome = redo_row (registered r ds) (can_redo (trail r ds)) (last_version r ds) outcome
row_of r guarded lacks spent ds (Act (Save c force over)) outcome = save_row (registered r ds) (asked_by (running (save_steps r ds)) (last_version r ds) (dirty r ds) force) (last_version r ds) outcome
row_of r guarded lacks spent ds (Act (Revert c)) outcome = revert_row (registered r ds) (is_some (running (save_steps r ds))) outcome
row_of r guarded lacks spent ds (Act (Close c)) outcome = close_row (registered r ds) (is_some (running (save_steps r ds))) outcome
row_of r guarded lacks spent ds (Act (Outside c mtime text)) outcome = outside_row outcome
row_of r guarded lacks spent ds (Vault c) outcome = vault_row spent (due_vault r guarded ds) outcome
row_of r guarded lacks spent ds (Flush c) outcome = flush_row (due_save r guarded ds) (is_over (running (save_steps r ds))) (kept r ds) outcome
row_of r guarded lacks spent ds Quit outcome = false

closed_edit : (a b off del add n : ℕ) (outcome : Outcome) → edit_row false a off del add n outcome ≡ edit_row false b off del add n outcome
closed_edit a b off del add n NotOpen = refl
closed_edit a b off del add n OutOfContent = refl
closed_edit a b off del add n TooLarge = refl
closed_edit a b off del add n (Edited m) = refl
closed_edit a b off del add n _ = refl

closed_undo : (a b : Bool) (n : ℕ) (outcome : Outcome) → undo_row false a n outcome ≡ undo_row false b n outcome
closed_undo a b n NotOpen = refl
closed_undo a b n NoUndo = refl
closed_undo a b n (Undone m) = refl
closed_undo a b n _ = refl

closed_redo : (a b : Bool) (n : ℕ) (outcome : Outcome) → redo_row false a n outcome ≡ redo_row false b n outcome
closed_redo a b n NotOpen = refl
closed_redo a b n NoRedo = refl
closed_redo a b n (Redone m) = refl
closed_redo a b n _ = refl

no_flush : (over : Bool) (a b : Option Stat) (outcome : Outcome) → flush_row None over a outcome ≡ flush_row None over b outcome
no_flush over a b Idle = refl
no_flush over a b CheckFault = refl
no_flush over a b (Modified s) = refl
no_flush over a b (Checked x) = refl
no_flush over a b (WriteFault n) = refl
no_flush over a b (Saved n x) = refl
no_flush over a b (Unguarded n) = refl
no_flush over a b _ = refl

pub places_ids : (a : List ℕ) (id : ℕ) (ps : List Place) → has_places ps ≡ can_undo (trail_of (id ∷ ids ps) a)
places_ids a id [] = refl
places_ids a id (p ∷ ps) = refl

pub places_ahead : (b : List ℕ) (ps : List Place) → has_places ps ≡ can_redo (trail_of b (ids ps))
places_ahead b [] = refl
places_ahead b (p ∷ ps) = refl

edit_same : (r : Option Backup) (ds : List Deed) (copy : Option Copy) (n off del add : ℕ) (outcome : Outcome) → IfSome copy (FitsCopy r ds) → edit_row (is_some copy) (length (content_in copy)) off del add n outcome ≡ edit_row (is_some copy) (last_content r ds).size off del add n outcome
edit_same r ds None n off del add outcome fits = closed_edit 0 (last_content r ds).size off del add n outcome
edit_same r ds (Some c) n off del add outcome fits = ap (λ v. edit_row true v.size off del add n outcome) (sym fits.now)

undo_same : (r : Option Backup) (ds : List Deed) (copy : Option Copy) (n : ℕ) (outcome : Outcome) → IfSome copy (FitsCopy r ds) → undo_row (is_some copy) (undo_in copy) n outcome ≡ undo_row (is_some copy) (can_undo (trail r ds)) n outcome
undo_same r ds None n outcome fits = closed_undo false (can_undo (trail r ds)) n outcome
undo_same r ds (Some c) n outcome fits = ap (λ b. undo_row true b n outcome) (places_ids (ids c.ahead) c.here.id c.back ∙ ap can_undo (sym fits.trail))

redo_same : (r : Option Backup) (ds : List Deed) (copy : Option Copy) (n : ℕ) (outcome : Outcome) → IfSome copy (FitsCopy r ds) → redo_row (is_some copy) (redo_in copy) n outcome ≡ redo_row (is_some copy) (can_redo (trail r ds)) n outcome
redo_same r ds None n outcome fits = closed_redo false (can_redo (trail r ds)) n outcome
redo_same r ds (Some c) n outcome fits = ap (λ b. redo_row true b n outcome) (places_ahead (c.here.id ∷ ids c.back) c.ahead ∙ ap can_redo (sym fits.trail))

flush_same : (r : Option Backup) (ds : List Deed) (guarded is_safe is_halted : Bool) (run : Option Running) (copy : Option Copy) (saving : List ℕ) (outcome : Outcome) → IfSome copy (FitsCopy r ds) → FitsRun r ds run copy saving
    → flush_row (save_work guarded is_safe is_halted run) (is_over run) (base_in copy) outcome ≡ flush_row (save_work guarded is_safe is_halted run) (is_over run) (kept r ds) outcome
flush_same r ds guarded is_safe is_halted None copy saving outcome fits running = no_flush false (base_in copy) (kept r ds) outcome
flush_same r ds guarded is_safe is_halted (Some run) None saving outcome fits running = absurd cc
flush_same r ds guarded is_safe is_halted (Some run) (Some c) saving outcome fits running = ap (λ b. flush_row (save_work guarded is_safe is_halted (Some run)) run.over b outcome) fits.base

pub row_same : (r : Option Backup) (guarded lacks spent : Bool) (ds : List Deed) (s : Kept) (event : Event) (outcome : Outcome) → Fits r guarded ds s → row_kept guarded lacks spent s event outcome ≡ row_of r guarded lacks spent ds event outcome
row_same r guarded lacks spent ds s (Act (Open c)) outcome fits = ap (λ b. open_row b lacks outcome) fits.there
row_same r guarded lacks spent ds s (Act (Create c)) outcome fits = ap (λ b. create_row b lacks s.last outcome) fits.there ∙ ap (λ n. create_row (registered r ds) lacks n outcome) fits.last
row_same r guarded lacks spent ds s (Act (Edit c off del text)) outcome fits =
    edit_same r ds s.copy s.last off del (length text) outcome fits.copy
    ∙ (ap (λ b. edit_row b (last_content r ds).size off del (length text) s.last outcome) fits.there ∙ ap (λ n. edit_row (registered r ds) (last_content r ds).size off del (length text) n outcome) fits.last)
row_same r guarded lacks spent ds s (Act (Undo c)) outcome fits =
    undo_same r ds s.copy s.last outcome fits.copy ∙ (ap (λ b. undo_row b (can_undo (trail r ds)) s.last outcome) fits.there ∙ ap (λ n. undo_row (registered r ds) (can_undo (trail r ds)) n outcome) fits.last)
row_same r guarded lacks spent ds s (Act (Redo c)) outcome fits =
    redo_same r ds s.copy s.last outcome fits.copy ∙ (ap (λ b. redo_row b (can_redo (trail r ds)) s.last outcome) fits.there ∙ ap (λ n. redo_row (registered r ds) (can_redo (trail r ds)) n outcome) fits.last)
row_same r guarded lacks spent ds s (Act (Save c force over)) outcome fits =
    ap (λ b. save_row b (asked_by s.seq.run s.last (dirty_now s.copy) force) s.last outcome) fits.there
    ∙ (ap (λ x. save_row (registered r ds) (asked_by x s.last (dirty_now s.copy) force) s.last outcome) fits.seq.run
    ∙ (ap (λ x. save_row (registered r ds) (asked_by (running (save_steps r ds)) s.last x force) s.last outcome) (dirty_is r ds s.copy fits.there fits.copy)
    ∙ ap (λ n. save_row (registered r ds) (asked_by (running (save_steps r ds)) n (dirty r ds) force) n outcome) fits.last))
row_same r guarded lacks spent ds s (Act (Revert c)) outcome fits = ap (λ b. revert_row b (is_some s.seq.run) outcome) fits.there ∙ ap (λ x. revert_row (registered r ds) (is_some x) outcome) fits.seq.run
row_same r guarded lacks spent ds s (Act (Close c)) outcome fits = ap (λ b. close_row b (is_some s.seq.run) outcome) fits.there ∙ ap (λ x. close_row (registered r ds) (is_some x) outcome) fits.seq.run
row_same r guarded lacks spent ds s (Act (Outside c mtime text)) outcome fits = refl
row_same r guarded lacks spent ds s (Vault c) outcome fits = ap (λ d. vault_row spent d outcome) (vault_due_same r guarded ds s fits)
row_same r guarded lacks spent ds s (Flush c) outcome fits =
    flush_same r ds guarded (is_safe_to (run_version s.seq.run) s.safe) s.halted s.seq.run s.copy s.saving outcome fits.copy fits.run
    ∙ (ap (λ d. flush_row d (is_over s.seq.run) (kept r ds) outcome) (save_due_same r guarded ds s fits)
    ∙ ap (λ x. flush_row (due_save r guarded ds) (is_over x) (kept r ds) outcome) fits.seq.run)
row_same r guarded lacks spent ds s Quit outcome fits = refl

pub holds_same : (r : Option Backup) (guarded : Bool) (ds : List Deed) (s : Kept) → Fits r guarded ds s → (is_some s.copy || s.opened) ≡ holds r ds
holds_same r guarded ds s fits = ap (λ b. b || s.opened) fits.there ∙ ap (λ b. registered r ds || b) fits.opened

pub unsafe_same : (r : Option Backup) (guarded : Bool) (ds : List Deed) (s : Kept) → Fits r guarded ds s → (dirty_now s.copy && not (is_backed s.last s.done)) ≡ (dirty r ds && not (backed r ds))
unsafe_same r guarded ds s fits = ap (λ f. f.dirty && not f.backed) (facts_same r guarded ds s fits)
