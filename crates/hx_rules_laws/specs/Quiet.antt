-- What holds of a resource where no stage is due for it.
use Rattle.std.specs.Prelude.{◌≡◌, ℕ, not, Bool, true, false, ◌&&◌, ◌||◌, List, if◌then◌else◌, Option, Some, None, is_some, refl}
use Rattle.std.proofs.Common.{ap, sym, ◌∙◌}
use Rattle.hx_events.specs.declared.backup.Backup.{Backup}
use Rattle.hx_rules.specs.declared.saves.Running.{Running}
use Rattle.hx_rules.specs.Entries.{Deed}
use Rattle.hx_rules.specs.Versions.{last_version}
use Rattle.hx_rules.specs.Copies.{dirty}
use Rattle.hx_rules.specs.Saves.{running, save_steps}
use Rattle.hx_rules.specs.Backups.{Begun, begun, halted, held, wanted, backed, opened, faded, safe}
use Rattle.hx_rules.specs.Due.{Check, Write, Refuse, due_vault, due_save, save_work, running_version, may_discard}
use Rattle.hx_rules_laws.specs.Rows.{due_of}

-- No save of it runs.
abbrev pub NoSaveRuns : Type 0
NoSaveRuns = (restored : Option Backup) (guarded : Bool) (ds : List Deed) → due_vault restored guarded ds ≡ None → due_save restored guarded ds ≡ None → running (save_steps restored ds) ≡ None

-- Unless it is halted, its last version is backed up where it is dirty.
abbrev pub DirtyIsBackedUp : Type 0
DirtyIsBackedUp = (restored : Option Backup) (guarded : Bool) (ds : List Deed) → due_vault restored guarded ds ≡ None → halted ds ≡ false → dirty restored ds ≡ true → backed restored ds ≡ true

-- Unless it is halted, nothing of it may show where no backup is wanted and a discard is in order.
abbrev pub UnwantedIsDiscarded : Type 0
UnwantedIsDiscarded = (restored : Option Backup) (guarded : Bool) (ds : List Deed) → due_vault restored guarded ds ≡ None → halted ds ≡ false → wanted restored guarded ds ≡ false → may_discard restored guarded ds ≡ true → opened restored ds ≡ false

-- none of the reasons for a stage is there, where none is due
pub record NoReason (p q r : Bool) : Type 0 where
  pub prepare_running : p ≡ false
  pub prepare_last : q ≡ false
  pub discard : r ≡ false

no_reason : (b : Option Begun) (p q r f : Bool) (run last : ℕ) → due_of false b p q r f run last ≡ None → NoReason p q r
no_reason (Some b) p q r f run last h = absurd cc
no_reason None true q r f run last h = absurd cc
no_reason None false true r f run last h = absurd cc
no_reason None false false true f run last h = absurd cc
no_reason None false false false f run last h = record { prepare_running = refl; prepare_last = refl; discard = refl }

module _ (restored : Option Backup) (guarded : Bool) (ds : List Deed) where
  pub reasons : due_vault restored guarded ds ≡ None → halted ds ≡ false → NoReason (held restored guarded ds && not (safe (running_version restored guarded ds) ds)) (dirty restored ds && not (backed restored ds)) (not (wanted restored guarded ds) && opened restored ds && may_discard restored guarded ds)
  reasons none running_on = no_reason (begun restored guarded ds) (held restored guarded ds && not (safe (running_version restored guarded ds) ds)) (dirty restored ds && not (backed restored ds)) (not (wanted restored guarded ds) && opened restored ds && may_discard restored guarded ds) (faded ds) (running_version restored guarded ds) (last_version restored ds)
      (ap (λ halt. due_of halt (begun restored guarded ds) (held restored guarded ds && not (safe (running_version restored guarded ds) ds)) (dirty restored ds && not (backed restored ds)) (not (wanted restored guarded ds) && opened restored ds && may_discard restored guarded ds) (faded ds) (running_version restored guarded ds) (last_version restored ds)) (sym running_on) ∙ none)

is_backed : (a b : Bool) → (a && not b) ≡ false → a ≡ true → b ≡ true
is_backed true true h a = refl
is_backed true false h a = absurd cc
is_backed false b h a = absurd cc

pub dirty_is_backed_up : DirtyIsBackedUp
dirty_is_backed_up restored guarded ds none on is = is_backed (dirty restored ds) (backed restored ds) (reasons restored guarded ds none on).prepare_last is

is_closed : (w o m : Bool) → (not w && o && m) ≡ false → w ≡ false → m ≡ true → o ≡ false
is_closed false true true h w m = absurd cc
is_closed false false m h w n = refl
is_closed false true false h w m = absurd cc
is_closed true o m h w n = absurd cc

pub unwanted_is_discarded : UnwantedIsDiscarded
unwanted_is_discarded restored guarded ds none on unwanted may = is_closed (wanted restored guarded ds) (opened restored ds) (may_discard restored guarded ds) (reasons restored guarded ds none on).discard unwanted may

-- a checked save of a guarded life is written, refused, or waits for a Prepare that is due
none_runs : (guarded is_safe is_halted : Bool) (run : Option Running) → (is_halted ≡ false → (elim guarded [ true ↦ is_some run | false ↦ false ] && not is_safe) ≡ false) → save_work guarded is_safe is_halted run ≡ None → run ≡ None
none_runs guarded is_safe is_halted None waits h = refl
none_runs guarded is_safe is_halted (Some run) waits h = absurd (go guarded is_safe is_halted run.checked waits h)
  where
    go : (g s halt c : Bool) → (halt ≡ false → (elim g [ true ↦ true | false ↦ false ] && not s) ≡ false) → (if not c then Some Check else if not g || s then Some (Write run.version) else if halt then Some (Refuse run.version) else None) ≡ None → ⊥
    go g s halt false waits h = absurd cc
    go false s halt true waits h = absurd cc
    go true true halt true waits h = absurd cc
    go true false true true waits h = absurd cc
    go true false false true waits h = absurd (let no : true ≡ false = waits refl in cc)

pub no_save_runs : NoSaveRuns
no_save_runs restored guarded ds no_vault no_save =
    none_runs guarded (safe (running_version restored guarded ds) ds) (halted ds) (running (save_steps restored ds)) (λ on. (reasons restored guarded ds no_vault on).prepare_running) no_save
