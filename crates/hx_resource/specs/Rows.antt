-- Which outcomes an event may have, and which stages are due, by what is kept.
use Rattle.std.specs.Prelude.{ℕ, ◌==◌, not, Bool, false, ◌&&◌, ◌||◌, length, if◌then◌else◌, Option, Some, None, is_some}
use Rattle.hx_events.specs.declared.event.Command.TheVariants.{Open, Create, Edit, Undo, Redo, Save, Revert, Close, Outside}
use Rattle.hx_events.specs.declared.event.Event.{Event}
use Rattle.hx_events.specs.declared.event.Event.TheVariants.{Act, Vault, Flush, Quit}
use Rattle.hx_events.specs.declared.event.Stage.TheVariants.{Prepare, Fade, Drop}
use Rattle.hx_events.specs.declared.outcome.Outcome.{Outcome}
use Rattle.hx_rules.specs.Saves.{asked_by}
use Rattle.hx_rules.specs.Due.{VaultWork, SaveWork, vault_work, first_of, work_if, next_work, run_version, save_work}
use Rattle.hx_rules.specs.Legal.{open_row, create_row, edit_row, undo_row, redo_row, save_row, revert_row, close_row, outside_row, vault_row, flush_row, is_over}
use Rattle.hx_resource.specs.declared.due.DueSave.{DueSave}
use Rattle.hx_resource.specs.declared.due.DueSave.TheVariants.{Check, Write, Refuse}
use Rattle.hx_rules.specs.Due.{Check as SaysCheck, Write as SaysWrite, Refuse as SaysRefuse}
use Rattle.hx_copy.specs.Copies.{Copy, has_places}
use Rattle.hx_resource.specs.Kept.{Kept, dirty_now, content_in, base_in, held_by, is_safe_to}

-- the completed backup is of the version n
abbrev pub is_backed : ℕ → Option ℕ → Bool
is_backed n None = false
is_backed n (Some v) = v == n

abbrev pub undo_in : Option Copy → Bool
undo_in None = false
undo_in (Some c) = has_places c.back

abbrev pub redo_in : Option Copy → Bool
redo_in None = false
redo_in (Some c) = has_places c.ahead

-- what decides which stages are due
pub record Facts : Type 0 where
  pub halted : Bool
  pub begun : Option VaultWork
  pub held : Bool
  pub safe : Bool
  pub run : ℕ
  pub dirty : Bool
  pub backed : Bool
  pub last : ℕ
  pub opened : Bool
  pub keep : Bool
  pub faded : Bool

-- the rules of due over these facts
abbrev pub due_by_facts : Facts → Option VaultWork
due_by_facts f =
    if f.halted then None else
    first_of f.begun
    (first_of (work_if (f.held && not f.safe) (vault_work Prepare f.run))
    (first_of (work_if (f.dirty && not f.backed) (vault_work Prepare f.last))
    (work_if (not (f.dirty || f.held) && f.opened && not f.keep) (vault_work (if f.faded then Drop else Fade) 0))))

-- the facts, by what is kept
abbrev pub facts_kept : Bool → Kept → Facts
facts_kept guarded s = record {
  halted = s.halted;
  begun = next_work s.begun;
  held = held_by guarded s.seq.run;
  safe = is_safe_to (run_version s.seq.run) s.safe;
  run = run_version s.seq.run;
  dirty = dirty_now s.copy;
  backed = is_backed s.last s.done;
  last = s.last;
  opened = s.opened;
  keep = guarded && s.write_failed;
  faded = s.faded;
}

-- the vault stage that is due, by what is kept
abbrev pub vault_due_kept : Bool → Kept → Option VaultWork
vault_due_kept guarded s = due_by_facts (facts_kept guarded s)

-- the save stage that is due, by what is kept
abbrev pub save_due_kept : Bool → Kept → Option SaveWork
save_due_kept guarded s = save_work guarded (is_safe_to (run_version s.seq.run) s.safe) s.halted s.seq.run

-- May the event have this outcome, by what is kept? The resource gets no pair where `lacks` says so; `spent` says that a Prepare was answered Spent before.
abbrev pub row_kept : Bool → Bool → Bool → Kept → Event → Outcome → Bool
row_kept guarded lacks spent s (Act (Open c)) outcome = open_row (is_some s.copy) lacks outcome
row_kept guarded lacks spent s (Act (Create c)) outcome = create_row (is_some s.copy) lacks s.last outcome
row_kept guarded lacks spent s (Act (Edit c off del text)) outcome = edit_row (is_some s.copy) (length (content_in s.copy)) off del (length text) s.last outcome
row_kept guarded lacks spent s (Act (Undo c)) outcome = undo_row (is_some s.copy) (undo_in s.copy) s.last outcome
row_kept guarded lacks spent s (Act (Redo c)) outcome = redo_row (is_some s.copy) (redo_in s.copy) s.last outcome
row_kept guarded lacks spent s (Act (Save c force over)) outcome = save_row (is_some s.copy) (asked_by s.seq.run s.last (dirty_now s.copy) force) s.last outcome
row_kept guarded lacks spent s (Act (Revert c)) outcome = revert_row (is_some s.copy) (is_some s.seq.run) outcome
row_kept guarded lacks spent s (Act (Close c)) outcome = close_row (is_some s.copy) (is_some s.seq.run) outcome
row_kept guarded lacks spent s (Act (Outside c mtime text)) outcome = outside_row outcome
row_kept guarded lacks spent s (Vault c) outcome = vault_row spent (vault_due_kept guarded s) outcome
row_kept guarded lacks spent s (Flush c) outcome = flush_row (save_due_kept guarded s) (is_over s.seq.run) (base_in s.copy) outcome
row_kept guarded lacks spent s Quit outcome = false

-- the save stage that a value of the code is
abbrev pub save_work_of : DueSave → SaveWork
save_work_of Check = SaysCheck
save_work_of (Write v) = SaysWrite v
save_work_of (Refuse v) = SaysRefuse v
