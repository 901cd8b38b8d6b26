-- Which histories are legal. A history is read newest first. Each row says of one kind of event which outcomes it may
-- have after the entries before it: the refusals stand in their order, and where the disk decides, any of its answers
-- that the rules know.
use Rattle.std.specs.Prelude.{ℕ, zero, suc, ◌+◌, ◌-◌, ◌==◌, nat_le, nat_lt, not, Bool, true, false, ◌&&◌, ◌||◌, List, [], ◌∷◌, ◌++◌, length, map, count_by, bytes_eq, if◌then◌else◌, Option, Some, None, is_none, is_some, slice_index_or}
use Rattle.hx_etag.specs.declared.stat.Stat.{Stat}
use Rattle.hx_events.specs.declared.backup.TheConstants.{CONTENT_MAX}
use Rattle.hx_events.specs.declared.backup.Backup.{Backup}
use Rattle.hx_events.specs.declared.backup.PairFound.{PairFound}
use Rattle.hx_events.specs.declared.backup.PairFound.TheVariants.{Found, Damaged, Twin}
use Rattle.hx_events.specs.declared.event.Command.TheVariants.{Open, Create, Edit, Undo, Redo, Save, Revert, Close, Outside}
use Rattle.hx_events.specs.declared.event.Event.{Event}
use Rattle.hx_events.specs.declared.event.Event.TheVariants.{Act, Vault, Flush, Quit}
use Rattle.hx_events.specs.declared.event.Stage.{Stage}
use Rattle.hx_events.specs.declared.event.Stage.TheVariants.{Prepare, Body, Open as OpenGate, Fade, Drop}
use Rattle.hx_events.specs.declared.life.Entry.{Entry}
use Rattle.hx_events.specs.declared.outcome.Outcome.{Outcome}
use Rattle.hx_events.specs.declared.outcome.Outcome.TheVariants.{Opened, Created, Edited, Undone, Redone, Joined, Clean, Queued, Started, Reverted, Closed, Written, Missing, NoPair, AlreadyOpen, NotOpen, OutOfContent, TooLarge, NoUndo, NoRedo, Saving, Fault, Idle, Spent, StageOk, StageFault, Checked, Modified, CheckFault, Saved, WriteFault, Unguarded, Quit as MayQuit, Vetoed}
use Rattle.hx_events.specs.Places.{place_of}
use Rattle.hx_rules.specs.declared.saves.Asked.{Asked}
use Rattle.hx_rules.specs.declared.saves.Asked.TheVariants.{Joined as SaidJoined, Clean as SaidClean, Queued as SaidQueued, Started as SaidStarted}
use Rattle.hx_rules.specs.declared.saves.Running.{Running}
use Rattle.hx_rules.specs.Entries.{own}
use Rattle.hx_etag.specs.Conflicts.{conflict}
use Rattle.hx_rules.specs.Versions.{last_version, last_content, trail, can_undo, can_redo}
use Rattle.hx_rules.specs.Copies.{registered, dirty, kept}
use Rattle.hx_rules.specs.Saves.{asked_by, running, save_steps}
use Rattle.hx_rules.specs.Backups.{backed, holds}
use Rattle.hx_rules.specs.Due.{VaultWork, SaveWork, Check, Write, Refuse, due_vault, due_save}

-- What a life begins with: by resource number the backup that it was restored with; how many pairs are barred; and
-- whether a save's write waits for a backup of its version.
pub record Opening : Type 0 where
  pub restored : List (Option Backup)
  pub barred : ℕ
  pub guarded : Bool

-- Of the pairs that were found, the lowest one's backup of this resource.
abbrev pub found_backup : List ℕ → List PairFound → Option Backup
found_backup resource [] = None
found_backup resource (Found b side ∷ pairs) = if bytes_eq b.resource resource then Some b else found_backup resource pairs
found_backup resource (_ ∷ pairs) = found_backup resource pairs

-- A damaged pair, and one of a resource that an earlier pair has, are barred for the whole life.
abbrev pub is_barred : PairFound → Bool
is_barred Damaged = true
is_barred (Twin earlier) = true
is_barred _ = false

-- what a life with these names begins with, where these pairs were found
abbrev pub opening_of : List (List ℕ) → List PairFound → Bool → Opening
opening_of names pairs guarded = record { restored = map (λ name. found_backup name pairs) names; barred = count_by is_barred pairs; guarded = guarded }

-- the names with the resource behind, where it isn't among them
abbrev pub with_name : List ℕ → List (List ℕ) → List (List ℕ)
with_name resource names = if is_some (place_of resource names) then names else names ++ resource ∷ []

-- The names of a life: those that were declared, and behind them the resources of the found backups that aren't among them,
-- in the order of their pairs. The order is this project's own.
abbrev pub with_restored : List (List ℕ) → List PairFound → List (List ℕ)
with_restored names [] = names
with_restored names (Found b side ∷ pairs) = with_restored (with_name b.resource names) pairs
with_restored names (_ ∷ pairs) = with_restored names pairs

-- The backup that the resource c was restored with, if it was. A number past the life's resources has none; no entry of a
-- life names one.
abbrev pub restored_at : Opening → ℕ → Option Backup
restored_at o c = slice_index_or o.restored c None

-- how many of the first n resources pass the test
abbrev pub count_below : (ℕ → Bool) → ℕ → ℕ
count_below test zero = 0
count_below test (suc n) = (if test n then 1 else 0) + count_below test n

-- of the n numbers from i on the lowest that passes the test
abbrev pub lowest_from : (ℕ → Bool) → ℕ → ℕ → Option ℕ
lowest_from test i zero = None
lowest_from test i (suc n) = if test i then Some i else lowest_from test (i + 1) n

-- the lowest resource of the life that passes the test
abbrev pub lowest : Opening → (ℕ → Bool) → Option ℕ
lowest o test = lowest_from test 0 (length o.restored)

-- the resource c holds a pair after these entries
abbrev pub holds_at : Opening → List Entry → ℕ → Bool
holds_at o es c = holds (restored_at o c) (own c es)

-- Each of the 64 pairs is held by a resource or barred. More than 64 holders, which a legal history over at most 64 pairs
-- never has, don't count as that.
abbrev pub no_pair_free : Opening → List Entry → Bool
no_pair_free o es = count_below (holds_at o es) (length o.restored) + o.barred == 64

-- the resource c has no pair and gets none
abbrev pub lacks_pair : Opening → List Entry → ℕ → Bool
lacks_pair o es c = not (holds_at o es c) && no_pair_free o es

-- the copy is dirty, and its last version isn't backed up
abbrev pub is_unsafe : Opening → List Entry → ℕ → Bool
is_unsafe o es c = dirty (restored_at o c) (own c es) && not (backed (restored_at o c) (own c es))

-- a Prepare was answered Spent before
abbrev pub is_spent : Outcome → Bool
is_spent Spent = true
is_spent _ = false

abbrev pub was_spent : List Entry → Bool
was_spent [] = false
was_spent (e ∷ es) = is_spent e.outcome || was_spent es

-- Open: AlreadyOpen where the copy is registered; else NoPair where it has no pair and gets none; else what the disk gives: a
-- fault, no file, too large a one, or a content within the limit.
abbrev pub open_row : Bool → Bool → Outcome → Bool
open_row is_open lacks AlreadyOpen = is_open
open_row is_open lacks NoPair = not is_open && lacks
open_row is_open lacks Fault = not is_open && not lacks
open_row is_open lacks Missing = not is_open && not lacks
open_row is_open lacks TooLarge = not is_open && not lacks
open_row is_open lacks (Opened s) = not is_open && not lacks && nat_le s.size CONTENT_MAX
open_row is_open lacks _ = false

-- Create: AlreadyOpen and NoPair likewise; else the next version.
abbrev pub create_row : Bool → Bool → ℕ → Outcome → Bool
create_row is_open lacks last AlreadyOpen = is_open
create_row is_open lacks last NoPair = not is_open && lacks
create_row is_open lacks last (Created n) = not is_open && not lacks && n == last + 1
create_row is_open lacks last _ = false

-- the edit deletes past the end of a content of this size
abbrev pub deletes_past : ℕ → ℕ → ℕ → Bool
deletes_past size off del = nat_lt size (off + del)

-- the edit makes a content of this size too long
abbrev pub grows_past : ℕ → ℕ → ℕ → Bool
grows_past size del add = nat_lt CONTENT_MAX (size - del + add)

-- Edit: NotOpen where the copy isn't registered; else OutOfContent where it deletes past the end; else TooLarge where the
-- new content would be too long; else the next version.
abbrev pub edit_row : Bool → ℕ → ℕ → ℕ → ℕ → ℕ → Outcome → Bool
edit_row is_open size off del add last NotOpen = not is_open
edit_row is_open size off del add last OutOfContent = is_open && deletes_past size off del
edit_row is_open size off del add last TooLarge = is_open && not (deletes_past size off del) && grows_past size del add
edit_row is_open size off del add last (Edited n) = is_open && not (deletes_past size off del) && not (grows_past size del add) && n == last + 1
edit_row is_open size off del add last _ = false

-- Undo: NotOpen; else NoUndo where the place is the first of the trail; else the next version.
abbrev pub undo_row : Bool → Bool → ℕ → Outcome → Bool
undo_row is_open can last NotOpen = not is_open
undo_row is_open can last NoUndo = is_open && not can
undo_row is_open can last (Undone n) = is_open && can && n == last + 1
undo_row is_open can last _ = false

-- Redo: NotOpen; else NoRedo where the place is the last of the trail; else the next version.
abbrev pub redo_row : Bool → Bool → ℕ → Outcome → Bool
redo_row is_open can last NotOpen = not is_open
redo_row is_open can last NoRedo = is_open && not can
redo_row is_open can last (Redone n) = is_open && can && n == last + 1
redo_row is_open can last _ = false

abbrev pub is_joined : Asked → Bool
is_joined SaidJoined = true
is_joined _ = false

abbrev pub is_clean : Asked → Bool
is_clean SaidClean = true
is_clean _ = false

abbrev pub is_queued : Asked → Bool
is_queued SaidQueued = true
is_queued _ = false

abbrev pub is_started : Asked → Bool
is_started SaidStarted = true
is_started _ = false

-- Save: NotOpen; else what the request comes to. A started save is of the last version.
abbrev pub save_row : Bool → Asked → ℕ → Outcome → Bool
save_row is_open asked last NotOpen = not is_open
save_row is_open asked last Joined = is_open && is_joined asked
save_row is_open asked last Clean = is_open && is_clean asked
save_row is_open asked last Queued = is_open && is_queued asked
save_row is_open asked last (Started n) = is_open && is_started asked && n == last
save_row is_open asked last _ = false

-- Revert: NotOpen; else Saving where a save runs; else what the disk gives, as for Open.
abbrev pub revert_row : Bool → Bool → Outcome → Bool
revert_row is_open is_saving NotOpen = not is_open
revert_row is_open is_saving Saving = is_open && is_saving
revert_row is_open is_saving Fault = is_open && not is_saving
revert_row is_open is_saving Missing = is_open && not is_saving
revert_row is_open is_saving TooLarge = is_open && not is_saving
revert_row is_open is_saving (Reverted s) = is_open && not is_saving && nat_le s.size CONTENT_MAX
revert_row is_open is_saving _ = false

-- Close: NotOpen; else Saving where a save runs; else Closed.
abbrev pub close_row : Bool → Bool → Outcome → Bool
close_row is_open is_saving NotOpen = not is_open
close_row is_open is_saving Saving = is_open && is_saving
close_row is_open is_saving Closed = is_open && not is_saving
close_row is_open is_saving _ = false

-- Another program's write is done, or a device call fails.
abbrev pub outside_row : Outcome → Bool
outside_row Written = true
outside_row Fault = true
outside_row _ = false

abbrev pub same_stage : Stage → Stage → Bool
same_stage Prepare Prepare = true
same_stage Body Body = true
same_stage OpenGate OpenGate = true
same_stage Fade Fade = true
same_stage Drop Drop = true
same_stage _ _ = false

-- After one Spent in the life each Prepare that is due answers Spent.
abbrev pub may_run : Bool → Stage → Bool
may_run spent Prepare = not spent
may_run spent _ = true

abbrev pub is_work : Option VaultWork → Stage → ℕ → Bool
is_work None stage n = false
is_work (Some w) stage n = same_stage w.stage stage && w.version == n

abbrev pub is_prepare : Option VaultWork → Bool
is_prepare None = false
is_prepare (Some w) = same_stage w.stage Prepare

-- A vault stage: Idle where none is due; else the due stage with its version, ok or a fault; a due Prepare may find the stamps
-- used up.
abbrev pub vault_row : Bool → Option VaultWork → Outcome → Bool
vault_row spent due Idle = is_none due
vault_row spent due (StageOk stage n) = is_work due stage n && may_run spent stage
vault_row spent due (StageFault stage n) = is_work due stage n && may_run spent stage
vault_row spent due Spent = is_prepare due
vault_row spent due _ = false

abbrev pub is_check : Option SaveWork → Bool
is_check (Some Check) = true
is_check _ = false

abbrev pub is_write : Option SaveWork → ℕ → Bool
is_write (Some (Write v)) n = v == n
is_write _ n = false

abbrev pub is_refusal : Option SaveWork → ℕ → Bool
is_refusal (Some (Refuse v)) n = v == n
is_refusal _ n = false

-- the check of a save over such a stat is a conflict, unless the save is to overwrite
abbrev pub finds_conflict : Bool → Option Stat → Option Stat → Bool
finds_conflict over base found = not over && conflict base found

abbrev pub is_over : Option Running → Bool
is_over None = false
is_over (Some run) = run.over

-- A save stage: Idle where none is due. A check fails, finds a conflict, or finds none; a write fails or is done; a refusal is
-- made without a device call.
abbrev pub flush_row : Option SaveWork → Bool → Option Stat → Outcome → Bool
flush_row due over base Idle = is_none due
flush_row due over base CheckFault = is_check due
flush_row due over base (Modified s) = is_check due && finds_conflict over base (Some s)
flush_row due over base (Checked x) = is_check due && not (finds_conflict over base x)
flush_row due over base (WriteFault n) = is_write due n
flush_row due over base (Saved n x) = is_write due n
flush_row due over base (Unguarded n) = is_refusal due n
flush_row due over base _ = false

abbrev pub is_lowest : ℕ → Option ℕ → Bool
is_lowest c None = false
is_lowest c (Some lowest_one) = lowest_one == c

-- The program may not end while a dirty copy's last version isn't backed up: the lowest such copy vetoes it.
abbrev pub quit_row : Option ℕ → Outcome → Bool
quit_row unsafe MayQuit = is_none unsafe
quit_row unsafe (Vetoed c) = is_lowest c unsafe
quit_row unsafe _ = false

module _ (o : Opening) where
  -- a save of the resource c runs after these entries
  abbrev pub run_at : List Entry → ℕ → Option Running
  run_at es c = running (save_steps (restored_at o c) (own c es))

  abbrev pub is_registered_at : List Entry → ℕ → Bool
  is_registered_at es c = registered (restored_at o c) (own c es)

  abbrev pub last_at : List Entry → ℕ → ℕ
  last_at es c = last_version (restored_at o c) (own c es)

  -- the vault stage and the save stage that are due for the resource c after these entries
  abbrev pub vault_due : List Entry → ℕ → Option VaultWork
  vault_due es c = due_vault (restored_at o c) o.guarded (own c es)

  abbrev pub save_due : List Entry → ℕ → Option SaveWork
  save_due es c = due_save (restored_at o c) o.guarded (own c es)

  -- May the event have this outcome after these entries?
  abbrev pub is_row : List Entry → Event → Outcome → Bool
  is_row es (Act (Open c)) outcome = open_row (is_registered_at es c) (lacks_pair o es c) outcome
  is_row es (Act (Create c)) outcome = create_row (is_registered_at es c) (lacks_pair o es c) (last_at es c) outcome
  is_row es (Act (Edit c off del text)) outcome = edit_row (is_registered_at es c) (last_content (restored_at o c) (own c es)).size off del (length text) (last_at es c) outcome
  is_row es (Act (Undo c)) outcome = undo_row (is_registered_at es c) (can_undo (trail (restored_at o c) (own c es))) (last_at es c) outcome
  is_row es (Act (Redo c)) outcome = redo_row (is_registered_at es c) (can_redo (trail (restored_at o c) (own c es))) (last_at es c) outcome
  is_row es (Act (Save c force over)) outcome = save_row (is_registered_at es c) (asked_by (run_at es c) (last_at es c) (dirty (restored_at o c) (own c es)) force) (last_at es c) outcome
  is_row es (Act (Revert c)) outcome = revert_row (is_registered_at es c) (is_some (run_at es c)) outcome
  is_row es (Act (Close c)) outcome = close_row (is_registered_at es c) (is_some (run_at es c)) outcome
  is_row es (Act (Outside c mtime text)) outcome = outside_row outcome
  is_row es (Vault c) outcome = vault_row (was_spent es) (vault_due es c) outcome
  is_row es (Flush c) outcome = flush_row (save_due es c) (is_over (run_at es c)) (kept (restored_at o c) (own c es)) outcome
  is_row es Quit outcome = quit_row (lowest o (is_unsafe o es)) outcome

  -- Each entry has an outcome that its event may have after the entries before it.
  abbrev pub is_legal : List Entry → Bool
  is_legal [] = true
  is_legal (e ∷ es) = is_row es e.event e.outcome && is_legal es

  -- Nothing is due for any resource.
  abbrev pub is_quiet : List Entry → Bool
  is_quiet es = is_none (lowest o (λ c. is_some (vault_due es c) || is_some (save_due es c)))

  -- the lowest resource for which a vault stage, or a save stage, is due
  abbrev pub lowest_vault_due : List Entry → Option ℕ
  lowest_vault_due es = lowest o (λ c. is_some (vault_due es c))

  abbrev pub lowest_save_due : List Entry → Option ℕ
  lowest_save_due es = lowest o (λ c. is_some (save_due es c))
