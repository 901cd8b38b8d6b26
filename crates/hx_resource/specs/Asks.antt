-- Who answers an event, and what the answer makes its outcome.
use Rattle.std.specs.Prelude.{ℕ, ◌≡◌, ◌+◌, ◌<◌, ◌≤◌, not, Bool, true, false, ◌&&◌, ◌||◌, length, if◌then◌else◌, Option, Some, None, is_some}
use Rattle.hx_etag.specs.declared.stat.Stat.{Stat}
use Rattle.hx_events.specs.declared.backup.TheConstants.{CONTENT_MAX}
use Rattle.hx_events.specs.declared.event.Command.TheVariants.{Open, Create, Edit, Undo, Redo, Save, Revert, Close, Outside}
use Rattle.hx_events.specs.declared.event.Event.{Event}
use Rattle.hx_events.specs.declared.event.Event.TheVariants.{Act, Vault, Flush, Quit}
use Rattle.hx_events.specs.declared.event.Stage.{Stage}
use Rattle.hx_events.specs.declared.event.Stage.TheVariants.{Prepare}
use Rattle.hx_events.specs.declared.outcome.Outcome.{Outcome}
use Rattle.hx_events.specs.declared.outcome.Outcome.TheVariants.{Opened, Created, Edited, Undone, Redone, Joined, Clean, Queued, Started, Reverted, Closed, Written, Missing, NoPair, AlreadyOpen, NotOpen, OutOfContent, TooLarge, NoUndo, NoRedo, Saving, Fault, Idle, Spent, StageOk, StageFault, Checked, Modified, CheckFault, Saved, WriteFault, Unguarded, Quit as MayQuit}
use Rattle.hx_rules.specs.declared.saves.Asked.{Asked as Request}
use Rattle.hx_rules.specs.declared.saves.Asked.TheVariants.{Joined as SaidJoined, Clean as SaidClean, Queued as SaidQueued, Started as SaidStarted}
use Rattle.hx_rules.specs.Saves.{asked_by}
use Rattle.hx_rules.specs.Due.{VaultWork, SaveWork, Check as DueCheck, Write as DueWrite, Refuse, version_due, run_version}
use Rattle.hx_rules.specs.Legal.{deletes_past, grows_past, same_stage, finds_conflict, is_over}
use Rattle.hx_resource.specs.declared.asks.Asked.{Asked}
use Rattle.hx_resource.specs.declared.asks.Asked.TheVariants.{Settled, Device}
use Rattle.hx_resource.specs.declared.asks.Work.{Work}
use Rattle.hx_resource.specs.declared.asks.Work.TheVariants.{ReadFile, OutsideWrite, Check, Write, Vault as VaultStage}
use Rattle.hx_resource.specs.declared.asks.Got.{Got}
use Rattle.hx_resource.specs.declared.asks.Got.TheVariants.{Nothing, Failed, Done, Spent as GotSpent, Found, Read, Big}
use Rattle.hx_resource.specs.Kept.{Kept, dirty_now, content_in, base_in}
use Rattle.hx_resource.specs.Rows.{undo_in, redo_in, vault_due_kept, save_due_kept}

-- ---- who answers: the rules alone, or the device by a piece of work
abbrev pub open_asks : ℕ → Bool → Bool → Asked
open_asks c is_open lacks =
    if is_open then Settled AlreadyOpen
    else if lacks then Settled NoPair
    else Device (ReadFile c)

abbrev pub create_asks : Bool → Bool → ℕ → Asked
create_asks is_open lacks last =
    if is_open then Settled AlreadyOpen
    else if lacks then Settled NoPair
    else Settled (Created (last + 1))

abbrev pub edit_asks : Bool → Bool → Bool → ℕ → Asked
edit_asks is_open deletes_too_much grows_too_long last =
    if not is_open then Settled NotOpen
    else if deletes_too_much then Settled OutOfContent
    else if grows_too_long then Settled TooLarge
    else Settled (Edited (last + 1))

abbrev pub undo_asks : Bool → Bool → ℕ → Asked
undo_asks is_open can last =
    if not is_open then Settled NotOpen
    else if not can then Settled NoUndo
    else Settled (Undone (last + 1))

abbrev pub redo_asks : Bool → Bool → ℕ → Asked
redo_asks is_open can last =
    if not is_open then Settled NotOpen
    else if not can then Settled NoRedo
    else Settled (Redone (last + 1))

-- what a request to save is answered
abbrev pub said : Request → ℕ → Outcome
said SaidJoined last = Joined
said SaidClean last = Clean
said SaidQueued last = Queued
said SaidStarted last = Started last

abbrev pub save_asks : Bool → Request → ℕ → Asked
save_asks is_open request last =
    if not is_open then Settled NotOpen
    else Settled (said request last)

abbrev pub revert_asks : ℕ → Bool → Bool → Asked
revert_asks c is_open is_saving =
    if not is_open then Settled NotOpen
    else if is_saving then Settled Saving
    else Device (ReadFile c)

abbrev pub close_asks : Bool → Bool → Asked
close_asks is_open is_saving =
    if not is_open then Settled NotOpen
    else if is_saving then Settled Saving
    else Settled Closed

abbrev pub vault_asks : ℕ → Option VaultWork → Asked
vault_asks c None = Settled Idle
vault_asks c (Some w) = Device (VaultStage c w.stage)

abbrev pub flush_asks : ℕ → Option SaveWork → Asked
flush_asks c None = Settled Idle
flush_asks c (Some DueCheck) = Device (Check c)
flush_asks c (Some (DueWrite v)) = Device (Write c)
flush_asks c (Some (Refuse v)) = Settled (Unguarded v)

-- Who answers an event of the resource, by what is kept of it. The resource gets no pair where `lacks` says so.
abbrev pub asks_kept : Bool → Bool → Kept → Event → Asked
asks_kept guarded lacks s (Act (Open c)) = open_asks c (is_some s.copy) lacks
asks_kept guarded lacks s (Act (Create c)) = create_asks (is_some s.copy) lacks s.last
asks_kept guarded lacks s (Act (Edit c off del text)) = edit_asks (is_some s.copy) (deletes_past (length (content_in s.copy)) off del) (grows_past (length (content_in s.copy)) del (length text)) s.last
asks_kept guarded lacks s (Act (Undo c)) = undo_asks (is_some s.copy) (undo_in s.copy) s.last
asks_kept guarded lacks s (Act (Redo c)) = redo_asks (is_some s.copy) (redo_in s.copy) s.last
asks_kept guarded lacks s (Act (Save c force over)) = save_asks (is_some s.copy) (asked_by s.seq.run s.last (dirty_now s.copy) force) s.last
asks_kept guarded lacks s (Act (Revert c)) = revert_asks c (is_some s.copy) (is_some s.seq.run)
asks_kept guarded lacks s (Act (Close c)) = close_asks (is_some s.copy) (is_some s.seq.run)
asks_kept guarded lacks s (Act (Outside c mtime text)) = Device OutsideWrite
asks_kept guarded lacks s (Vault c) = vault_asks c (vault_due_kept guarded s)
asks_kept guarded lacks s (Flush c) = flush_asks c (save_due_kept guarded s)
asks_kept guarded lacks s Quit = Settled MayQuit

-- ---- what the device may answer
-- what was read is as long as its stat says, and within the limit
abbrev pub FitsWork : Work → Got → Type 0
FitsWork (ReadFile c) Failed = Unit {0}
FitsWork (ReadFile c) (Found None) = Unit {0}
FitsWork (ReadFile c) (Big s) = CONTENT_MAX < s.size
FitsWork (ReadFile c) (Read s bytes) = (length bytes ≡ s.size) × (s.size ≤ CONTENT_MAX)
FitsWork OutsideWrite Failed = Unit {0}
FitsWork OutsideWrite Done = Unit {0}
FitsWork (Check c) Failed = Unit {0}
FitsWork (Check c) (Found x) = Unit {0}
FitsWork (Write c) Failed = Unit {0}
FitsWork (Write c) (Found x) = Unit {0}
FitsWork (VaultStage c Prepare) GotSpent = Unit {0}
FitsWork (VaultStage c stage) Failed = Unit {0}
FitsWork (VaultStage c stage) Done = Unit {0}
FitsWork work got = ⊥

-- The answer fits what was asked: nothing where the rules answer alone.
abbrev pub FitsAsked : Asked → Got → Type 0
FitsAsked (Settled outcome) Nothing = Unit {0}
FitsAsked (Settled outcome) got = ⊥
FitsAsked (Device work) got = FitsWork work got

-- ---- what the answer makes the outcome; one that doesn't fit counts as a failure
-- a read; of a copy that is there it is a revert
abbrev pub read_outcome : Bool → Got → Outcome
read_outcome is_open (Read s bytes) = if is_open then Reverted s else Opened s
read_outcome is_open (Found x) = Missing
read_outcome is_open (Big s) = TooLarge
read_outcome is_open _ = Fault

abbrev pub outside_outcome : Got → Outcome
outside_outcome Done = Written
outside_outcome _ = Fault

-- a check, by the stat that the copy keeps
abbrev pub check_outcome : Bool → Option Stat → Got → Outcome
check_outcome over base (Found None) = Checked None
check_outcome over base (Found (Some s)) = if finds_conflict over base (Some s) then Modified s else Checked (Some s)
check_outcome over base _ = CheckFault

abbrev pub write_outcome : ℕ → Got → Outcome
write_outcome v (Found x) = Saved v x
write_outcome v _ = WriteFault v

abbrev pub is_spent_answer : Got → Bool
is_spent_answer GotSpent = true
is_spent_answer _ = false

abbrev pub is_done_answer : Got → Bool
is_done_answer Done = true
is_done_answer _ = false

-- A stage of the version v. After one Spent in the life each Prepare is answered Spent.
abbrev pub stage_outcome : Bool → Stage → ℕ → Got → Outcome
stage_outcome spent stage v got =
    if same_stage stage Prepare && (spent || is_spent_answer got) then Spent
    else if is_done_answer got then StageOk stage v
    else StageFault stage v

abbrev pub work_outcome : Bool → Bool → Kept → Work → Got → Outcome
work_outcome guarded spent s (ReadFile c) got = read_outcome (is_some s.copy) got
work_outcome guarded spent s OutsideWrite got = outside_outcome got
work_outcome guarded spent s (Check c) got = check_outcome (is_over s.seq.run) (base_in s.copy) got
work_outcome guarded spent s (Write c) got = write_outcome (run_version s.seq.run) got
work_outcome guarded spent s (VaultStage c stage) got = stage_outcome spent stage (version_due (vault_due_kept guarded s)) got

abbrev pub outcome_by : Bool → Bool → Kept → Asked → Got → Outcome
outcome_by guarded spent s (Settled outcome) got = outcome
outcome_by guarded spent s (Device work) got = work_outcome guarded spent s work got

-- The outcome of an event: the one that is settled, or the one that the answer gives. `spent` says that a Prepare was
-- answered Spent before.
abbrev pub outcome_kept : Bool → Bool → Bool → Kept → Event → Got → Outcome
outcome_kept guarded lacks spent s event got = outcome_by guarded spent s (asks_kept guarded lacks s event) got
