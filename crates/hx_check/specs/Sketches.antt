-- What is kept of each resource while a history is judged entry by entry. A sketch is an outline with what decides which outcomes
-- come next: of contents it has the sizes alone.
use Rattle.std.specs.Prelude.{ℕ, ◌+◌, ◌-◌, ◌<◌, ◌^◌, nat_lt, not, Bool, true, false, ◌&&◌, ◌||◌, List, [], ◌∷◌, length, if◌then◌else◌, Option, Some, None, is_some, option_map}
use Rattle.hx_etag.specs.declared.stat.Stat.{Stat}
use Rattle.hx_events.specs.declared.backup.Backup.{Backup}
use Rattle.hx_events.specs.declared.event.Command.TheVariants.{Open, Create, Edit, Undo, Redo, Save, Revert, Close, Outside}
use Rattle.hx_events.specs.declared.event.Event.{Event}
use Rattle.hx_events.specs.declared.event.Event.TheVariants.{Act, Vault, Flush, Quit}
use Rattle.hx_events.specs.declared.event.Stage.TheVariants.{Prepare, Body, Open as OpenGate, Fade, Drop}
use Rattle.hx_events.specs.declared.outcome.Outcome.{Outcome}
use Rattle.hx_events.specs.declared.outcome.Outcome.TheVariants.{Opened, Created, Edited, Undone, Redone, Reverted, Started, Checked, StageOk, StageFault}
use Rattle.hx_rules.specs.declared.saves.Running.{Running}
use Rattle.hx_rules.specs.declared.saves.QueuedSave.{QueuedSave}
use Rattle.hx_rules.specs.declared.saves.Asked.TheVariants.{Started as SaidStarted}
use Rattle.hx_rules.specs.Entries.{Deed}
use Rattle.hx_rules.specs.Versions.{versions, at_place, can_undo, can_redo}
use Rattle.hx_rules.specs.Copies.{kept, kept_after, is_number}
use Rattle.hx_rules.specs.Saves.{running, save_steps, asked_by, run_asked, run_checked, run_finished}
use Rattle.hx_rules.specs.Backups.{Begun, begun, blocks_of, opened, opened_after, halted, halted_after, faded, faded_after}
use Rattle.hx_rules.specs.Due.{VaultWork, SaveWork, Check, Write, vault_work, first_of, work_if}
use Rattle.hx_rules.specs.Legal.{open_row, create_row, edit_row, undo_row, redo_row, save_row, revert_row, close_row, outside_row, vault_row, flush_row, is_over}
use Rattle.hx_report.specs.declared.outline.Outline.{Outline}
use Rattle.hx_report.specs.Outlines.{outline, outline_after, first_outline, is_dirty_by}
use Rattle.hx_report.specs.Saves.{ends_save}
use Rattle.hx_check.specs.Sizes.{sizes_of, size_at, with_size}
use Rattle.hx_check.specs.declared.sketch.Sketch.{Sketch}
use Rattle.hx_check.specs.declared.sketch.Backing.{Backing}

-- the size after an edit of a content of this size
abbrev pub edited_size : Event → ℕ → ℕ
edited_size (Act (Edit c off del text)) old = old - del + length text
edited_size _ old = old

-- the size of the version that an outcome makes, if it makes one, where `back` is the one that an undo or a redo brings back
abbrev pub new_size : Outcome → Event → ℕ → ℕ → Option ℕ
new_size (Opened s) event back old = Some s.size
new_size (Reverted s) event back old = Some s.size
new_size (Created n) event back old = Some 0
new_size (Edited n) event back old = Some (edited_size event old)
new_size (Undone n) event back old = Some back
new_size (Redone n) event back old = Some back
new_size _ event back old = None

-- the sizes after an outcome; the trail is the one after it, and `last` the last version before it
abbrev pub sizes_after : Outcome → Event → ℕ → ℕ → List ℕ → List ℕ
sizes_after outcome event place last sizes = with_size (new_size outcome event (size_at place sizes) (size_at last sizes)) sizes

abbrev pub run_started : Event → ℕ → Option Running → Option Running
run_started (Act (Save c force over)) last was = run_asked SaidStarted last over was
run_started _ last was = was

abbrev pub run_by : Outcome → Event → ℕ → Option Running → Option Running
run_by (Started v) event last was = run_started event last was
run_by (Checked x) event last was = run_checked was
run_by _ event last was = was

abbrev pub run_ended : Bool → Outcome → Event → ℕ → Bool → Option QueuedSave → Option Running → Option Running
run_ended true outcome event last is_dirty queue was = run_finished queue is_dirty last
run_ended false outcome event last is_dirty queue was = run_by outcome event last was

-- the running save after an outcome, with which the copy is dirty or not
abbrev pub run_after : Outcome → Event → ℕ → Bool → Option QueuedSave → Option Running → Option Running
run_after outcome event last is_dirty queue was = run_ended (is_some (ends_save outcome)) outcome event last is_dirty queue was

-- its version, and how many blocks are left to write
abbrev pub backing : ℕ → ℕ → Backing
backing version left = record { version = version; left = left }

abbrev pub short : Begun → Backing
short b = backing b.snapshot.version (blocks_of b.size - b.blocks)

abbrev pub one_block_less : Option Backing → Option Backing
one_block_less None = None
one_block_less (Some b) = Some (backing b.version (b.left - 1))

-- a begun backup after an outcome, with which the copy is dirty or not; a Prepare begins one of a version of this size
abbrev pub backing_after : Outcome → Bool → List ℕ → Option Backing → Option Backing
backing_after (StageOk Prepare v) is_dirty sizes was = Some (backing v (blocks_of (size_at v sizes)))
backing_after (StageOk OpenGate v) is_dirty sizes was = None
backing_after (StageFault s v) is_dirty sizes was = None
backing_after (StageOk Body v) is_dirty sizes was = if is_dirty then one_block_less was else None
backing_after _ is_dirty sizes was = if is_dirty then was else None

abbrev pub sketch_of : Outline → Option Stat → List ℕ → Option Running → Option Backing → Bool → Bool → Bool → Sketch
sketch_of outline kept sizes run backing opened halted faded = record { outline = outline; kept = kept; sizes = sizes; run = run; backing = backing; opened = opened; halted = halted; faded = faded }

-- what is kept of a resource after its deeds
abbrev pub sketch : Option Backup → List Deed → Sketch
sketch r ds = sketch_of (outline r ds) (kept r ds) (sizes_of (versions r ds)) (running (save_steps r ds)) (option_map short (begun r false ds)) (opened r ds) (halted ds) (faded ds)

-- the size and the stat of a backup that a copy is restored with
abbrev pub first_sketch : Option Backup → Sketch
first_sketch None = sketch_of (first_outline false) None [] None None false false false
first_sketch (Some b) = sketch_of (first_outline true) b.base (length b.content ∷ []) None None true false false

abbrev pub is_dirty_in : Outline → Bool
is_dirty_in x = is_dirty_by x.registered x.trail x.mark

-- what an outcome makes of a sketch, with the outline that it leads to
abbrev pub sketch_with : Event → Outcome → Outline → Sketch → Sketch
sketch_with event outcome next x = sketch_of next
    (kept_after outcome x.kept)
    (sizes_after outcome event (at_place next.trail) x.outline.last x.sizes)
    (run_after outcome event x.outline.last (is_dirty_in next) x.outline.saves.queue x.run)
    (backing_after outcome (is_dirty_in next) x.sizes x.backing)
    (opened_after outcome x.opened)
    (halted_after outcome x.halted)
    (faded_after outcome x.faded)

abbrev pub sketch_after : Event → Outcome → Sketch → Sketch
sketch_after event outcome x = sketch_with event outcome (outline_after event outcome x.outline) x

-- the next stage of a begun backup
abbrev pub backing_work : Option Backing → Option VaultWork
backing_work None = None
backing_work (Some b) = Some (vault_work (if nat_lt 0 b.left then Body else OpenGate) b.version)

abbrev pub is_backed : Outline → Bool
is_backed x = is_number x.last x.done

-- the vault stage that is due where no backup is begun
abbrev pub anew_in : Sketch → Option VaultWork
anew_in x =
    first_of (work_if (is_dirty_in x.outline && not (is_backed x.outline)) (vault_work Prepare x.outline.last))
    (work_if (not (is_dirty_in x.outline) && x.opened) (vault_work (if x.faded then Drop else Fade) 0))

-- the vault stage that is due
abbrev pub due_in : Sketch → Option VaultWork
due_in x = if x.halted then None else first_of (backing_work x.backing) (anew_in x)

-- the save stage that is due
abbrev pub save_due_in : Option Running → Option SaveWork
save_due_in None = None
save_due_in (Some run) = if run.checked then Some (Write run.version) else Some Check

abbrev pub holds_in : Sketch → Bool
holds_in x = x.outline.registered || x.opened

-- May the event have this outcome, by the sketch of its resource?
abbrev pub row_in : Bool → Bool → Sketch → Event → Outcome → Bool
row_in lacks spent x (Act (Open c)) outcome = open_row x.outline.registered lacks outcome
row_in lacks spent x (Act (Create c)) outcome = create_row x.outline.registered lacks x.outline.last outcome
row_in lacks spent x (Act (Edit c off del text)) outcome = edit_row x.outline.registered (size_at x.outline.last x.sizes) off del (length text) x.outline.last outcome
row_in lacks spent x (Act (Undo c)) outcome = undo_row x.outline.registered (can_undo x.outline.trail) x.outline.last outcome
row_in lacks spent x (Act (Redo c)) outcome = redo_row x.outline.registered (can_redo x.outline.trail) x.outline.last outcome
row_in lacks spent x (Act (Save c force over)) outcome = save_row x.outline.registered (asked_by x.run x.outline.last (is_dirty_in x.outline) force) x.outline.last outcome
row_in lacks spent x (Act (Revert c)) outcome = revert_row x.outline.registered (is_some x.run) outcome
row_in lacks spent x (Act (Close c)) outcome = close_row x.outline.registered (is_some x.run) outcome
row_in lacks spent x (Act (Outside c mtime text)) outcome = outside_row outcome
row_in lacks spent x (Vault c) outcome = vault_row spent (due_in x) outcome
row_in lacks spent x (Flush c) outcome = flush_row (save_due_in x.run) (is_over x.run) x.kept outcome
row_in lacks spent x Quit outcome = false

-- a new version is no longer than a number of 64 bits can say
abbrev pub FitsSize : Event → Outcome → Sketch → Type 0
FitsSize event (Edited n) x = edited_size event (size_at x.outline.last x.sizes) < 2 ^ 64
FitsSize event _ x = Unit {0}
