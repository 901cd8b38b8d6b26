-- What an event needs room for, and what the change by an outcome asks.
use Rattle.std.specs.Prelude.{ℕ, ◌≡◌, ◌-◌, ◌^◌, ◌<◌, ◌≤◌, Bool, true, false, List, [], length, if◌then◌else◌, Option, Some, None, is_some, is_none, Ok, IfSome}
use Rattle.hx_events.specs.declared.event.Command.TheVariants.{Open, Edit, Undo, Redo, Save, Revert}
use Rattle.hx_events.specs.declared.event.Event.{Event}
use Rattle.hx_events.specs.declared.event.Event.TheVariants.{Act, Vault, Flush, Quit}
use Rattle.hx_events.specs.declared.event.Stage.TheVariants.{Prepare}
use Rattle.hx_events.specs.declared.outcome.Outcome.{Outcome}
use Rattle.hx_events.specs.declared.outcome.Outcome.TheVariants.{Opened, Edited, Undone, Redone, Joined, Queued, Started, Reverted, StageOk, CheckFault, Modified, WriteFault, Unguarded, Saved}
use Rattle.hx_rules.specs.declared.saves.Running.{Running}
use Rattle.hx_rules.specs.Due.{VaultWork}
use Rattle.hx_rules.specs.Legal.{same_stage}
use Rattle.hx_rules.specs.Saves.{starts}
use Rattle.hx_copy.specs.Copies.{CopyState, edit_answer, has_places}
use Rattle.hx_resource.specs.declared.asks.Got.{Got}
use Rattle.hx_resource.specs.declared.asks.Got.TheVariants.{Read}
use Rattle.hx_resource.specs.Kept.{Kept, ResourceState, content_in, content_at, starts_run}
use Rattle.hx_resource.specs.Rows.{vault_due_kept}

-- an event of one resource
abbrev pub IsKnown : Event → Type 0
IsKnown Quit = ⊥
IsKnown event = Unit {0}

-- what was read
abbrev pub got_content : Got → List ℕ
got_content (Read s bytes) = bytes
got_content _ = []

-- what an open or a revert read has as many bytes as its stat says
abbrev pub IsRead : Outcome → List ℕ → Type 0
IsRead (Opened s) content = length content ≡ s.size
IsRead (Reverted s) content = length content ≡ s.size
IsRead _ content = Unit {0}

-- the numbers that count up can go on
pub record CanCount (s : Kept) : Type 0 where
  pub last : s.last < 2 ^ 64 - 1
  pub version : IfSome s.copy (λ c. c.version < 2 ^ 64 - 1)
  pub blocks : IfSome s.begun (λ b. b.blocks < 2 ^ 64 - 1)

-- ---- room for an event
-- the room of the copy: for the edit's text, or for one undo, or for one redo
abbrev pub CopyRoom : Event → CopyState → Type 0
CopyRoom (Act (Edit c off del text)) s = length text < s.adds
CopyRoom (Act (Undo c)) s = s.undoes ≡ true
CopyRoom (Act (Redo c)) s = s.redoes ≡ true
CopyRoom _ s = Unit {0}

-- a request to save needs room for its ticket
abbrev pub TicketRoom : Event → ℕ → Type 0
TicketRoom (Act (Save c force over)) tickets = 0 < tickets
TicketRoom _ tickets = Unit {0}

-- how long the snapshot of this work is
abbrev pub snapshot_size : Option VaultWork → Kept → ℕ
snapshot_size None s = 0
snapshot_size (Some w) s = if same_stage w.stage Prepare then length (content_at w.version s) else 0

-- How many bytes of a content an event may copy: those that it reads, or the snapshot of a due Prepare, or the content of a
-- save that may start. `read` says how many it reads.
abbrev pub copied_by : Bool → Event → ℕ → Kept → ℕ
copied_by guarded (Act (Open c)) read s = read
copied_by guarded (Act (Revert c)) read s = read
copied_by guarded (Act (Save c force over)) read s = if is_some s.seq.run then 0 else length (content_in s.copy)
copied_by guarded (Vault c) read s = snapshot_size (vault_due_kept guarded s) s
copied_by guarded (Flush c) read s = if starts s.seq.queue true then length (content_in s.copy) else 0
copied_by guarded _ read s = 0

-- There is room for the event, where it reads so many bytes.
pub record HasRoom (guarded : Bool) (event : Event) (read : ℕ) (s : ResourceState) : Type 0 where
  pub copy : IfSome s.copy (CopyRoom event)
  pub tickets : TicketRoom event s.tickets
  pub bytes : copied_by guarded event read s.kept ≤ s.spare

-- ---- what the change by an outcome asks
-- an edit that may be made, and has room
abbrev pub CanEdit : Event → CopyState → Type 0
CanEdit (Act (Edit c off del text)) s = (edit_answer (length s.copy.here.content) off del (length text) ≡ Ok tt) × (length text < s.adds)
CanEdit _ s = ⊥

abbrev pub CanChange : Event → Outcome → CopyState → Type 0
CanChange event (Edited n) s = CanEdit event s
CanChange event (Undone n) s = (has_places s.copy.back ≡ true) × (s.undoes ≡ true)
CanChange event (Redone n) s = (has_places s.copy.ahead ≡ true) × (s.redoes ≡ true)
CanChange event _ s = Unit {0}

-- a request joins and waits only while a save runs, and starts one only while none does; a finish ends a running one
abbrev pub CanSave : Outcome → Option Running → Type 0
CanSave Joined run = is_some run ≡ true
CanSave Queued run = is_some run ≡ true
CanSave (Started v) run = is_none run ≡ true
CanSave CheckFault run = is_some run ≡ true
CanSave (Modified x) run = is_some run ≡ true
CanSave (WriteFault v) run = is_some run ≡ true
CanSave (Unguarded v) run = is_some run ≡ true
CanSave (Saved v x) run = is_some run ≡ true
CanSave _ run = Unit {0}

-- room for what was read
abbrev pub ReadRoom : Outcome → List ℕ → ℕ → Type 0
ReadRoom (Opened s) content room = length content ≤ room
ReadRoom (Reverted s) content room = length content ≤ room
ReadRoom _ content room = Unit {0}

-- room for a snapshot
abbrev pub SnapshotRoom : Outcome → Kept → ℕ → Type 0
SnapshotRoom (StageOk Prepare v) k room = length (content_at v k) ≤ room
SnapshotRoom _ k room = Unit {0}

-- does the outcome copy what was read, or a snapshot?
abbrev pub copies_first : Outcome → Bool
copies_first (Opened s) = true
copies_first (Reverted s) = true
copies_first (StageOk Prepare v) = true
copies_first _ = false

pub record CanApply (event : Event) (outcome : Outcome) (content : List ℕ) (s : ResourceState) : Type 0 where
  pub counts : CanCount s.kept
  pub version : IfSome s.copy (λ c. c.copy.version < 2 ^ 64 - 1)
  pub change : IfSome s.copy (CanChange event outcome)
  pub save : CanSave outcome s.kept.seq.run
  pub tickets : TicketRoom event s.tickets
  pub read_in : ReadRoom outcome content s.spare
  pub snapshot : SnapshotRoom outcome s.kept s.spare
  pub saving : (is_dirty : Bool) → starts_run outcome event (starts s.kept.seq.queue is_dirty) ≡ true → length (content_in s.kept.copy) ≤ s.spare
