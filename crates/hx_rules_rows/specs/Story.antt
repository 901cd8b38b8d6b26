-- Words to write a history of one resource down, oldest entry first.
use Rattle.std.specs.Prelude.{◌≡◌, ℕ, false, true, List, [], ◌∷◌, ◌++◌, codes, Option, Some, None}
use Rattle.hx_etag.specs.declared.stat.Stat.{Stat}
use Rattle.hx_events.specs.declared.event.Actor.{Actor}
use Rattle.hx_events.specs.declared.event.Actor.TheVariants.{Window, Writer, Saver, Closer}
use Rattle.hx_events.specs.declared.event.Command.{Command}
use Rattle.hx_events.specs.declared.event.Command.TheVariants.{Create, Edit, Save, Close}
use Rattle.hx_events.specs.declared.event.Event.{Event}
use Rattle.hx_events.specs.declared.event.Event.TheVariants.{Act, Vault, Flush, Quit}
use Rattle.hx_events.specs.declared.event.Stage.{Stage}
use Rattle.hx_events.specs.declared.event.Stage.TheVariants.{Prepare, Body, Open as OpenGate}
use Rattle.hx_events.specs.declared.life.Entry.{Entry}
use Rattle.hx_events.specs.declared.outcome.Outcome.{Outcome}
use Rattle.hx_events.specs.declared.outcome.Outcome.TheVariants.{Created, Edited, Closed, Idle, StageOk, StageFault}
use Rattle.hx_rules.specs.Entries.{past}
use Rattle.hx_rules.specs.Backups.{Snapshot, snapshot}
use Rattle.hx_rules.specs.Legal.{Opening, is_legal, is_row}

abbrev pub stat : ℕ → ℕ → Stat
stat mtime size = record { mtime = mtime; size = size }

abbrev pub entry : Actor → Event → Outcome → List ℕ → Entry
entry actor event outcome content = record { moment = 0; faults = 0; actor = actor; event = event; outcome = outcome; content = content }

-- the first window's command
abbrev pub does : Command → Outcome → Entry
does command outcome = entry (Window 0) (Act command) outcome []

-- the first window's command that read this content
abbrev pub reads : Command → Outcome → List ℕ → Entry
reads command outcome content = entry (Window 0) (Act command) outcome content

-- a vault stage, and a save stage, of the first resource
abbrev pub vault : Outcome → Entry
vault outcome = entry (Writer 0) (Vault 0) outcome []

abbrev pub flush : Outcome → Entry
flush outcome = entry (Saver 0) (Flush 0) outcome []

abbrev pub asks_quit : Outcome → Entry
asks_quit outcome = entry Closer Quit outcome []

-- an edit of the first resource that only inserts
abbrev pub insert : ℕ → List ℕ → Command
insert off text = Edit 0 off 0 text

abbrev pub save : Command
save = Save 0 false false

-- a plain life of one resource, in an empty vault
abbrev pub fresh : Opening
fresh = record { restored = None ∷ []; barred = 0; guarded = false }

-- a guarded one
abbrev pub fresh_guarded : Opening
fresh_guarded = record { restored = None ∷ []; barred = 0; guarded = true }

-- a plain life of one resource, of which this backup was restored
abbrev pub restored_with : Option Stat → List ℕ → Opening
restored_with base content = record { restored = Some record { resource = []; base = base; content = content } ∷ []; barred = 0; guarded = false }

abbrev pub stage_ok : Stage → ℕ → Entry
stage_ok stage version = vault (StageOk stage version)

abbrev pub stage_fault : Stage → ℕ → Entry
stage_fault stage version = vault (StageFault stage version)

abbrev pub idle_vault : Entry
idle_vault = vault Idle

abbrev pub create : Entry
create = does (Create 0) (Created 1)

-- a backup of a small content: its three stages
abbrev pub backup_stages : ℕ → List Entry
backup_stages version = stage_ok Prepare version ∷ stage_ok Body version ∷ stage_ok OpenGate version ∷ []

-- a copy is created, edited to `hello`, and backed up
abbrev pub hello_backed_up : List Entry
hello_backed_up = create ∷ does (insert 0 (codes "hello")) (Edited 2) ∷ backup_stages 2

-- and then edited to `hello!`
abbrev pub hello_edited : List Entry
hello_edited = hello_backed_up ++ does (insert 5 (codes "!")) (Edited 3) ∷ []

-- which is backed up too
abbrev pub both_backed_up : List Entry
both_backed_up = hello_edited ++ backup_stages 3

abbrev pub close : Entry
close = does (Close 0) Closed

-- the backups of the two versions
abbrev pub hello : Snapshot
hello = snapshot 2 None (codes "hello")

abbrev pub hello_again : Snapshot
hello_again = snapshot 3 None (codes "hello!")

-- after these entries, the oldest first, the outcome of the next entry is one that the rules don't give
abbrev pub IsWrong : Opening → List Entry → Entry → Type 0
IsWrong o before e = (is_legal o (past before) ≡ true) × (is_row o (past before) e.event e.outcome ≡ false)
