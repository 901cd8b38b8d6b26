-- The texts of events and outcomes. They are this project's own.
use Rattle.std.specs.Prelude.{ℕ, ◌<◌, Bool, List, [], ◌∷◌, ◌++◌, length, codes, decimal, if◌then◌else◌, Option, Some, None, slice_index_or}
use Rattle.hx_base.specs.Escapes.{escaped}
use Rattle.hx_etag.specs.declared.stat.Stat.{Stat}
use Rattle.hx_events.specs.declared.event.Actor.{Actor}
use Rattle.hx_events.specs.declared.event.Actor.TheVariants.{Window, Writer, Saver, Closer, Watcher}
use Rattle.hx_events.specs.declared.event.Command.{Command}
use Rattle.hx_events.specs.declared.event.Command.TheVariants.{Open, Create, Edit, Undo, Redo, Save, Revert, Close, Outside}
use Rattle.hx_events.specs.declared.event.Event.{Event}
use Rattle.hx_events.specs.declared.event.Event.TheVariants.{Act, Vault, Flush, Quit}
use Rattle.hx_events.specs.declared.event.Stage.{Stage}
use Rattle.hx_events.specs.declared.event.Stage.TheVariants.{Prepare, Body, Open as OpenGate, Fade, Drop}
use Rattle.hx_events.specs.declared.life.Entry.{Entry}
use Rattle.hx_events.specs.declared.outcome.Outcome.{Outcome}
use Rattle.hx_events.specs.declared.outcome.Outcome.TheVariants.{Opened, Created, Edited, Undone, Redone, Joined, Clean, Queued, Started, Reverted, Closed, Written, Missing, NoPair, AlreadyOpen, NotOpen, OutOfContent, TooLarge, NoUndo, NoRedo, Saving, Fault, Idle, Spent, StageOk, StageFault, Checked, Modified, CheckFault, Saved, WriteFault, Unguarded, Quit as MayQuit, Vetoed}

-- the fields, each behind one blank
abbrev pub spaced : List (List ℕ) → List ℕ
spaced [] = []
spaced (field ∷ fields) = 32 ∷ field ++ spaced fields

-- the resource with this number
abbrev pub name_of : List (List ℕ) → ℕ → List ℕ
name_of names c = slice_index_or names c []

-- the resource that a command names, and the one that an event names, if it does
abbrev pub resource_of : Command → ℕ
resource_of (Open c) = c
resource_of (Create c) = c
resource_of (Edit c off del text) = c
resource_of (Undo c) = c
resource_of (Redo c) = c
resource_of (Save c force over) = c
resource_of (Revert c) = c
resource_of (Close c) = c
resource_of (Outside c mtime text) = c

-- The event's resource is among the names.
abbrev pub IsEventOf : List (List ℕ) → Event → Type 0
IsEventOf names (Act command) = resource_of command < length names
IsEventOf names (Vault c) = c < length names
IsEventOf names (Flush c) = c < length names
IsEventOf names Quit = Unit {0}

-- The outcome's resource is among the names.
abbrev pub IsOutcomeOf : List (List ℕ) → Outcome → Type 0
IsOutcomeOf names (Vetoed c) = c < length names
IsOutcomeOf names _ = Unit {0}

-- The resources that the entry's event and outcome name are among these names.
abbrev pub IsEntryOf : List (List ℕ) → Entry → Type 0
IsEntryOf names e = IsEventOf names e.event × IsOutcomeOf names e.outcome

-- who brought it about: `w0`, `b0`, `s0`, `q`, `v0`
abbrev pub actor_text : Actor → List ℕ
actor_text (Window k) = codes "w" ++ decimal k
actor_text (Writer k) = codes "b" ++ decimal k
actor_text (Saver k) = codes "s" ++ decimal k
actor_text Closer = codes "q"
actor_text Watcher = codes "v0"

-- a text as a field: `=` and its escaped bytes
abbrev pub text_field : List ℕ → List ℕ
text_field text = codes "=" ++ escaped text

abbrev pub word_if : Bool → List ℕ → List (List ℕ)
word_if b word = if b then word ∷ [] else []

-- what stands behind the actor
abbrev pub command_fields : List (List ℕ) → Command → List (List ℕ)
command_fields names (Open c) = codes "open" ∷ name_of names c ∷ []
command_fields names (Create c) = codes "create" ∷ name_of names c ∷ []
command_fields names (Edit c off del text) = codes "edit" ∷ name_of names c ∷ decimal off ∷ decimal del ∷ text_field text ∷ []
command_fields names (Undo c) = codes "undo" ∷ name_of names c ∷ []
command_fields names (Redo c) = codes "redo" ∷ name_of names c ∷ []
command_fields names (Save c force over) = codes "save" ∷ name_of names c ∷ word_if force (codes "force") ++ word_if over (codes "over")
command_fields names (Revert c) = codes "revert" ∷ name_of names c ∷ []
command_fields names (Close c) = codes "close" ∷ name_of names c ∷ []
command_fields names (Outside c mtime text) = codes "outside" ∷ name_of names c ∷ decimal mtime ∷ text_field text ∷ []

abbrev pub event_fields : List (List ℕ) → Event → List (List ℕ)
event_fields names (Act command) = command_fields names command
event_fields names (Vault c) = codes "vault" ∷ name_of names c ∷ []
event_fields names (Flush c) = codes "flush" ∷ name_of names c ∷ []
event_fields names Quit = codes "quit" ∷ []

-- The line of an event: its actor and its fields, parted by single blanks.
abbrev pub line_text : List (List ℕ) → Actor → Event → List ℕ
line_text names actor event = actor_text actor ++ spaced (event_fields names event)

abbrev pub stage_word : Stage → List ℕ
stage_word Prepare = codes "prepare"
stage_word Body = codes "body"
stage_word OpenGate = codes "open"
stage_word Fade = codes "fade"
stage_word Drop = codes "drop"

abbrev pub stat_fields : Stat → List (List ℕ)
stat_fields s = decimal s.mtime ∷ decimal s.size ∷ []

-- a stat, or `none` where there is no file
abbrev pub found_fields : Option Stat → List (List ℕ)
found_fields None = codes "none" ∷ []
found_fields (Some s) = stat_fields s

-- a stage with its end: only the stages of a backup have a version
abbrev pub stage_fields : Stage → ℕ → List ℕ → List (List ℕ)
stage_fields Fade v end = end ∷ []
stage_fields Drop v end = end ∷ []
stage_fields _ v end = decimal v ∷ end ∷ []

-- the first word of an outcome, and the fields behind it
abbrev pub outcome_word : Outcome → List ℕ
outcome_word (Opened s) = codes "opened"
outcome_word (Created v) = codes "created"
outcome_word (Edited v) = codes "edited"
outcome_word (Undone v) = codes "undone"
outcome_word (Redone v) = codes "redone"
outcome_word Joined = codes "joined"
outcome_word Clean = codes "clean"
outcome_word Queued = codes "queued"
outcome_word (Started v) = codes "started"
outcome_word (Reverted s) = codes "reverted"
outcome_word Closed = codes "closed"
outcome_word Written = codes "written"
outcome_word Missing = codes "missing"
outcome_word NoPair = codes "nopair"
outcome_word AlreadyOpen = codes "alreadyopen"
outcome_word NotOpen = codes "notopen"
outcome_word OutOfContent = codes "outofcontent"
outcome_word TooLarge = codes "toolarge"
outcome_word NoUndo = codes "noundo"
outcome_word NoRedo = codes "noredo"
outcome_word Saving = codes "saving"
outcome_word Fault = codes "fault"
outcome_word Idle = codes "idle"
outcome_word Spent = codes "spent"
outcome_word (StageOk stage v) = stage_word stage
outcome_word (StageFault stage v) = stage_word stage
outcome_word (Checked x) = codes "check"
outcome_word (Modified s) = codes "modified"
outcome_word CheckFault = codes "check"
outcome_word (Saved v x) = codes "saved"
outcome_word (WriteFault v) = codes "write"
outcome_word (Unguarded v) = codes "unguarded"
outcome_word MayQuit = codes "quit"
outcome_word (Vetoed c) = codes "vetoed"

abbrev pub outcome_fields : List (List ℕ) → Outcome → List (List ℕ)
outcome_fields names (Opened s) = stat_fields s
outcome_fields names (Created v) = decimal v ∷ []
outcome_fields names (Edited v) = decimal v ∷ []
outcome_fields names (Undone v) = decimal v ∷ []
outcome_fields names (Redone v) = decimal v ∷ []
outcome_fields names (Started v) = decimal v ∷ []
outcome_fields names (Reverted s) = stat_fields s
outcome_fields names (StageOk stage v) = stage_fields stage v (codes "ok")
outcome_fields names (StageFault stage v) = stage_fields stage v (codes "fault")
outcome_fields names (Checked x) = found_fields x
outcome_fields names (Modified s) = stat_fields s
outcome_fields names CheckFault = codes "fault" ∷ []
outcome_fields names (Saved v x) = decimal v ∷ found_fields x
outcome_fields names (WriteFault v) = decimal v ∷ codes "fault" ∷ []
outcome_fields names (Unguarded v) = decimal v ∷ []
outcome_fields names (Vetoed c) = name_of names c ∷ []
outcome_fields names _ = []

-- The text of an outcome: its word and its fields, parted by single blanks.
abbrev pub outcome_line : List (List ℕ) → Outcome → List ℕ
outcome_line names outcome = outcome_word outcome ++ spaced (outcome_fields names outcome)
