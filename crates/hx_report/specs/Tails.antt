-- What is printed behind the end of a life: how each copy stands, and what each request to save was answered. It is said of
-- any history by the rules of histories. The form of the lines is this project's own.
use Rattle.std.specs.Prelude.{ℕ, zero, suc, ◌+◌, Bool, true, false, List, [], ◌∷◌, ◌++◌, length, codes, decimal, if◌then◌else◌, Option, Some, None}
use Rattle.hx_events.specs.declared.backup.Backup.{Backup}
use Rattle.hx_events.specs.declared.event.Command.TheVariants.{Save}
use Rattle.hx_events.specs.declared.event.Event.{Event}
use Rattle.hx_events.specs.declared.event.Event.TheVariants.{Act}
use Rattle.hx_events.specs.declared.life.Entry.{Entry}
use Rattle.hx_events.specs.declared.life.Life.{Life}
use Rattle.hx_events.specs.declared.outcome.Outcome.{Outcome}
use Rattle.hx_events.specs.declared.outcome.Outcome.TheVariants.{NotOpen}
use Rattle.hx_events.specs.Texts.{spaced, name_of}
use Rattle.hx_rules.specs.declared.saves.SaveAnswer.{SaveAnswer}
use Rattle.hx_rules.specs.declared.saves.SaveAnswer.TheVariants.{Saved, Clean, ModifiedSince, DiskFault, Unguarded}
use Rattle.hx_rules.specs.Entries.{Deed, own, past}
use Rattle.hx_rules.specs.Versions.{last_version}
use Rattle.hx_rules.specs.Copies.{registered, dirty}
use Rattle.hx_rules.specs.Saves.{answer, save_steps}
use Rattle.hx_rules.specs.Backups.{Snapshot, done}
use Rattle.hx_rules.specs.Legal.{Opening, opening_of, restored_at}

abbrev pub state_word : Bool → List ℕ
state_word true = codes "dirty"
state_word false = codes "clean"

-- a number, or `none` where there is none
abbrev pub number_field : Option ℕ → List ℕ
number_field None = codes "none"
number_field (Some n) = decimal n

abbrev pub version_of : Option Snapshot → Option ℕ
version_of None = None
version_of (Some s) = Some s.version

-- how a copy stands: its last version, whether it is dirty, and the version of its completed backup
abbrev pub copy_line : List ℕ → ℕ → Bool → Option ℕ → List ℕ
copy_line name version is_dirty backup = codes "copy" ++ spaced (name ∷ codes "version" ∷ decimal version ∷ state_word is_dirty ∷ codes "backup" ∷ number_field backup ∷ []) ++ codes "\n"

-- the line of a resource after its deeds, where its copy is registered
abbrev pub line_of_copy : List ℕ → Option Backup → List Deed → List ℕ
line_of_copy name restored ds = if registered restored ds then copy_line name (last_version restored ds) (dirty restored ds) (version_of (done restored ds)) else []

module _ (o : Opening) (names : List (List ℕ)) (es : List Entry) where
  -- the lines of the first n resources after these entries, newest first, in the order of their numbers
  abbrev pub copy_lines : ℕ → List ℕ
  copy_lines zero = []
  copy_lines (suc c) = copy_lines c ++ line_of_copy (name_of names c) (restored_at o c) (own c es)

-- what the save that a request asked for came to, or `none` where it hasn't ended
abbrev pub answer_fields : Option SaveAnswer → List (List ℕ)
answer_fields None = codes "none" ∷ []
answer_fields (Some (Saved v)) = codes "saved" ∷ decimal v ∷ []
answer_fields (Some Clean) = codes "clean" ∷ []
answer_fields (Some ModifiedSince) = codes "modified" ∷ []
answer_fields (Some DiskFault) = codes "fault" ∷ []
answer_fields (Some Unguarded) = codes "unguarded" ∷ []

abbrev pub ticket_line : ℕ → Option SaveAnswer → List ℕ
ticket_line place answered = codes "ticket" ++ spaced (decimal place ∷ answer_fields answered) ++ codes "\n"

-- a request that found its copy not open has no ticket
abbrev pub is_refused : Outcome → Bool
is_refused NotOpen = true
is_refused _ = false

-- the resource whose save the event asks for, if it does
abbrev pub save_of : Event → Option ℕ
save_of (Act (Save c force over)) = Some c
save_of _ = None

-- the resource of a ticket, if the event with this outcome has one
abbrev pub ticket_of : Event → Outcome → Option ℕ
ticket_of event outcome = if is_refused outcome then None else save_of event

module _ (o : Opening) (whole : List Entry) where
  -- the line of an entry's ticket, answered as in the whole history; its place in the life is its number
  abbrev pub line_of_ticket : ℕ → Option ℕ → List ℕ
  line_of_ticket place None = []
  line_of_ticket place (Some c) = ticket_line place (answer place (save_steps (restored_at o c) (own c whole)))

  -- the tickets of these entries, newest first, in the order in which they were asked
  abbrev pub ticket_lines : List Entry → List ℕ
  ticket_lines [] = []
  ticket_lines (e ∷ es) = ticket_lines es ++ line_of_ticket (length es + 1) (ticket_of e.event e.outcome)

abbrev pub opening : Life → Opening
opening life = opening_of life.names life.base life.guarded

-- The tail of a life: a line for each registered copy, and one for each request to save that found its copy open.
unfoldable pub tail_text : Life → List ℕ
tail_text life =
    copy_lines (opening life) life.names (past life.history) (length life.names)
    ++ ticket_lines (opening life) (past life.history) (past life.history)
