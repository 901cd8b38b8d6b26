-- What is kept of each resource while a history is read once, from its first entry on, and what an entry makes of it. An
-- outline has the ids of a copy and no contents.
use Rattle.std.specs.Prelude.{◌≡◌, ℕ, zero, suc, ◌+◌, ◌≤◌, ◌<◌, not, Bool, true, false, ◌&&◌, List, [], ◌∷◌, ◌++◌, length, if◌then◌else◌, Option, Some, None, slice_get}
use Rattle.hx_events.specs.declared.backup.Backup.{Backup}
use Rattle.hx_events.specs.declared.event.Event.{Event}
use Rattle.hx_events.specs.declared.event.Event.TheVariants.{Act, Vault, Flush, Quit}
use Rattle.hx_events.specs.declared.event.Stage.TheVariants.{Open, Drop}
use Rattle.hx_events.specs.declared.life.Entry.{Entry}
use Rattle.hx_events.specs.declared.outcome.Outcome.{Outcome}
use Rattle.hx_events.specs.declared.outcome.Outcome.TheVariants.{Joined, Clean, Queued, Started, StageOk}
use Rattle.hx_events.specs.Texts.{resource_of, name_of}
use Rattle.hx_rules.specs.declared.saves.SaveAnswer.{SaveAnswer}
use Rattle.hx_rules.specs.declared.saves.SaveAnswer.TheVariants.{Clean as AnswerClean}
use Rattle.hx_rules.specs.Entries.{Deed, own}
use Rattle.hx_rules.specs.Versions.{Trail, trail_of, trail_after, at_place, adds_version, last_version, trail}
use Rattle.hx_rules.specs.Copies.{registered, registered_after, mark, mark_after, is_number}
use Rattle.hx_rules.specs.Saves.{save_steps}
use Rattle.hx_rules.specs.Backups.{done}
use Rattle.hx_rules.specs.Legal.{Opening, restored_at}
use Rattle.hx_report.specs.declared.outline.Outline.{Outline}
use Rattle.hx_report.specs.declared.share.Share.{Share}
use Rattle.hx_report.specs.declared.share.Share.TheVariants.{Nothing, AtOnce, Save as SaveNumber}
use Rattle.hx_report.specs.declared.tally.Tally.{Tally}
use Rattle.hx_report.specs.declared.tally.Ticket.{Ticket}
use Rattle.hx_report.specs.Saves.{SavesKept, saves, saves_of, answers_of, saves_after}
use Rattle.hx_report.specs.Tails.{version_of, save_of, ticket_of, ticket_line, copy_line}

-- ---- tickets
-- The save whose answer a request shares, where so many have ended: the running one has the next number, and the one that
-- waits has the number behind it.
abbrev pub share_by : Outcome → ℕ → Share
share_by Joined ended = SaveNumber ended
share_by Clean ended = AtOnce
share_by Queued ended = SaveNumber (ended + 1)
share_by (Started v) ended = SaveNumber ended
share_by _ ended = Nothing

-- the answer that such a request has
abbrev pub answer_by : List SaveAnswer → Share → Option SaveAnswer
answer_by answers Nothing = None
answer_by answers AtOnce = Some AnswerClean
answer_by answers (SaveNumber n) = slice_get answers n

-- ---- outlines
abbrev pub outline_of : Bool → ℕ → Trail → Option ℕ → Option ℕ → SavesKept → Outline
outline_of registered last trail mark done saves = record { registered = registered; last = last; trail = trail; mark = mark; done = done; saves = saves }

-- what is kept of a resource after its deeds
abbrev pub outline : Option Backup → List Deed → Outline
outline restored ds = outline_of (registered restored ds) (last_version restored ds) (trail restored ds) (mark restored ds) (version_of (done restored ds)) (saves_of (save_steps restored ds))

-- what is kept at the opening of a life, of a restored resource or another one
abbrev pub first_outline : Bool → Outline
first_outline true = outline_of true 1 (trail_of (1 ∷ []) []) None (Some 1) (saves None [])
first_outline false = outline_of false 0 (trail_of [] []) None None (saves None [])

-- is the copy dirty?
abbrev pub is_dirty_by : Bool → Trail → Option ℕ → Bool
is_dirty_by is_open t mark = is_open && not (is_number (at_place t) mark)

-- the version of the completed backup after an outcome
abbrev pub done_version_after : Outcome → Option ℕ → Option ℕ
done_version_after (StageOk Open v) was = Some v
done_version_after (StageOk Drop v) was = None
done_version_after _ was = was

-- an outline with other marks, and its saves as these marks have them
abbrev pub outline_with : Event → Outcome → Bool → ℕ → Trail → Option ℕ → Option ℕ → SavesKept → Outline
outline_with event outcome is_open last t mark done was = outline_of is_open last t mark done (saves_after event outcome (is_dirty_by is_open t mark) was)

-- what an outcome makes of an outline
abbrev pub outline_after : Event → Outcome → Outline → Outline
outline_after event outcome x =
    outline_with event outcome
    (registered_after outcome x.registered)
    (if adds_version outcome then x.last + 1 else x.last)
    (trail_after outcome (x.last + 1) x.trail)
    (mark_after outcome x.last (at_place (trail_after outcome (x.last + 1) x.trail)) x.mark)
    (done_version_after outcome x.done)
    x.saves

-- the line of a copy by its outline
abbrev pub line_of_outline : List ℕ → Outline → List ℕ
line_of_outline name x = if x.registered then copy_line name x.last (is_dirty_by x.registered x.trail x.mark) x.done else []

abbrev pub line_if : List ℕ → Option Outline → List ℕ
line_if name None = []
line_if name (Some x) = line_of_outline name x

-- the lines of the first n copies
abbrev pub outline_lines : List (List ℕ) → List Outline → ℕ → List ℕ
outline_lines names xs zero = []
outline_lines names xs (suc c) = outline_lines names xs c ++ line_if (name_of names c) (slice_get xs c)

-- ---- the whole
-- the resource that an event names, if it does
abbrev pub named : Event → Option ℕ
named (Act command) = Some (resource_of command)
named (Vault c) = Some c
named (Flush c) = Some c
named Quit = None

abbrev pub ticket : ℕ → ℕ → Share → Ticket
ticket place res share = record { place = place; res = res; share = share }

-- the ticket of an entry, where `ended` gives the number of saves of a resource that have ended
abbrev pub tickets_with : ℕ → Outcome → (ℕ → ℕ) → Option ℕ → List Ticket
tickets_with place outcome ended None = []
tickets_with place outcome ended (Some c) = ticket place c (share_by outcome (ended c)) ∷ []

abbrev pub ticket_if : Bool → Ticket → List Ticket
ticket_if b t = if b then t ∷ [] else []

module _ (o : Opening) where
  -- how many saves of the resource c have ended after these entries
  abbrev pub ended_at : List Entry → ℕ → ℕ
  ended_at es c = length (answers_of (save_steps (restored_at o c) (own c es)))

  -- the tickets of these entries, newest first, in the order in which they were asked
  abbrev pub tickets_of : List Entry → List Ticket
  tickets_of [] = []
  tickets_of (e ∷ es) = tickets_of es ++ tickets_with (length es + 1) e.outcome (ended_at es) (ticket_of e.event e.outcome)

-- no more versions than this
abbrev pub AreUpTo : ℕ → List Outline → Type 0
AreUpTo n xs = (k : ℕ) (x : Outline) → slice_get xs k ≡ Some x → x.last ≤ n

-- the saves that these entries ask for are of the first n resources
abbrev pub AreSavesBelow : ℕ → List Entry → Type 0
AreSavesBelow n [] = Unit {0}
AreSavesBelow n (e ∷ es) = ((c : ℕ) → save_of e.event ≡ Some c → c < n) × AreSavesBelow n es

-- What is kept is what these entries, newest first, leave.
pub record IsTallied (o : Opening) (es : List Entry) (t : Tally) : Type 0 where
  pub each : (k : ℕ) (x : Outline) → slice_get t.outlines.items k ≡ Some x → x ≡ outline (restored_at o k) (own k es)
  pub tickets : t.tickets.items ≡ tickets_of o es
  pub known : AreSavesBelow (length t.outlines.items) es

-- is the copy with this number dirty?
abbrev pub dirty_in : List Outline → ℕ → Bool
dirty_in xs c = elim (slice_get xs c) [ None ↦ false | Some x ↦ is_dirty_by x.registered x.trail x.mark ]

-- the answer of a request that shares it, among the saves of the resource with this number
abbrev pub answer_at : List Outline → ℕ → Share → Option SaveAnswer
answer_at xs c share = elim (slice_get xs c) [ None ↦ None | Some x ↦ answer_by x.saves.answers share ]

-- the lines of these tickets
abbrev pub tickets_text : List Outline → List Ticket → List ℕ
tickets_text xs [] = []
tickets_text xs (t ∷ ts) = ticket_line t.place (answer_at xs t.res t.share) ++ tickets_text xs ts
