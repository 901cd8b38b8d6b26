-- Whose an entry is. A history is read newest first: its last entry is the head of the list, and the entries before it
-- are the tail.
use Rattle.std.specs.Prelude.{ℕ, ◌+◌, ◌==◌, Bool, false, List, [], ◌∷◌, length, reverse, if◌then◌else◌}
use Rattle.hx_events.specs.declared.event.Event.{Event}
use Rattle.hx_events.specs.declared.event.Event.TheVariants.{Act, Vault, Flush, Quit}
use Rattle.hx_events.specs.declared.outcome.Outcome.{Outcome}
use Rattle.hx_events.specs.declared.life.Entry.{Entry}
use Rattle.hx_events.specs.Texts.{resource_of}

-- does the event name the resource c? The question whether the program may end names none
abbrev pub is_of : ℕ → Event → Bool
is_of c (Act command) = resource_of command == c
is_of c (Vault r) = r == c
is_of c (Flush r) = r == c
is_of c Quit = false

-- What was done to a resource by one entry. The place counts the entries of the life from 1, and is a save's ticket.
pub record Deed : Type 0 where
  pub place : ℕ
  pub event : Event
  pub outcome : Outcome
  pub content : List ℕ

abbrev pub deed : ℕ → Event → Outcome → List ℕ → Deed
deed place event outcome content = record { place = place; event = event; outcome = outcome; content = content }

-- The deeds of the resource c, newest first. All that is said of one resource is said of its own deeds, so the entries
-- of other resources change nothing of it.
abbrev pub own : ℕ → List Entry → List Deed
own c [] = []
own c (e ∷ es) = if is_of c e.event then deed (length es + 1) e.event e.outcome e.content ∷ own c es else own c es

-- a kept history has its oldest entry first, and is read from its other end
abbrev pub past : List Entry → List Entry
past es = reverse es
