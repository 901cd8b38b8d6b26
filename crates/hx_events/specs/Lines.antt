-- The line of an event says which event it is.
use Rattle.std.specs.Prelude.{◌≡◌, ℕ, ◌<◌, ◌^◌, true, List, [], ◌∷◌}
use Rattle.hx_events.specs.declared.event.Actor.{Actor}
use Rattle.hx_events.specs.declared.event.Actor.TheVariants.{Window, Writer, Saver}
use Rattle.hx_events.specs.declared.event.Command.{Command}
use Rattle.hx_events.specs.declared.event.Command.TheVariants.{Edit, Outside}
use Rattle.hx_events.specs.declared.event.Event.{Event}
use Rattle.hx_events.specs.declared.event.Event.TheVariants.{Act}
use Rattle.hx_events.specs.Places.{IsDistinct}
use Rattle.hx_events.specs.Texts.{IsEventOf, line_text}
use Rattle.hx_events.specs.Fields.{are_words}

-- each byte is below 256
abbrev pub AreBytes : List ℕ → Type 0
AreBytes [] = Unit {0}
AreBytes (b ∷ bs) = (b < 256) × AreBytes bs

-- the numbers and bytes of the event are in the ranges of their types, as those of every value of the code are
abbrev pub IsInRangeCommand : Command → Type 0
IsInRangeCommand (Edit c off del text) = (off < 2 ^ 64) × (del < 2 ^ 64) × AreBytes text
IsInRangeCommand (Outside c mtime text) = (mtime < 2 ^ 64) × AreBytes text
IsInRangeCommand _ = Unit {0}

abbrev pub IsInRange : Event → Type 0
IsInRange (Act command) = IsInRangeCommand command
IsInRange _ = Unit {0}

-- the same of an actor's number
abbrev pub IsActor : Actor → Type 0
IsActor (Window k) = k < 256
IsActor (Writer k) = k < 256
IsActor (Saver k) = k < 256
IsActor _ = Unit {0}

-- Two lines over the same names are the same only where their actors and their events are.
abbrev pub LinesDiffer : Type 0
LinesDiffer = (names : List (List ℕ)) (actor other : Actor) (event changed : Event) → IsDistinct names → are_words names ≡ true
    → IsActor actor → IsActor other → IsEventOf names event → IsEventOf names changed → IsInRange event → IsInRange changed
    → line_text names actor event ≡ line_text names other changed → (actor ≡ other) × (event ≡ changed)
