-- What holds of lines and lives by these definitions.
use Rattle.std.specs.Prelude.{◌≡◌, ◌≤◌, ◌<◌, ℕ, ◌+◌, Bool, true, List, length, count_by, Ok}
use Rattle.hx_events.specs.declared.event.Actor.{Actor}
use Rattle.hx_events.specs.declared.event.Actor.TheVariants.{Window, Writer, Saver, Closer, Watcher}
use Rattle.hx_events.specs.declared.event.Command.TheVariants.{Revert}
use Rattle.hx_events.specs.declared.event.Event.{Event}
use Rattle.hx_events.specs.declared.event.Event.TheVariants.{Act, Vault, Flush, Quit}
use Rattle.hx_events.specs.declared.life.Life.{Life}
use Rattle.hx_events.specs.Places.{IsDistinct}
use Rattle.hx_events.specs.Fields.{are_words, fields_of}
use Rattle.hx_events.specs.Lines.{IsInRange}
use Rattle.hx_events.specs.Texts.{IsEventOf, line_text}
use Rattle.hx_script.specs.declared.script.Form.TheVariants.{Replay}
use Rattle.hx_script.specs.declared.script.Script.{Script}
use Rattle.hx_script.specs.declared.script.Step.{Step}
use Rattle.hx_script.specs.declared.script.Step.TheVariants.{Do}
use Rattle.hx_script.specs.Events.{move_in}
use Rattle.hx_script.specs.Follows.{Follows}
use Rattle.hx_script.specs.Scripts.{is_ending, line_in, with_step}

-- There is a line for this actor and this event: who may do what, and whose number has a text.
abbrev pub HasLine : Actor → Event → Type 0
HasLine (Window k) (Act command) = k < 8
HasLine (Writer k) (Vault c) = k < 4
HasLine (Saver k) (Flush c) = k < 4
HasLine Closer (Vault c) = Unit {0}
HasLine Closer (Flush c) = Unit {0}
HasLine Closer Quit = Unit {0}
HasLine Watcher (Act (Revert c)) = Unit {0}
HasLine actor event = ⊥

-- A line that was written reads as its event again, over the same names, of which none has a blank.
abbrev pub ReadsBack : Type 0
ReadsBack = (names : List (List ℕ)) (actor : Actor) (event : Event) → IsDistinct names → are_words names ≡ true → IsEventOf names event → IsInRange event → HasLine actor event
    → move_in names (fields_of (line_text names actor event)) ≡ Ok (actor, event)

-- As a line of a script for replay it is one step more, where the script has room for a line.
abbrev pub ReadsBackInScript : Type 0
ReadsBackInScript = (script : Script) (number : ℕ) (actor : Actor) (event : Event) → IsDistinct script.names → are_words script.names ≡ true → IsEventOf script.names event → IsInRange event → HasLine actor event → number ≤ 10000
    → line_in Replay number script (line_text script.names actor event) ≡ Ok (with_step script (Do actor event))

-- There is one life more than steps that end one.
abbrev pub CountsLives : Type 0
CountsLives = (guarded : Bool) (declared : List (List ℕ)) (steps : List Step) (lives : List Life) → Follows guarded declared steps lives → length lives ≡ count_by is_ending steps + 1
