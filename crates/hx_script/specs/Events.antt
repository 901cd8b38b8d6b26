-- Which event the fields of a line are: who does what to which resource. The forms are this project's own.
use Rattle.std.specs.Prelude.{◌≡◌, ℕ, ◌-◌, ◌==◌, nat_le, Bool, true, false, ◌&&◌, List, [], ◌∷◌, bytes_eq, codes, if◌then◌else◌, Option, Some, None, Result, Ok, Err}
use Rattle.hx_events.specs.declared.event.Actor.{Actor}
use Rattle.hx_events.specs.declared.event.Actor.TheVariants.{Window, Writer, Saver, Closer, Watcher}
use Rattle.hx_events.specs.declared.event.Command.{Command}
use Rattle.hx_events.specs.declared.event.Command.TheVariants.{Open, Create, Edit, Undo, Redo, Save, Revert, Close, Outside}
use Rattle.hx_events.specs.declared.event.Event.{Event}
use Rattle.hx_events.specs.declared.event.Event.TheVariants.{Act, Vault, Flush, Quit}
use Rattle.hx_script.specs.declared.why.Why.{Why}
use Rattle.hx_script.specs.declared.why.Why.TheVariants.{Form}
use Rattle.hx_script.specs.Readings.{and_then}
use Rattle.hx_script.specs.Values.{number_in, resource_in, text_in}

-- is it one of the digits from 0 to this one?
abbrev pub is_digit_to : ℕ → ℕ → Bool
is_digit_to last byte = nat_le 48 byte && nat_le byte last

-- `w0` to `w7`, `b0` to `b3`, `s0` to `s3`, `v0`, by their letter and their digit
abbrev pub numbered_actor : ℕ → ℕ → Option Actor
numbered_actor letter digit =
    if letter == 119 && is_digit_to 55 digit then Some (Window (digit - 48))
    else if letter == 98 && is_digit_to 51 digit then Some (Writer (digit - 48))
    else if letter == 115 && is_digit_to 51 digit then Some (Saver (digit - 48))
    else if letter == 118 && digit == 48 then Some Watcher
    else None

-- the actor of a field: one of these, or `q`, who ends a life
abbrev pub actor_in : List ℕ → Option Actor
actor_in (letter ∷ []) = if letter == 113 then Some Closer else None
actor_in (letter ∷ digit ∷ []) = numbered_actor letter digit
actor_in field = None

-- the one resource that stands behind a word
abbrev pub one_resource : List (List ℕ) → List (List ℕ) → Result ℕ Why
one_resource names (name ∷ []) = resource_in names name
one_resource names fields = Err Form

-- the edit of a resource: its place, how many bytes go, and the text that comes
abbrev pub edit_of : List (List ℕ) → (name off del text : List ℕ) → Result Command Why
edit_of names name off del text =
    and_then (resource_in names name) (λ c. and_then (number_in off) (λ from. and_then (number_in del) (λ count. and_then (text_in text) (λ new. Ok (Edit c from count new)))))

abbrev pub edit_in : List (List ℕ) → List (List ℕ) → Result Command Why
edit_in names (name ∷ off ∷ del ∷ text ∷ []) = edit_of names name off del text
edit_in names fields = Err Form

abbrev pub save_of : List (List ℕ) → List ℕ → (force over : Bool) → Result Command Why
save_of names name force over = and_then (resource_in names name) (λ c. Ok (Save c force over))

-- a save, with `force`, `over`, both in this order, or neither behind its resource
abbrev pub save_in : List (List ℕ) → List (List ℕ) → Result Command Why
save_in names (name ∷ []) = save_of names name false false
save_in names (name ∷ word ∷ []) = if bytes_eq word (codes "force") then save_of names name true false else if bytes_eq word (codes "over") then save_of names name false true else Err Form
save_in names (name ∷ first ∷ second ∷ []) = if bytes_eq first (codes "force") && bytes_eq second (codes "over") then save_of names name true true else Err Form
save_in names fields = Err Form

abbrev pub outside_of : List (List ℕ) → (name mtime text : List ℕ) → Result Command Why
outside_of names name mtime text = and_then (resource_in names name) (λ c. and_then (number_in mtime) (λ time. and_then (text_in text) (λ new. Ok (Outside c time new))))

-- another program's write: its time and the whole text
abbrev pub outside_in : List (List ℕ) → List (List ℕ) → Result Command Why
outside_in names (name ∷ mtime ∷ text ∷ []) = outside_of names name mtime text
outside_in names fields = Err Form

-- a window's command, by its word and the fields behind it
abbrev pub command_in : List (List ℕ) → List ℕ → List (List ℕ) → Result Command Why
command_in names word fields =
    if bytes_eq word (codes "open") then and_then (one_resource names fields) (λ c. Ok (Open c))
    else if bytes_eq word (codes "create") then and_then (one_resource names fields) (λ c. Ok (Create c))
    else if bytes_eq word (codes "edit") then edit_in names fields
    else if bytes_eq word (codes "undo") then and_then (one_resource names fields) (λ c. Ok (Undo c))
    else if bytes_eq word (codes "redo") then and_then (one_resource names fields) (λ c. Ok (Redo c))
    else if bytes_eq word (codes "save") then save_in names fields
    else if bytes_eq word (codes "revert") then and_then (one_resource names fields) (λ c. Ok (Revert c))
    else if bytes_eq word (codes "close") then and_then (one_resource names fields) (λ c. Ok (Close c))
    else if bytes_eq word (codes "outside") then outside_in names fields
    else Err Form

abbrev pub vault_in : List (List ℕ) → List ℕ → List (List ℕ) → Result Event Why
vault_in names word fields = if bytes_eq word (codes "vault") then and_then (one_resource names fields) (λ c. Ok (Vault c)) else Err Form

abbrev pub flush_in : List (List ℕ) → List ℕ → List (List ℕ) → Result Event Why
flush_in names word fields = if bytes_eq word (codes "flush") then and_then (one_resource names fields) (λ c. Ok (Flush c)) else Err Form

-- what the Closer does: any stage, or the question whether the program may end
abbrev pub quit_in : List ℕ → List (List ℕ) → Result Event Why
quit_in word [] = if bytes_eq word (codes "quit") then Ok Quit else Err Form
quit_in word fields = Err Form

abbrev pub closing_in : List (List ℕ) → List ℕ → List (List ℕ) → Result Event Why
closing_in names word fields =
    if bytes_eq word (codes "vault") then vault_in names word fields
    else if bytes_eq word (codes "flush") then flush_in names word fields
    else quit_in word fields

-- the Watcher reverts, and does nothing else
abbrev pub watch_in : List (List ℕ) → List ℕ → List (List ℕ) → Result Event Why
watch_in names word fields = if bytes_eq word (codes "revert") then and_then (one_resource names fields) (λ c. Ok (Act (Revert c))) else Err Form

-- what this actor does: a window commands, a writer does vault stages, a saver save stages
abbrev pub deed_in : List (List ℕ) → Actor → List ℕ → List (List ℕ) → Result Event Why
deed_in names (Window k) word fields = and_then (command_in names word fields) (λ command. Ok (Act command))
deed_in names (Writer k) word fields = vault_in names word fields
deed_in names (Saver k) word fields = flush_in names word fields
deed_in names Closer word fields = closing_in names word fields
deed_in names Watcher word fields = watch_in names word fields

abbrev pub event_in : List (List ℕ) → Actor → List (List ℕ) → Result Event Why
event_in names actor [] = Err Form
event_in names actor (word ∷ fields) = deed_in names actor word fields

abbrev pub move_of : List (List ℕ) → Option Actor → List (List ℕ) → Result (Actor × Event) Why
move_of names None fields = Err Form
move_of names (Some actor) fields = and_then (event_in names actor fields) (λ event. Ok (actor, event))

-- who did what, by all fields of an event's line
abbrev pub move_in : List (List ℕ) → List (List ℕ) → Result (Actor × Event) Why
move_in names [] = Err Form
move_in names (first ∷ fields) = move_of names (actor_in first) fields

-- only the Closer asks whether the program may end
abbrev pub IsAskedBy : Actor → Event → Type 0
IsAskedBy actor Quit = actor ≡ Closer
IsAskedBy actor event = Unit {0}
