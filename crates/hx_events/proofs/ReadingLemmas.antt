-- A line is read: its actor and its event are what the fields say, so two lines with the same text are of the same event.
use Rattle.std.proofs.Common.{◌≡◌, ℕ, zero, suc, ◌+◌, ◌<◌, ◌^◌, ◌==◌, Bool, true, false, cond, List, [], ◌∷◌, ◌++◌, length, codes, Option, Some, None, refl, ap, sym, ◌∙◌, arith, get_or}
use Rattle.std.specs.Prelude.{decimal, if◌then◌else◌, bytes_eq, option_map, unwrap_or, slice_get}
use Rattle.std.specs.List.{position_from}
use Rattle.std.proofs.lemmas.Slice.Eq.{bytes_eq-Decides}
use Rattle.std.proofs.lemmas.Option.{get_or_from_slice_get}
use Rattle.hx_base.specs.Decimals.{decimal_value}
use Rattle.hx_base.specs.Escapes.{unescaped}
use Rattle.hx_base.proofs.DecimalSteps.{value_of_decimal}
use Rattle.hx_base.proofs.EscapeLaws.{unescaped-escaped}
use Rattle.hx_events.specs.declared.event.Actor.{Actor}
use Rattle.hx_events.specs.declared.event.Actor.TheVariants.{Window, Writer, Saver, Closer, Watcher}
use Rattle.hx_events.specs.declared.event.Command.{Command}
use Rattle.hx_events.specs.declared.event.Command.TheVariants.{Open, Create, Edit, Undo, Redo, Save, Revert, Close, Outside}
use Rattle.hx_events.specs.declared.event.Event.{Event}
use Rattle.hx_events.specs.declared.event.Event.TheVariants.{Act, Vault, Flush, Quit}
use Rattle.hx_events.specs.Places.{is_named, place_of, IsDistinct}
use Rattle.hx_events.specs.Texts.{name_of, IsEventOf, actor_text, text_field, word_if, command_fields, event_fields, line_text}
use Rattle.hx_events.specs.Lines.{AreBytes, IsInRangeCommand, IsInRange, IsActor, LinesDiffer}
use Rattle.hx_events.proofs.PlaceLemmas.{bytes_eq-sym}
use Rattle.hx_events.proofs.FieldLemmas.{line_read_back}

same_bytes : (xs : List ℕ) → bytes_eq xs xs ≡ true
same_bytes xs = let d = bytes_eq-Decides xs xs in d.1 refl

-- where a name stands later, a name that stands nowhere later is another one
other_name : (x : List ℕ) (i c : ℕ) (xs : List (List ℕ)) → c < length xs → position_from (is_named x) i xs ≡ None → bytes_eq (name_of xs c) x ≡ false
other_name x i c [] lt none = absurd (omega (arith, lt))
other_name x i zero (y ∷ ys) lt none = go (bytes_eq y x) none
  where
    go : (b : Bool) → cond b (Some i) (position_from (is_named x) (i + 1) ys) ≡ None → b ≡ false
    go true h = absurd cc
    go false h = refl
other_name x i (suc c) (y ∷ ys) lt none = other_name x (i + 1) c ys (omega (arith, lt)) (go (bytes_eq y x) none)
  where
    go : (b : Bool) → cond b (Some i) (position_from (is_named x) (i + 1) ys) ≡ None → position_from (is_named x) (i + 1) ys ≡ None
    go true h = absurd cc
    go false h = h

place_from : (i c : ℕ) (xs : List (List ℕ)) → IsDistinct xs → c < length xs → position_from (is_named (name_of xs c)) i xs ≡ Some (i + c)
place_from i c [] distinct lt = absurd (omega (arith, lt))
place_from i zero (x ∷ xs) distinct lt = ap (λ b. cond b (Some i) (position_from (is_named x) (i + 1) xs)) (same_bytes x) ∙ ap Some (omega arith)
place_from i (suc c) (x ∷ xs) distinct lt =
    let differs : bytes_eq x (name_of xs c) ≡ false = bytes_eq-sym x (name_of xs c) ∙ other_name x 0 c xs (omega (arith, lt)) distinct.0 in
    ap (λ b. cond b (Some i) (position_from (is_named (name_of xs c)) (i + 1) xs)) differs
    ∙ place_from (i + 1) c xs distinct.1 (omega (arith, lt))
    ∙ ap Some (omega arith)

-- each resource is found at its own number
pub place_of_name : (names : List (List ℕ)) (c : ℕ) → IsDistinct names → c < length names → place_of (name_of names c) names ≡ Some c
place_of_name names c distinct lt = place_from 0 c names distinct lt ∙ ap Some (omega arith)

-- the text that stands at a number is found at that number
pub place_found : (names : List (List ℕ)) (c : ℕ) (text : List ℕ) → slice_get names c ≡ Some text → IsDistinct names → c < length names → place_of text names ≡ Some c
place_found names c text got distinct lt = ap (λ t. place_of t names) (sym (get_or_from_slice_get names c text [] got)) ∙ place_of_name names c distinct lt

-- the number and the text that a field says
number_of : List ℕ → ℕ
number_of field = unwrap_or (decimal_value field) 0

abbrev text_of : List ℕ → List ℕ
text_of [] = []
text_of (mark ∷ bytes) = unescaped bytes

number_of_decimal : (n : ℕ) → n < 2 ^ 64 → number_of (decimal n) ≡ n
unfolding number_of
number_of_decimal n lt = ap (λ o. unwrap_or o 0) (value_of_decimal n (decimal n) lt refl)

each_byte : (bytes : List ℕ) → AreBytes bytes → (k : ℕ) → get_or bytes k 0 < 256
each_byte [] are k = omega arith
each_byte (b ∷ bs) are zero = are.0
each_byte (b ∷ bs) are (suc k) = each_byte bs are.1 k

text_of_field : (text : List ℕ) → AreBytes text → text_of (text_field text) ≡ text
text_of_field text are = unescaped-escaped text (each_byte text are)

abbrev read_edit : ℕ → List (List ℕ) → Command
read_edit c (off ∷ (del ∷ (text ∷ rest))) = Edit c (number_of off) (number_of del) (text_of text)
read_edit c _ = Open c

abbrev read_outside : ℕ → List (List ℕ) → Command
read_outside c (mtime ∷ (text ∷ rest)) = Outside c (number_of mtime) (text_of text)
read_outside c _ = Open c

abbrev read_save : ℕ → List (List ℕ) → Command
read_save c [] = Save c false false
read_save c (first ∷ []) = if bytes_eq first (codes "force") then Save c true false else Save c false true
read_save c (first ∷ (second ∷ rest)) = Save c true true

-- the event that a verb, a resource and the fields behind them say
abbrev read_of : List ℕ → ℕ → List (List ℕ) → Event
read_of verb c rest =
    if bytes_eq verb (codes "open") then Act (Open c)
    else if bytes_eq verb (codes "create") then Act (Create c)
    else if bytes_eq verb (codes "edit") then Act (read_edit c rest)
    else if bytes_eq verb (codes "undo") then Act (Undo c)
    else if bytes_eq verb (codes "redo") then Act (Redo c)
    else if bytes_eq verb (codes "save") then Act (read_save c rest)
    else if bytes_eq verb (codes "revert") then Act (Revert c)
    else if bytes_eq verb (codes "close") then Act (Close c)
    else if bytes_eq verb (codes "outside") then Act (read_outside c rest)
    else if bytes_eq verb (codes "vault") then Vault c
    else if bytes_eq verb (codes "flush") then Flush c
    else Quit

abbrev read_event : List (List ℕ) → List (List ℕ) → Option Event
read_event names [] = None
read_event names (verb ∷ []) = Some Quit
read_event names (verb ∷ (name ∷ rest)) = option_map (λ c. read_of verb c rest) (place_of name names)

at_name : (names : List (List ℕ)) (c : ℕ) (verb : List ℕ) (rest : List (List ℕ)) → IsDistinct names → c < length names → read_event names (verb ∷ (name_of names c ∷ rest)) ≡ Some (read_of verb c rest)
at_name names c verb rest distinct lt = ap (option_map (λ c. read_of verb c rest)) (place_of_name names c distinct lt)

save_read : (c : ℕ) (force over : Bool) → read_save c (word_if force (codes "force") ++ word_if over (codes "over")) ≡ Save c force over
save_read c false false = refl
save_read c false true = refl
save_read c true false = refl
save_read c true true = refl

command_read : (names : List (List ℕ)) (command : Command) → IsDistinct names → IsEventOf names (Act command) → IsInRangeCommand command → read_event names (command_fields names command) ≡ Some (Act command)
command_read names (Open c) distinct lt range = at_name names c (codes "open") [] distinct lt
command_read names (Create c) distinct lt range = at_name names c (codes "create") [] distinct lt
command_read names (Edit c off del text) distinct lt range =
    at_name names c (codes "edit") (decimal off ∷ decimal del ∷ text_field text ∷ []) distinct lt
    ∙ ap (λ n. Some (Act (Edit c n (number_of (decimal del)) (text_of (text_field text))))) (number_of_decimal off range.0)
    ∙ ap (λ n. Some (Act (Edit c off n (text_of (text_field text))))) (number_of_decimal del range.1)
    ∙ ap (λ t. Some (Act (Edit c off del t))) (text_of_field text range.2)
command_read names (Undo c) distinct lt range = at_name names c (codes "undo") [] distinct lt
command_read names (Redo c) distinct lt range = at_name names c (codes "redo") [] distinct lt
command_read names (Save c force over) distinct lt range =
    at_name names c (codes "save") (word_if force (codes "force") ++ word_if over (codes "over")) distinct lt
    ∙ ap (λ s. Some (Act s)) (save_read c force over)
command_read names (Revert c) distinct lt range = at_name names c (codes "revert") [] distinct lt
command_read names (Close c) distinct lt range = at_name names c (codes "close") [] distinct lt
command_read names (Outside c mtime text) distinct lt range =
    at_name names c (codes "outside") (decimal mtime ∷ text_field text ∷ []) distinct lt
    ∙ ap (λ n. Some (Act (Outside c n (text_of (text_field text))))) (number_of_decimal mtime range.0)
    ∙ ap (λ t. Some (Act (Outside c mtime t))) (text_of_field text range.1)

event_read : (names : List (List ℕ)) (event : Event) → IsDistinct names → IsEventOf names event → IsInRange event → read_event names (event_fields names event) ≡ Some event
event_read names (Act command) distinct lt range = command_read names command distinct lt range
event_read names (Vault c) distinct lt range = at_name names c (codes "vault") [] distinct lt
event_read names (Flush c) distinct lt range = at_name names c (codes "flush") [] distinct lt
event_read names Quit distinct lt range = refl

-- the actor that a field says
abbrev read_actor : List ℕ → Actor
read_actor [] = Closer
read_actor (letter ∷ rest) =
    if letter == 119 then Window (number_of rest)
    else if letter == 98 then Writer (number_of rest)
    else if letter == 115 then Saver (number_of rest)
    else if letter == 118 then Watcher
    else Closer

actor_read : (actor : Actor) → IsActor actor → read_actor (actor_text actor) ≡ actor
actor_read (Window k) lt = ap (λ n. Window n) (number_of_decimal k (omega (arith, lt)))
actor_read (Writer k) lt = ap (λ n. Writer n) (number_of_decimal k (omega (arith, lt)))
actor_read (Saver k) lt = ap (λ n. Saver n) (number_of_decimal k (omega (arith, lt)))
actor_read Closer lt = refl
actor_read Watcher lt = refl

heads : (x y : List ℕ) (xs ys : List (List ℕ)) → (x ∷ xs) ≡ (y ∷ ys) → x ≡ y
heads x y xs ys e = cc

tails : (x y : List ℕ) (xs ys : List (List ℕ)) → (x ∷ xs) ≡ (y ∷ ys) → xs ≡ ys
tails x y xs ys e = cc

some_is : (a b : Event) → Some a ≡ Some b → a ≡ b
some_is a b e = cc

pub lines_differ : LinesDiffer
lines_differ names actor other event changed distinct words actor_is other_is event_is changed_is range changed_range same =
    let fields = sym (line_read_back names actor event (line_text names actor event) refl words) ∙ line_read_back names other changed (line_text names actor event) same words in
    let actors = heads (actor_text actor) (actor_text other) (event_fields names event) (event_fields names changed) fields in
    let events = tails (actor_text actor) (actor_text other) (event_fields names event) (event_fields names changed) fields in (
      sym (actor_read actor actor_is) ∙ ap read_actor actors ∙ actor_read other other_is,
      some_is event changed (sym (event_read names event distinct event_is range) ∙ ap (read_event names) events ∙ event_read names changed distinct changed_is changed_range),
    )
