-- A written line is read: its actor, its resource, its numbers and its text.
use Rattle.std.proofs.Common.{◌≡◌, ◌≤◌, ◌<◌, ◌^◌, ℕ, zero, suc, true, false, nat_lt, List, [], ◌∷◌, length, Some, Ok, refl, ap, ◌∙◌, arith}
use Rattle.std.specs.Prelude.{decimal}
use Rattle.std.specs.Fmt.{digits}
use Rattle.std.proofs.lemmas.Bool.Decides.{nat_tests}
use Rattle.hx_base.specs.Escapes.{escaped}
use Rattle.hx_base.proofs.DecimalSteps.{value_of_decimal}
use Rattle.hx_base.proofs.EscapeLaws.{read_back, good}
use Rattle.hx_events.specs.declared.event.Actor.{Actor}
use Rattle.hx_events.specs.declared.event.Actor.TheVariants.{Window, Writer, Saver, Closer, Watcher}
use Rattle.hx_events.specs.declared.event.Command.{Command}
use Rattle.hx_events.specs.declared.event.Command.TheVariants.{Open, Create, Edit, Undo, Redo, Save, Revert, Close, Outside}
use Rattle.hx_events.specs.declared.event.Event.{Event}
use Rattle.hx_events.specs.declared.event.Event.TheVariants.{Act, Vault, Flush, Quit}
use Rattle.hx_events.specs.Places.{IsDistinct}
use Rattle.hx_events.specs.Lines.{AreBytes, IsInRangeCommand, IsInRange}
use Rattle.hx_events.specs.Texts.{name_of, resource_of, IsEventOf, actor_text, text_field, command_fields, event_fields, line_text}
use Rattle.hx_events.proofs.FieldLemmas.{line_read_back}
use Rattle.hx_events.proofs.ReadingLemmas.{place_of_name}
use Rattle.std.proofs.Common.{get_or}
use Rattle.hx_script.specs.declared.script.Form.TheVariants.{Replay}
use Rattle.hx_script.specs.declared.script.Step.TheVariants.{Do}
use Rattle.hx_script.specs.declared.declarations.Kind.TheVariants.{Does}
use Rattle.hx_script.specs.declared.why.Why.TheVariants.{Number, Resource}
use Rattle.hx_script.specs.Readings.{and_then, ranked}
use Rattle.hx_script.specs.Values.{or_refused, number_in, resource_in, unescaped_in, text_in}
use Rattle.hx_script.specs.Events.{actor_in, event_in, move_of, move_in}
use Rattle.hx_script.specs.Laws.{HasLine, ReadsBack, ReadsBackInScript}
use Rattle.hx_script.specs.Scripts.{kind_in, done_by, is_beyond, fields_in, line_of_kind, with_step}

window_read : (k : ℕ) → k < 8 → actor_in (actor_text (Window k)) ≡ Some (Window k)
unfolding digits
window_read zero lt = refl
window_read (suc zero) lt = refl
window_read (suc (suc zero)) lt = refl
window_read (suc (suc (suc zero))) lt = refl
window_read (suc (suc (suc (suc zero)))) lt = refl
window_read (suc (suc (suc (suc (suc zero))))) lt = refl
window_read (suc (suc (suc (suc (suc (suc zero)))))) lt = refl
window_read (suc (suc (suc (suc (suc (suc (suc zero))))))) lt = refl
window_read (suc (suc (suc (suc (suc (suc (suc (suc k)))))))) lt = absurd (omega (arith, lt))

writer_read : (k : ℕ) → k < 4 → actor_in (actor_text (Writer k)) ≡ Some (Writer k)
unfolding digits
writer_read zero lt = refl
writer_read (suc zero) lt = refl
writer_read (suc (suc zero)) lt = refl
writer_read (suc (suc (suc zero))) lt = refl
writer_read (suc (suc (suc (suc k)))) lt = absurd (omega (arith, lt))

saver_read : (k : ℕ) → k < 4 → actor_in (actor_text (Saver k)) ≡ Some (Saver k)
unfolding digits
saver_read zero lt = refl
saver_read (suc zero) lt = refl
saver_read (suc (suc zero)) lt = refl
saver_read (suc (suc (suc zero))) lt = refl
saver_read (suc (suc (suc (suc k)))) lt = absurd (omega (arith, lt))

actor_read : (actor : Actor) (event : Event) → HasLine actor event → actor_in (actor_text actor) ≡ Some actor
actor_read (Window k) (Act command) has = window_read k has
actor_read (Window k) (Vault c) has = absurd has
actor_read (Window k) (Flush c) has = absurd has
actor_read (Window k) Quit has = absurd has
actor_read (Writer k) (Act command) has = absurd has
actor_read (Writer k) (Vault c) has = writer_read k has
actor_read (Writer k) (Flush c) has = absurd has
actor_read (Writer k) Quit has = absurd has
actor_read (Saver k) (Act command) has = absurd has
actor_read (Saver k) (Vault c) has = absurd has
actor_read (Saver k) (Flush c) has = saver_read k has
actor_read (Saver k) Quit has = absurd has
actor_read Closer event has = refl
actor_read Watcher event has = refl

each_byte : (bytes : List ℕ) → AreBytes bytes → (k : ℕ) → get_or bytes k 0 < 256
each_byte [] are k = omega arith
each_byte (b ∷ bs) are zero = are.0
each_byte (b ∷ bs) are (suc k) = each_byte bs are.1 k

number_read : (n : ℕ) → n < 2 ^ 64 → number_in (decimal n) ≡ Ok n
number_read n lt = ap (or_refused Number) (value_of_decimal n (decimal n) lt refl)

text_read : (text : List ℕ) → AreBytes text → text_in (text_field text) ≡ Ok text
text_read text are =
    let bytes = each_byte text are in
    ap (λ o. unescaped_in o (escaped text)) (good text (escaped text) refl bytes) ∙ ap Ok (read_back text (escaped text) refl bytes)

resource_read : (names : List (List ℕ)) (c : ℕ) → IsDistinct names → c < length names → resource_in names (name_of names c) ≡ Ok c
resource_read names c distinct lt = ap (or_refused Resource) (place_of_name names c distinct lt)

command_read : (names : List (List ℕ)) (k : ℕ) (command : Command) → IsDistinct names → resource_of command < length names → IsInRangeCommand command → event_in names (Window k) (command_fields names command) ≡ Ok (Act command)
command_read names k (Open c) distinct lt range = rw (resource_read names c distinct lt) refl
command_read names k (Create c) distinct lt range = rw (resource_read names c distinct lt) refl
command_read names k (Edit c off del text) distinct lt range = rw (resource_read names c distinct lt, number_read off range.0, number_read del range.1, text_read text range.2) refl
command_read names k (Undo c) distinct lt range = rw (resource_read names c distinct lt) refl
command_read names k (Redo c) distinct lt range = rw (resource_read names c distinct lt) refl
command_read names k (Save c false false) distinct lt range = rw (resource_read names c distinct lt) refl
command_read names k (Save c false true) distinct lt range = rw (resource_read names c distinct lt) refl
command_read names k (Save c true false) distinct lt range = rw (resource_read names c distinct lt) refl
command_read names k (Save c true true) distinct lt range = rw (resource_read names c distinct lt) refl
command_read names k (Revert c) distinct lt range = rw (resource_read names c distinct lt) refl
command_read names k (Close c) distinct lt range = rw (resource_read names c distinct lt) refl
command_read names k (Outside c mtime text) distinct lt range = rw (resource_read names c distinct lt, number_read mtime range.0, text_read text range.1) refl

event_read : (names : List (List ℕ)) (actor : Actor) (event : Event) → IsDistinct names → IsEventOf names event → IsInRange event → HasLine actor event → event_in names actor (event_fields names event) ≡ Ok event
event_read names (Window k) (Act command) distinct lt range has = command_read names k command distinct lt range
event_read names (Window k) (Vault c) distinct lt range has = absurd has
event_read names (Window k) (Flush c) distinct lt range has = absurd has
event_read names (Window k) Quit distinct lt range has = absurd has
event_read names (Writer k) (Act command) distinct lt range has = absurd has
event_read names (Writer k) (Vault c) distinct lt range has = rw (resource_read names c distinct lt) refl
event_read names (Writer k) (Flush c) distinct lt range has = absurd has
event_read names (Writer k) Quit distinct lt range has = absurd has
event_read names (Saver k) (Act command) distinct lt range has = absurd has
event_read names (Saver k) (Vault c) distinct lt range has = absurd has
event_read names (Saver k) (Flush c) distinct lt range has = rw (resource_read names c distinct lt) refl
event_read names (Saver k) Quit distinct lt range has = absurd has
event_read names Closer (Act command) distinct lt range has = absurd has
event_read names Closer (Vault c) distinct lt range has = rw (resource_read names c distinct lt) refl
event_read names Closer (Flush c) distinct lt range has = rw (resource_read names c distinct lt) refl
event_read names Closer Quit distinct lt range has = refl
event_read names Watcher (Act (Revert c)) distinct lt range has = rw (resource_read names c distinct lt) refl
event_read names Watcher (Act (Open c)) distinct lt range has = absurd has
event_read names Watcher (Act (Create c)) distinct lt range has = absurd has
event_read names Watcher (Act (Edit c off del text)) distinct lt range has = absurd has
event_read names Watcher (Act (Undo c)) distinct lt range has = absurd has
event_read names Watcher (Act (Redo c)) distinct lt range has = absurd has
event_read names Watcher (Act (Save c force over)) distinct lt range has = absurd has
event_read names Watcher (Act (Close c)) distinct lt range has = absurd has
event_read names Watcher (Act (Outside c mtime text)) distinct lt range has = absurd has
event_read names Watcher (Vault c) distinct lt range has = absurd has
event_read names Watcher (Flush c) distinct lt range has = absurd has
event_read names Watcher Quit distinct lt range has = absurd has

pub reads_back : ReadsBack
reads_back names actor event distinct words of range has =
    ap (move_in names) (line_read_back names actor event (line_text names actor event) refl words)
    ∙ ap (λ a. move_of names a (event_fields names event)) (actor_read actor event has)
    ∙ ap (λ e. and_then e (λ x. Ok (actor, x))) (event_read names actor event distinct of range has)

saver_kind : (k : ℕ) → k < 4 → kind_in (actor_text (Saver k)) ≡ Some (Does (Saver k))
unfolding digits
saver_kind zero lt = refl
saver_kind (suc zero) lt = refl
saver_kind (suc (suc zero)) lt = refl
saver_kind (suc (suc (suc zero))) lt = refl
saver_kind (suc (suc (suc (suc k)))) lt = absurd (omega (arith, lt))

kind_read : (actor : Actor) (event : Event) → HasLine actor event → kind_in (actor_text actor) ≡ Some (Does actor)
kind_read (Window k) event has = ap done_by (actor_read (Window k) event has)
kind_read (Writer k) event has = ap done_by (actor_read (Writer k) event has)
kind_read (Saver k) (Act command) has = absurd has
kind_read (Saver k) (Vault c) has = absurd has
kind_read (Saver k) (Flush c) has = saver_kind k has
kind_read (Saver k) Quit has = absurd has
kind_read Closer event has = refl
kind_read Watcher event has = refl

not_beyond : (limit n : ℕ) → n ≤ limit → nat_lt limit n ≡ false
not_beyond limit n le = grind (arith, nat_tests)

pub reads_back_in_script : ReadsBackInScript
reads_back_in_script s n actor event distinct words of range has few =
    ap (fields_in Replay n s) (line_read_back s.names actor event (line_text s.names actor event) refl words)
    ∙ ap (λ k. line_of_kind Replay n s k (event_fields s.names event)) (kind_read actor event has)
    ∙ ap (λ e. and_then (ranked e false (is_beyond n)) (λ x. Ok (with_step s (Do actor x)))) (event_read s.names actor event distinct of range has)
    ∙ ap (λ b. and_then (ranked (Ok event) false b) (λ x. Ok (with_step s (Do actor x)))) (not_beyond 10000 n few)
