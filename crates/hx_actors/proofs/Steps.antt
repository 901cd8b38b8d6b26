-- One call, note or leave more.
use Rattle.std.proofs.Common.{◌≡◌, ℕ, suc, ◌≤◌, ◌<◌, true, false, List, [], ◌∷◌, ◌++◌, length, map, refl, ap, sym, ◌∙◌, subst, arith, append_assoc, length-append}
use Rattle.std.proofs.lemmas.List.{reverse-append}
use mathlib.Core.List.{IsPrefix}
use Rattle.hx_events.specs.Texts.{resource_of}
use Rattle.hx_events.specs.declared.event.Actor.{Actor}
use Rattle.hx_events.specs.declared.event.Actor.TheVariants.{Window, Writer, Saver, Closer, Watcher}
use Rattle.hx_events.specs.declared.event.Command.{Command}
use Rattle.hx_events.specs.declared.event.Event.{Event}
use Rattle.hx_events.specs.declared.event.Event.TheVariants.{Act}
use Rattle.hx_events.specs.declared.life.Entry.{Entry}
use Rattle.hx_events.specs.declared.outcome.Outcome.{Outcome}
use Rattle.hx_rules.specs.Legal.{Opening}
use Rattle.hx_rules.specs.Interleavings.{is_idle, is_some_window, may_stand}
use Rattle.hx_passes.specs.declared.rule.Kind.{Kind}
use Rattle.hx_passes.specs.declared.rule.Kind.TheVariants.{Vault, Save}
use Rattle.hx_passes.specs.declared.rule.Known.{Known}
use Rattle.hx_passes.specs.declared.rule.Note.{Note}
use Rattle.hx_passes.proofs.Lists.{prefix_length}
use Rattle.hx_hub.specs.Calls.{Makes, NotesRest, Leaves}
use Rattle.hx_hub.specs.Shared.{stage_on}
use Rattle.hx_actors.specs.Work.{EndsOver, Falls, HasLeft, IsInOrder, IsOver, events}
use Rattle.hx_actors.specs.Pieces.{IsDone, IsNamed, IsSoundBy, IsThroughBy, Keeps, events_in, works}
use Rattle.hx_actors.proofs.Lists.{falls_more}

longer : (before : List Entry) (e : Entry) → length (before ++ e ∷ []) ≡ suc (length before)
longer before e = let split = length-append before (e ∷ []) in omega (arith, split)

falls_on : (seen upto : List Entry) (p : Known) → IsPrefix seen upto → Falls (suc (length seen)) p.calls → Falls (suc (length upto)) p.calls
falls_on seen upto p more falls = falls_more (suc (length seen)) (suc (length upto)) p.calls (let le = prefix_length seen upto more in omega (arith, le)) falls

pub made_in_order : (o : Opening) (event : Event) (place : ℕ) (out : Outcome) (old new : Known) → Makes o event place out old new → may_stand false old.actor event out ≡ true → IsInOrder old → IsInOrder new
made_in_order o event place out old new m may is = subst IsInOrder (sym m.made) (record {
  falls = (let long = longer m.before m.entry in omega (arith, long), falls_on old.seen m.before old m.seen is.falls);
  stand = (
    ap (λ a. may_stand false a m.entry.event m.entry.outcome) m.by_actor ∙ (ap (λ ev. may_stand false old.actor ev m.entry.outcome) m.of_event ∙ (ap (λ x. may_stand false old.actor event x) m.came_to ∙ may)),
    is.stand,
  );
})

pub noted_in_order : (o : Opening) (kind : Kind) (left : ℕ) (old new : Known) → NotesRest o kind left old new → IsInOrder old → IsInOrder new
noted_in_order o kind left old new n is = subst IsInOrder (sym n.noted) (record { falls = falls_on old.seen n.upto old n.seen is.falls; stand = is.stand })

pub window_stands : (a : Actor) (event : Event) (out : Outcome) → is_some_window a ≡ true → may_stand false a event out ≡ true
window_stands (Window k) event out is = refl
window_stands (Writer k) event out is = absurd cc
window_stands (Saver k) event out is = absurd cc
window_stands Closer event out is = absurd cc
window_stands Watcher event out is = absurd cc

pub worker_stands : (kind : Kind) (a : Actor) (c : ℕ) (out : Outcome) → works kind a ≡ true → is_idle out ≡ false → may_stand false a (stage_on kind c) out ≡ true
worker_stands Vault (Writer k) c out does busy = cc busy
worker_stands Save (Saver k) c out does busy = cc busy
worker_stands Vault (Window k) c out does busy = absurd cc
worker_stands Vault (Saver k) c out does busy = absurd cc
worker_stands Vault Closer c out does busy = absurd cc
worker_stands Vault Watcher c out does busy = absurd cc
worker_stands Save (Window k) c out does busy = absurd cc
worker_stands Save (Writer k) c out does busy = absurd cc
worker_stands Save Closer c out does busy = absurd cc
worker_stands Save Watcher c out does busy = absurd cc

pub no_window_works : (kind : Kind) (a : Actor) → works kind a ≡ true → is_some_window a ≡ false
no_window_works kind (Window k) does = absurd (windows_rest kind k does)
  where
    windows_rest : (kind : Kind) (k : ℕ) → works kind (Window k) ≡ true → ⊥
    windows_rest Vault k does = cc does
    windows_rest Save k does = cc does
no_window_works kind (Writer k) does = refl
no_window_works kind (Saver k) does = refl
no_window_works kind Closer does = refl
no_window_works kind Watcher does = refl

over_of : (n : ℕ) (kind : Kind) (a : Actor) (ms : List Note) → works kind a ≡ true → EndsOver n kind ms → IsOver n a ms
over_of n Vault (Writer k) ms does over = over
over_of n Save (Saver k) ms does over = over
over_of n Vault (Saver k) ms does over = absurd cc
over_of n Save (Writer k) ms does over = absurd cc
over_of n kind (Window k) ms does over = tt
over_of n kind Closer ms does over = tt
over_of n kind Watcher ms does over = tt

window_over : (n : ℕ) (a : Actor) (ms : List Note) → is_some_window a ≡ true → IsOver n a ms
window_over n (Window k) ms is = tt
window_over n (Writer k) ms is = absurd cc
window_over n (Saver k) ms is = absurd cc
window_over n Closer ms is = absurd cc
window_over n Watcher ms is = absurd cc

pub made_keeps : (o : Opening) (event : Event) (place : ℕ) (out : Outcome) (first old new : Known) → Makes o event place out old new → Keeps first old → Keeps first new
made_keeps o event place out first old new m k = record { actor = ap (λ p. p.actor) m.made ∙ k.actor; parts = ap (λ p. p.parts) m.made ∙ k.parts; leaves = ap (λ p. p.leaves) m.made ∙ k.leaves }

pub noted_keeps : (o : Opening) (kind : Kind) (left : ℕ) (first old new : Known) → NotesRest o kind left old new → Keeps first old → Keeps first new
noted_keeps o kind left first old new n k = record { actor = ap (λ p. p.actor) n.noted ∙ k.actor; parts = ap (λ p. p.parts) n.noted ∙ k.parts; leaves = ap (λ p. p.leaves) n.noted ∙ k.leaves }

pub noted_over : (o : Opening) (kind : Kind) (left windows : ℕ) (old new : Known) → windows ≤ left → NotesRest o kind left old new → EndsOver windows kind new.notes
noted_over o kind left windows old new le n = subst (λ p. EndsOver windows kind p.notes) (sym n.noted) (refl, le)

pub named_next : (names : List (List ℕ)) (c : Command) (rest all : List Command) → all ≡ c ∷ rest → IsNamed (length names) all → (resource_of c < length names) × IsNamed (length names) rest
named_next names c rest all is named = let here = subst (IsNamed (length names)) is named in (here 0 c (omega arith), λ i d less. here (suc i) d (omega (arith, less)))

-- one command less to make
pub whole_next : (all : List Event) (c : Command) (rest : List Command) (made : List Event) → all ≡ events_in (c ∷ rest) ++ made → all ≡ events_in rest ++ Act c ∷ made
whole_next all c rest made whole = whole ∙ (ap (λ (xs : List Event). xs ++ made) (reverse-append (Act c ∷ []) (map Act rest)) ∙ append_assoc (events_in rest) (Act c ∷ []) made)

pub made_events : (o : Opening) (event : Event) (place : ℕ) (out : Outcome) (old new : Known) → Makes o event place out old new → events new.calls ≡ event ∷ events old.calls
made_events o event place out old new m = ap (λ p. events p.calls) m.made ∙ ap (λ ev. ev ∷ events old.calls) m.of_event

pub sound_begun : (script rest : List Command) (p : Known) → IsInOrder p → events_in script ≡ events_in rest ++ events p.calls → IsSoundBy script p
sound_begun script rest p is whole = record { order = is; begun = λ w. record { later = events_in rest; whole = whole } }

pub sound_left : (script : List Command) (old new : Known) → Leaves old new → IsSoundBy script old → IsSoundBy script new
sound_left script old new l s = subst (IsSoundBy script) (sym l.left) (record { order = record { falls = falls_on old.seen l.upto old l.seen s.order.falls; stand = s.order.stand }; begun = s.begun })

pub done_left : (old new : Known) → Leaves old new → old.leaves ≡ [] → is_some_window old.actor ≡ true → IsInOrder old → IsDone new
done_left old new l here win is = subst IsDone (sym l.left) (record {
  left = λ w. subst (λ (ls : List ℕ). HasLeft (length l.upto ∷ ls) old.calls) (sym here) (falls_on old.seen l.upto old l.seen is.falls);
  stays = λ none. absurd (cc (none, win));
})

pub through_left : (n : ℕ) (script : List Command) (old new : Known) → Leaves old new → is_some_window old.actor ≡ true → events old.calls ≡ events_in script → IsThroughBy n script new
through_left n script old new l win made = subst (IsThroughBy n script) (sym l.left) (record { made = λ is. made; over = window_over n old.actor old.notes win })

pub worker_sound : (kind : Kind) (script : List Command) (p : Known) → works kind p.actor ≡ true → IsInOrder p → IsSoundBy script p
worker_sound kind script p does is = record { order = is; begun = λ win. absurd (let none = no_window_works kind p.actor does in cc (win, none)) }

pub worker_done : (kind : Kind) (p : Known) → works kind p.actor ≡ true → p.leaves ≡ [] → IsDone p
worker_done kind p does here = record {
  left = λ win. absurd (let none = no_window_works kind p.actor does in cc (win, none));
  stays = λ none. here;
}

pub worker_through : (n : ℕ) (kind : Kind) (script : List Command) (p : Known) → works kind p.actor ≡ true → EndsOver n kind p.notes → IsThroughBy n script p
worker_through n kind script p does over = record {
  made = λ win. absurd (let none = no_window_works kind p.actor does in cc (win, none));
  over = over_of n kind p.actor p.notes does over;
}
