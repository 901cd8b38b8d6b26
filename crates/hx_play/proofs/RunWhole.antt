-- A run's life names only resources of its own.
use Rattle.std.specs.Prelude.{◌≡◌, ◌≤◌, ℕ, suc, nat_le, Bool, true, false, ◌&&◌, List, [], ◌∷◌, ◌++◌, length, All, map, reverse, slice_index_or, if◌then◌else◌, refl}
use Rattle.std.proofs.Common.{sym, ◌∙◌, ap, subst, arith, ⊎_elim}
use Rattle.std.proofs.lemmas.Bool.{cases_lt}
use Rattle.std.proofs.lemmas.Bool.Decides.{nat_tests}
use Rattle.std.proofs.lemmas.List.{get_or_past, reverse-append, reverse-reverse}
use Rattle.hx_disk.specs.File.{FileState}
use Rattle.hx_events.specs.declared.event.Actor.{Actor}
use Rattle.hx_events.specs.declared.event.Actor.TheVariants.{Window, Writer, Saver, Watcher}
use Rattle.hx_events.specs.declared.event.Command.{Command}
use Rattle.hx_events.specs.declared.event.Command.TheVariants.{Open, Create, Edit, Undo, Redo, Save, Revert, Close, Outside}
use Rattle.hx_events.specs.declared.event.Event.{Event}
use Rattle.hx_events.specs.declared.event.Event.TheVariants.{Act, Vault, Flush, Quit}
use Rattle.hx_events.specs.declared.life.Entry.{Entry}
use Rattle.hx_events.specs.declared.life.Life.{Life}
use Rattle.hx_events.specs.declared.outcome.Outcome.{Outcome}
use Rattle.hx_events.specs.Texts.{IsEventOf}
use Rattle.hx_rules.specs.Interleavings.{all_may_stand, events_of, is_idle, is_window, may_stand, script_of}
use Rattle.hx_rules.specs.Legal.{Opening, is_legal, is_row}
use Rattle.hx_rules_laws.specs.Rows.{and_left, and_right, not_true, past_legal, row_holds}
use Rattle.hx_report.specs.Traces.{AreEntriesOf, AreWhole, IsWhole}
use Rattle.hx_script.specs.declared.script.Step.{Step}
use Rattle.hx_script.specs.Scripts.{IsStepOf}
use Rattle.hx_lives.specs.Course.{Past, course_of, opening}
use Rattle.hx_lives.specs.Chained.{AreLived}
use Rattle.hx_actors.specs.Pieces.{IsNamed}
use Rattle.hx_play.specs.Runs.{HasRun, HaveRun, scripts_of}
use Rattle.hx_play.proofs.Commands.{all_scripts_named, named_still}
use Rattle.hx_play.proofs.LifeSteps.{names_stay}
use Rattle.hx_play.proofs.Whole.{AreEventsOf, as_many, end_known, entries_known, entries_reverse, stage_known}

-- the resources that these events name are among the names
abbrev AreOf : List (List ℕ) → List Event → Type 0
AreOf names [] = Unit {0}
AreOf names (event ∷ events) = IsEventOf names event × AreOf names events

of_append : (names : List (List ℕ)) (xs ys : List Event) → AreOf names xs → AreOf names ys → AreOf names (xs ++ ys)
of_append names [] ys left right = right
of_append names (x ∷ xs) ys left right = (left.0, of_append names xs ys left.1 right)

of_commands : (names : List (List ℕ)) (cs : List Command) → IsNamed (length names) cs → AreOf names (reverse (map Act cs))
of_commands names [] all = tt
of_commands names (c ∷ cs) all = subst (AreOf names) (sym (reverse-append (Act c ∷ []) (map Act cs))) (of_append names (reverse (map Act cs)) (Act c ∷ []) (of_commands names cs (λ i d below. all (suc i) d (omega (arith, below)))) (all 0 c (omega arith), tt))

-- what the windows are to do names resources of the script
of_script : (names : List (List ℕ)) (scripts : List (List Command)) (k : ℕ) → All (IsNamed (length names)) scripts → AreOf names (script_of k scripts)
of_script names scripts k all = ⊎_elim
    (λ within. of_commands names (slice_index_or scripts k []) (all k [] within))
    (λ past. subst (λ (cs : List Command). AreOf names (reverse (map Act cs))) (sym (get_or_past scripts k [] past)) tt)
    (cases_lt k (length scripts))

is_own : (n : ℕ) → is_window n (Window n) ≡ true
is_own n = grind (arith, nat_tests)

of_first : (names : List (List ℕ)) (b : Bool) (x : Event) (xs : List Event) → b ≡ true → AreOf names (if b then x ∷ xs else xs) → IsEventOf names x
of_first names true x xs is all = all.0
of_first names false x xs is all = absurd cc

of_rest : (names : List (List ℕ)) (b : Bool) (x : Event) (xs : List Event) → AreOf names (if b then x ∷ xs else xs) → AreOf names xs
of_rest names true x xs all = all.1
of_rest names false x xs all = all

-- without a watch the Watcher has no entry
watcher_out : (event : Event) (outcome : Outcome) → may_stand false Watcher event outcome ≡ false
watcher_out (Act (Open r)) outcome = refl
watcher_out (Act (Create r)) outcome = refl
watcher_out (Act (Edit r off del text)) outcome = refl
watcher_out (Act (Undo r)) outcome = refl
watcher_out (Act (Redo r)) outcome = refl
watcher_out (Act (Save r force over)) outcome = refl
watcher_out (Act (Revert r)) outcome = refl
watcher_out (Act (Close r)) outcome = refl
watcher_out (Act (Outside r mtime text)) outcome = refl
watcher_out (Vault r) outcome = refl
watcher_out (Flush r) outcome = refl
watcher_out Quit outcome = refl

-- no resource is below the first
from_first : (c : ℕ) → nat_le 0 c ≡ true
from_first c = grind (arith, nat_tests)

from_first_alone : (c : ℕ) → (nat_le 0 c && true) ≡ true
from_first_alone c = rw (from_first c)

module _ (names : List (List ℕ)) (o : Opening) (as_many_names : length o.restored ≡ length names) where
  -- an entry beside the Closer's
  beside_known : (e : Entry) (es : List Entry) → AreEventsOf names es → is_row o es e.event e.outcome ≡ true → (actor : Actor) (event : Event) → e.actor ≡ actor → e.event ≡ event → may_stand false actor event e.outcome ≡ true → ((k : ℕ) → AreOf names (events_of k (e ∷ es))) → IsEventOf names event
  beside_known e es all row (Window k) event by_actor of_event stands own = subst (IsEventOf names) of_event (of_first names (is_window k e.actor) e.event (events_of k es) (ap (is_window k) by_actor ∙ is_own k) (own k))
  beside_known e es all row (Writer k) (Vault c) by_actor of_event stands own = stage_known names o as_many_names es (Vault c) e.outcome [] [] all (subst (λ (ev : Event). is_row o es ev e.outcome ≡ true) of_event row) (not_true (is_idle e.outcome) stands) (from_first_alone c)
  beside_known e es all row (Saver k) (Flush c) by_actor of_event stands own = stage_known names o as_many_names es (Flush c) e.outcome [] [] all (subst (λ (ev : Event). is_row o es ev e.outcome ≡ true) of_event row) (not_true (is_idle e.outcome) stands) (from_first c)
  beside_known e es all row Watcher event by_actor of_event stands own = absurd (let odd : false ≡ true = sym (watcher_out event e.outcome) ∙ stands in cc)
  beside_known e es all row _ _ by_actor of_event stands own = absurd cc

  -- all work of a run
  work_known : (es : List Entry) → is_legal o es ≡ true → all_may_stand false es ≡ true → ((k : ℕ) → AreOf names (events_of k es)) → AreEventsOf names es
  work_known [] legal stands own = tt
  work_known (e ∷ es) legal stands own =
      let first : may_stand false e.actor e.event e.outcome ≡ true = and_left (may_stand false e.actor e.event e.outcome) (all_may_stand false es) stands in
      let rest : all_may_stand false es ≡ true = and_right (may_stand false e.actor e.event e.outcome) (all_may_stand false es) stands in
      let below : AreEventsOf names es = work_known es (past_legal o e es legal) rest (λ k. of_rest names (is_window k e.actor) e.event (events_of k es) (own k)) in
      (beside_known e es below (row_holds o e es legal) e.actor e.event refl refl first own, below)

-- the Closer's end of a history that is legal is behind a legal one
legal_behind : (o : Opening) (end before : List Entry) → is_legal o (end ++ before) ≡ true → is_legal o before ≡ true
legal_behind o [] before legal = legal
legal_behind o (e ∷ end) before legal = legal_behind o end before (past_legal o e (end ++ before) legal)

run_whole : (guarded : Bool) (declared : List (List ℕ)) (steps : List Step) (life : Life) → All (IsStepOf declared) steps → is_legal (opening (course_of life)) (course_of life).entries ≡ true → HasRun guarded declared steps life → IsWhole life
run_whole guarded declared steps life all legal run =
    let o : Opening = opening (course_of life) in
    let le : length declared ≤ length life.names = subst (λ (names : List (List ℕ)). length declared ≤ length names) (sym run.named) (names_stay declared life.base) in
    let named : All (IsNamed (length life.names)) (scripts_of steps) = named_still (length declared) (length life.names) (scripts_of steps) le (all_scripts_named declared steps all) in
    let end : List Entry = run.interleaves.end in
    let work : List Entry = run.interleaves.work in
    let legal_all : is_legal o (end ++ work) ≡ true = subst (λ (es : List Entry). is_legal o es ≡ true) run.interleaves.whole legal in
    let own : (k : ℕ) → AreOf life.names (events_of k work) = λ k. subst (AreOf life.names) (sym (run.interleaves.is_work.windows k)) (of_script life.names (scripts_of steps) k named) in
    let work_of : AreEventsOf life.names work = work_known life.names o (as_many life) work (legal_behind o end work legal_all) run.interleaves.is_work.others own in
    let events : AreEventsOf life.names (course_of life).entries = subst (AreEventsOf life.names) (sym run.interleaves.whole) (end_known life.names o (as_many life) end work work_of legal_all run.interleaves.ends) in
    let whole : AreEntriesOf life.names (reverse life.history) = entries_known life.names o (as_many life) (reverse life.history) events legal in
    subst (AreEntriesOf life.names) (reverse-reverse life.history) (entries_reverse life.names (reverse life.history) whole)

pub runs_whole : (picked : ℕ → FileState → List ℕ) (tells : Bool) (past : Past) (first b : ℕ) (guarded : Bool) (declared : List (List ℕ)) (steps : List Step) (lives : List Life) → All (IsStepOf declared) steps → AreLived picked tells past first b lives → HaveRun guarded declared steps lives → AreWhole (reverse lives)
runs_whole picked tells past first b guarded declared steps [] all lived run = absurd run
runs_whole picked tells past first b guarded declared steps (life ∷ []) all lived run = (run_whole guarded declared steps life all lived.0.holds.legal run, tt)
runs_whole picked tells past first b guarded declared steps (life ∷ next ∷ lives) all lived run = absurd run
