-- The end of a life: all is settled, and the question whether the program may end is the last entry.
use Rattle.std.specs.Prelude.{◌≡◌, ◌-◌, ℕ, suc, not, Bool, true, false, ◌&&◌, ◌||◌, List, [], ◌∷◌, ◌++◌, length, if◌then◌else◌, Option, Some, None, is_some, is_none, slice_get, Result, Ok, Err, IfOk, OnOk, OnErr, refl}
use Rattle.std.proofs.Common.{ap, sym, ◌∙◌, subst, arith}
use Rattle.std.proofs.lemmas.List.{reverse-append}
use Rattle.hx_events.specs.declared.event.Actor.TheVariants.{Closer}
use Rattle.hx_events.specs.declared.event.Event.{Event}
use Rattle.hx_events.specs.declared.event.Event.TheVariants.{Act, Vault, Flush, Quit}
use Rattle.hx_events.specs.declared.life.Entry.{Entry}
use Rattle.hx_events.specs.declared.outcome.Outcome.{Outcome}
use Rattle.hx_rules.specs.Due.{due_save, due_vault}
use Rattle.hx_rules.specs.Entries.{Deed, own, past, is_of}
use Rattle.hx_rules.specs.Interleavings.{is_closer, is_idle, is_closing_stage, are_closing, is_quit, ends_in_quit}
use Rattle.hx_rules.specs.Legal.{Opening, restored_at, is_quiet, lowest}
use Rattle.hx_rules_laws.specs.Frames.{leaves_others}
use Rattle.hx_lives.specs.Course.{Course, opening, with_entry}
use Rattle.hx_lives.specs.Calls.{AddsEntry, AddsStages, Settles, Quits, last_outcome, with_entries}
use Rattle.hx_lives.specs.Quiet.{is_quiet_before_quit}
use Rattle.hx_closing_laws.specs.Order.{all_four, both}

-- what the last entry answered, if it is the question whether the program may end
abbrev pub quit_answer : List Entry → Option Outcome
quit_answer [] = None
quit_answer (e ∷ es) = if is_quit e.event then Some e.outcome else None

-- ---- the last entry of a history that is kept with the oldest one first
newest_more : (x : Entry) (history es : List Entry) (e : Entry) → past history ≡ e ∷ es → past (x ∷ history) ≡ e ∷ (es ++ x ∷ [])
newest_more x history es e is = reverse-append (x ∷ []) history ∙ ap (λ (all : List Entry). all ++ x ∷ []) is

newest_is : (history : List Entry) (e : Entry) → Some e ≡ slice_get history (length history - 1) → (es : List Entry) × (past history ≡ e ∷ es)
newest_is [] e at = absurd cc
newest_is (x ∷ []) e at = let is : e ≡ x = cc in ([], ap (λ (y : Entry). y ∷ []) (sym is))
newest_is (x ∷ y ∷ rest) e at =
    let place : length (x ∷ y ∷ rest) - 1 ≡ suc (length (y ∷ rest) - 1) = omega arith in
    behind (newest_is (y ∷ rest) e (at ∙ ap (slice_get (x ∷ y ∷ rest)) place))
  where
    behind : (es : List Entry) × (past (y ∷ rest) ≡ e ∷ es) → (es : List Entry) × (past (x ∷ y ∷ rest) ≡ e ∷ es)
    behind so_far = (so_far.0 ++ x ∷ [], newest_more x (y ∷ rest) so_far.0 e so_far.1)

pub answer_of_last : (history : List Entry) (e : Entry) → Some e ≡ slice_get history (length history - 1) → quit_answer (past history) ≡ (if is_quit e.event then Some e.outcome else None)
answer_of_last history e at = ap quit_answer (newest_is history e at).1

pub answer_of_none : (history : List Entry) → length history ≡ 0 → quit_answer (past history) ≡ None
answer_of_none [] none = refl
answer_of_none (e ∷ es) none = absurd (omega (arith, none))

is_asked : (es : List Entry) (outcome : Outcome) → quit_answer es ≡ Some outcome → (ends_in_quit es ≡ true) × (last_outcome es ≡ Some outcome)
is_asked [] outcome is = absurd cc
is_asked (e ∷ es) outcome is = go (is_quit e.event) is
  where
    go : (q : Bool) → (if q then Some e.outcome else None) ≡ Some outcome → (q ≡ true) × (Some e.outcome ≡ Some outcome)
    go true is = (refl, is)
    go false is = absurd cc

not_asked : (es : List Entry) → quit_answer es ≡ None → ends_in_quit es ≡ false
not_asked [] is = refl
not_asked (e ∷ es) is = go (is_quit e.event) is
  where
    go : (q : Bool) → (if q then Some e.outcome else None) ≡ None → q ≡ false
    go true is = absurd cc
    go false is = refl

-- ---- the question is of no resource, so the same is due before it and after it
quit_of_none : (e : Entry) (es : List Entry) → is_quit e.event ≡ true → (k : ℕ) → own k (e ∷ es) ≡ own k es
quit_of_none e es quit k = leaves_others k e es (none e.event quit)
  where
    none : (event : Event) → is_quit event ≡ true → is_of k event ≡ false
    none Quit is = refl
    none (Act command) is = absurd cc
    none (Vault c) is = absurd cc
    none (Flush c) is = absurd cc

quiet_before : (o : Opening) (e : Entry) (es : List Entry) → is_quit e.event ≡ true → is_quiet o (e ∷ es) ≡ true → is_quiet o es ≡ true
quiet_before o e es quit quiet =
    subst (λ (now : ℕ → List Deed). is_none (lowest o (λ c. is_some (due_vault (restored_at o c) o.guarded (now c)) || is_some (due_save (restored_at o c) o.guarded (now c)))) ≡ true)
    (λ i k. quit_of_none e es quit k i) quiet

quiet_at_quit : (o : Opening) (es : List Entry) → ends_in_quit es ≡ true → is_quiet o es ≡ true → is_quiet_before_quit o es ≡ true
quiet_at_quit o [] is quiet = absurd cc
quiet_at_quit o (e ∷ es) is quiet = both (is_quit e.event) (is_quiet o es) is (quiet_before o e es is quiet)

-- a stage is no question
third : (a b c d : Bool) → (a && b && c && d) ≡ true → c ≡ true
third true true true d h = refl
third true true false d h = absurd cc
third true false c d h = absurd cc
third false b c d h = absurd cc

no_stage : (o : Opening) (event : Event) (stages before : List Entry) → is_quit event ≡ true → is_closing_stage o event stages before ≡ true → ⊥
no_stage o Quit stages before is stage = absurd cc
no_stage o (Act command) stages before is stage = absurd cc
no_stage o (Vault c) stages before is stage = absurd cc
no_stage o (Flush c) stages before is stage = absurd cc

-- ---- a life that is settled ends
quits_before : (old new : Course) → Settles old new → ends_in_quit new.entries ≡ true → Quits old new
quits_before old new settles quit = go settles.stages settles.grown settles.close
  where
    go : (stages : List Entry) → new ≡ with_entries old stages → are_closing (opening old) stages old.entries ≡ true → Quits old new
    go [] grown close = record {
      end = [];
      grown = grown;
      ends = subst (λ (n : Course). ends_in_quit n.entries ≡ true) grown quit;
      quiet = quiet_at_quit (opening old) new.entries quit settles.quiet;
    }
    go (e ∷ stages) grown close = absurd (no_stage (opening old) e.event stages old.entries (subst (λ (n : Course). ends_in_quit n.entries ≡ true) grown quit)
        (third (is_closer e.actor) (not (is_idle e.outcome)) (is_closing_stage (opening old) e.event stages old.entries) (are_closing (opening old) stages old.entries) close))

-- The question was the last entry already.
pub quits_as_asked : (old new : Course) (said : Option Outcome) (outcome : Outcome) → Settles old new → said ≡ quit_answer new.entries → said ≡ Some outcome → Quits old new
quits_as_asked old new said outcome settles says is = quits_before old new settles (is_asked new.entries outcome (sym says ∙ is)).0

pub answers_as_asked : (es : List Entry) (outcome : Outcome) → quit_answer es ≡ Some outcome → last_outcome es ≡ Some outcome
answers_as_asked es outcome is = (is_asked es outcome is).1

quits_now : (old mid new : Course) (outcome : Outcome) → Settles old mid → quit_answer mid.entries ≡ None → AddsEntry Closer Quit outcome mid new → Quits old new
quits_now old mid new outcome settles other adds = record {
  end = adds.entry ∷ settles.stages;
  grown = adds.grown ∙ ap (λ (m : Course). with_entry m adds.entry) settles.grown;
  ends = all_four (is_closer adds.entry.actor) (is_quit adds.entry.event) (not (ends_in_quit (settles.stages ++ old.entries))) (are_closing (opening old) settles.stages old.entries)
      (ap is_closer adds.by_actor) (ap is_quit adds.of_event)
      (ap not (subst (λ (m : Course). ends_in_quit m.entries ≡ false) settles.grown (not_asked mid.entries other)))
      settles.close;
  quiet = subst (λ (n : Course). is_quiet_before_quit (opening old) n.entries ≡ true) (sym adds.grown)
      (both (is_quit adds.entry.event) (is_quiet (opening old) mid.entries) (ap is_quit adds.of_event) settles.quiet);
}

-- The question is asked, unless memory runs out.
pub quits_if_asked : {E : Type 0} (r : Result Outcome E) (old mid new : Course) → Settles old mid → quit_answer mid.entries ≡ None → IfOk r (λ outcome. AddsEntry Closer Quit outcome mid new) → OnOk r (Quits old new)
quits_if_asked (Ok outcome) old mid new settles other adds = quits_now old mid new outcome settles other adds
quits_if_asked (Err e) old mid new settles other adds = tt

pub answers_if_asked : {E : Type 0} (r : Result Outcome E) (mid new : Course) → IfOk r (λ outcome. AddsEntry Closer Quit outcome mid new) → IfOk r (λ outcome. last_outcome new.entries ≡ Some outcome)
answers_if_asked (Ok outcome) mid new adds = ap (λ (n : Course). last_outcome n.entries) adds.grown ∙ ap (λ (x : Outcome). Some x) adds.came_to
answers_if_asked (Err e) mid new adds = tt

pub stages_stand : {E : Type 0} (r : Result Outcome E) (old mid new : Course) → Settles old mid → OnErr r (new ≡ mid) → OnErr r (AddsStages old new)
stages_stand (Ok outcome) old mid new settles same = tt
stages_stand (Err e) old mid new settles same = record { stages = settles.stages; grown = same ∙ settles.grown; close = settles.close }
