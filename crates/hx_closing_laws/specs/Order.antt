-- The Closer's stages of one resource after another.
use Rattle.std.specs.Prelude.{◌≡◌, ◌≢◌, ◌≤◌, ℕ, ◌==◌, nat_le, not, Bool, true, false, ◌&&◌, List, ◌∷◌, ◌++◌, Option, Some, None, is_some, is_none, refl}
use Rattle.std.proofs.Common.{ap, sym, ◌∙◌, subst, arith, ⊎_elim}
use Rattle.std.proofs.lemmas.Bool.Decides.{nat_tests, eqb_tells}
use Rattle.hx_events.specs.declared.event.Actor.TheVariants.{Closer}
use Rattle.hx_events.specs.declared.event.Event.{Event}
use Rattle.hx_events.specs.declared.event.Event.TheVariants.{Act, Vault, Flush, Quit}
use Rattle.hx_events.specs.declared.outcome.Outcome.{Outcome}
use Rattle.hx_events.specs.declared.outcome.Outcome.TheVariants.{Idle}
use Rattle.hx_events.specs.declared.life.Entry.{Entry}
use Rattle.hx_rules.specs.Entries.{own, is_of}
use Rattle.hx_rules.specs.Interleavings.{is_closer, is_idle, is_closing_stage, are_closing, stage_resource}
use Rattle.hx_rules.specs.Legal.{Opening, save_due, vault_due, is_row}
use Rattle.hx_rules_laws.specs.Frames.{leaves_others}
use Rattle.hx_lives.specs.Course.{Course, opening, with_entry}
use Rattle.hx_lives.specs.Calls.{AddsEntry}

-- Behind the entries `before` the Closer has done stages of resources up to c.
pub record HasClosed (o : Opening) (before : List Entry) (c : ℕ) (es : List Entry) : Type 0 where
  pub stages : List Entry
  pub whole : es ≡ stages ++ before
  pub close : are_closing o stages before ≡ true
  pub up_to : stage_resource stages ≤ c

-- the entries are more, and nothing else of the life has changed
abbrev pub IsSameLife : Course → Course → Type 0
IsSameLife old new = new ≡ record { names = old.names; base = old.base; guarded = old.guarded; moment = old.moment; faults = old.faults; entries = new.entries }

-- nothing was done to other resources
abbrev pub IsOnlyOf : ℕ → List Entry → List Entry → Type 0
IsOnlyOf c old new = (k : ℕ) → k ≢ c → own k new ≡ own k old

-- The life has more stages of c: the Closer's, in their order, whatever stages of earlier resources they follow.
pub record ClosesOne (c : ℕ) (old new : Course) : Type 0 where
  pub same : IsSameLife old new
  pub closes : (before : List Entry) → HasClosed (opening old) before c old.entries → HasClosed (opening old) before c new.entries
  pub only : IsOnlyOf c old.entries new.entries

-- ---- one stage more
pub all_four : (a b c d : Bool) → a ≡ true → b ≡ true → c ≡ true → d ≡ true → (a && b && c && d) ≡ true
all_four a b c d p q r s = ap (λ x. x && b && c && d) p ∙ ap (λ x. true && x && c && d) q ∙ ap (λ x. true && true && x && d) r ∙ s

pub both : (a b : Bool) → a ≡ true → b ≡ true → (a && b) ≡ true
both a b p q = ap (λ x. x && b) p ∙ q

is_up_to : (n c : ℕ) → n ≤ c → nat_le n c ≡ true
is_up_to n c le = grind (arith, nat_tests)

-- where something is due an outcome isn't Idle
due_not_idle : {A : Type 0} (due : Option A) (x : Outcome) → is_some due ≡ true → (x ≡ Idle → is_none due ≡ true) → not (is_idle x) ≡ true
due_not_idle None x is idle = absurd cc
due_not_idle (Some w) Idle is idle = absurd (let odd : false ≡ true = idle refl in cc)
due_not_idle (Some w) _ is idle = refl

stage_closes : (o : Opening) (before : List Entry) (c : ℕ) (es : List Entry) (e : Entry) (event : Event) → HasClosed o before c es → e.actor ≡ Closer → e.event ≡ event → not (is_idle e.outcome) ≡ true
    → ((stages : List Entry) → es ≡ stages ++ before → stage_resource stages ≤ c → is_closing_stage o event stages before ≡ true) → elim event [ Act command ↦ 0 | Vault k ↦ k | Flush k ↦ k | Quit ↦ 0 ] ≤ c
    → HasClosed o before c (e ∷ es)
stage_closes o before c es e event so_far actor is busy may here = record {
  stages = e ∷ so_far.stages;
  whole = ap (λ (l : List Entry). e ∷ l) so_far.whole;
  close = all_four (is_closer e.actor) (not (is_idle e.outcome)) (is_closing_stage o e.event so_far.stages before) (are_closing o so_far.stages before)
      (ap is_closer actor) busy (ap (λ (x : Event). is_closing_stage o x so_far.stages before) is ∙ may so_far.stages so_far.whole so_far.up_to) so_far.close;
  up_to = subst (λ (x : Event). elim x [ Act command ↦ 0 | Vault k ↦ k | Flush k ↦ k | Quit ↦ 0 ] ≤ c) (sym is) here;
}

save_closes : (o : Opening) (before : List Entry) (c : ℕ) (es : List Entry) (e : Entry) → HasClosed o before c es → e.actor ≡ Closer → e.event ≡ Flush c → is_row o es (Flush c) e.outcome ≡ true → is_some (save_due o es c) ≡ true → HasClosed o before c (e ∷ es)
save_closes o before c es e so_far actor is row due =
    stage_closes o before c es e (Flush c) so_far actor is (due_not_idle (save_due o es c) e.outcome due (λ idle. subst (λ (x : Outcome). is_row o es (Flush c) x ≡ true) idle row))
    (λ stages whole up_to. is_up_to (stage_resource stages) c up_to) (omega arith)

vault_closes : (o : Opening) (before : List Entry) (c : ℕ) (es : List Entry) (e : Entry) → HasClosed o before c es → e.actor ≡ Closer → e.event ≡ Vault c → is_row o es (Vault c) e.outcome ≡ true → save_due o es c ≡ None → is_some (vault_due o es c) ≡ true → HasClosed o before c (e ∷ es)
vault_closes o before c es e so_far actor is row saved due =
    stage_closes o before c es e (Vault c) so_far actor is (due_not_idle (vault_due o es c) e.outcome due (λ idle. subst (λ (x : Outcome). is_row o es (Vault c) x ≡ true) idle row))
    (λ stages whole up_to. both (nat_le (stage_resource stages) c) (is_none (save_due o (stages ++ before) c)) (is_up_to (stage_resource stages) c up_to)
    (ap (λ (l : List Entry). is_none (save_due o l c)) (sym whole) ∙ ap is_none saved)) (omega arith)

other_number : (c k : ℕ) → k ≢ c → (c == k) ≡ false
other_number c k apart = ⊎_elim (λ same. absurd (apart (sym same.1))) (λ other. other.0) (eqb_tells c k)

only_flush : (c : ℕ) (es : List Entry) (e : Entry) → e.event ≡ Flush c → IsOnlyOf c es (e ∷ es)
only_flush c es e is k apart = leaves_others k e es (ap (is_of k) is ∙ other_number c k apart)

only_vault : (c : ℕ) (es : List Entry) (e : Entry) → e.event ≡ Vault c → IsOnlyOf c es (e ∷ es)
only_vault c es e is k apart = leaves_others k e es (ap (is_of k) is ∙ other_number c k apart)

-- ---- the stages of one resource
pub closes_none : (c : ℕ) (old : Course) → ClosesOne c old old
closes_none c old = record { same = refl; closes = λ before so_far. so_far; only = λ k apart. refl }

one_entry : (old mid new : Course) (e : Entry) → IsSameLife old mid → new ≡ with_entry mid e → IsSameLife old new
one_entry old mid new e same grown =
    grown ∙ ap (λ (m : Course). with_entry m e) same ∙ ap (λ (n : Course). record { names = old.names; base = old.base; guarded = old.guarded; moment = old.moment; faults = old.faults; entries = n.entries }) (sym grown)

one_more : (c : ℕ) (old mid new : Course) (e : Entry) → ClosesOne c old mid → new ≡ with_entry mid e → IsOnlyOf c mid.entries (e ∷ mid.entries)
    → ((before : List Entry) → HasClosed (opening mid) before c mid.entries → HasClosed (opening mid) before c (e ∷ mid.entries)) → ClosesOne c old new
one_more c old mid new e so_far grown only closes = record {
  same = one_entry old mid new e so_far.same grown;
  closes = λ before has.
      let there : HasClosed (opening mid) before c mid.entries = subst (λ (o : Opening). HasClosed o before c mid.entries) (sym (ap opening so_far.same)) (so_far.closes before has) in
      subst (λ (n : Course). HasClosed (opening old) before c n.entries) (sym grown) (subst (λ (o : Opening). HasClosed o before c (e ∷ mid.entries)) (ap opening so_far.same) (closes before there));
  only = λ k apart. ap (λ (n : Course). own k n.entries) grown ∙ only k apart ∙ so_far.only k apart;
}

row_of : (o : Opening) (es : List Entry) (event : Event) (e : Entry) (outcome : Outcome) → e.outcome ≡ outcome → is_row o es event outcome ≡ true → is_row o es event e.outcome ≡ true
row_of o es event e outcome is row = subst (λ (x : Outcome). is_row o es event x ≡ true) (sym is) row

pub closes_save : (c : ℕ) (old mid new : Course) (outcome : Outcome) → ClosesOne c old mid → AddsEntry Closer (Flush c) outcome mid new → is_some (save_due (opening mid) mid.entries c) ≡ true → ClosesOne c old new
closes_save c old mid new outcome so_far adds due =
    one_more c old mid new adds.entry so_far adds.grown (only_flush c mid.entries adds.entry adds.of_event)
    (λ before has. save_closes (opening mid) before c mid.entries adds.entry has adds.by_actor adds.of_event (row_of (opening mid) mid.entries (Flush c) adds.entry outcome adds.came_to adds.row) due)

pub closes_vault : (c : ℕ) (old mid new : Course) (outcome : Outcome) → ClosesOne c old mid → AddsEntry Closer (Vault c) outcome mid new → save_due (opening mid) mid.entries c ≡ None → is_some (vault_due (opening mid) mid.entries c) ≡ true → ClosesOne c old new
closes_vault c old mid new outcome so_far adds saved due =
    one_more c old mid new adds.entry so_far adds.grown (only_vault c mid.entries adds.entry adds.of_event)
    (λ before has. vault_closes (opening mid) before c mid.entries adds.entry has adds.by_actor adds.of_event (row_of (opening mid) mid.entries (Vault c) adds.entry outcome adds.came_to adds.row) saved due)
