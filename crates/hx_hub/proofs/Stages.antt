-- Stages that are due: of which resources they are, and what they come to.
use Rattle.std.proofs.Common.{◌≡◌, ℕ, zero, suc, ◌+◌, ◌<◌, Bool, true, false, cond, List, length, Option, Some, None, is_some, refl, ap, sym, ◌∙◌, arith}
use Rattle.std.proofs.lemmas.List.{length-map, length-reverse, reverse-reverse}
use Rattle.hx_etag.specs.declared.stat.Stat.{Stat}
use mathlib.Core.List.{IsPrefix}
use Rattle.hx_events.specs.declared.event.Actor.{Actor}
use Rattle.hx_events.specs.declared.event.Event.{Event}
use Rattle.hx_events.specs.declared.life.Entry.{Entry}
use Rattle.hx_events.specs.declared.outcome.Outcome.{Outcome}
use Rattle.hx_events.specs.declared.outcome.Outcome.TheVariants.{Idle}
use Rattle.hx_lives.specs.Calls.{AddsEntry}
use Rattle.hx_lives.specs.Course.{Course, opening, opening_at, start_of, with_entry}
use Rattle.hx_passes.specs.declared.rule.Kind.{Kind}
use Rattle.hx_passes.specs.declared.rule.Kind.TheVariants.{Vault, Save}
use Rattle.hx_passes.specs.declared.rule.Known.{Known}
use Rattle.hx_passes.specs.Views.{with_call}
use Rattle.hx_rules.specs.Copies.{kept}
use Rattle.hx_rules.specs.Due.{VaultWork, SaveWork}
use Rattle.hx_rules.specs.Entries.{own, past}
use Rattle.hx_rules.specs.Interleavings.{is_idle}
use Rattle.hx_rules.specs.Legal.{Opening, is_row, lowest_from, vault_due, save_due, vault_row, flush_row, was_spent, is_over, run_at, restored_at, found_backup}
use Rattle.hx_hub.specs.Calls.{Makes, DoesStage}
use Rattle.hx_hub.specs.Shared.{lowest_due, stage_on}

some_is : {A : Type 0} (x y : A) → Some x ≡ Some y → x ≡ y
some_is x y h = cc

-- the lowest number that passes a test passes it
lowest_passes : (test : ℕ → Bool) (i n c : ℕ) → lowest_from test i n ≡ Some c → test c ≡ true
lowest_passes test i zero c is = absurd cc
lowest_passes test i (suc n) c is = go (test i) refl (λ later. lowest_passes test (i + 1) n c later)
  where
    go : (b : Bool) → test i ≡ b → (lowest_from test (i + 1) n ≡ Some c → test c ≡ true) → test c ≡ true
    go true here rest = let same : i ≡ c = some_is i c (sym (ap (λ b. cond b (Some i) (lowest_from test (i + 1) n)) here) ∙ is) in ap test (sym same) ∙ here
    go false here rest = rest (sym (ap (λ b. cond b (Some i) (lowest_from test (i + 1) n)) here) ∙ is)

-- and is among those that are tried
lowest_within : (test : ℕ → Bool) (i n c : ℕ) → lowest_from test i n ≡ Some c → c < i + n
lowest_within test i zero c is = absurd cc
lowest_within test i (suc n) c is = go (test i) refl (λ later. lowest_within test (i + 1) n c later)
  where
    go : (b : Bool) → test i ≡ b → (lowest_from test (i + 1) n ≡ Some c → c < i + 1 + n) → c < i + suc n
    go true here rest = let same : i ≡ c = some_is i c (sym (ap (λ b. cond b (Some i) (lowest_from test (i + 1) n)) here) ∙ is) in omega (arith, same)
    go false here rest = let below = rest (sym (ap (λ b. cond b (Some i) (lowest_from test (i + 1) n)) here) ∙ is) in omega (arith, below)

vault_busy : (spent : Bool) (due : Option VaultWork) (out : Outcome) → vault_row spent due out ≡ true → is_some due ≡ true → is_idle out ≡ false
vault_busy spent None Idle row some = absurd cc
vault_busy spent (Some w) Idle row some = absurd cc
vault_busy spent due _ row some = refl

save_busy : (due : Option SaveWork) (over : Bool) (base : Option Stat) (out : Outcome) → flush_row due over base out ≡ true → is_some due ≡ true → is_idle out ≡ false
save_busy None over base Idle row some = absurd cc
save_busy (Some w) over base Idle row some = absurd cc
save_busy due over base _ row some = refl

-- A stage of a resource for which one is due isn't idle.
pub due_is_busy : (kind : Kind) (o : Opening) (es : List Entry) (c : ℕ) (out : Outcome) → lowest_due kind o es ≡ Some c → is_row o es (stage_on kind c) out ≡ true → is_idle out ≡ false
due_is_busy Vault o es c out due row = vault_busy (was_spent es) (vault_due o es c) out row (lowest_passes (λ c. is_some (vault_due o es c)) 0 (length o.restored) c due)
due_is_busy Save o es c out due row = save_busy (save_due o es c) (is_over (run_at o es c)) (kept (restored_at o c) (own c es)) out row (lowest_passes (λ c. is_some (save_due o es c)) 0 (length o.restored) c due)

-- A resource for which a stage is due is one of the life's.
pub due_is_known : (kind : Kind) (course : Course) (c : ℕ) → lowest_due kind (opening course) course.entries ≡ Some c → c < length course.names
due_is_known kind course c due = go kind due
  where
    number : length (opening course).restored ≡ length course.names
    number = length-map course.names (λ name. found_backup name course.base)

    go : (kind : Kind) → lowest_due kind (opening course) course.entries ≡ Some c → c < length course.names
    go Vault due = let below = lowest_within (λ c. is_some (vault_due (opening course) course.entries c)) 0 (length (opening course).restored) c due in omega (arith, below, number)
    go Save due = let below = lowest_within (λ c. is_some (save_due (opening course) course.entries c)) 0 (length (opening course).restored) c due in omega (arith, below, number)

-- lives that were opened alike have the same rules
pub opening_same : (a b : Course) → start_of a ≡ start_of b → opening a ≡ opening b
opening_same a b same = ap opening_at same

-- a history that is read from its other end twice is itself
pub other_end : (h es : List Entry) → es ≡ past h → past es ≡ h
other_end h es is = ap past is ∙ reverse-reverse h

-- a history that has got longer by an entry was below the same bound
pub was_below : (n : ℕ) (old new : Course) (e : Entry) (h : List Entry) → new ≡ with_entry old e → old.entries ≡ past h → length new.entries < n → length h < n
was_below n old new e h grown is below =
    let longer : length new.entries ≡ suc (length old.entries) = ap (λ (c : Course). length c.entries) grown in
    let same : length old.entries ≡ length h = ap length is ∙ length-reverse h in
    omega (arith, longer, same, below)

-- What the clerk's pass has done is the entry that the registry has just made.
pub makes_entry : (life old new : Course) (actor : Actor) (event : Event) (outcome : Outcome) (h : List Entry) (e : Entry) (place : ℕ) (p q : Known)
    → (adds : AddsEntry actor event outcome old new) → old.entries ≡ past h → start_of old ≡ start_of life → actor ≡ p.actor → e ≡ adds.entry
    → place ≡ suc (length h) → IsPrefix p.seen h → q ≡ with_call e h p → Makes (opening life) event place outcome p q
makes_entry life old new actor event outcome h e place p q adds is start by newest at seen made = record {
  before = h;
  entry = e;
  by_actor = ap (λ (x : Entry). x.actor) newest ∙ adds.by_actor ∙ by;
  of_event = ap (λ (x : Entry). x.event) newest ∙ adds.of_event;
  came_to = ap (λ (x : Entry). x.outcome) newest ∙ adds.came_to;
  row = sym (ap (λ (o : Opening). is_row o (past h) event outcome) (opening_same old life start)) ∙ (sym (ap (λ (es : List Entry). is_row (opening old) es event outcome) is) ∙ adds.row);
  seen = seen;
  at = at;
  made = made;
}

pub does_stage : (kind : Kind) (res : ℕ) (life old new : Course) (actor : Actor) (outcome : Outcome) (h : List Entry) (e : Entry) (place : ℕ) (p q : Known)
    → (adds : AddsEntry actor (stage_on kind res) outcome old new) → old.entries ≡ past h → start_of old ≡ start_of life → actor ≡ p.actor → e ≡ adds.entry
    → place ≡ suc (length h) → IsPrefix p.seen h → q ≡ with_call e h p → lowest_due kind (opening old) old.entries ≡ Some res → DoesStage (opening life) kind place outcome p q
unfolding makes_entry
does_stage kind res life old new actor outcome h e place p q adds is start by newest at seen made due = record {
  res = res;
  makes = makes_entry life old new actor (stage_on kind res) outcome h e place p q adds is start by newest at seen made;
  lowest = sym (ap (λ (o : Opening). lowest_due kind o (past h)) (opening_same old life start)) ∙ (sym (ap (lowest_due kind (opening old)) is) ∙ due);
  busy = due_is_busy kind (opening old) old.entries res outcome due adds.row;
}
