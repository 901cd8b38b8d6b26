-- What a legal entry says of the work that was due before it.
use Rattle.std.specs.Prelude.{◌≡◌, ℕ, ◌==◌, not, Bool, true, false, ◌&&◌, ◌||◌, nat_lt, List, ◌∷◌, if◌then◌else◌, Option, Some, None, is_some, refl}
use Rattle.std.proofs.Common.{subst}
use Rattle.hx_events.specs.declared.backup.Backup.{Backup}
use Rattle.hx_events.specs.declared.event.Command.TheVariants.{Open as OpenCommand}
use Rattle.hx_events.specs.declared.event.Event.{Event}
use Rattle.hx_events.specs.declared.event.Event.TheVariants.{Act, Vault}
use Rattle.hx_events.specs.declared.event.Stage.{Stage}
use Rattle.hx_events.specs.declared.event.Stage.TheVariants.{Prepare, Body, Open, Fade, Drop}
use Rattle.hx_events.specs.declared.life.Entry.{Entry}
use Rattle.hx_events.specs.declared.outcome.Outcome.TheVariants.{StageOk, StageFault, Spent}
use Rattle.hx_rules.specs.Entries.{Deed, is_of}
use Rattle.hx_rules.specs.Versions.{last_version}
use Rattle.hx_rules.specs.Copies.{dirty}
use Rattle.hx_rules.specs.Backups.{Begun, begun, halted, held, wanted, backed, opened, faded, safe, blocks_of}
use Rattle.hx_rules.specs.Due.{VaultWork, vault_work, first_of, work_if, next_work, due_vault, running_version, may_discard}
use Rattle.hx_rules.specs.Legal.{Opening, is_row, is_legal, is_work, is_prepare, same_stage, may_run, was_spent, vault_due}
use Rattle.hx_rules_laws.specs.Frames.{same_number}

-- both hold
pub and_left : (a b : Bool) → (a && b) ≡ true → a ≡ true
and_left true b h = refl
and_left false b h = h

pub and_right : (a b : Bool) → (a && b) ≡ true → b ≡ true
and_right true b h = h
and_right false b h = absurd cc

pub not_true : (b : Bool) → not b ≡ true → b ≡ false
not_true true h = absurd cc
not_true false h = refl

-- the entries before a legal one are legal, and its own row holds
pub row_holds : (o : Opening) (e : Entry) (es : List Entry) → is_legal o (e ∷ es) ≡ true → is_row o es e.event e.outcome ≡ true
row_holds o e es h = and_left (is_row o es e.event e.outcome) (is_legal o es) h

pub past_legal : (o : Opening) (e : Entry) (es : List Entry) → is_legal o (e ∷ es) ≡ true → is_legal o es ≡ true
past_legal o e es h = and_right (is_row o es e.event e.outcome) (is_legal o es) h

-- only a vault stage of the resource has such an outcome
ok_row : (o : Opening) (es : List Entry) (event : Event) (s : Stage) (v c : ℕ) → is_of c event ≡ true → is_row o es event (StageOk s v) ≡ true → (is_work (vault_due o es c) s v && may_run (was_spent es) s) ≡ true
ok_row o es (Vault k) s v c is h = subst (λ (n : ℕ). (is_work (vault_due o es n) s v && may_run (was_spent es) s) ≡ true) (same_number k c is) h
ok_row o es (Act (OpenCommand k)) s v c is h = absurd cc
ok_row o es _ s v c is h = absurd cc

fault_row : (o : Opening) (es : List Entry) (event : Event) (s : Stage) (v c : ℕ) → is_of c event ≡ true → is_row o es event (StageFault s v) ≡ true → (is_work (vault_due o es c) s v && may_run (was_spent es) s) ≡ true
fault_row o es (Vault k) s v c is h = subst (λ (n : ℕ). (is_work (vault_due o es n) s v && may_run (was_spent es) s) ≡ true) (same_number k c is) h
fault_row o es (Act (OpenCommand k)) s v c is h = absurd cc
fault_row o es _ s v c is h = absurd cc

spent_row : (o : Opening) (es : List Entry) (event : Event) (c : ℕ) → is_of c event ≡ true → is_row o es event Spent ≡ true → is_prepare (vault_due o es c) ≡ true
spent_row o es (Vault k) c is h = subst (λ (n : ℕ). is_prepare (vault_due o es n) ≡ true) (same_number k c is) h
spent_row o es (Act (OpenCommand k)) c is h = absurd cc
spent_row o es _ c is h = absurd cc

-- the stage that was answered was due
pub ok_was_due : (o : Opening) (es : List Entry) (event : Event) (s : Stage) (v c : ℕ) → is_of c event ≡ true → is_row o es event (StageOk s v) ≡ true → is_work (vault_due o es c) s v ≡ true
ok_was_due o es event s v c is h = and_left (is_work (vault_due o es c) s v) (may_run (was_spent es) s) (ok_row o es event s v c is h)

pub fault_was_due : (o : Opening) (es : List Entry) (event : Event) (s : Stage) (v c : ℕ) → is_of c event ≡ true → is_row o es event (StageFault s v) ≡ true → is_work (vault_due o es c) s v ≡ true
fault_was_due o es event s v c is h = and_left (is_work (vault_due o es c) s v) (may_run (was_spent es) s) (fault_row o es event s v c is h)

pub spent_was_due : (o : Opening) (es : List Entry) (event : Event) (c : ℕ) → is_of c event ≡ true → is_row o es event Spent ≡ true → is_prepare (vault_due o es c) ≡ true
spent_was_due = spent_row

-- the work that is due, of the values that decide it
abbrev pub due_of : Bool → Option Begun → Bool → Bool → Bool → Bool → ℕ → ℕ → Option VaultWork
due_of halt b p q r f run last =
    if halt then None else
    first_of (next_work b)
    (first_of (work_if p (vault_work Prepare run))
    (first_of (work_if q (vault_work Prepare last))
    (work_if r (vault_work (if f then Drop else Fade) 0))))

begun_stage : (b : Bool) (version v : ℕ) (s : Stage) → (same_stage (if b then Body else Open) s && version == v) ≡ true → same_stage (if b then Body else Open) s ≡ true
begun_stage b version v s h = and_left (same_stage (if b then Body else Open) s) (version == v) h

no_drop : (b : Bool) → same_stage (if b then Body else Open) Drop ≡ true → ⊥
no_drop true h = absurd cc
no_drop false h = absurd cc

no_prepare : (b : Bool) → same_stage (if b then Body else Open) Prepare ≡ true → ⊥
no_prepare true h = absurd cc
no_prepare false h = absurd cc

-- a Drop is due only where nothing is begun, a discard is in order, and a Fade was completed
pub drop_facts : (halt : Bool) (b : Option Begun) (p q r f : Bool) (run last v : ℕ) → is_work (due_of halt b p q r f run last) Drop v ≡ true → (r ≡ true) × (f ≡ true)
drop_facts true b p q r f run last v h = absurd cc
drop_facts false (Some b) p q r f run last v h = absurd (no_drop (nat_lt b.blocks (blocks_of b.size)) (begun_stage (nat_lt b.blocks (blocks_of b.size)) b.snapshot.version v Drop h))
drop_facts false None true q r f run last v h = absurd cc
drop_facts false None false true r f run last v h = absurd cc
drop_facts false None false false true true run last v h = (refl, refl)
drop_facts false None false false true false run last v h = absurd cc
drop_facts false None false false false f run last v h = absurd cc

-- an Open is due only where a backup is begun
pub open_facts : (halt : Bool) (b : Option Begun) (p q r f : Bool) (run last v : ℕ) → is_work (due_of halt b p q r f run last) Open v ≡ true → is_some b ≡ true
open_facts true b p q r f run last v h = absurd cc
open_facts false (Some b) p q r f run last v h = refl
open_facts false None true q r f run last v h = absurd cc
open_facts false None false true r f run last v h = absurd cc
open_facts false None false false true true run last v h = absurd cc
open_facts false None false false true false run last v h = absurd cc
open_facts false None false false false f run last v h = absurd cc

-- a Prepare is due only where the copy isn't halted, nothing is begun, and one of the two reasons for it is there
pub record PrepareFacts (halt : Bool) (b : Option Begun) (p q : Bool) : Type 0 where
  pub not_halted : halt ≡ false
  pub not_begun : b ≡ None
  pub reason : (p || q) ≡ true

pub prepare_facts : (halt : Bool) (b : Option Begun) (p q r f : Bool) (run last : ℕ) → is_prepare (due_of halt b p q r f run last) ≡ true → PrepareFacts halt b p q
prepare_facts true b p q r f run last h = absurd cc
prepare_facts false (Some b) p q r f run last h = absurd (no_prepare (nat_lt b.blocks (blocks_of b.size)) h)
prepare_facts false None true q r f run last h = record { not_halted = refl; not_begun = refl; reason = refl }
prepare_facts false None false true r f run last h = record { not_halted = refl; not_begun = refl; reason = refl }
prepare_facts false None false false true true run last h = absurd cc
prepare_facts false None false false true false run last h = absurd cc
prepare_facts false None false false false f run last h = absurd cc

is_prepare_of : (w : Option VaultWork) (v : ℕ) → is_work w Prepare v ≡ true → is_prepare w ≡ true
is_prepare_of None v h = h
is_prepare_of (Some w) v h = and_left (same_stage w.stage Prepare) (w.version == v) h

module _ (restored : Option Backup) (guarded : Bool) (ds : List Deed) where
  -- a Drop is due only after a completed Fade, and where a gate was opened
  pub drop_due : (v : ℕ) → is_work (due_vault restored guarded ds) Drop v ≡ true → (faded ds ≡ true) × (opened restored ds ≡ true)
  drop_due v h =
      let facts = drop_facts (halted ds) (begun restored guarded ds) (held restored guarded ds && not (safe (running_version restored guarded ds) ds)) (dirty restored ds && not (backed restored ds)) (not (wanted restored guarded ds) && opened restored ds && may_discard restored guarded ds) (faded ds) (running_version restored guarded ds) (last_version restored ds) v h in
      (facts.1, and_right (not (wanted restored guarded ds)) (opened restored ds) (and_left (not (wanted restored guarded ds) && opened restored ds) (may_discard restored guarded ds) facts.0))

  pub open_due : (v : ℕ) → is_work (due_vault restored guarded ds) Open v ≡ true → is_some (begun restored guarded ds) ≡ true
  open_due v h = open_facts (halted ds) (begun restored guarded ds) (held restored guarded ds && not (safe (running_version restored guarded ds) ds)) (dirty restored ds && not (backed restored ds)) (not (wanted restored guarded ds) && opened restored ds && may_discard restored guarded ds) (faded ds) (running_version restored guarded ds) (last_version restored ds) v h

  -- a Prepare is due only where the copy is wanted, not halted, and nothing is begun
  pub prepare_due : is_prepare (due_vault restored guarded ds) ≡ true → (halted ds ≡ false) × (begun restored guarded ds ≡ None) × (wanted restored guarded ds ≡ true)
  prepare_due h =
      let facts = prepare_facts (halted ds) (begun restored guarded ds) (held restored guarded ds && not (safe (running_version restored guarded ds) ds)) (dirty restored ds && not (backed restored ds)) (not (wanted restored guarded ds) && opened restored ds && may_discard restored guarded ds) (faded ds) (running_version restored guarded ds) (last_version restored ds) h in
      (facts.not_halted, facts.not_begun, either (held restored guarded ds) (not (safe (running_version restored guarded ds) ds)) (dirty restored ds) (not (backed restored ds)) facts.reason)
    where
      either : (hold a dirt b : Bool) → ((hold && a) || (dirt && b)) ≡ true → (dirt || hold) ≡ true
      either true a true b i = refl
      either true a false b i = refl
      either false a true b i = refl
      either false a false b i = i

  pub prepare_work_due : (v : ℕ) → is_work (due_vault restored guarded ds) Prepare v ≡ true → is_prepare (due_vault restored guarded ds) ≡ true
  prepare_work_due v h = is_prepare_of (due_vault restored guarded ds) v h
