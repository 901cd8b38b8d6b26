-- In a life that isn't guarded, of a copy that is dirty and backed up nothing else may come back: no other backup was tried since,
-- and no discard.
use Rattle.std.specs.Prelude.{◌≡◌, ◌≤◌, ℕ, ◌+◌, ◌==◌, not, Bool, true, false, ◌&&◌, ◌||◌, List, [], ◌∷◌, if◌then◌else◌, Option, Some, None, is_some, refl}
use Rattle.std.proofs.Common.{arith, ap, sym, ◌∙◌}
use Rattle.std.proofs.lemmas.Bool.Decides.{nat_tests}
use Rattle.hx_events.specs.declared.backup.Backup.{Backup}
use Rattle.hx_events.specs.declared.event.Event.{Event}
use Rattle.hx_events.specs.declared.event.Stage.TheVariants.{Prepare, Body, Open, Fade, Drop}
use Rattle.hx_events.specs.declared.life.Entry.{Entry}
use Rattle.hx_events.specs.declared.outcome.Outcome.{Outcome}
use Rattle.hx_events.specs.declared.outcome.Outcome.TheVariants.{Opened, Created, Edited, Undone, Redone, Reverted, Closed, Saved, StageOk, StageFault}
use Rattle.hx_guarded_laws.specs.Contents.{IsVersion, hold_versions}
use Rattle.hx_guarded_laws.specs.Rows.{drop_was_due}
use Rattle.hx_guarded_laws.specs.Ways.{keeps_on}
use Rattle.hx_rules.specs.Backups.{Begun, Snapshot, backed, begun, done, halted, held, one_block_more, opened, faded, safe, tried, undone, wanted}
use Rattle.hx_rules.specs.Copies.{dirty, is_number, mark, registered}
use Rattle.hx_rules.specs.Due.{due_vault, may_discard, running_version}
use Rattle.hx_rules.specs.Entries.{Deed, deed, own, is_of}
use Rattle.hx_rules.specs.Legal.{Opening, restored_at, is_legal, is_row, is_work}
use Rattle.hx_rules.specs.Versions.{alternative, last_version}
use Rattle.hx_rules_laws.specs.Rows.{not_true, ok_was_due, fault_was_due, open_due, prepare_facts, prepare_work_due}

-- While a backup is begun the last version isn't backed up; and of a dirty copy whose last version is, no other backup was tried since,
-- and no discard.
pub record IsCalm (restored : Option Backup) (guarded : Bool) (ds : List Deed) : Type 0 where
  pub begun : is_some (begun restored guarded ds) ≡ true → backed restored ds ≡ false
  pub tried : dirty restored ds ≡ true → backed restored ds ≡ true → tried restored ds ≡ None
  pub undone : dirty restored ds ≡ true → backed restored ds ≡ true → undone ds ≡ false

clash : {A : Type 0} (b : Bool) → b ≡ true → b ≡ false → A
clash b h i = absurd (let e : true ≡ false = sym h ∙ i in cc)

still_begun : (w : Bool) (b : Option Begun) → is_some (if w then b else None) ≡ true → is_some b ≡ true
still_begun true b h = h
still_begun false b h = absurd cc

more_begun : (b : Option Begun) → is_some (one_block_more b) ≡ true → is_some b ≡ true
more_begun None h = h
more_begun (Some b) h = refl

-- a completed backup isn't of a version that comes behind it
late : (restored : Option Backup) (ds : List Deed) (s : Option Snapshot) → IsVersion restored ds s → elim s [ None ↦ false | Some b ↦ b.version == last_version restored ds + 1 ] ≡ false
late restored ds None is = refl
late restored ds (Some b) is = let le : b.version ≤ last_version restored ds = is.0 in grind (arith, nat_tests)

-- where the last version isn't backed up nothing is to be shown
unbacked : (restored : Option Backup) (guarded : Bool) (ds : List Deed) → backed restored ds ≡ false → IsCalm restored guarded ds
unbacked restored guarded ds none = record { begun = λ h. none; tried = λ d b. clash (backed restored ds) b none; undone = λ d b. clash (backed restored ds) b none }

-- a Prepare of a life that isn't guarded is due only where the last version isn't backed up
only_reason : (hold a dirt b : Bool) → ((hold && a) || (dirt && not b)) ≡ true → hold ≡ false → b ≡ false
only_reason true a dirt b h none = absurd cc
only_reason false a true b h none = not_true b h
only_reason false a false b h none = absurd cc

prepared_unbacked : (restored : Option Backup) (guarded : Bool) (ds : List Deed) (v : ℕ) → guarded ≡ false → is_work (due_vault restored guarded ds) Prepare v ≡ true → backed restored ds ≡ false
prepared_unbacked restored guarded ds v plain due =
    only_reason (held restored guarded ds) (not (safe (running_version restored guarded ds) ds)) (dirty restored ds) (backed restored ds)
    (prepare_facts (halted ds) (begun restored guarded ds) (held restored guarded ds && not (safe (running_version restored guarded ds) ds)) (dirty restored ds && not (backed restored ds)) (not (wanted restored guarded ds) && opened restored ds && may_discard restored guarded ds) (faded ds) (running_version restored guarded ds) (last_version restored ds) (prepare_work_due restored guarded ds v due)).reason
    (ap (λ g. held restored g ds) plain)

-- a save that leaves the copy dirty has found it so
same_test : (n : ℕ) → (n == n) ≡ true
same_test n = grind (arith, nat_tests)

was_dirty : (b is_registered : Bool) (n : ℕ) (m : Option ℕ) → (is_registered && not (is_number n (if b then Some n else m))) ≡ true → (is_registered && not (is_number n m)) ≡ true
was_dirty true false n m h = absurd cc
was_dirty true true n m h = clash (n == n) (same_test n) (not_true (n == n) h)
was_dirty false is_registered n m h = h

calm_step : (o : Opening) (c : ℕ) → o.guarded ≡ false → (es : List Entry) (place : ℕ) (event : Event) (outcome : Outcome) (content : List ℕ) → is_legal o es ≡ true → is_of c event ≡ true → is_row o es event outcome ≡ true
    → IsCalm (restored_at o c) o.guarded (own c es) → IsCalm (restored_at o c) o.guarded (deed place event outcome content ∷ own c es)
calm_step o c plain es place event (Opened s) content legal is row ih =
    unbacked (restored_at o c) o.guarded (deed place event (Opened s) content ∷ own c es) (late (restored_at o c) (own c es) (done (restored_at o c) (own c es)) (hold_versions o es c legal).completed)
calm_step o c plain es place event (Created n) content legal is row ih =
    unbacked (restored_at o c) o.guarded (deed place event (Created n) content ∷ own c es) (late (restored_at o c) (own c es) (done (restored_at o c) (own c es)) (hold_versions o es c legal).completed)
calm_step o c plain es place event (Edited n) content legal is row ih =
    unbacked (restored_at o c) o.guarded (deed place event (Edited n) content ∷ own c es) (late (restored_at o c) (own c es) (done (restored_at o c) (own c es)) (hold_versions o es c legal).completed)
calm_step o c plain es place event (Undone n) content legal is row ih =
    unbacked (restored_at o c) o.guarded (deed place event (Undone n) content ∷ own c es) (late (restored_at o c) (own c es) (done (restored_at o c) (own c es)) (hold_versions o es c legal).completed)
calm_step o c plain es place event (Redone n) content legal is row ih =
    unbacked (restored_at o c) o.guarded (deed place event (Redone n) content ∷ own c es) (late (restored_at o c) (own c es) (done (restored_at o c) (own c es)) (hold_versions o es c legal).completed)
calm_step o c plain es place event (Reverted s) content legal is row ih =
    unbacked (restored_at o c) o.guarded (deed place event (Reverted s) content ∷ own c es) (late (restored_at o c) (own c es) (done (restored_at o c) (own c es)) (hold_versions o es c legal).completed)
calm_step o c plain es place event Closed content legal is row ih = record {
  begun = λ h. ih.begun (still_begun (wanted (restored_at o c) o.guarded (deed place event Closed content ∷ own c es)) (begun (restored_at o c) o.guarded (own c es)) h);
  tried = λ d b. absurd cc;
  undone = λ d b. absurd cc;
}
calm_step o c plain es place event (Saved v x) content legal is row ih = record {
  begun = λ h. ih.begun (still_begun (wanted (restored_at o c) o.guarded (deed place event (Saved v x) content ∷ own c es)) (begun (restored_at o c) o.guarded (own c es)) h);
  tried = λ d b. ih.tried (was_dirty (v == last_version (restored_at o c) (own c es)) (registered (restored_at o c) (own c es)) (alternative (restored_at o c) (own c es)) (mark (restored_at o c) (own c es)) d) b;
  undone = λ d b. ih.undone (was_dirty (v == last_version (restored_at o c) (own c es)) (registered (restored_at o c) (own c es)) (alternative (restored_at o c) (own c es)) (mark (restored_at o c) (own c es)) d) b;
}
calm_step o c plain es place event (StageOk Prepare v) content legal is row ih = record {
  begun = λ h. prepared_unbacked (restored_at o c) o.guarded (own c es) v plain (ok_was_due o es event Prepare v c is row);
  tried = λ d b. refl;
  undone = ih.undone;
}
calm_step o c plain es place event (StageOk Body v) content legal is row ih = record {
  begun = λ h. ih.begun (more_begun (begun (restored_at o c) o.guarded (own c es)) (still_begun (wanted (restored_at o c) o.guarded (deed place event (StageOk Body v) content ∷ own c es)) (one_block_more (begun (restored_at o c) o.guarded (own c es))) h));
  tried = ih.tried;
  undone = ih.undone;
}
calm_step o c plain es place event (StageOk Open v) content legal is row ih = record { begun = λ h. absurd cc; tried = λ d b. refl; undone = λ d b. refl }
calm_step o c plain es place event (StageOk Fade v) content legal is row ih = record {
  begun = λ h. ih.begun (still_begun (wanted (restored_at o c) o.guarded (deed place event (StageOk Fade v) content ∷ own c es)) (begun (restored_at o c) o.guarded (own c es)) h);
  tried = λ d b. refl;
  undone = ih.undone;
}
calm_step o c plain es place event (StageOk Drop v) content legal is row ih = unbacked (restored_at o c) o.guarded (deed place event (StageOk Drop v) content ∷ own c es) refl
calm_step o c plain es place event (StageFault Prepare v) content legal is row ih = record { begun = λ h. absurd cc; tried = ih.tried; undone = ih.undone }
calm_step o c plain es place event (StageFault Body v) content legal is row ih = record { begun = λ h. absurd cc; tried = ih.tried; undone = ih.undone }
calm_step o c plain es place event (StageFault Open v) content legal is row ih = record {
  begun = λ h. absurd cc;
  tried = λ d b. clash (backed (restored_at o c) (own c es)) b (ih.begun (open_due (restored_at o c) o.guarded (own c es) v (fault_was_due o es event Open v c is row)));
  undone = ih.undone;
}
calm_step o c plain es place event (StageFault Fade v) content legal is row ih = record { begun = λ h. absurd cc; tried = ih.tried; undone = ih.undone }
calm_step o c plain es place event (StageFault Drop v) content legal is row ih = record {
  begun = λ h. absurd cc;
  tried = ih.tried;
  undone = λ d b. clash (dirty (restored_at o c) (own c es)) d (drop_was_due (restored_at o c) o.guarded (own c es) v (fault_was_due o es event Drop v c is row)).clean;
}
calm_step o c plain es place event outcome content legal is row ih = record {
  begun = λ h. ih.begun (still_begun (wanted (restored_at o c) o.guarded (deed place event outcome content ∷ own c es)) (begun (restored_at o c) o.guarded (own c es)) h);
  tried = ih.tried;
  undone = ih.undone;
}

calm_first : (restored : Option Backup) (guarded : Bool) → IsCalm restored guarded []
calm_first restored guarded = record { begun = λ h. absurd cc; tried = λ d b. refl; undone = λ d b. refl }

pub is_calm : (o : Opening) (es : List Entry) (c : ℕ) → o.guarded ≡ false → is_legal o es ≡ true → IsCalm (restored_at o c) o.guarded (own c es)
is_calm o es c plain legal = keeps_on o c (IsCalm (restored_at o c) o.guarded) (calm_first (restored_at o c) o.guarded) (calm_step o c plain) es legal
