-- Who has a stage due holds a pair, and who holds none has nothing that may come back and nothing under way.
use Rattle.std.specs.Prelude.{◌≡◌, ℕ, ◌==◌, Bool, true, false, ◌&&◌, ◌||◌, not, List, ◌∷◌, Option, Some, None, is_some, refl}
use Rattle.std.proofs.Common.{sym, ◌∙◌, ap, subst}
use Rattle.hx_etag.specs.declared.stat.Stat.{Stat}
use Rattle.hx_events.specs.declared.backup.Backup.{Backup}
use Rattle.hx_events.specs.declared.event.Command.TheVariants.{Save, Close, Open as OpenCommand}
use Rattle.hx_events.specs.declared.event.Event.{Event}
use Rattle.hx_events.specs.declared.event.Event.TheVariants.{Act, Flush}
use Rattle.hx_events.specs.declared.event.Stage.{Stage}
use Rattle.hx_events.specs.declared.event.Stage.TheVariants.{Prepare, Body, Open, Fade, Drop}
use Rattle.hx_events.specs.declared.life.Entry.{Entry}
use Rattle.hx_events.specs.declared.outcome.Outcome.{Outcome}
use Rattle.hx_events.specs.declared.outcome.Outcome.TheVariants.{Opened, Created, Closed, Joined, Clean, Queued, Started, Checked, CheckFault, Modified, WriteFault, Unguarded, Saved, StageOk, StageFault, Spent}
use Rattle.hx_rules.specs.declared.saves.Asked.{Asked}
use Rattle.hx_rules.specs.declared.saves.Asked.TheVariants.{Joined as SaidJoined, Clean as SaidClean, Queued as SaidQueued}
use Rattle.hx_rules.specs.declared.saves.Running.{Running}
use Rattle.hx_rules.specs.Backups.{Begun, begun, done, tried, opened, faded, halted, wanted, held, backed, safe}
use Rattle.hx_rules.specs.Copies.{registered, dirty, mark, is_number}
use Rattle.hx_rules.specs.Due.{VaultWork, due_vault, save_work, stage_due, running_version, may_discard}
use Rattle.hx_rules.specs.Entries.{Deed, deed, own, is_of}
use Rattle.hx_rules.specs.Legal.{Opening, restored_at, is_legal, is_row, is_work, is_check, is_write, is_refusal, same_stage, holds_at, run_at, save_due, vault_due, is_registered_at, last_at}
use Rattle.hx_rules.specs.Marks.{IsBare, marks}
use Rattle.hx_rules.specs.Saves.{SaveStep, asks, running, run_asked, run_checked, save_steps}
use Rattle.hx_rules.specs.Versions.{last_version, alternative}
use Rattle.hx_rules_laws.specs.Backups.{done_is_opened}
use Rattle.hx_rules_laws.specs.DueStages.{discard_opened}
use Rattle.hx_rules_laws.specs.Frames.{same_number}
use Rattle.hx_rules_laws.specs.Legals.{keeps, tried_is_opened, begun_is_wanted}
use Rattle.hx_rules_laws.specs.Rows.{ok_was_due, and_left, and_right, due_of}

-- After a completed Fade the gate that was opened still is.
abbrev pub FadedIsOpened : Type 0
FadedIsOpened = (o : Opening) (es : List Entry) (c : ℕ) → is_legal o es ≡ true → faded (own c es) ≡ true → opened (restored_at o c) (own c es) ≡ true

-- A save runs of a registered copy alone.
abbrev pub RunIsRegistered : Type 0
RunIsRegistered = (o : Opening) (es : List Entry) (c : ℕ) → is_legal o es ≡ true → is_some (running (save_steps (restored_at o c) (own c es))) ≡ true → registered (restored_at o c) (own c es) ≡ true

-- A resource with a due vault stage holds a pair.
abbrev pub DueHolds : Type 0
DueHolds = (o : Opening) (es : List Entry) (c : ℕ) → is_legal o es ≡ true → is_some (vault_due o es c) ≡ true → holds_at o es c ≡ true

-- A resource that holds no pair has nothing that may come back and nothing under way.
abbrev pub HoldingNoneIsBare : Type 0
HoldingNoneIsBare = (o : Opening) (es : List Entry) (c : ℕ) → is_legal o es ≡ true → holds_at o es c ≡ false → IsBare (marks (restored_at o c) o.guarded (own c es))

fade_stage : (due : Option VaultWork) (v : ℕ) → is_work due Fade v ≡ true → stage_due due ≡ Some Fade
fade_stage None v h = absurd cc
fade_stage (Some w) v h = go w.stage (w.version == v) h
  where
    go : (s : Stage) (t : Bool) → (same_stage s Fade && t) ≡ true → Some s ≡ Some Fade
    go Prepare t h = absurd cc
    go Body t h = absurd cc
    go Open t h = absurd cc
    go Fade t h = refl
    go Drop t h = absurd cc

faded_step : (o : Opening) (c : ℕ) (es : List Entry) (place : ℕ) (event : Event) (outcome : Outcome) (content : List ℕ) → is_of c event ≡ true → is_row o es event outcome ≡ true
    → (faded (own c es) ≡ true → opened (restored_at o c) (own c es) ≡ true)
    → faded (deed place event outcome content ∷ own c es) ≡ true → opened (restored_at o c) (deed place event outcome content ∷ own c es) ≡ true
faded_step o c es place event (StageOk Fade v) content is row ih h = discard_opened (restored_at o c) o.guarded (own c es) Fade refl (fade_stage (due_vault (restored_at o c) o.guarded (own c es)) v (ok_was_due o es event Fade v c is row))
faded_step o c es place event (StageOk Prepare v) content is row ih h = absurd cc
faded_step o c es place event (StageOk Body v) content is row ih h = absurd cc
faded_step o c es place event (StageOk Open v) content is row ih h = absurd cc
faded_step o c es place event (StageOk Drop v) content is row ih h = absurd cc
faded_step o c es place event (StageFault s v) content is row ih h = absurd cc
faded_step o c es place event Spent content is row ih h = absurd cc
faded_step o c es place event _ content is row ih h = ih h

pub faded_is_opened : FadedIsOpened
faded_is_opened o es c legal = keeps o c (λ ds. faded ds ≡ true → opened (restored_at o c) ds ≡ true) (λ h. absurd cc) (faded_step o c) es legal

-- a save stage is due of a running save alone
check_runs : (g s h : Bool) (run : Option Running) → is_check (save_work g s h run) ≡ true → is_some run ≡ true
check_runs g s h None due = absurd cc
check_runs g s h (Some run) due = refl

write_runs : (g s h : Bool) (run : Option Running) (v : ℕ) → is_write (save_work g s h run) v ≡ true → is_some run ≡ true
write_runs g s h None v due = absurd cc
write_runs g s h (Some run) v due = refl

refusal_runs : (g s h : Bool) (run : Option Running) (v : ℕ) → is_refusal (save_work g s h run) v ≡ true → is_some run ≡ true
refusal_runs g s h None v due = absurd cc
refusal_runs g s h (Some run) v due = refl

second_fails : (a b : Bool) → (a && not b) ≡ true → b ≡ false
second_fails true true h = absurd cc
second_fails true false h = refl
second_fails false b h = absurd cc

-- the end of a save was a stage of a save that ran
module _ (o : Opening) (es : List Entry) (c : ℕ) where
  abbrev now_safe : Bool
  now_safe = safe (running_version (restored_at o c) o.guarded (own c es)) (own c es)

  check_ended : (event : Event) → is_of c event ≡ true → is_row o es event CheckFault ≡ true → is_some (run_at o es c) ≡ true
  check_ended (Flush k) is row = check_runs o.guarded now_safe (halted (own c es)) (run_at o es c) (subst (λ (n : ℕ). is_check (save_due o es n) ≡ true) (same_number k c is) row)
  check_ended (Act (OpenCommand k)) is row = absurd cc
  check_ended _ is row = absurd cc

  checked_ended : (event : Event) (x : Option Stat) → is_of c event ≡ true → is_row o es event (Checked x) ≡ true → is_some (run_at o es c) ≡ true
  checked_ended (Flush k) x is row = check_runs o.guarded now_safe (halted (own c es)) (run_at o es c)
      (subst (λ (n : ℕ). is_check (save_due o es n) ≡ true) (same_number k c is) (and_left (is_check (save_due o es k)) _ row))
  checked_ended (Act (OpenCommand k)) x is row = absurd cc
  checked_ended _ x is row = absurd cc

  modified_ended : (event : Event) (s : Stat) → is_of c event ≡ true → is_row o es event (Modified s) ≡ true → is_some (run_at o es c) ≡ true
  modified_ended (Flush k) s is row = check_runs o.guarded now_safe (halted (own c es)) (run_at o es c)
      (subst (λ (n : ℕ). is_check (save_due o es n) ≡ true) (same_number k c is) (and_left (is_check (save_due o es k)) _ row))
  modified_ended (Act (OpenCommand k)) s is row = absurd cc
  modified_ended _ s is row = absurd cc

  write_ended : (event : Event) (v : ℕ) → is_of c event ≡ true → is_row o es event (WriteFault v) ≡ true → is_some (run_at o es c) ≡ true
  write_ended (Flush k) v is row = write_runs o.guarded now_safe (halted (own c es)) (run_at o es c) v (subst (λ (n : ℕ). is_write (save_due o es n) v ≡ true) (same_number k c is) row)
  write_ended (Act (OpenCommand k)) v is row = absurd cc
  write_ended _ v is row = absurd cc

  saved_ended : (event : Event) (v : ℕ) (x : Option Stat) → is_of c event ≡ true → is_row o es event (Saved v x) ≡ true → is_some (run_at o es c) ≡ true
  saved_ended (Flush k) v x is row = write_runs o.guarded now_safe (halted (own c es)) (run_at o es c) v (subst (λ (n : ℕ). is_write (save_due o es n) v ≡ true) (same_number k c is) row)
  saved_ended (Act (OpenCommand k)) v x is row = absurd cc
  saved_ended _ v x is row = absurd cc

  refused_ended : (event : Event) (v : ℕ) → is_of c event ≡ true → is_row o es event (Unguarded v) ≡ true → is_some (run_at o es c) ≡ true
  refused_ended (Flush k) v is row = refusal_runs o.guarded now_safe (halted (own c es)) (run_at o es c) v (subst (λ (n : ℕ). is_refusal (save_due o es n) v ≡ true) (same_number k c is) row)
  refused_ended (Act (OpenCommand k)) v is row = absurd cc
  refused_ended _ v is row = absurd cc

  -- a close is answered where no save runs
  close_ended : (event : Event) → is_of c event ≡ true → is_row o es event Closed ≡ true → is_some (run_at o es c) ≡ false
  close_ended (Act (Close k)) is row = second_fails (is_registered_at o es c) (is_some (run_at o es c)) (subst (λ (n : ℕ). (is_registered_at o es n && not (is_some (run_at o es n))) ≡ true) (same_number k c is) row)
  close_ended (Act (OpenCommand k)) is row = absurd cc
  close_ended _ is row = absurd cc

  -- a save is started of a registered copy
  started_registered : (event : Event) (n : ℕ) → is_of c event ≡ true → is_row o es event (Started n) ≡ true → is_registered_at o es c ≡ true
  started_registered (Act (Save k force over)) n is row =
      subst (λ (m : ℕ). is_registered_at o es m ≡ true) (same_number k c is) (and_left (is_registered_at o es k) _ (and_left _ (n == last_at o es k) row))
  started_registered (Act (OpenCommand k)) n is row = absurd cc
  started_registered _ n is row = absurd cc

asks_runs : (event : Event) (place last : ℕ) (was_dirty : Bool) (asked : Asked) (steps : List SaveStep) → ((over : Bool) → run_asked asked last over (running steps) ≡ running steps) → running (asks event place last was_dirty asked steps) ≡ running steps
asks_runs (Act (Save c force over)) place last was_dirty asked steps stays = stays over
asks_runs (Act (OpenCommand c)) place last was_dirty asked steps stays = refl
asks_runs _ place last was_dirty asked steps stays = refl

checked_some : (run : Option Running) → is_some (run_checked run) ≡ is_some run
checked_some None = refl
checked_some (Some run) = refl

clash : (b : Bool) → b ≡ false → b ≡ true → ⊥
clash true f t = absurd cc
clash false f t = absurd cc

run_step : (o : Opening) (c : ℕ) (es : List Entry) (place : ℕ) (event : Event) (outcome : Outcome) (content : List ℕ) → is_of c event ≡ true → is_row o es event outcome ≡ true
    → (is_some (running (save_steps (restored_at o c) (own c es))) ≡ true → registered (restored_at o c) (own c es) ≡ true)
    → is_some (running (save_steps (restored_at o c) (deed place event outcome content ∷ own c es))) ≡ true → registered (restored_at o c) (deed place event outcome content ∷ own c es) ≡ true
run_step o c es place event (Opened s) content is row ih h = refl
run_step o c es place event (Created n) content is row ih h = refl
run_step o c es place event Closed content is row ih h = absurd (clash (is_some (run_at o es c)) (close_ended o es c event is row) h)
run_step o c es place event Joined content is row ih h = ih (sym (ap is_some (asks_runs event place (last_at o es c) (dirty (restored_at o c) (own c es)) SaidJoined (save_steps (restored_at o c) (own c es)) (λ over. refl))) ∙ h)
run_step o c es place event Clean content is row ih h = ih (sym (ap is_some (asks_runs event place (last_at o es c) (dirty (restored_at o c) (own c es)) SaidClean (save_steps (restored_at o c) (own c es)) (λ over. refl))) ∙ h)
run_step o c es place event Queued content is row ih h = ih (sym (ap is_some (asks_runs event place (last_at o es c) (dirty (restored_at o c) (own c es)) SaidQueued (save_steps (restored_at o c) (own c es)) (λ over. refl))) ∙ h)
run_step o c es place event (Started n) content is row ih h = started_registered o es c event n is row
run_step o c es place event (Checked x) content is row ih h = ih (checked_ended o es c event x is row)
run_step o c es place event CheckFault content is row ih h = ih (check_ended o es c event is row)
run_step o c es place event (Modified s) content is row ih h = ih (modified_ended o es c event s is row)
run_step o c es place event (WriteFault v) content is row ih h = ih (write_ended o es c event v is row)
run_step o c es place event (Unguarded v) content is row ih h = ih (refused_ended o es c event v is row)
run_step o c es place event (Saved v x) content is row ih h = ih (saved_ended o es c event v x is row)
run_step o c es place event _ content is row ih h = ih h

pub run_is_registered : RunIsRegistered
run_is_registered o es c legal = keeps o c (λ ds. is_some (running (save_steps (restored_at o c) ds)) ≡ true → registered (restored_at o c) ds ≡ true) (λ h. absurd cc) (run_step o c) es legal

dirty_registered : (restored : Option Backup) (ds : List Deed) → dirty restored ds ≡ true → registered restored ds ≡ true
dirty_registered restored ds h = and_left (registered restored ds) (not (is_number (alternative restored ds) (mark restored ds))) h

held_runs : (guarded : Bool) (restored : Option Backup) (ds : List Deed) → held restored guarded ds ≡ true → is_some (running (save_steps restored ds)) ≡ true
held_runs true restored ds h = h
held_runs false restored ds h = absurd cc

-- a backup is wanted of a registered copy alone
pub wanted_registered : (o : Opening) (es : List Entry) (c : ℕ) → is_legal o es ≡ true → wanted (restored_at o c) o.guarded (own c es) ≡ true → registered (restored_at o c) (own c es) ≡ true
wanted_registered o es c legal h = go (dirty (restored_at o c) (own c es)) (dirty_registered (restored_at o c) (own c es)) h
  where
    go : (d : Bool) → (d ≡ true → registered (restored_at o c) (own c es) ≡ true) → (d || held (restored_at o c) o.guarded (own c es)) ≡ true → registered (restored_at o c) (own c es) ≡ true
    go true there h = there refl
    go false there h = run_is_registered o es c legal (held_runs o.guarded (restored_at o c) (own c es) h)

or_left : (a b : Bool) → a ≡ true → (a || b) ≡ true
or_left true b h = refl
or_left false b h = absurd cc

or_right : (a b : Bool) → b ≡ true → (a || b) ≡ true
or_right true b h = refl
or_right false b h = h

-- the reasons that a stage may have each give a pair
due_reason : (halt : Bool) (b : Option Begun) (p q r f : Bool) (run last : ℕ) (has_pair : Bool) → (is_some b ≡ true → has_pair ≡ true) → (p ≡ true → has_pair ≡ true) → (q ≡ true → has_pair ≡ true) → (r ≡ true → has_pair ≡ true)
    → is_some (due_of halt b p q r f run last) ≡ true → has_pair ≡ true
due_reason true b p q r f run last has_pair by_begun by_run by_last by_discard h = absurd cc
due_reason false (Some b) p q r f run last has_pair by_begun by_run by_last by_discard h = by_begun refl
due_reason false None true q r f run last has_pair by_begun by_run by_last by_discard h = by_run refl
due_reason false None false true r f run last has_pair by_begun by_run by_last by_discard h = by_last refl
due_reason false None false false true f run last has_pair by_begun by_run by_last by_discard h = by_discard refl
due_reason false None false false false f run last has_pair by_begun by_run by_last by_discard h = absurd cc

pub due_holds : DueHolds
due_holds o es c legal =
    let r = restored_at o c in
    let ds = own c es in
    due_reason (halted ds) (begun r o.guarded ds) (held r o.guarded ds && not (safe (running_version r o.guarded ds) ds)) (dirty r ds && not (backed r ds)) (not (wanted r o.guarded ds) && opened r ds && may_discard r o.guarded ds) (faded ds) (running_version r o.guarded ds) (last_version r ds) (holds_at o es c)
    (λ h. or_left (registered r ds) (opened r ds) (wanted_registered o es c legal (begun_is_wanted o es c legal h)))
    (λ h. or_left (registered r ds) (opened r ds) (run_is_registered o es c legal (held_runs o.guarded r ds (and_left (held r o.guarded ds) (not (safe (running_version r o.guarded ds) ds)) h))))
    (λ h. or_left (registered r ds) (opened r ds) (dirty_registered r ds (and_left (dirty r ds) (not (backed r ds)) h)))
    (λ h. or_right (registered r ds) (opened r ds) (and_right (not (wanted r o.guarded ds)) (opened r ds) (and_left (not (wanted r o.guarded ds) && opened r ds) (may_discard r o.guarded ds) h)))

none_of : {A : Type 0} (x : Option A) → (is_some x ≡ true → ⊥) → x ≡ None
none_of None never = refl
none_of (Some a) never = absurd (never refl)

false_of : (x : Bool) → (x ≡ true → ⊥) → x ≡ false
false_of true never = absurd (never refl)
false_of false never = refl

neither_left : (a b : Bool) → (a || b) ≡ false → a ≡ false
neither_left true b h = absurd cc
neither_left false b h = refl

neither_right : (a b : Bool) → (a || b) ≡ false → b ≡ false
neither_right true b h = absurd cc
neither_right false b h = h

pub holding_none_is_bare : HoldingNoneIsBare
holding_none_is_bare o es c legal none =
    let r = restored_at o c in
    let ds = own c es in
    let gone : registered r ds ≡ false = neither_left (registered r ds) (opened r ds) none in
    let shut : opened r ds ≡ false = neither_right (registered r ds) (opened r ds) none in
    record {
      done = none_of (done r ds) (λ h. clash (opened r ds) shut (done_is_opened r ds h));
      tried = none_of (tried r ds) (λ h. clash (opened r ds) shut (tried_is_opened o es c legal h));
      begun = none_of (begun r o.guarded ds) (λ h. clash (registered r ds) gone (wanted_registered o es c legal (begun_is_wanted o es c legal h)));
      faded = false_of (faded ds) (λ h. clash (opened r ds) shut (faded_is_opened o es c legal h));
    }
