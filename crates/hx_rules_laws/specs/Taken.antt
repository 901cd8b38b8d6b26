-- A begun backup holds what its Prepare took, until it ends.
use Rattle.std.specs.Prelude.{◌≡◌, ◌≢◌, ◌⊎◌, ◌≤◌, nat_lt, ℕ, ◌+◌, ◌==◌, ◌&&◌, not, Bool, true, false, if◌then◌else◌, List, [], ◌∷◌, length, Option, Some, None, refl}
use Rattle.std.proofs.Common.{sym, ◌∙◌, ap, subst, inl, inr, ⊎_elim, arith}
use Rattle.std.proofs.lemmas.Bool.Decides.{nat_tests}
use Rattle.hx_etag.specs.declared.stat.Stat.{Stat}
use Rattle.hx_events.specs.declared.backup.Backup.{Backup}
use Rattle.hx_events.specs.declared.event.Command.TheVariants.{Save}
use Rattle.hx_events.specs.declared.event.Event.{Event}
use Rattle.hx_events.specs.declared.event.Event.TheVariants.{Act}
use Rattle.hx_events.specs.declared.event.Stage.TheVariants.{Prepare, Body, Open}
use Rattle.hx_events.specs.declared.life.Entry.{Entry}
use Rattle.hx_events.specs.declared.outcome.Outcome.{Outcome}
use Rattle.hx_events.specs.declared.outcome.Outcome.TheVariants.{Opened, Created, Edited, Undone, Redone, Reverted, Joined, Clean, Queued, Started, Checked, CheckFault, Modified, WriteFault, Unguarded, Saved, StageOk, StageFault}
use Rattle.hx_rules.specs.declared.saves.Asked.{Asked}
use Rattle.hx_rules.specs.declared.saves.Asked.TheVariants.{Joined as SaidJoined, Clean as SaidClean, Queued as SaidQueued, Started as SaidStarted}
use Rattle.hx_rules.specs.declared.saves.Running.{Running}
use Rattle.hx_rules.specs.declared.saves.QueuedSave.{QueuedSave}
use Rattle.hx_rules.specs.Entries.{Deed, deed, own, is_of}
use Rattle.hx_rules.specs.Versions.{Version, version_at, versions, versions_after, last_version, adds_version}
use Rattle.hx_rules.specs.Copies.{dirty}
use Rattle.hx_rules.specs.Saves.{SaveStep, asks, steps_after, running, run_asked, run_checked, run_finished, starts, overwrites, queued, save_steps}
use Rattle.hx_rules.specs.Backups.{Snapshot, snapshot, Begun, begun, prepared, prepared_base, taken, wanted, held, safe, backed, halted, opened, faded, one_block_more, blocks_of}
use Rattle.hx_rules.specs.Due.{due_vault, run_version, running_version, may_discard}
use Rattle.hx_rules.specs.Legal.{Opening, restored_at, is_legal, is_row, is_work, same_stage}
use Rattle.hx_rules_laws.specs.Rows.{due_of, ok_was_due, and_left}
use Rattle.hx_rules_laws.specs.Legals.{keeps}
use Rattle.hx_rules_laws.specs.Frames.{same_number}
use Rattle.hx_rules_laws.specs.TrailLaws.{last_version_counts}

abbrev RunUpTo : ℕ → Option Running → Type 0
RunUpTo n None = Unit {0}
RunUpTo n (Some run) = run.version ≤ n

up_more : (n m : ℕ) (run : Option Running) → n ≤ m → RunUpTo n run → RunUpTo m run
up_more n m None le is = tt
up_more n m (Some run) le is = omega (arith, is, le)

up_asked : (asked : Asked) (last : ℕ) (over : Bool) (run : Option Running) → RunUpTo last run → RunUpTo last (run_asked asked last over run)
up_asked SaidStarted last over run is = omega arith
up_asked SaidJoined last over run is = is
up_asked SaidClean last over run is = is
up_asked SaidQueued last over run is = is

up_checked : (last : ℕ) (run : Option Running) → RunUpTo last run → RunUpTo last (run_checked run)
up_checked last None is = tt
up_checked last (Some run) is = is

up_finished : (q : Option QueuedSave) (after : Bool) (last : ℕ) → RunUpTo last (run_finished q after last)
up_finished q after last = go (starts q after)
  where
    go : (t : Bool) → RunUpTo last (if t then Some record { version = last; over = overwrites q; checked = false } else None)
    go true = omega arith
    go false = tt

up_asks : (event : Event) (place last : ℕ) (before : Bool) (asked : Asked) (steps : List SaveStep) → RunUpTo last (running steps) → RunUpTo last (running (asks event place last before asked steps))
up_asks (Act (Save c force over)) place last before asked steps is = up_asked asked last over (running steps) is
up_asks _ place last before asked steps is = is

up_step : (o : Outcome) (event : Event) (place last : ℕ) (before after : Bool) (steps : List SaveStep) → RunUpTo last (running steps) → RunUpTo last (running (steps_after o event place last before after steps))
up_step Joined event place last before after steps is = up_asks event place last before SaidJoined steps is
up_step Clean event place last before after steps is = up_asks event place last before SaidClean steps is
up_step Queued event place last before after steps is = up_asks event place last before SaidQueued steps is
up_step (Started v) event place last before after steps is = up_asks event place last before SaidStarted steps is
up_step (Checked x) event place last before after steps is = up_checked last (running steps) is
up_step CheckFault event place last before after steps is = up_finished (queued steps) after last
up_step (Modified s) event place last before after steps is = up_finished (queued steps) after last
up_step (WriteFault v) event place last before after steps is = up_finished (queued steps) after last
up_step (Unguarded v) event place last before after steps is = up_finished (queued steps) after last
up_step (Saved v x) event place last before after steps is = up_finished (queued steps) after last
up_step _ event place last before after steps is = is

last_more : (adds : Bool) (n : ℕ) → n ≤ (if adds then n + 1 else n)
last_more true n = omega arith
last_more false n = omega arith

-- a running save is of a version up to the last
pub run_up_to : (restored : Option Backup) (ds : List Deed) → RunUpTo (last_version restored ds) (running (save_steps restored ds))
run_up_to restored [] = tt
run_up_to restored (d ∷ ds) =
    up_more (last_version restored ds) (last_version restored (d ∷ ds)) (running (save_steps restored (d ∷ ds))) (last_more (adds_version d.outcome) (last_version restored ds))
    (up_step d.outcome d.event d.place (last_version restored ds) (dirty restored ds) (dirty restored (d ∷ ds)) (save_steps restored ds) (run_up_to restored ds))

run_version_up_to : (n : ℕ) (run : Option Running) → RunUpTo n run → run_version run ≤ n
run_version_up_to n None is = omega arith
run_version_up_to n (Some run) is = is

prepare_version : (halt : Bool) (b : Option Begun) (p q r f : Bool) (run last v : ℕ) → is_work (due_of halt b p q r f run last) Prepare v ≡ true → (v ≡ run) ⊎ (v ≡ last)
prepare_version true b p q r f run last v h = absurd cc
prepare_version false (Some b) p q r f run last v h = absurd (not_prepare (nat_lt b.blocks (blocks_of b.size)) (and_left (same_stage (if nat_lt b.blocks (blocks_of b.size) then Body else Open) Prepare) (b.snapshot.version == v) h))
  where
    not_prepare : (t : Bool) → same_stage (if t then Body else Open) Prepare ≡ true → ⊥
    not_prepare true e = absurd cc
    not_prepare false e = absurd cc
prepare_version false None true q r f run last v h = inl (sym (same_number run v h))
prepare_version false None false true r f run last v h = inr (sym (same_number last v h))
prepare_version false None false false true true run last v h = absurd cc
prepare_version false None false false true false run last v h = absurd cc
prepare_version false None false false false f run last v h = absurd cc

prepare_within : (restored : Option Backup) (guarded : Bool) (ds : List Deed) (v : ℕ) → is_work (due_vault restored guarded ds) Prepare v ≡ true → v ≤ last_version restored ds
prepare_within restored guarded ds v h = ⊎_elim
    (λ is. let up = run_version_up_to (last_version restored ds) (running (save_steps restored ds)) (run_up_to restored ds) in omega (arith, is, up))
    (λ is. omega (arith, is))
    (prepare_version (halted ds) (begun restored guarded ds) (held restored guarded ds && not (safe (running_version restored guarded ds) ds)) (dirty restored ds && not (backed restored ds)) (not (wanted restored guarded ds) && opened restored ds && may_discard restored guarded ds) (faded ds) (running_version restored guarded ds) (last_version restored ds) v h)

other_test : (a b : ℕ) → a ≢ b → (a == b) ≡ false
other_test a b apart = grind (arith, nat_tests)

at_more : (v : ℕ) (x : Version) (vs : List Version) → v ≤ length vs → version_at v (x ∷ vs) ≡ version_at v vs
at_more v x vs le = ap (λ (t : Bool). if t then x else version_at v vs) (other_test (length vs + 1) v (λ e. omega (arith, e, le)))

-- a version that is there stays
version_stays : (o : Outcome) (event : Event) (content : List ℕ) (back : Version) (vs : List Version) (v : ℕ) → v ≤ length vs → version_at v (versions_after o event content back vs) ≡ version_at v vs
version_stays (Opened s) event content back vs v le = at_more v _ vs le
version_stays (Created n) event content back vs v le = at_more v _ vs le
version_stays (Edited n) event content back vs v le = at_more v _ vs le
version_stays (Undone n) event content back vs v le = at_more v _ vs le
version_stays (Redone n) event content back vs v le = at_more v _ vs le
version_stays (Reverted s) event content back vs v le = at_more v _ vs le
version_stays _ event content back vs v le = refl

-- What an Open would open after these deeds is what the Prepare of this backup took, its version is there, and its size is
-- that version's.
pub record IsTaken (restored : Option Backup) (ds : List Deed) (b : Begun) : Type 0 where
  pub same : taken restored b.snapshot.version ds ≡ b.snapshot
  pub size : b.size ≡ (version_at b.snapshot.version (versions restored ds)).size
  pub within : b.snapshot.version ≤ last_version restored ds

-- A begun backup of a legal history is what an Open would open.
abbrev pub BegunIsTaken : Type 0
BegunIsTaken = (o : Opening) (es : List Entry) (c : ℕ) → is_legal o es ≡ true → (b : Begun) → begun (restored_at o c) o.guarded (own c es) ≡ Some b → IsTaken (restored_at o c) (own c es) b

next : (restored : Option Backup) (d : Deed) (ds : List Deed) (b : Begun) → prepared_base restored (d ∷ ds) ≡ prepared_base restored ds → IsTaken restored ds b → IsTaken restored (d ∷ ds) b
next restored d ds b base is =
    let v = b.snapshot.version in
    let stays : version_at v (versions restored (d ∷ ds)) ≡ version_at v (versions restored ds) = version_stays d.outcome d.event d.content _ (versions restored ds) v (let long = last_version_counts restored ds in omega (arith, long, is.within)) in
    record {
      same = ap (λ (x : Option Stat). snapshot v x (version_at v (versions restored (d ∷ ds))).content) base ∙ ap (λ (x : Version). snapshot v (prepared_base restored ds) x.content) stays ∙ is.same;
      size = is.size ∙ sym (ap (λ (x : Version). x.size) stays);
      within = let le = last_more (adds_version d.outcome) (last_version restored ds) in omega (arith, is.within, le);
    }

same_taken : (restored : Option Backup) (ds : List Deed) (b0 b : Begun) → b.snapshot ≡ b0.snapshot → b.size ≡ b0.size → IsTaken restored ds b0 → IsTaken restored ds b
same_taken restored ds b0 b same sized is = record {
  size = sized ∙ is.size ∙ ap (λ (s : Snapshot). (version_at s.version (versions restored ds)).size) (sym same);
  same = ap (λ (s : Snapshot). taken restored s.version ds) same ∙ is.same ∙ sym same;
  within = subst (λ (s : Snapshot). s.version ≤ last_version restored ds) (sym same) is.within;
}

still_is : (w : Bool) (x : Option Begun) (b : Begun) → (if w then x else None) ≡ Some b → x ≡ Some b
still_is true x b h = h
still_is false x b h = absurd cc

more_is : (w : Bool) (x : Option Begun) (b : Begun) → (if w then one_block_more x else None) ≡ Some b → (b0 : Begun) × (x ≡ Some b0) × (b.snapshot ≡ b0.snapshot) × (b.size ≡ b0.size)
more_is true None b h = absurd cc
more_is true (Some b0) b h = (b0, refl, cc, cc)
more_is false x b h = absurd cc

step : (o : Opening) (c : ℕ) (es : List Entry) (place : ℕ) (event : Event) (outcome : Outcome) (content : List ℕ) → is_of c event ≡ true → is_row o es event outcome ≡ true
    → ((b : Begun) → begun (restored_at o c) o.guarded (own c es) ≡ Some b → IsTaken (restored_at o c) (own c es) b)
    → (b : Begun) → begun (restored_at o c) o.guarded (deed place event outcome content ∷ own c es) ≡ Some b → IsTaken (restored_at o c) (deed place event outcome content ∷ own c es) b
step o c es place event (StageOk Prepare v) content is row ih b h =
    let e : prepared (restored_at o c) v (own c es) ≡ b = cc in
    subst (λ (x : Begun). IsTaken (restored_at o c) (deed place event (StageOk Prepare v) content ∷ own c es) x) e
    (record { same = refl; size = refl; within = prepare_within (restored_at o c) o.guarded (own c es) v (ok_was_due o es event Prepare v c is row) })
step o c es place event (StageOk Open v) content is row ih b h = absurd cc
step o c es place event (StageFault s v) content is row ih b h = absurd cc
step o c es place event (StageOk Body v) content is row ih b h =
    let m = more_is (wanted (restored_at o c) o.guarded (deed place event (StageOk Body v) content ∷ own c es)) (begun (restored_at o c) o.guarded (own c es)) b h in
    next (restored_at o c) (deed place event (StageOk Body v) content) (own c es) b refl (same_taken (restored_at o c) (own c es) m.0 b m.2 m.3 (ih m.0 m.1))
step o c es place event outcome content is row ih b h =
    next (restored_at o c) (deed place event outcome content) (own c es) b refl
    (ih b (still_is (wanted (restored_at o c) o.guarded (deed place event outcome content ∷ own c es)) (begun (restored_at o c) o.guarded (own c es)) b h))

pub begun_is_taken : BegunIsTaken
begun_is_taken o es c legal = keeps o c (λ ds. (b : Begun) → begun (restored_at o c) o.guarded ds ≡ Some b → IsTaken (restored_at o c) ds b) (λ b h. absurd cc) (step o c) es legal
