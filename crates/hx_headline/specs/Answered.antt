-- Behind a life that ended by a script or a restart each request to save has its answer.
use Rattle.std.specs.Prelude.{◌≡◌, ◌≤◌, ◌<◌, ◌+◌, ◌==◌, ℕ, not, Bool, true, false, ◌&&◌, ◌||◌, List, [], ◌∷◌, length, cond, Option, Some, None, is_some, is_none, refl}
use Rattle.std.proofs.Common.{zero, suc, arith, ap, sym, ◌∙◌, subst}
use Rattle.std.proofs.lemmas.Bool.Decides.{nat_tests}
use Rattle.hx_events.specs.declared.backup.Backup.{Backup}
use Rattle.hx_events.specs.declared.event.Command.TheVariants.{Save, Open as OpenCommand}
use Rattle.hx_events.specs.declared.event.Event.{Event}
use Rattle.hx_events.specs.declared.event.Event.TheVariants.{Act, Vault, Flush, Quit}
use Rattle.hx_events.specs.declared.life.Entry.{Entry}
use Rattle.hx_events.specs.declared.outcome.Outcome.{Outcome}
use Rattle.hx_events.specs.declared.outcome.Outcome.TheVariants.{Joined, Clean, Queued, Started, Checked, CheckFault, Modified, WriteFault, Unguarded, Saved}
use Rattle.hx_rules.specs.declared.saves.Asked.{Asked}
use Rattle.hx_rules.specs.declared.saves.Asked.TheVariants.{Joined as SaidJoined, Clean as SaidClean, Queued as SaidQueued, Started as SaidStarted}
use Rattle.hx_rules.specs.declared.saves.Running.{Running}
use Rattle.hx_rules.specs.declared.saves.QueuedSave.{QueuedSave}
use Rattle.hx_rules.specs.declared.saves.SaveAnswer.{SaveAnswer}
use Rattle.hx_rules.specs.Copies.{dirty}
use Rattle.hx_rules.specs.Entries.{Deed, deed, own, is_of}
use Rattle.hx_rules.specs.Interleavings.{is_quit}
use Rattle.hx_rules.specs.Legal.{Opening, restored_at, is_row, is_joined, is_queued, is_legal, is_quiet, is_registered_at, run_at, last_at, vault_due, save_due, lowest_from}
use Rattle.hx_rules.specs.Saves.{SaveStep, Ask, Check, Finish, asked_by, queued, queued_after, starts, running, run_asked, run_checked, run_finished, overwrites, Standing, Runs, Waits, Has, standing, standing_asked, standing_finished_if, answer, answer_in, asks, steps_after, save_steps}
use Rattle.hx_rules.specs.Versions.{last_version}
use Rattle.hx_rules_laws.specs.Frames.{adds_deed, leaves_others, same_number}
use Rattle.hx_rules_laws.specs.Quiet.{no_save_runs}
use Rattle.hx_rules_laws.specs.Rows.{and_left, and_right}
use Rattle.hx_lives.specs.Quiet.{is_quiet_before_quit}

-- Where the last entry of a legal history is the question whether the program may end, and nothing was due before it, each ticket that
-- was given has its answer.
abbrev pub AllTicketsAreAnswered : Type 0
AllTicketsAreAnswered = (o : Opening) (es : List Entry) (c t : ℕ) → is_legal o es ≡ true → is_quiet_before_quit o es ≡ true → c < length o.restored
    → is_some (standing t (save_steps (restored_at o c) (own c es))) ≡ true → is_some (answer t (save_steps (restored_at o c) (own c es))) ≡ true

-- A request that runs has a running save, one that waits is in the queue, and there is no queue without a running save.
record Agree (run : Option Running) (q : Option QueuedSave) (s : Option Standing) : Type 0 where
  runs : s ≡ Some Runs → is_some run ≡ true
  waits : s ≡ Some Waits → is_some q ≡ true
  queue : is_some q ≡ true → is_some run ≡ true

-- a request joins or waits for a save that runs
abbrev CanAsk : Asked → Option Running → Type 0
CanAsk SaidJoined run = is_some run ≡ true
CanAsk SaidQueued run = is_some run ≡ true
CanAsk SaidClean run = Unit {0}
CanAsk SaidStarted run = Unit {0}

after_asking : (asked : Asked) (b : Bool) (run : Option Running) (q : Option QueuedSave) (s : Option Standing) (last : ℕ) (force over : Bool) → CanAsk asked run → Agree run q s → Agree (run_asked asked last over run) (queued_after asked force over q) (cond b (Some (standing_asked asked)) s)
after_asking SaidJoined true run q s last force over can was = record { runs = λ _. can; waits = λ h. absurd cc; queue = was.queue }
after_asking SaidJoined false run q s last force over can was = was
after_asking SaidClean true run q s last force over can was = record { runs = λ h. absurd cc; waits = λ h. absurd cc; queue = was.queue }
after_asking SaidClean false run q s last force over can was = was
after_asking SaidQueued true run q s last force over can was = record { runs = λ _. can; waits = λ _. refl; queue = λ _. can }
after_asking SaidQueued false run q s last force over can was = record { runs = λ _. can; waits = λ _. refl; queue = λ _. can }
after_asking SaidStarted true run q s last force over can was = record { runs = λ _. refl; waits = λ h. absurd cc; queue = λ _. refl }
after_asking SaidStarted false run q s last force over can was = record { runs = λ _. refl; waits = was.waits; queue = λ _. refl }

checked_too : (run : Option Running) → is_some run ≡ true → is_some (run_checked run) ≡ true
checked_too None is = absurd cc
checked_too (Some r) is = refl

after_check : (run : Option Running) (q : Option QueuedSave) (s : Option Standing) → Agree run q s → Agree (run_checked run) q s
after_check run q s was = record { runs = λ h. checked_too run (was.runs h); waits = was.waits; queue = λ h. checked_too run (was.queue h) }

after_finish : (b : Bool) (s : Option Standing) (a : SaveAnswer) (run : Running) → Agree (cond b (Some run) None) None (standing_finished_if b a s)
after_finish b None a run = record { runs = λ h. absurd cc; waits = λ h. absurd cc; queue = λ h. absurd cc }
after_finish b (Some Runs) a run = record { runs = λ h. absurd cc; waits = λ h. absurd cc; queue = λ h. absurd cc }
after_finish true (Some Waits) a run = record { runs = λ _. refl; waits = λ h. absurd cc; queue = λ h. absurd cc }
after_finish false (Some Waits) a run = record { runs = λ h. absurd cc; waits = λ h. absurd cc; queue = λ h. absurd cc }
after_finish b (Some (Has x)) a run = record { runs = λ h. absurd cc; waits = λ h. absurd cc; queue = λ h. absurd cc }

abbrev AgreesAt : ℕ → List SaveStep → Type 0
AgreesAt t steps = Agree (running steps) (queued steps) (standing t steps)

ended : (t last : ℕ) (is_dirty : Bool) (a : SaveAnswer) (steps : List SaveStep) → AgreesAt t (Finish last is_dirty a ∷ steps)
ended t last is_dirty a steps = after_finish (starts (queued steps) is_dirty) (standing t steps) a (record { version = last; over = overwrites (queued steps); checked = false })

-- what a save's row says of the save that runs
joins : (is_open : Bool) (run : Option Running) (last : ℕ) (is_dirty force : Bool) → (is_open && is_joined (asked_by run last is_dirty force)) ≡ true → is_some run ≡ true
joins is_open (Some r) last is_dirty force h = refl
joins false None last is_dirty force h = absurd cc
joins true None last true force h = absurd cc
joins true None last false true h = absurd cc
joins true None last false false h = absurd cc

queues : (is_open : Bool) (run : Option Running) (last : ℕ) (is_dirty force : Bool) → (is_open && is_queued (asked_by run last is_dirty force)) ≡ true → is_some run ≡ true
queues is_open (Some r) last is_dirty force h = refl
queues false None last is_dirty force h = absurd cc
queues true None last true force h = absurd cc
queues true None last false true h = absurd cc
queues true None last false false h = absurd cc

module _ (o : Opening) (es : List Entry) (c t : ℕ) where
  abbrev before : List SaveStep
  before = save_steps (restored_at o c) (own c es)

  joined : (event : Event) (place last : ℕ) (was_dirty : Bool) → is_of c event ≡ true → is_row o es event Joined ≡ true → AgreesAt t before → AgreesAt t (asks event place last was_dirty SaidJoined before)
  joined (Act (Save k force over)) place last was_dirty here row was =
      after_asking SaidJoined (place == t) (running before) (queued before) (standing t before) last force over
      (subst (λ (n : ℕ). is_some (run_at o es n) ≡ true) (same_number k c here) (joins (is_registered_at o es k) (run_at o es k) (last_at o es k) (dirty (restored_at o k) (own k es)) force row)) was
  joined (Act (OpenCommand k)) place last was_dirty here row was = was
  joined _ place last was_dirty here row was = was

  waited : (event : Event) (place last : ℕ) (was_dirty : Bool) → is_of c event ≡ true → is_row o es event Queued ≡ true → AgreesAt t before → AgreesAt t (asks event place last was_dirty SaidQueued before)
  waited (Act (Save k force over)) place last was_dirty here row was =
      after_asking SaidQueued (place == t) (running before) (queued before) (standing t before) last force over
      (subst (λ (n : ℕ). is_some (run_at o es n) ≡ true) (same_number k c here) (queues (is_registered_at o es k) (run_at o es k) (last_at o es k) (dirty (restored_at o k) (own k es)) force row)) was
  waited (Act (OpenCommand k)) place last was_dirty here row was = was
  waited _ place last was_dirty here row was = was

  free : (asked : Asked) (event : Event) (place last : ℕ) (was_dirty : Bool) → ((run : Option Running) → CanAsk asked run) → AgreesAt t before → AgreesAt t (asks event place last was_dirty asked before)
  free asked (Act (Save k force over)) place last was_dirty can was = after_asking asked (place == t) (running before) (queued before) (standing t before) last force over (can (running before)) was
  free asked (Act (OpenCommand k)) place last was_dirty can was = was
  free asked _ place last was_dirty can was = was

  step : (outcome : Outcome) (event : Event) (place last : ℕ) (was is : Bool) → is_of c event ≡ true → is_row o es event outcome ≡ true → AgreesAt t before → AgreesAt t (steps_after outcome event place last was is before)
  step Joined event place last was is here row agree = joined event place last was here row agree
  step Clean event place last was is here row agree = free SaidClean event place last was (λ _. tt) agree
  step Queued event place last was is here row agree = waited event place last was here row agree
  step (Started v) event place last was is here row agree = free SaidStarted event place last was (λ _. tt) agree
  step (Checked x) event place last was is here row agree = after_check (running before) (queued before) (standing t before) agree
  step CheckFault event place last was is here row agree = ended t last is _ before
  step (Modified s) event place last was is here row agree = ended t last is _ before
  step (WriteFault v) event place last was is here row agree = ended t last is _ before
  step (Unguarded v) event place last was is here row agree = ended t last is _ before
  step (Saved v x) event place last was is here row agree = ended t last is _ before
  step _ event place last was is here row agree = agree

agrees : (o : Opening) (es : List Entry) (c t : ℕ) → is_legal o es ≡ true → AgreesAt t (save_steps (restored_at o c) (own c es))
agrees o [] c t legal = record { runs = λ h. absurd cc; waits = λ h. absurd cc; queue = λ h. absurd cc }
agrees o (e ∷ es) c t legal = go (agrees o es c t (and_right (is_row o es e.event e.outcome) (is_legal o es) legal)) (is_of c e.event) refl (adds_deed c e es) (leaves_others c e es)
  where
    go : AgreesAt t (save_steps (restored_at o c) (own c es)) → (b : Bool) → is_of c e.event ≡ b → (b ≡ true → own c (e ∷ es) ≡ deed (length es + 1) e.event e.outcome e.content ∷ own c es) → (b ≡ false → own c (e ∷ es) ≡ own c es)
        → AgreesAt t (save_steps (restored_at o c) (own c (e ∷ es)))
    go earlier true is here other =
        let d = deed (length es + 1) e.event e.outcome e.content in
        subst (λ (ds : List Deed). AgreesAt t (save_steps (restored_at o c) ds)) (sym (here refl))
        (step o es c t e.outcome e.event (length es + 1) (last_version (restored_at o c) (own c es)) (dirty (restored_at o c) (own c es)) (dirty (restored_at o c) (d ∷ own c es)) is (and_left (is_row o es e.event e.outcome) (is_legal o es) legal) earlier)
    go earlier false is here other = subst (λ (ds : List Deed). AgreesAt t (save_steps (restored_at o c) ds)) (sym (other refl)) earlier

-- where no number passes the test, none does
none_passes : (test : ℕ → Bool) (i n c : ℕ) → is_none (lowest_from test i n) ≡ true → i ≤ c → c < i + n → test c ≡ false
none_passes test i zero c none from below = absurd (omega (arith, from, below))
none_passes test i (suc n) c none from below =
    go (test i) refl (i == c) refl none (λ other rest. none_passes test (i + 1) n c rest (omega (arith, from, other)) (omega (arith, below)))
  where
    itself : (k : ℕ) → (k == k) ≡ true
    itself k = grind (arith, nat_tests)

    differs : (i == c) ≡ false → i ≡ c → ⊥
    differs other equal = absurd (let both : true ≡ false = sym (subst (λ (k : ℕ). (i == k) ≡ true) equal (itself i)) ∙ other in cc)

    go : (first : Bool) → test i ≡ first → (same : Bool) → (i == c) ≡ same → is_none (cond first (Some i) (lowest_from test (i + 1) n)) ≡ true
        → ((i ≡ c → ⊥) → is_none (lowest_from test (i + 1) n) ≡ true → test c ≡ false) → test c ≡ false
    go true passes same is none later = absurd cc
    go false passes true is none later = subst (λ (k : ℕ). test k ≡ false) (same_number i c is) passes
    go false passes false is none later = later (differs is) none

neither : (a b : Bool) → (a || b) ≡ false → (a ≡ false) × (b ≡ false)
neither false false h = (refl, refl)
neither true b h = absurd cc
neither false true h = absurd cc

no_work : {A : Type 0} (x : Option A) → is_some x ≡ false → x ≡ None
no_work None h = refl
no_work (Some a) h = absurd cc

has_answer : (run : Option Running) (q : Option QueuedSave) (s : Option Standing) → run ≡ None → Agree run q s → is_some s ≡ true → is_some (answer_in s) ≡ true
has_answer (Some r) q s none agree asked = absurd cc
has_answer None q None none agree asked = absurd cc
has_answer None q (Some Runs) none agree asked = absurd (let no : false ≡ true = agree.runs refl in cc)
has_answer None q (Some Waits) none agree asked = absurd (let no : false ≡ true = agree.queue (agree.waits refl) in cc)
has_answer None q (Some (Has a)) none agree asked = refl

answered_if_quiet : (o : Opening) (es : List Entry) (c t : ℕ) → is_legal o es ≡ true → is_quiet o es ≡ true → c < length o.restored
    → is_some (standing t (save_steps (restored_at o c) (own c es))) ≡ true → is_some (answer t (save_steps (restored_at o c) (own c es))) ≡ true
answered_if_quiet o es c t legal quiet below asked =
    let idle = neither (is_some (vault_due o es c)) (is_some (save_due o es c)) (none_passes (λ k. is_some (vault_due o es k) || is_some (save_due o es k)) 0 (length o.restored) c quiet (omega arith) (omega (arith, below))) in
    has_answer (running (save_steps (restored_at o c) (own c es))) (queued (save_steps (restored_at o c) (own c es))) (standing t (save_steps (restored_at o c) (own c es)))
    (no_save_runs (restored_at o c) o.guarded (own c es) (no_work (vault_due o es c) idle.0) (no_work (save_due o es c) idle.1)) (agrees o es c t legal) asked

not_its_own : (c : ℕ) (event : Event) → is_quit event ≡ true → is_of c event ≡ false
not_its_own c Quit is = refl
not_its_own c (Act command) is = absurd cc
not_its_own c (Vault r) is = absurd cc
not_its_own c (Flush r) is = absurd cc

pub all_tickets_are_answered : AllTicketsAreAnswered
all_tickets_are_answered o [] c t legal quiet below asked = absurd cc
all_tickets_are_answered o (e ∷ es) c t legal quiet below asked =
    let before : own c (e ∷ es) ≡ own c es = leaves_others c e es (not_its_own c e.event (and_left (is_quit e.event) (is_quiet o es) quiet)) in
    ap (λ (ds : List Deed). is_some (answer t (save_steps (restored_at o c) ds))) before
    ∙ answered_if_quiet o es c t (and_right (is_row o es e.event e.outcome) (is_legal o es) legal) (and_right (is_quit e.event) (is_quiet o es) quiet) below
    (sym (ap (λ (ds : List Deed). is_some (standing t (save_steps (restored_at o c) ds))) before) ∙ asked)
