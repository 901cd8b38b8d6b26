-- What a save says it wrote is not older than what was asked for.
use Rattle.std.specs.Prelude.{◌≡◌, ℕ, ◌+◌, ◌==◌, ◌≤◌, not, Bool, true, false, ◌&&◌, ◌||◌, List, ◌∷◌, if◌then◌else◌, Option, Some, None, refl}
use Rattle.std.proofs.Common.{arith, subst}
use Rattle.std.proofs.lemmas.Bool.Decides.{nat_tests}
use Rattle.hx_events.specs.declared.event.Command.TheVariants.{Save, Open as OpenCommand}
use Rattle.hx_events.specs.declared.event.Event.{Event}
use Rattle.hx_events.specs.declared.event.Event.TheVariants.{Act, Flush}
use Rattle.hx_events.specs.declared.life.Entry.{Entry}
use Rattle.hx_events.specs.declared.outcome.Outcome.{Outcome}
use Rattle.hx_events.specs.declared.outcome.Outcome.TheVariants.{Opened, Created, Edited, Undone, Redone, Reverted, Joined, Clean, Queued, Started, Checked, CheckFault, Modified, WriteFault, Unguarded, Saved}
use Rattle.hx_rules.specs.declared.saves.Asked.{Asked}
use Rattle.hx_rules.specs.declared.saves.Asked.TheVariants.{Joined as SaidJoined, Clean as SaidClean, Queued as SaidQueued, Started as SaidStarted}
use Rattle.hx_rules.specs.declared.saves.Running.{Running}
use Rattle.hx_rules.specs.declared.saves.QueuedSave.{QueuedSave}
use Rattle.hx_rules.specs.declared.saves.SaveAnswer.{SaveAnswer}
use Rattle.hx_rules.specs.declared.saves.SaveAnswer.TheVariants.{Saved as AnswerSaved, Clean as AnswerClean, ModifiedSince, DiskFault, Unguarded as AnswerUnguarded}
use Rattle.hx_rules.specs.Entries.{deed, own, is_of}
use Rattle.hx_rules.specs.Versions.{last_version}
use Rattle.hx_rules.specs.Copies.{dirty}
use Rattle.hx_rules.specs.Saves.{SaveStep, Ask, asked_by, queued, starts, running, run_finished, run_checked, Standing, Runs, Waits, Has, standing, standing_finished, standing_finished_if, answer, answer_in, version_asked, asks, save_steps}
use Rattle.hx_rules.specs.Backups.{halted, safe}
use Rattle.hx_rules.specs.Due.{Check as Pending, Write, Refuse, save_work, running_version}
use Rattle.hx_rules.specs.Legal.{Opening, restored_at, is_legal, is_row, is_joined, is_started, is_write, is_registered_at, run_at, last_at, save_due}
use Rattle.hx_etag.specs.declared.stat.Stat.{Stat}
use Rattle.hx_rules_laws.specs.Frames.{same_number}
use Rattle.hx_rules_laws.specs.Rows.{and_left, and_right}
use Rattle.hx_rules_laws.specs.Legals.{keeps}

-- In a legal history the version that an answer says was saved is at least the last version when the request was made.
abbrev pub SavedIsNotOlder : Type 0
SavedIsNotOlder = (o : Opening) (es : List Entry) (c t v n : ℕ) → is_legal o es ≡ true
    → answer t (save_steps (restored_at o c) (own c es)) ≡ Some (AnswerSaved v) → version_asked t (save_steps (restored_at o c) (own c es)) ≡ Some n → n ≤ v

-- a save runs, of no version below n
abbrev pub IsRunFrom : Option Running → ℕ → Type 0
IsRunFrom None n = ⊥
IsRunFrom (Some run) n = n ≤ run.version

-- the answer is of no version below n, where it says that one was saved
abbrev pub IsSavedFrom : SaveAnswer → ℕ → Type 0
IsSavedFrom (AnswerSaved v) n = n ≤ v
IsSavedFrom _ n = Unit {0}

-- a request of the version n that stands so is served by no older one
abbrev pub IsServed : Standing → Option Running → ℕ → ℕ → Type 0
IsServed Runs run last n = IsRunFrom run n
IsServed Waits run last n = n ≤ last
IsServed (Has a) run last n = IsSavedFrom a n

abbrev pub IsServedIf : Option ℕ → Option Standing → Option Running → ℕ → Type 0
IsServedIf None s run last = Unit {0}
IsServedIf (Some n) None run last = Unit {0}
IsServedIf (Some n) (Some s) run last = IsServed s run last n

served_more : (n : Option ℕ) (s : Option Standing) (run : Option Running) (last : ℕ) → IsServedIf n s run last → IsServedIf n s run (last + 1)
served_more None s run last is = tt
served_more (Some n) None run last is = tt
served_more (Some n) (Some Runs) run last is = is
served_more (Some n) (Some Waits) run last is = omega (arith, is)
served_more (Some n) (Some (Has a)) run last is = is

checked_from : (run : Option Running) (n : ℕ) → IsRunFrom run n → IsRunFrom (run_checked run) n
checked_from None n is = is
checked_from (Some run) n is = is

served_checked : (n : Option ℕ) (s : Option Standing) (run : Option Running) (last : ℕ) → IsServedIf n s run last → IsServedIf n s (run_checked run) last
served_checked None s run last is = tt
served_checked (Some n) None run last is = tt
served_checked (Some n) (Some Runs) run last is = checked_from run n is
served_checked (Some n) (Some Waits) run last is = is
served_checked (Some n) (Some (Has a)) run last is = is

-- a finish: whose save ran has its answer, and who waited runs or is answered Clean
finish_waits : (q : Option QueuedSave) (is_dirty : Bool) (a : SaveAnswer) (last n : ℕ) → n ≤ last → IsServed (standing_finished (starts q is_dirty) a Waits) (run_finished q is_dirty last) last n
finish_waits None is_dirty a last n le = tt
finish_waits (Some q) is_dirty a last n le = go (is_dirty || q.force)
  where
    go : (b : Bool) → IsServed (standing_finished b a Waits) (if b then Some record { version = last; over = q.over; checked = false } else None) last n
    go true = le
    go false = tt

-- what the answer says was saved is what ran
abbrev pub IsAnswerOf : SaveAnswer → Option Running → Type 0
IsAnswerOf (AnswerSaved v) None = ⊥
IsAnswerOf (AnswerSaved v) (Some run) = run.version ≡ v
IsAnswerOf _ run = Unit {0}

answered_from : (a : SaveAnswer) (run : Option Running) (n : ℕ) → IsAnswerOf a run → IsRunFrom run n → IsSavedFrom a n
answered_from (AnswerSaved v) None n of is = absurd of
answered_from (AnswerSaved v) (Some run) n of is = omega (arith, of, is)
answered_from AnswerClean run n of is = tt
answered_from _ run n of is = tt

served_finished : (n : Option ℕ) (s : Option Standing) (run : Option Running) (q : Option QueuedSave) (is_dirty : Bool) (a : SaveAnswer) (last : ℕ) → IsAnswerOf a run → IsServedIf n s run last
    → IsServedIf n (standing_finished_if (starts q is_dirty) a s) (run_finished q is_dirty last) last
served_finished None s run q is_dirty a last of is = tt
served_finished (Some n) None run q is_dirty a last of is = tt
served_finished (Some n) (Some Runs) run q is_dirty a last of is = answered_from a run n of is
served_finished (Some n) (Some Waits) run q is_dirty a last of is = finish_waits q is_dirty a last n is
served_finished (Some n) (Some (Has b)) run q is_dirty a last of is = is

-- what is said of the ticket t after these steps
abbrev pub Serves : ℕ → List SaveStep → ℕ → Type 0
Serves t steps last = IsServedIf (version_asked t steps) (standing t steps) (running steps) last

-- a request: it is served itself, and the others as before
abbrev pub asked_is_served : Asked → Option Running → ℕ → Type 0
asked_is_served SaidJoined run last = IsRunFrom run last
asked_is_served SaidStarted run last = run ≡ None
asked_is_served _ run last = Unit {0}

served_started : (n : Option ℕ) (s : Option Standing) (run : Option Running) (over : Bool) (last : ℕ) → run ≡ None → IsServedIf n s run last → IsServedIf n s (Some record { version = last; over = over; checked = false }) last
served_started None s run over last none is = tt
served_started (Some n) None run over last none is = tt
served_started (Some n) (Some Runs) run over last none is = absurd (subst (λ (r : Option Running). IsRunFrom r n) none is)
served_started (Some n) (Some Waits) run over last none is = is
served_started (Some n) (Some (Has a)) run over last none is = is

serves_ask : (t place last : ℕ) (is_dirty force over : Bool) (asked : Asked) (steps : List SaveStep) → asked_is_served asked (running steps) last → Serves t steps last → Serves t (Ask place last is_dirty force over asked ∷ steps) last
serves_ask t place last is_dirty force over SaidJoined steps mine is = go (place == t)
  where
    go : (b : Bool) → IsServedIf (if b then Some last else version_asked t steps) (if b then Some Runs else standing t steps) (running steps) last
    go true = mine
    go false = is
serves_ask t place last is_dirty force over SaidClean steps mine is = go (place == t)
  where
    go : (b : Bool) → IsServedIf (if b then Some last else version_asked t steps) (if b then Some (Has AnswerClean) else standing t steps) (running steps) last
    go true = tt
    go false = is
serves_ask t place last is_dirty force over SaidQueued steps mine is = go (place == t)
  where
    go : (b : Bool) → IsServedIf (if b then Some last else version_asked t steps) (if b then Some Waits else standing t steps) (running steps) last
    go true = omega arith
    go false = is
serves_ask t place last is_dirty force over SaidStarted steps mine is = go (place == t)
  where
    go : (b : Bool) → IsServedIf (if b then Some last else version_asked t steps) (if b then Some Runs else standing t steps) (Some record { version = last; over = over; checked = false }) last
    go true = omega arith
    go false = served_started (version_asked t steps) (standing t steps) (running steps) over last mine is

joined_runs : (run : Option Running) (last : ℕ) (is_dirty force : Bool) → is_joined (asked_by run last is_dirty force) ≡ true → IsRunFrom run last
joined_runs None last is_dirty force h = absurd (go (not is_dirty && not force) h)
  where
    go : (b : Bool) → is_joined (if false then SaidJoined else if b then SaidClean else if false then SaidQueued else SaidStarted) ≡ true → ⊥
    go true h = absurd cc
    go false h = absurd cc
joined_runs (Some run) last is_dirty force h = let same : (run.version == last) ≡ true = go (run.version == last) (not is_dirty && not force) h in grind (arith, nat_tests)
  where
    go : (a b : Bool) → is_joined (if a then SaidJoined else if b then SaidClean else if true then SaidQueued else SaidStarted) ≡ true → a ≡ true
    go true b h = refl
    go false true h = absurd cc
    go false false h = absurd cc

started_rests : (run : Option Running) (last : ℕ) (is_dirty force : Bool) → is_started (asked_by run last is_dirty force) ≡ true → run ≡ None
started_rests None last is_dirty force h = refl
started_rests (Some run) last is_dirty force h = absurd (go (run.version == last) (not is_dirty && not force) h)
  where
    go : (a b : Bool) → is_started (if a then SaidJoined else if b then SaidClean else if true then SaidQueued else SaidStarted) ≡ true → ⊥
    go true b h = absurd cc
    go false true h = absurd cc
    go false false h = absurd cc

-- what the deed of an event that is a request adds
asks_serve : (o : Opening) (c t : ℕ) (es : List Entry) (event : Event) (outcome : Outcome) (asked : Asked) (place : ℕ)
    → ((force over : Bool) → is_row o es (Act (Save c force over)) outcome ≡ true → asked_is_served asked (run_at o es c) (last_at o es c))
    → is_of c event ≡ true → is_row o es event outcome ≡ true
    → Serves t (save_steps (restored_at o c) (own c es)) (last_at o es c)
    → Serves t (asks event place (last_at o es c) (dirty (restored_at o c) (own c es)) asked (save_steps (restored_at o c) (own c es))) (last_at o es c)
asks_serve o c t es (Act (Save k force over)) outcome asked place mine is row serves =
    serves_ask t place (last_at o es c) (dirty (restored_at o c) (own c es)) force over asked (save_steps (restored_at o c) (own c es)) (mine force over (subst (λ (n : ℕ). is_row o es (Act (Save n force over)) outcome ≡ true) (same_number k c is) row)) serves
asks_serve o c t es (Act (OpenCommand k)) outcome asked place mine is row serves = serves
asks_serve o c t es _ outcome asked place mine is row serves = serves

-- a completed save is of the running version
write_runs : (guarded safe halted : Bool) (run : Option Running) (v : ℕ) → is_write (save_work guarded safe halted run) v ≡ true → IsAnswerOf (AnswerSaved v) run
write_runs guarded safe halted None v h = absurd cc
write_runs guarded safe halted (Some run) v h = go run.checked (not guarded || safe) halted h
  where
    go : (c w d : Bool) → is_write (if not c then Some Pending else if w then Some (Write run.version) else if d then Some (Refuse run.version) else None) v ≡ true → run.version ≡ v
    go false w d h = absurd cc
    go true true d h = same_number run.version v h
    go true false true h = absurd cc
    go true false false h = absurd cc

saved_row : (o : Opening) (es : List Entry) (event : Event) (v c : ℕ) (x : Option Stat) → is_of c event ≡ true → is_row o es event (Saved v x) ≡ true → IsAnswerOf (AnswerSaved v) (run_at o es c)
saved_row o es (Flush k) v c x is row =
    write_runs o.guarded (safe (running_version (restored_at o c) o.guarded (own c es)) (own c es)) (halted (own c es)) (run_at o es c) v
    (subst (λ (n : ℕ). is_write (save_due o es n) v ≡ true) (same_number k c is) row)
saved_row o es (Act (OpenCommand k)) v c x is row = absurd cc
saved_row o es _ v c x is row = absurd cc

serves_step : (o : Opening) (t c : ℕ) (es : List Entry) (place : ℕ) (event : Event) (outcome : Outcome) (content : List ℕ) → is_of c event ≡ true → is_row o es event outcome ≡ true
    → Serves t (save_steps (restored_at o c) (own c es)) (last_at o es c)
    → Serves t (save_steps (restored_at o c) (deed place event outcome content ∷ own c es)) (last_version (restored_at o c) (deed place event outcome content ∷ own c es))
serves_step o t c es place event (Opened s) content is row ih = served_more (version_asked t (save_steps (restored_at o c) (own c es))) (standing t (save_steps (restored_at o c) (own c es))) (run_at o es c) (last_at o es c) ih
serves_step o t c es place event (Created n) content is row ih = served_more (version_asked t (save_steps (restored_at o c) (own c es))) (standing t (save_steps (restored_at o c) (own c es))) (run_at o es c) (last_at o es c) ih
serves_step o t c es place event (Edited n) content is row ih = served_more (version_asked t (save_steps (restored_at o c) (own c es))) (standing t (save_steps (restored_at o c) (own c es))) (run_at o es c) (last_at o es c) ih
serves_step o t c es place event (Undone n) content is row ih = served_more (version_asked t (save_steps (restored_at o c) (own c es))) (standing t (save_steps (restored_at o c) (own c es))) (run_at o es c) (last_at o es c) ih
serves_step o t c es place event (Redone n) content is row ih = served_more (version_asked t (save_steps (restored_at o c) (own c es))) (standing t (save_steps (restored_at o c) (own c es))) (run_at o es c) (last_at o es c) ih
serves_step o t c es place event (Reverted s) content is row ih = served_more (version_asked t (save_steps (restored_at o c) (own c es))) (standing t (save_steps (restored_at o c) (own c es))) (run_at o es c) (last_at o es c) ih
serves_step o t c es place event Joined content is row ih = asks_serve o c t es event Joined SaidJoined place
    (λ force over r. joined_runs (run_at o es c) (last_at o es c) (dirty (restored_at o c) (own c es)) force
    (and_right (is_registered_at o es c) (is_joined (asked_by (run_at o es c) (last_at o es c) (dirty (restored_at o c) (own c es)) force)) r)) is row ih
serves_step o t c es place event Clean content is row ih = asks_serve o c t es event Clean SaidClean place (λ force over r. tt) is row ih
serves_step o t c es place event Queued content is row ih = asks_serve o c t es event Queued SaidQueued place (λ force over r. tt) is row ih
serves_step o t c es place event (Started n) content is row ih = asks_serve o c t es event (Started n) SaidStarted place
    (λ force over r. started_rests (run_at o es c) (last_at o es c) (dirty (restored_at o c) (own c es)) force
    (and_right (is_registered_at o es c) (is_started (asked_by (run_at o es c) (last_at o es c) (dirty (restored_at o c) (own c es)) force))
    (and_left (is_registered_at o es c && is_started (asked_by (run_at o es c) (last_at o es c) (dirty (restored_at o c) (own c es)) force)) (n == last_at o es c) r))) is row ih
serves_step o t c es place event (Checked x) content is row ih = served_checked (version_asked t (save_steps (restored_at o c) (own c es))) (standing t (save_steps (restored_at o c) (own c es))) (run_at o es c) (last_at o es c) ih
serves_step o t c es place event CheckFault content is row ih = served_finished (version_asked t (save_steps (restored_at o c) (own c es))) (standing t (save_steps (restored_at o c) (own c es))) (run_at o es c) (queued (save_steps (restored_at o c) (own c es))) (dirty (restored_at o c) (deed place event CheckFault content ∷ own c es)) DiskFault (last_at o es c) tt ih
serves_step o t c es place event (Modified s) content is row ih = served_finished (version_asked t (save_steps (restored_at o c) (own c es))) (standing t (save_steps (restored_at o c) (own c es))) (run_at o es c) (queued (save_steps (restored_at o c) (own c es))) (dirty (restored_at o c) (deed place event (Modified s) content ∷ own c es)) ModifiedSince (last_at o es c) tt ih
serves_step o t c es place event (WriteFault v) content is row ih = served_finished (version_asked t (save_steps (restored_at o c) (own c es))) (standing t (save_steps (restored_at o c) (own c es))) (run_at o es c) (queued (save_steps (restored_at o c) (own c es))) (dirty (restored_at o c) (deed place event (WriteFault v) content ∷ own c es)) DiskFault (last_at o es c) tt ih
serves_step o t c es place event (Unguarded v) content is row ih = served_finished (version_asked t (save_steps (restored_at o c) (own c es))) (standing t (save_steps (restored_at o c) (own c es))) (run_at o es c) (queued (save_steps (restored_at o c) (own c es))) (dirty (restored_at o c) (deed place event (Unguarded v) content ∷ own c es)) AnswerUnguarded (last_at o es c) tt ih
serves_step o t c es place event (Saved v x) content is row ih = served_finished (version_asked t (save_steps (restored_at o c) (own c es))) (standing t (save_steps (restored_at o c) (own c es))) (run_at o es c) (queued (save_steps (restored_at o c) (own c es))) (dirty (restored_at o c) (deed place event (Saved v x) content ∷ own c es)) (AnswerSaved v) (last_at o es c) (saved_row o es event v c x is row) ih
serves_step o t c es place event _ content is row ih = ih

from_answer : (n v last : ℕ) (run : Option Running) (m : Option ℕ) (s : Option Standing) → m ≡ Some n → answer_in s ≡ Some (AnswerSaved v) → IsServedIf m s run last → n ≤ v
from_answer n v last run None s asked answered is = absurd cc
from_answer n v last run (Some m) None asked answered is = absurd cc
from_answer n v last run (Some m) (Some Runs) asked answered is = absurd cc
from_answer n v last run (Some m) (Some Waits) asked answered is = absurd cc
from_answer n v last run (Some m) (Some (Has a)) asked answered is =
    let same : m ≡ n = cc in let of : a ≡ AnswerSaved v = cc in
    let saved : m ≤ v = subst (λ (b : SaveAnswer). IsSavedFrom b m) of is in omega (arith, same, saved)

pub saved_is_not_older : SavedIsNotOlder
saved_is_not_older o es c t v n legal answered asked =
    from_answer n v (last_at o es c) (run_at o es c) (version_asked t (save_steps (restored_at o c) (own c es))) (standing t (save_steps (restored_at o c) (own c es))) asked answered
    (keeps o c (λ ds. Serves t (save_steps (restored_at o c) ds) (last_version (restored_at o c) ds)) tt (serves_step o t c) es legal)
