-- The laws of saves are proved here.
use Rattle.std.specs.Prelude.{◌≡◌, ℕ, ◌+◌, ◌==◌, ◌<◌, ◌≤◌, nat_lt, not, Bool, true, false, ◌&&◌, ◌||◌, List, [], ◌∷◌, ◌++◌, length, if◌then◌else◌, cond, Option, Some, None, refl}
use Rattle.std.proofs.Common.{arith, ap, sym, ◌∙◌, subst}
use Rattle.std.proofs.lemmas.Bool.Decides.{nat_tests}
use Rattle.hx_events.specs.declared.backup.Backup.{Backup}
use Rattle.hx_events.specs.declared.event.Command.TheVariants.{Save, Open as OpenCommand}
use Rattle.hx_events.specs.declared.event.Event.{Event}
use Rattle.hx_events.specs.declared.event.Event.TheVariants.{Act}
use Rattle.hx_events.specs.declared.life.Entry.{Entry}
use Rattle.hx_events.specs.declared.outcome.Outcome.{Outcome}
use Rattle.hx_events.specs.declared.outcome.Outcome.TheVariants.{Opened, Created, Edited, Undone, Redone, Reverted, Joined, Clean, Queued, Started, Checked, CheckFault, Modified, WriteFault, Unguarded, Saved}
use Rattle.hx_rules.specs.declared.saves.Asked.{Asked}
use Rattle.hx_rules.specs.declared.saves.Asked.TheVariants.{Joined as SaidJoined, Clean as SaidClean, Queued as SaidQueued, Started as SaidStarted}
use Rattle.hx_rules.specs.declared.saves.Running.{Running}
use Rattle.hx_rules.specs.declared.saves.QueuedSave.{QueuedSave}
use Rattle.hx_rules.specs.declared.saves.SaveAnswer.{SaveAnswer}
use Rattle.hx_rules.specs.declared.saves.SaveAnswer.TheVariants.{Clean as AnswerClean}
use Rattle.hx_rules.specs.Entries.{Deed, deed, own, is_of}
use Rattle.hx_rules.specs.Versions.{last_version}
use Rattle.hx_rules.specs.Copies.{dirty}
use Rattle.hx_rules.specs.Saves.{SaveStep, Ask, Check, Finish, asked_by, queued, starts, running, run_finished, run_checked, Standing, Runs, Waits, Has, standing, standing_asked, standing_finished, standing_finished_if, answer, answer_in, asks, steps_after, save_steps}
use Rattle.hx_rules.specs.Legal.{Opening, restored_at, is_row, is_queued, is_started, is_registered_at, run_at, last_at}
use Rattle.hx_rules_laws.specs.Frames.{adds_deed, leaves_others, same_number}
use Rattle.hx_rules_laws.specs.Rows.{and_left, and_right}
use Rattle.hx_rules_laws.specs.Legals.{keeps}
use Rattle.hx_rules_laws.specs.Saves.{is_finish, no_finish, is_waiting, no_waiting, no_request, IsQueueOf, QueueIsTheLastQueued, begins, begins_queued, start_of, is_started_request, no_started, is_check_step, has_check, IsRunOf, RunIsTheLastStart, RunningIsAnsweredByTheNextFinish, QueuedIsAnsweredByTheSecondFinish, QueuedIsCleanWithoutAStart, AnswersStay, IsQueueBelow, QueueRunsBelowTheLast}

and_false : (a b : Bool) → b ≡ false → (a && b) ≡ false
and_false true b h = h
and_false false b h = refl

not_nil : (later before : List SaveStep) (step : SaveStep) → [] ≡ later ++ step ∷ before → ⊥
not_nil [] before step e = cc
not_nil (x ∷ xs) before step e = cc

tail_is : {A : Type 0} (x y : A) (xs ys : List A) → (x ∷ xs) ≡ (y ∷ ys) → xs ≡ ys
tail_is x y xs ys e = cc

head_is : {A : Type 0} (x y : A) (xs ys : List A) → (x ∷ xs) ≡ (y ∷ ys) → x ≡ y
head_is x y xs ys e = cc

-- a step that is no finish and waits for nothing leaves what waits
queue_passes : (step : SaveStep) (steps : List SaveStep) (q : Option QueuedSave) → is_finish step ≡ false → is_waiting step ≡ false → IsQueueOf steps q → IsQueueOf (step ∷ steps) q
queue_passes step steps None finish waits is = go
  where
    go : (later before : List SaveStep) (x : SaveStep) → (step ∷ steps) ≡ later ++ x ∷ before → is_waiting x ≡ true → no_finish later ≡ false
    go [] before x e w = absurd (let same : is_waiting step ≡ is_waiting x = ap is_waiting (head_is step x steps before e) in cc)
    go (y ∷ ys) before x e w = and_false (not (is_finish y)) (no_finish ys) (is ys before x (tail_is step y steps (ys ++ x ∷ before) e) w)
queue_passes step steps (Some q) finish waits is = record {
  later = step ∷ is.later;
  ticket = is.ticket;
  last = is.last;
  is_dirty = is.is_dirty;
  before = is.before;
  whole = ap (λ xs. step ∷ xs) is.whole;
  no_later = ap (λ b. not b && no_waiting is.later) waits ∙ is.no_later;
  since_finish = ap (λ b. not b && no_finish is.later) finish ∙ is.since_finish;
}

pub queue_is_the_last_queued : QueueIsTheLastQueued
queue_is_the_last_queued [] = λ later before step e w. absurd (not_nil later before step e)
queue_is_the_last_queued (Ask ticket last is_dirty force over SaidQueued ∷ steps) =
    record { later = []; ticket = ticket; last = last; is_dirty = is_dirty; before = steps; whole = refl; no_later = refl; since_finish = refl }
queue_is_the_last_queued (Ask ticket last is_dirty force over SaidJoined ∷ steps) = queue_passes (Ask ticket last is_dirty force over SaidJoined) steps (queued steps) refl refl (queue_is_the_last_queued steps)
queue_is_the_last_queued (Ask ticket last is_dirty force over SaidClean ∷ steps) = queue_passes (Ask ticket last is_dirty force over SaidClean) steps (queued steps) refl refl (queue_is_the_last_queued steps)
queue_is_the_last_queued (Ask ticket last is_dirty force over SaidStarted ∷ steps) = queue_passes (Ask ticket last is_dirty force over SaidStarted) steps (queued steps) refl refl (queue_is_the_last_queued steps)
queue_is_the_last_queued (Check ∷ steps) = queue_passes Check steps (queued steps) refl refl (queue_is_the_last_queued steps)
queue_is_the_last_queued (Finish last is_dirty answer ∷ steps) = go
  where
    go : (later before : List SaveStep) (x : SaveStep) → (Finish last is_dirty answer ∷ steps) ≡ later ++ x ∷ before → is_waiting x ≡ true → no_finish later ≡ false
    go [] before x e w = absurd (let same : is_waiting (Finish last is_dirty answer) ≡ is_waiting x = ap is_waiting (head_is (Finish last is_dirty answer) x steps before e) in cc)
    go (y ∷ ys) before x e w = ap (λ s. not (is_finish s) && no_finish ys) (sym (head_is (Finish last is_dirty answer) y steps (ys ++ x ∷ before) e))

-- a step that is neither a finish nor a start leaves the running save
run_passes : (step : SaveStep) (steps : List SaveStep) (run : Option Running) → is_finish step ≡ false → start_of step steps ≡ None → is_started_request step ≡ false → is_check_step step ≡ false → IsRunOf steps run → IsRunOf (step ∷ steps) run
run_passes step steps None finish none start check is = none_passes step steps none is
  where
    none_passes : (step : SaveStep) (steps : List SaveStep) → start_of step steps ≡ None → IsRunOf steps None → IsRunOf (step ∷ steps) None
    none_passes step steps none is [] before x b e s = absurd (let same : start_of step steps ≡ start_of x before = ap (λ (p : List SaveStep). elim p [ [] ↦ None | y ∷ ys ↦ start_of y ys ]) e in cc)
    none_passes step steps none is (y ∷ ys) before x b e s = and_false (not (is_finish y)) (no_finish ys) (is ys before x b (tail_is step y steps (ys ++ x ∷ before) e) s)
run_passes step steps (Some run) finish none start check is = record {
  later = step ∷ is.later;
  start = is.start;
  before = is.before;
  whole = ap (λ xs. step ∷ xs) is.whole;
  is_start = is.is_start;
  no_later = ap (λ b. not b && no_started is.later) start ∙ is.no_later;
  not_finished = ap (λ b. not b && no_finish is.later) finish ∙ is.not_finished;
  is_checked = ap (λ b. b || has_check is.later) check ∙ is.is_checked;
}

check_none : (steps : List SaveStep) → IsRunOf steps None → IsRunOf (Check ∷ steps) None
check_none steps is [] before x b e s = absurd (let same : start_of Check steps ≡ start_of x before = ap (λ (p : List SaveStep). elim p [ [] ↦ None | y ∷ ys ↦ start_of y ys ]) e in cc)
check_none steps is (y ∷ ys) before x b e s = and_false (not (is_finish y)) (no_finish ys) (is ys before x b (tail_is Check y steps (ys ++ x ∷ before) e) s)

check_run : (steps : List SaveStep) (run : Option Running) → IsRunOf steps run → IsRunOf (Check ∷ steps) (run_checked run)
check_run steps None is = check_none steps is
check_run steps (Some run) is = record {
  later = Check ∷ is.later;
  start = is.start;
  before = is.before;
  whole = ap (λ xs. Check ∷ xs) is.whole;
  is_start = is.is_start;
  no_later = is.no_later;
  not_finished = is.not_finished;
  is_checked = refl;
}

finish_none : (last : ℕ) (is_dirty : Bool) (a : SaveAnswer) (steps : List SaveStep) → start_of (Finish last is_dirty a) steps ≡ None → IsRunOf (Finish last is_dirty a ∷ steps) None
finish_none last is_dirty a steps none [] before x b e s = absurd (let same : start_of (Finish last is_dirty a) steps ≡ start_of x before = ap (λ (p : List SaveStep). elim p [ [] ↦ None | y ∷ ys ↦ start_of y ys ]) e in cc)
finish_none last is_dirty a steps none (y ∷ ys) before x b e s = ap (λ s. not (is_finish s) && no_finish ys) (sym (head_is (Finish last is_dirty a) y steps (ys ++ x ∷ before) e))

finish_run : (last : ℕ) (is_dirty : Bool) (a : SaveAnswer) (steps : List SaveStep) (q : Option QueuedSave) → queued steps ≡ q → IsRunOf (Finish last is_dirty a ∷ steps) (run_finished q is_dirty last)
finish_run last is_dirty a steps None e = finish_none last is_dirty a steps (ap (λ q. begins_queued q is_dirty last) e)
finish_run last is_dirty a steps (Some q) e = go (is_dirty || q.force) (ap (λ x. begins_queued x is_dirty last) e)
  where
    go : (b : Bool) → start_of (Finish last is_dirty a) steps ≡ (if b then Some (begins last q.over) else None) → IsRunOf (Finish last is_dirty a ∷ steps) (if b then Some record { version = last; over = q.over; checked = false } else None)
    go true start = record { later = []; start = Finish last is_dirty a; before = steps; whole = refl; is_start = start; no_later = refl; not_finished = refl; is_checked = refl }
    go false start = finish_none last is_dirty a steps start

pub run_is_the_last_start : RunIsTheLastStart
run_is_the_last_start [] = λ later before step b e s. absurd (not_nil later before step e)
run_is_the_last_start (Ask ticket last is_dirty force over SaidStarted ∷ steps) =
    record { later = []; start = Ask ticket last is_dirty force over SaidStarted; before = steps; whole = refl; is_start = refl; no_later = refl; not_finished = refl; is_checked = refl }
run_is_the_last_start (Ask ticket last is_dirty force over SaidJoined ∷ steps) = run_passes (Ask ticket last is_dirty force over SaidJoined) steps (running steps) refl refl refl refl (run_is_the_last_start steps)
run_is_the_last_start (Ask ticket last is_dirty force over SaidClean ∷ steps) = run_passes (Ask ticket last is_dirty force over SaidClean) steps (running steps) refl refl refl refl (run_is_the_last_start steps)
run_is_the_last_start (Ask ticket last is_dirty force over SaidQueued ∷ steps) = run_passes (Ask ticket last is_dirty force over SaidQueued) steps (running steps) refl refl refl refl (run_is_the_last_start steps)
run_is_the_last_start (Check ∷ steps) = check_run steps (running steps) (run_is_the_last_start steps)
run_is_the_last_start (Finish last is_dirty answer ∷ steps) = finish_run last is_dirty answer steps (queued steps) refl

-- a ticket's standing changes only by a finish, or by a request with this ticket
standing_passes : (t : ℕ) (later steps : List SaveStep) → no_request t later ≡ true → no_finish later ≡ true → standing t (later ++ steps) ≡ standing t steps
standing_passes t [] steps request finish = refl
standing_passes t (Ask u last is_dirty force over asked ∷ later) steps request finish = go (u == t) request (standing_passes t later steps (and_right (not (u == t)) (no_request t later) request) finish)
  where
    go : (b : Bool) → (not b && no_request t later) ≡ true → standing t (later ++ steps) ≡ standing t steps → cond b (Some (standing_asked asked)) (standing t (later ++ steps)) ≡ standing t steps
    go true request ih = absurd cc
    go false request ih = ih
standing_passes t (Check ∷ later) steps request finish = standing_passes t later steps request finish
standing_passes t (Finish last is_dirty a ∷ later) steps request finish = absurd cc

-- an answer stays where no request with this ticket follows
has_stays : (t : ℕ) (later steps : List SaveStep) (a : SaveAnswer) → no_request t later ≡ true → standing t steps ≡ Some (Has a) → standing t (later ++ steps) ≡ Some (Has a)
has_stays t [] steps a request has = has
has_stays t (Ask u last is_dirty force over asked ∷ later) steps a request has = go (u == t) request (has_stays t later steps a (and_right (not (u == t)) (no_request t later) request) has)
  where
    go : (b : Bool) → (not b && no_request t later) ≡ true → standing t (later ++ steps) ≡ Some (Has a) → cond b (Some (standing_asked asked)) (standing t (later ++ steps)) ≡ Some (Has a)
    go true request ih = absurd cc
    go false request ih = ih
has_stays t (Check ∷ later) steps a request has = has_stays t later steps a request has
has_stays t (Finish last is_dirty b ∷ later) steps a request has = ap (standing_finished_if (starts (queued (later ++ steps)) is_dirty) b) (has_stays t later steps a request has)

asked_stands : (t last : ℕ) (is_dirty force over : Bool) (asked : Asked) (before : List SaveStep) → standing t (Ask t last is_dirty force over asked ∷ before) ≡ Some (standing_asked asked)
asked_stands t last is_dirty force over asked before = ap (λ b. cond b (Some (standing_asked asked)) (standing t before)) (same t)
  where
    same : (n : ℕ) → (n == n) ≡ true
    same n = grind (arith, nat_tests)

pub running_is_answered_by_the_next_finish : RunningIsAnsweredByTheNextFinish
running_is_answered_by_the_next_finish t last n was_dirty is_dirty force over asked a later between before runs no_later no_between unfinished =
    let asked_now = asked_stands t last was_dirty force over asked before ∙ ap Some runs in
    let before_finish = standing_passes t between (Ask t last was_dirty force over asked ∷ before) no_between unfinished ∙ asked_now in
    ap answer_in (has_stays t later (Finish n is_dirty a ∷ (between ++ Ask t last was_dirty force over asked ∷ before)) a no_later
    (ap (standing_finished_if (starts (queued (between ++ Ask t last was_dirty force over asked ∷ before)) is_dirty) a) before_finish))

after_finish : (t last n : ℕ) (was_dirty is_dirty force over : Bool) (a : SaveAnswer) (between before : List SaveStep) (b : Bool)
    → no_request t between ≡ true → no_finish between ≡ true
    → starts (queued (between ++ Ask t last was_dirty force over SaidQueued ∷ before)) is_dirty ≡ b
    → standing t (Finish n is_dirty a ∷ (between ++ Ask t last was_dirty force over SaidQueued ∷ before)) ≡ Some (standing_finished b a Waits)
after_finish t last n was_dirty is_dirty force over a between before b no_between unfinished started =
    let before_finish = standing_passes t between (Ask t last was_dirty force over SaidQueued ∷ before) no_between unfinished ∙ asked_stands t last was_dirty force over SaidQueued before in
    ap (standing_finished_if (starts (queued (between ++ Ask t last was_dirty force over SaidQueued ∷ before)) is_dirty) a) before_finish
    ∙ ap (λ x. Some (standing_finished x a Waits)) started

pub queued_is_answered_by_the_second_finish : QueuedIsAnsweredByTheSecondFinish
queued_is_answered_by_the_second_finish t last n m was_dirty is_dirty dirty_then force over a b later middle between before no_later no_middle no_between unfinished unfinished_middle started =
    let first = after_finish t last n was_dirty is_dirty force over a between before true no_between unfinished started in
    let steps = middle ++ Finish n is_dirty a ∷ (between ++ Ask t last was_dirty force over SaidQueued ∷ before) in
    let second = standing_passes t middle (Finish n is_dirty a ∷ (between ++ Ask t last was_dirty force over SaidQueued ∷ before)) no_middle unfinished_middle ∙ first in
    ap answer_in (has_stays t later (Finish m dirty_then b ∷ steps) b no_later (ap (standing_finished_if (starts (queued steps) dirty_then) b) second))

pub queued_is_clean_without_a_start : QueuedIsCleanWithoutAStart
queued_is_clean_without_a_start t last n was_dirty is_dirty force over a later between before no_later no_between unfinished not_started =
    ap answer_in (has_stays t later (Finish n is_dirty a ∷ (between ++ Ask t last was_dirty force over SaidQueued ∷ before)) AnswerClean no_later
    (after_finish t last n was_dirty is_dirty force over a between before false no_between unfinished not_started))

-- the places of these deeds are at most n
abbrev pub AreUpTo : ℕ → List Deed → Type 0
AreUpTo n [] = Unit {0}
AreUpTo n (d ∷ ds) = (d.place ≤ n) × AreUpTo n ds

up_to_more : (m n : ℕ) (ds : List Deed) → m ≤ n → AreUpTo m ds → AreUpTo n ds
up_to_more m n [] le all = tt
up_to_more m n (d ∷ ds) le all = (omega (arith, all.0), up_to_more m n ds le all.1)

pub own_up_to : (c : ℕ) (es : List Entry) → AreUpTo (length es) (own c es)
own_up_to c [] = tt
own_up_to c (e ∷ es) = go (is_of c e.event) (own_up_to c es)
  where
    go : (b : Bool) → AreUpTo (length es) (own c es) → AreUpTo (length (e ∷ es)) (cond b (deed (length es + 1) e.event e.outcome e.content ∷ own c es) (own c es))
    go true rest = (omega arith, up_to_more (length es) (length (e ∷ es)) (own c es) (omega arith) rest)
    go false rest = up_to_more (length es) (length (e ∷ es)) (own c es) (omega arith) rest

-- a ticket past all places was never asked
asks_new : (event : Event) (t place last : ℕ) (was_dirty : Bool) (asked : Asked) (steps : List SaveStep) → place < t → standing t steps ≡ None → standing t (asks event place last was_dirty asked steps) ≡ None
asks_new (Act (Save c force over)) t place last was_dirty asked steps lt none = grind (arith, nat_tests)
asks_new (Act (OpenCommand c)) t place last was_dirty asked steps lt none = none
asks_new _ t place last was_dirty asked steps lt none = none

step_new : (outcome : Outcome) (event : Event) (t place last : ℕ) (before after : Bool) (steps : List SaveStep) → place < t → standing t steps ≡ None → standing t (steps_after outcome event place last before after steps) ≡ None
step_new Joined event t place last before after steps lt none = asks_new event t place last before SaidJoined steps lt none
step_new Clean event t place last before after steps lt none = asks_new event t place last before SaidClean steps lt none
step_new Queued event t place last before after steps lt none = asks_new event t place last before SaidQueued steps lt none
step_new (Started v) event t place last before after steps lt none = asks_new event t place last before SaidStarted steps lt none
step_new CheckFault event t place last before after steps lt none = ap (standing_finished_if _ _) none
step_new (Modified s) event t place last before after steps lt none = ap (standing_finished_if _ _) none
step_new (WriteFault v) event t place last before after steps lt none = ap (standing_finished_if _ _) none
step_new (Unguarded v) event t place last before after steps lt none = ap (standing_finished_if _ _) none
step_new (Saved v x) event t place last before after steps lt none = ap (standing_finished_if _ _) none
step_new _ event t place last before after steps lt none = none

pub ticket_is_new : (restored : Option Backup) (ds : List Deed) (t n : ℕ) → n < t → AreUpTo n ds → standing t (save_steps restored ds) ≡ None
ticket_is_new restored [] t n lt all = refl
ticket_is_new restored (d ∷ ds) t n lt all =
    step_new d.outcome d.event t d.place (last_version restored ds) (dirty restored ds) (dirty restored (d ∷ ds)) (save_steps restored ds) (omega (arith, all.0)) (ticket_is_new restored ds t n lt all.1)

has_of : (s : Option Standing) (a : SaveAnswer) → answer_in s ≡ Some a → s ≡ Some (Has a)
has_of None a h = absurd cc
has_of (Some Runs) a h = absurd cc
has_of (Some Waits) a h = absurd cc
has_of (Some (Has b)) a h = cc

asks_keep : (event : Event) (t place last : ℕ) (was_dirty : Bool) (asked : Asked) (steps : List SaveStep) (a : SaveAnswer) → t < place → standing t steps ≡ Some (Has a) → standing t (asks event place last was_dirty asked steps) ≡ Some (Has a)
asks_keep (Act (Save c force over)) t place last was_dirty asked steps a lt has = grind (arith, nat_tests)
asks_keep (Act (OpenCommand c)) t place last was_dirty asked steps a lt has = has
asks_keep _ t place last was_dirty asked steps a lt has = has

step_keeps : (outcome : Outcome) (event : Event) (t place last : ℕ) (before after : Bool) (steps : List SaveStep) (a : SaveAnswer) → t < place → standing t steps ≡ Some (Has a) → standing t (steps_after outcome event place last before after steps) ≡ Some (Has a)
step_keeps Joined event t place last before after steps a lt has = asks_keep event t place last before SaidJoined steps a lt has
step_keeps Clean event t place last before after steps a lt has = asks_keep event t place last before SaidClean steps a lt has
step_keeps Queued event t place last before after steps a lt has = asks_keep event t place last before SaidQueued steps a lt has
step_keeps (Started v) event t place last before after steps a lt has = asks_keep event t place last before SaidStarted steps a lt has
step_keeps CheckFault event t place last before after steps a lt has = ap (standing_finished_if _ _) has
step_keeps (Modified s) event t place last before after steps a lt has = ap (standing_finished_if _ _) has
step_keeps (WriteFault v) event t place last before after steps a lt has = ap (standing_finished_if _ _) has
step_keeps (Unguarded v) event t place last before after steps a lt has = ap (standing_finished_if _ _) has
step_keeps (Saved v x) event t place last before after steps a lt has = ap (standing_finished_if _ _) has
step_keeps _ event t place last before after steps a lt has = has

pub answers_stay : AnswersStay
answers_stay restored c t a e es answered = go (is_of c e.event) (adds_deed c e es) (leaves_others c e es)
  where
    has : standing t (save_steps restored (own c es)) ≡ Some (Has a)
    has = has_of (standing t (save_steps restored (own c es))) a answered

    old : (b : Bool) → (b ≡ true → length es < t) → (b ≡ false → t ≤ length es) → t ≤ length es
    old true later earlier = absurd (let none : standing t (save_steps restored (own c es)) ≡ None = ticket_is_new restored (own c es) t (length es) (later refl) (own_up_to c es) in cc)
    old false later earlier = earlier refl

    go : (b : Bool) → (b ≡ true → own c (e ∷ es) ≡ deed (length es + 1) e.event e.outcome e.content ∷ own c es) → (b ≡ false → own c (e ∷ es) ≡ own c es) → answer t (save_steps restored (own c (e ∷ es))) ≡ Some a
    go true here other =
        let d = deed (length es + 1) e.event e.outcome e.content in
        let early : t ≤ length es = old (nat_lt (length es) t) (λ h. grind (arith, nat_tests)) (λ h. grind (arith, nat_tests)) in
        ap (λ ds. answer t (save_steps restored ds)) (here refl)
        ∙ ap answer_in (step_keeps e.outcome e.event t (length es + 1) (last_version restored (own c es)) (dirty restored (own c es)) (dirty restored (d ∷ own c es)) (save_steps restored (own c es)) a (omega (arith, early)) has)
    go false here other = ap (λ ds. answer t (save_steps restored ds)) (other refl) ∙ answered

more_below : (run : Option Running) (q : Option QueuedSave) (last : ℕ) → IsQueueBelow run q last → IsQueueBelow run q (last + 1)
more_below None None last is = tt
more_below None (Some q) last is = absurd is
more_below (Some run) None last is = omega (arith, is)
more_below (Some run) (Some q) last is = omega (arith, is)

checked_below : (run : Option Running) (q : Option QueuedSave) (last : ℕ) → IsQueueBelow run q last → IsQueueBelow (run_checked run) q last
checked_below None q last is = is
checked_below (Some run) None last is = is
checked_below (Some run) (Some q) last is = is

finish_below : (q : Option QueuedSave) (is_dirty : Bool) (last : ℕ) → IsQueueBelow (run_finished q is_dirty last) None last
finish_below None is_dirty last = tt
finish_below (Some q) is_dirty last = go (is_dirty || q.force)
  where
    go : (b : Bool) → IsQueueBelow (if b then Some record { version = last; over = q.over; checked = false } else None) None last
    go true = omega arith
    go false = tt

-- a request is Started only where no save runs, and Queued only where one of another version does
started_below : (run : Option Running) (q : Option QueuedSave) (last : ℕ) (is_dirty force over : Bool) → is_started (asked_by run last is_dirty force) ≡ true → IsQueueBelow run q last → IsQueueBelow (Some record { version = last; over = over; checked = false }) q last
started_below None None last is_dirty force over h is = omega arith
started_below None (Some q) last is_dirty force over h is = absurd is
started_below (Some run) q last is_dirty force over h is = absurd (go (run.version == last) (not is_dirty && not force) h)
  where
    go : (a b : Bool) → is_started (if a then SaidJoined else if b then SaidClean else if true then SaidQueued else SaidStarted) ≡ true → ⊥
    go true b h = absurd cc
    go false true h = absurd cc
    go false false h = absurd cc

queued_below : (run : Option Running) (q : Option QueuedSave) (last : ℕ) (is_dirty force over : Bool) → is_queued (asked_by run last is_dirty force) ≡ true → IsQueueBelow run q last → IsQueueBelow run (Some record { force = force; over = over }) last
queued_below None q last is_dirty force over h is = absurd (go (not is_dirty && not force) h)
  where
    go : (b : Bool) → is_queued (if false then SaidJoined else if b then SaidClean else if false then SaidQueued else SaidStarted) ≡ true → ⊥
    go true h = absurd cc
    go false h = absurd cc
queued_below (Some run) q last is_dirty force over h is = below q is
  where
    other : (b c : Bool) → (b ≡ true → run.version ≡ last) → is_queued (if b then SaidJoined else if c then SaidClean else if true then SaidQueued else SaidStarted) ≡ true → b ≡ false
    other true c same h = absurd cc
    other false c same h = refl

    differs : (run.version == last) ≡ false
    differs = other (run.version == last) (not is_dirty && not force) (same_number run.version last) h

    below : (q : Option QueuedSave) → IsQueueBelow (Some run) q last → run.version < last
    below None is = let no : (run.version == last) ≡ false = differs in grind (arith, nat_tests)
    below (Some q) is = is

-- what a request adds keeps it, where the request's answer is a legal one
asks_below : (o : Opening) (c : ℕ) (es : List Entry) (event : Event) (outcome : Outcome) (asked : Asked) (place : ℕ)
    → ((force over : Bool) → is_row o es (Act (Save c force over)) outcome ≡ true → IsQueueBelow (run_at o es c) (queued (save_steps (restored_at o c) (own c es))) (last_at o es c)
    → IsQueueBelow (running (Ask place (last_at o es c) (dirty (restored_at o c) (own c es)) force over asked ∷ save_steps (restored_at o c) (own c es))) (queued (Ask place (last_at o es c) (dirty (restored_at o c) (own c es)) force over asked ∷ save_steps (restored_at o c) (own c es))) (last_at o es c))
    → is_of c event ≡ true → is_row o es event outcome ≡ true
    → IsQueueBelow (run_at o es c) (queued (save_steps (restored_at o c) (own c es))) (last_at o es c)
    → IsQueueBelow (running (asks event place (last_at o es c) (dirty (restored_at o c) (own c es)) asked (save_steps (restored_at o c) (own c es)))) (queued (asks event place (last_at o es c) (dirty (restored_at o c) (own c es)) asked (save_steps (restored_at o c) (own c es)))) (last_at o es c)
asks_below o c es (Act (Save k force over)) outcome asked place step is row below = step force over (subst (λ (n : ℕ). is_row o es (Act (Save n force over)) outcome ≡ true) (same_number k c is) row) below
asks_below o c es (Act (OpenCommand k)) outcome asked place step is row below = below
asks_below o c es _ outcome asked place step is row below = below

below_step : (o : Opening) (c : ℕ) (es : List Entry) (place : ℕ) (event : Event) (outcome : Outcome) (content : List ℕ) → is_of c event ≡ true → is_row o es event outcome ≡ true
    → IsQueueBelow (run_at o es c) (queued (save_steps (restored_at o c) (own c es))) (last_at o es c)
    → IsQueueBelow (running (save_steps (restored_at o c) (deed place event outcome content ∷ own c es))) (queued (save_steps (restored_at o c) (deed place event outcome content ∷ own c es))) (last_version (restored_at o c) (deed place event outcome content ∷ own c es))
below_step o c es place event (Opened s) content is row ih = more_below (run_at o es c) (queued (save_steps (restored_at o c) (own c es))) (last_at o es c) ih
below_step o c es place event (Created n) content is row ih = more_below (run_at o es c) (queued (save_steps (restored_at o c) (own c es))) (last_at o es c) ih
below_step o c es place event (Edited n) content is row ih = more_below (run_at o es c) (queued (save_steps (restored_at o c) (own c es))) (last_at o es c) ih
below_step o c es place event (Undone n) content is row ih = more_below (run_at o es c) (queued (save_steps (restored_at o c) (own c es))) (last_at o es c) ih
below_step o c es place event (Redone n) content is row ih = more_below (run_at o es c) (queued (save_steps (restored_at o c) (own c es))) (last_at o es c) ih
below_step o c es place event (Reverted s) content is row ih = more_below (run_at o es c) (queued (save_steps (restored_at o c) (own c es))) (last_at o es c) ih
below_step o c es place event Joined content is row ih = asks_below o c es event Joined SaidJoined place (λ force over r b. b) is row ih
below_step o c es place event Clean content is row ih = asks_below o c es event Clean SaidClean place (λ force over r b. b) is row ih
below_step o c es place event Queued content is row ih = asks_below o c es event Queued SaidQueued place
    (λ force over r b. queued_below (run_at o es c) (queued (save_steps (restored_at o c) (own c es))) (last_at o es c) (dirty (restored_at o c) (own c es)) force over
    (and_right (is_registered_at o es c) (is_queued (asked_by (run_at o es c) (last_at o es c) (dirty (restored_at o c) (own c es)) force)) r) b) is row ih
below_step o c es place event (Started n) content is row ih = asks_below o c es event (Started n) SaidStarted place
    (λ force over r b. started_below (run_at o es c) (queued (save_steps (restored_at o c) (own c es))) (last_at o es c) (dirty (restored_at o c) (own c es)) force over
    (and_right (is_registered_at o es c) (is_started (asked_by (run_at o es c) (last_at o es c) (dirty (restored_at o c) (own c es)) force))
    (and_left (is_registered_at o es c && is_started (asked_by (run_at o es c) (last_at o es c) (dirty (restored_at o c) (own c es)) force)) (n == last_at o es c) r)) b) is row ih
below_step o c es place event (Checked x) content is row ih = checked_below (run_at o es c) (queued (save_steps (restored_at o c) (own c es))) (last_at o es c) ih
below_step o c es place event CheckFault content is row ih = finish_below (queued (save_steps (restored_at o c) (own c es))) (dirty (restored_at o c) (deed place event CheckFault content ∷ own c es)) (last_at o es c)
below_step o c es place event (Modified s) content is row ih = finish_below (queued (save_steps (restored_at o c) (own c es))) (dirty (restored_at o c) (deed place event (Modified s) content ∷ own c es)) (last_at o es c)
below_step o c es place event (WriteFault v) content is row ih = finish_below (queued (save_steps (restored_at o c) (own c es))) (dirty (restored_at o c) (deed place event (WriteFault v) content ∷ own c es)) (last_at o es c)
below_step o c es place event (Unguarded v) content is row ih = finish_below (queued (save_steps (restored_at o c) (own c es))) (dirty (restored_at o c) (deed place event (Unguarded v) content ∷ own c es)) (last_at o es c)
below_step o c es place event (Saved v x) content is row ih = finish_below (queued (save_steps (restored_at o c) (own c es))) (dirty (restored_at o c) (deed place event (Saved v x) content ∷ own c es)) (last_at o es c)
below_step o c es place event _ content is row ih = ih

pub queue_runs_below_the_last : QueueRunsBelowTheLast
queue_runs_below_the_last o es c legal =
    keeps o c (λ ds. IsQueueBelow (running (save_steps (restored_at o c) ds)) (queued (save_steps (restored_at o c) ds)) (last_version (restored_at o c) ds)) tt (below_step o c) es legal
