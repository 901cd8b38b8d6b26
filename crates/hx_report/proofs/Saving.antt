-- The answers of the saves that have ended, with the save that each request shares, give each request's answer.
use Rattle.std.specs.Prelude.{◌≡◌, ℕ, zero, suc, ◌+◌, ◌==◌, ◌<◌, ◌≤◌, not, Bool, true, false, ◌||◌, List, [], ◌∷◌, ◌++◌, length, if◌then◌else◌, Option, Some, None, slice_get, refl}
use Rattle.std.proofs.Common.{ap, sym, ◌∙◌, arith, cond, length-append}
use Rattle.std.proofs.lemmas.Bool.Decides.{nat_tests}
use Rattle.hx_events.specs.declared.event.Command.TheVariants.{Save}
use Rattle.hx_events.specs.declared.event.Event.{Event}
use Rattle.hx_events.specs.declared.event.Event.TheVariants.{Act}
use Rattle.hx_events.specs.declared.outcome.Outcome.{Outcome}
use Rattle.hx_events.specs.declared.outcome.Outcome.TheVariants.{Joined, Clean, Queued, Started}
use Rattle.hx_rules.specs.declared.saves.Asked.{Asked}
use Rattle.hx_rules.specs.declared.saves.Asked.TheVariants.{Joined as SaidJoined, Clean as SaidClean, Queued as SaidQueued, Started as SaidStarted}
use Rattle.hx_rules.specs.declared.saves.QueuedSave.{QueuedSave}
use Rattle.hx_rules.specs.declared.saves.SaveAnswer.{SaveAnswer}
use Rattle.hx_rules.specs.declared.saves.SaveAnswer.TheVariants.{Clean as AnswerClean}
use Rattle.hx_rules.specs.Saves.{SaveStep, Ask, Check, Finish, Standing, Runs, Waits, Has, queued, queued_after, starts, standing, standing_asked, standing_finished, standing_finished_if, answer_in, answer, asks, steps_after}
use Rattle.hx_report.specs.declared.share.Share.{Share}
use Rattle.hx_report.specs.declared.share.Share.TheVariants.{Nothing, AtOnce, Save as SaveNumber}
use Rattle.hx_report.specs.Saves.{answers_ended, answers_of, saves_of, saves_after}
use Rattle.hx_report.specs.Outlines.{share_by, answer_by}

-- Where the save with this number stands: the first ones have their answers, the next one runs, and one behind it waits.
abbrev stands : List SaveAnswer → ℕ → Standing
stands [] zero = Runs
stands [] (suc n) = Waits
stands (a ∷ answers) zero = Has a
stands (a ∷ answers) (suc n) = stands answers n

abbrev standing_of : List SaveAnswer → Share → Option Standing
standing_of answers Nothing = None
standing_of answers AtOnce = Some (Has AnswerClean)
standing_of answers (SaveNumber n) = Some (stands answers n)

abbrev share_asked : Asked → ℕ → Share
share_asked SaidJoined ended = SaveNumber ended
share_asked SaidClean ended = AtOnce
share_asked SaidQueued ended = SaveNumber (ended + 1)
share_asked SaidStarted ended = SaveNumber ended

-- whose answer the request with this ticket shares
abbrev pub share_in : ℕ → List SaveStep → Share
share_in t [] = Nothing
share_in t (Ask ticket last is_dirty force over asked ∷ steps) = if ticket == t then share_asked asked (length (answers_of steps)) else share_in t steps
share_in t (Check ∷ steps) = share_in t steps
share_in t (Finish last is_dirty answer ∷ steps) = share_in t steps

abbrev waits : Option QueuedSave → ℕ
waits None = 0
waits (Some q) = 1

abbrev IsKnown : ℕ → Share → Type 0
IsKnown n Nothing = Unit {0}
IsKnown n AtOnce = Unit {0}
IsKnown n (SaveNumber k) = k < n

known_more : (n m : ℕ) (share : Share) → n ≤ m → IsKnown n share → IsKnown m share
known_more n m Nothing le known = tt
known_more n m AtOnce le known = tt
known_more n m (SaveNumber k) le known = omega (arith, le, known)

record Stands (t : ℕ) (steps : List SaveStep) : Type 0 where
  known : IsKnown (length (answers_of steps) + 1 + waits (queued steps)) (share_in t steps)
  is : standing t steps ≡ standing_of (answers_of steps) (share_in t steps)

runs_next : (answers : List SaveAnswer) → stands answers (length answers) ≡ Runs
runs_next [] = refl
runs_next (a ∷ answers) = runs_next answers

waits_next : (answers : List SaveAnswer) → stands answers (length answers + 1) ≡ Waits
waits_next [] = refl
waits_next (a ∷ answers) =
    let e : suc (length answers) + 1 ≡ suc (length answers + 1) = omega arith in
    ap (stands (a ∷ answers)) e ∙ waits_next answers

asked_stands : (asked : Asked) (answers : List SaveAnswer) → Some (standing_asked asked) ≡ standing_of answers (share_asked asked (length answers))
asked_stands SaidJoined answers = ap Some (sym (runs_next answers))
asked_stands SaidClean answers = refl
asked_stands SaidQueued answers = ap Some (sym (waits_next answers))
asked_stands SaidStarted answers = ap Some (sym (runs_next answers))

asked_known : (asked : Asked) (force over : Bool) (was : Option QueuedSave) (n : ℕ) → IsKnown (n + 1 + waits (queued_after asked force over was)) (share_asked asked n)
asked_known SaidJoined force over was n = omega arith
asked_known SaidClean force over was n = tt
asked_known SaidQueued force over was n = omega arith
asked_known SaidStarted force over was n = omega arith

waits_more : (asked : Asked) (force over : Bool) (was : Option QueuedSave) → waits was ≤ waits (queued_after asked force over was)
waits_more SaidJoined force over was = omega arith
waits_more SaidClean force over was = omega arith
waits_more SaidQueued force over None = omega arith
waits_more SaidQueued force over (Some q) = omega arith
waits_more SaidStarted force over was = omega arith

-- the end of a save, by whether a request waits and whether it starts
alone_ended : (answer : SaveAnswer) (answers : List SaveAnswer) (n : ℕ) → n < length answers + 1 → stands (answers ++ answer ∷ []) n ≡ standing_finished false answer (stands answers n)
alone_ended answer [] zero lt = refl
alone_ended answer [] (suc n) lt = absurd (omega (arith, lt))
alone_ended answer (a ∷ answers) zero lt = refl
alone_ended answer (a ∷ answers) (suc n) lt = alone_ended answer answers n (omega (arith, lt))

started_ended : (answer : SaveAnswer) (answers : List SaveAnswer) (n : ℕ) → n < length answers + 2 → stands (answers ++ answer ∷ []) n ≡ standing_finished true answer (stands answers n)
started_ended answer [] zero lt = refl
started_ended answer [] (suc zero) lt = refl
started_ended answer [] (suc (suc n)) lt = absurd (omega (arith, lt))
started_ended answer (a ∷ answers) zero lt = refl
started_ended answer (a ∷ answers) (suc n) lt = started_ended answer answers n (omega (arith, lt))

clean_ended : (answer : SaveAnswer) (answers : List SaveAnswer) (n : ℕ) → n < length answers + 2 → stands (answers ++ answer ∷ AnswerClean ∷ []) n ≡ standing_finished false answer (stands answers n)
clean_ended answer [] zero lt = refl
clean_ended answer [] (suc zero) lt = refl
clean_ended answer [] (suc (suc n)) lt = absurd (omega (arith, lt))
clean_ended answer (a ∷ answers) zero lt = refl
clean_ended answer (a ∷ answers) (suc n) lt = clean_ended answer answers n (omega (arith, lt))

number_ended : (queue : Option QueuedSave) (is_dirty : Bool) (answer : SaveAnswer) (answers : List SaveAnswer) (n : ℕ) → n < length answers + 1 + waits queue
    → stands (answers_ended queue is_dirty answer answers) n ≡ standing_finished (starts queue is_dirty) answer (stands answers n)
number_ended None is_dirty answer answers n lt = alone_ended answer answers n (omega (arith, lt))
number_ended (Some q) is_dirty answer answers n lt = step (is_dirty || q.force)
  where
    step : (b : Bool) → stands (answers ++ answer ∷ (if not b then AnswerClean ∷ [] else [])) n ≡ standing_finished b answer (stands answers n)
    step true = started_ended answer answers n (omega (arith, lt))
    step false = clean_ended answer answers n (omega (arith, lt))

share_ended : (queue : Option QueuedSave) (is_dirty : Bool) (answer : SaveAnswer) (answers : List SaveAnswer) (share : Share) → IsKnown (length answers + 1 + waits queue) share
    → standing_finished_if (starts queue is_dirty) answer (standing_of answers share) ≡ standing_of (answers_ended queue is_dirty answer answers) share
share_ended queue is_dirty answer answers Nothing known = refl
share_ended queue is_dirty answer answers AtOnce known = refl
share_ended queue is_dirty answer answers (SaveNumber n) known = ap Some (sym (number_ended queue is_dirty answer answers n known))

length_ended : (queue : Option QueuedSave) (is_dirty : Bool) (answer : SaveAnswer) (answers : List SaveAnswer) → length answers + 1 + waits queue ≤ length (answers_ended queue is_dirty answer answers) + 1
length_ended None is_dirty answer answers = omega (arith, length-append answers (answer ∷ []))
length_ended (Some q) is_dirty answer answers = step (is_dirty || q.force)
  where
    step : (b : Bool) → length answers + 1 + 1 ≤ length (answers ++ answer ∷ (if not b then AnswerClean ∷ [] else [])) + 1
    step true = omega (arith, length-append answers (answer ∷ []))
    step false = omega (arith, length-append answers (answer ∷ AnswerClean ∷ []))

stands_is : (t : ℕ) (steps : List SaveStep) → Stands t steps
stands_is t [] = record { known = tt; is = refl }
stands_is t (Ask ticket last is_dirty force over asked ∷ steps) = let both = step (ticket == t) (stands_is t steps) in record { known = both.0; is = both.1 }
  where
    step : (b : Bool) → Stands t steps
        → IsKnown (length (answers_of steps) + 1 + waits (queued_after asked force over (queued steps))) (if b then share_asked asked (length (answers_of steps)) else share_in t steps)
        × ((if b then Some (standing_asked asked) else standing t steps) ≡ standing_of (answers_of steps) (if b then share_asked asked (length (answers_of steps)) else share_in t steps))
    step true before = (asked_known asked force over (queued steps) (length (answers_of steps)), asked_stands asked (answers_of steps))
    step false before = (known_more _ _ (share_in t steps) (omega (arith, waits_more asked force over (queued steps))) before.known, before.is)
stands_is t (Check ∷ steps) = let before = stands_is t steps in record { known = before.known; is = before.is }
stands_is t (Finish last is_dirty answer ∷ steps) =
    let before = stands_is t steps in
    record {
      known = known_more _ _ (share_in t steps) (omega (arith, length_ended (queued steps) is_dirty answer (answers_of steps))) before.known;
      is = ap (standing_finished_if (starts (queued steps) is_dirty) answer) before.is ∙ share_ended (queued steps) is_dirty answer (answers_of steps) (share_in t steps) before.known;
    }

number_answer : (answers : List SaveAnswer) (n : ℕ) → answer_in (Some (stands answers n)) ≡ slice_get answers n
number_answer [] zero = refl
number_answer [] (suc n) = refl
number_answer (a ∷ answers) zero = refl
number_answer (a ∷ answers) (suc n) = number_answer answers n

share_answer : (answers : List SaveAnswer) (share : Share) → answer_in (standing_of answers share) ≡ answer_by answers share
share_answer answers Nothing = refl
share_answer answers AtOnce = refl
share_answer answers (SaveNumber n) = number_answer answers n

-- a ticket's answer is that of the save which it shares
pub answer_is : (t : ℕ) (steps : List SaveStep) → answer t steps ≡ answer_by (answers_of steps) (share_in t steps)
answer_is t steps = ap answer_in (stands_is t steps).is ∙ share_answer (answers_of steps) (share_in t steps)

no_share : (answers : List SaveAnswer) (share : Share) → standing_of answers share ≡ None → share ≡ Nothing
no_share answers Nothing h = refl
no_share answers AtOnce h = absurd cc
no_share answers (SaveNumber n) h = absurd cc

-- a ticket that was never asked shares nothing
pub new_shares_nothing : (t : ℕ) (steps : List SaveStep) → standing t steps ≡ None → share_in t steps ≡ Nothing
new_shares_nothing t steps none = no_share (answers_of steps) (share_in t steps) (sym (stands_is t steps).is ∙ none)

-- ---- one deed more
asks_other : (event : Event) (t place last : ℕ) (before : Bool) (asked : Asked) (steps : List SaveStep) → (place == t) ≡ false → share_in t (asks event place last before asked steps) ≡ share_in t steps
asks_other (Act (Save c force over)) t place last before asked steps other = ap (λ b. cond b (share_asked asked (length (answers_of steps))) (share_in t steps)) other
asks_other (Act _) t place last before asked steps other = refl
asks_other _ t place last before asked steps other = refl

-- another deed leaves whose answer a ticket shares
pub share_stays : (outcome : Outcome) (event : Event) (t place last : ℕ) (before after : Bool) (steps : List SaveStep) → (place == t) ≡ false → share_in t (steps_after outcome event place last before after steps) ≡ share_in t steps
share_stays Joined event t place last before after steps other = asks_other event t place last before SaidJoined steps other
share_stays Clean event t place last before after steps other = asks_other event t place last before SaidClean steps other
share_stays Queued event t place last before after steps other = asks_other event t place last before SaidQueued steps other
share_stays (Started v) event t place last before after steps other = asks_other event t place last before SaidStarted steps other
share_stays _ event t place last before after steps other = refl

same_place : (n : ℕ) → (n == n) ≡ true
same_place n = grind (arith, nat_tests)

-- a request to save shares by its outcome
pub share_here : (outcome : Outcome) (c place last : ℕ) (force over before after : Bool) (steps : List SaveStep) → share_in place steps ≡ Nothing
    → share_in place (steps_after outcome (Act (Save c force over)) place last before after steps) ≡ share_by outcome (length (answers_of steps))
share_here Joined c place last force over before after steps none = ap (λ b. cond b (SaveNumber (length (answers_of steps))) (share_in place steps)) (same_place place)
share_here Clean c place last force over before after steps none = ap (λ b. cond b AtOnce (share_in place steps)) (same_place place)
share_here Queued c place last force over before after steps none = ap (λ b. cond b (SaveNumber (length (answers_of steps) + 1)) (share_in place steps)) (same_place place)
share_here (Started v) c place last force over before after steps none = ap (λ b. cond b (SaveNumber (length (answers_of steps))) (share_in place steps)) (same_place place)
share_here _ c place last force over before after steps none = none

asks_joined : (event : Event) (place last : ℕ) (before : Bool) (steps : List SaveStep) → saves_of (asks event place last before SaidJoined steps) ≡ saves_of steps
asks_joined (Act (Save c force over)) place last before steps = refl
asks_joined (Act _) place last before steps = refl
asks_joined _ place last before steps = refl

asks_clean : (event : Event) (place last : ℕ) (before : Bool) (steps : List SaveStep) → saves_of (asks event place last before SaidClean steps) ≡ saves_of steps
asks_clean (Act (Save c force over)) place last before steps = refl
asks_clean (Act _) place last before steps = refl
asks_clean _ place last before steps = refl

asks_started : (event : Event) (place last : ℕ) (before : Bool) (steps : List SaveStep) → saves_of (asks event place last before SaidStarted steps) ≡ saves_of steps
asks_started (Act (Save c force over)) place last before steps = refl
asks_started (Act _) place last before steps = refl
asks_started _ place last before steps = refl

asks_queued : (event : Event) (place last : ℕ) (before after : Bool) (steps : List SaveStep) → saves_of (asks event place last before SaidQueued steps) ≡ saves_after event Queued after (saves_of steps)
asks_queued (Act (Save c force over)) place last before after steps = refl
asks_queued (Act _) place last before after steps = refl
asks_queued _ place last before after steps = refl

-- what is kept of the saves goes with their steps
pub saves_step : (outcome : Outcome) (event : Event) (place last : ℕ) (before after : Bool) (steps : List SaveStep) → saves_of (steps_after outcome event place last before after steps) ≡ saves_after event outcome after (saves_of steps)
saves_step Joined event place last before after steps = asks_joined event place last before steps
saves_step Clean event place last before after steps = asks_clean event place last before steps
saves_step Queued event place last before after steps = asks_queued event place last before after steps
saves_step (Started v) event place last before after steps = asks_started event place last before steps
saves_step _ event place last before after steps = refl
