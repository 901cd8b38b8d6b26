-- The tickets that answers and numbers of saves stand for, before and after a request and a finish.
use Rattle.std.proofs.Common.{◌≡◌, ◌∙◌, ℕ, zero, suc, ◌+◌, ◌<◌, ◌≤◌, Bool, true, false, cond, ◌&&◌, nat_eq, nat_lt, List, [], ◌∷◌, ◌++◌, map, length, slice_get, Option, Some, None, is_some, ap, sym, subst, refl, arith, length-append}
use Rattle.std.specs.Borrow.{Bor}
use Rattle.std.specs.Option.{option_copied}
use Rattle.std.specs.Slice.{IsItemAt}
use Rattle.std.proofs.lemmas.Option.{slice_get_past, slice_get-get_or}
use Rattle.std.specs.Prelude.{option_map}
use Rattle.std.specs.Map.{lookup}
use Rattle.std.proofs.lemmas.Bool.Decides.{nat_tests}
use Rattle.indexmap.specs.IndexMap.{insert_entry}
use Rattle.hx_rules.specs.declared.saves.Asked.{Asked}
use Rattle.hx_rules.specs.declared.saves.Asked.TheVariants.{Joined, Clean as SaidClean, Queued, Started as SaidStarted}
use Rattle.hx_rules.specs.declared.saves.Running.{Running}
use Rattle.hx_rules.specs.declared.saves.QueuedSave.{QueuedSave}
use Rattle.hx_rules.specs.declared.saves.SaveAnswer.{SaveAnswer}
use Rattle.hx_rules.specs.declared.saves.SaveAnswer.TheVariants.{Clean as AnswerClean}
use Rattle.hx_rules.specs.Saves.{answer_in, standing_asked, standing_finished, run_asked, run_finished, queued_after, starts}
use Rattle.hx_seq.specs.declared.sequencer.Next.{Next}
use Rattle.hx_seq.specs.declared.sequencer.Next.TheVariants.{Empty, Clean, Started}
use Rattle.hx_seq.specs.Keeps.{ticket, stand_in, next_by, may_come, finished, open_saves, waits_for_one, save_asked, ended, open_by, stands, shares, tickets_of, is_known, are_known}

-- ---- one ticket
pub stand_in_shares : (t : ℕ) (answers : List SaveAnswer) (entries : List (ℕ × Option ℕ)) → stand_in t (tickets_of answers entries) ≡ option_map (shares answers) (lookup (nat_eq t) entries)
stand_in_shares t answers [] = refl
stand_in_shares t answers (e ∷ entries) =
    ap (λ b. cond b (Some (shares answers e.1)) (stand_in t (tickets_of answers entries))) turned ∙ step (nat_eq t e.0) (stand_in_shares t answers entries)
  where
    turned : nat_eq e.0 t ≡ nat_eq t e.0
    turned = grind (arith, nat_tests)

    step : (b : Bool) → stand_in t (tickets_of answers entries) ≡ option_map (shares answers) (lookup (nat_eq t) entries) → cond b (Some (shares answers e.1)) (stand_in t (tickets_of answers entries)) ≡ option_map (shares answers) (cond b (Some e.1) (lookup (nat_eq t) entries))
    step true rest = refl
    step false rest = rest

-- a ticket that was never asked has no entry
pub absent : (t : ℕ) (answers : List SaveAnswer) (entries : List (ℕ × Option ℕ)) → stand_in t (tickets_of answers entries) ≡ None → lookup (nat_eq t) entries ≡ None
absent t answers entries fresh = step (lookup (nat_eq t) entries) (sym (stand_in_shares t answers entries) ∙ fresh)
  where
    step : (found : Option (Option ℕ)) → option_map (shares answers) found ≡ None → found ≡ None
    step None none = refl
    step (Some save) none = absurd cc

-- the answer of the save with this number
answer_there : (answers : List SaveAnswer) (save : ℕ) → slice_get answers save ≡ answer_in (Some (stands answers save))
answer_there [] zero = refl
answer_there [] (suc n) = refl
answer_there (a ∷ answers) zero = refl
answer_there (a ∷ answers) (suc n) = answer_there answers n

-- what a slice lends at an index
item_there : (xs : List SaveAnswer) (i : ℕ) (r : Option (Bor SaveAnswer)) → IsItemAt xs i r → option_copied r ≡ slice_get xs i
item_there xs i None item = sym (slice_get_past xs i (grind (arith, nat_tests, item.0)))
item_there xs i (Some x) item = ap (λ v. Some v) item.1 ∙ sym (slice_get-get_or xs i x.now (grind (arith, nat_tests, item.0)))

pub answer_lent : (answers : List SaveAnswer) (save : ℕ) (r : Option (Bor SaveAnswer)) → IsItemAt answers save r → option_copied r ≡ answer_in (Some (stands answers save))
answer_lent answers save r item = item_there answers save r item ∙ answer_there answers save

-- ---- a request
insert_absent : (entries : List (ℕ × Option ℕ)) (t : ℕ) (save : Option ℕ) → lookup (nat_eq t) entries ≡ None → insert_entry nat_eq entries t save ≡ entries ++ (t, save) ∷ []
insert_absent [] t save none = refl
insert_absent (e ∷ entries) t save none = step (nat_eq t e.0) none (insert_absent entries t save)
  where
    step : (b : Bool) → cond b (Some e.1) (lookup (nat_eq t) entries) ≡ None → (lookup (nat_eq t) entries ≡ None → insert_entry nat_eq entries t save ≡ entries ++ (t, save) ∷ []) → cond b ((e.0, save) ∷ entries) (e ∷ insert_entry nat_eq entries t save) ≡ e ∷ (entries ++ (t, save) ∷ [])
    step true none rest = absurd cc
    step false none rest = ap (λ es. e ∷ es) (rest none)

tickets_push : (answers : List SaveAnswer) (entries : List (ℕ × Option ℕ)) (t : ℕ) (save : Option ℕ) → tickets_of answers (entries ++ (t, save) ∷ []) ≡ tickets_of answers entries ++ ticket t (shares answers save) ∷ []
tickets_push answers [] t save = refl
tickets_push answers (e ∷ entries) t save = ap (λ ts. ticket e.0 (shares answers e.1) ∷ ts) (tickets_push answers entries t save)

next_runs : (answers : List SaveAnswer) (n : ℕ) → n ≡ length answers → stands answers n ≡ standing_asked SaidStarted
next_runs [] zero is = refl
next_runs [] (suc n) is = absurd (omega (arith, is))
next_runs (a ∷ answers) zero is = absurd (omega (arith, is))
next_runs (a ∷ answers) (suc n) is = next_runs answers n (omega (arith, is))

next_waits : (answers : List SaveAnswer) (n : ℕ) → n ≡ length answers + 1 → stands answers n ≡ standing_asked Queued
next_waits [] zero is = absurd (omega (arith, is))
next_waits [] (suc n) is = refl
next_waits (a ∷ answers) zero is = absurd (omega (arith, is))
next_waits (a ∷ answers) (suc n) is = next_waits answers n (omega (arith, is))

shares_asked : (asked : Asked) (answers : List SaveAnswer) → shares answers (save_asked asked (length answers)) ≡ standing_asked asked
shares_asked Joined answers = next_runs answers (length answers) refl
shares_asked SaidClean answers = refl
shares_asked Queued answers = next_waits answers (length answers + 1) refl
shares_asked SaidStarted answers = next_runs answers (length answers) refl

-- the tickets after a request
pub tickets_asked : (answers : List SaveAnswer) (entries : List (ℕ × Option ℕ)) (t : ℕ) (asked : Asked) → stand_in t (tickets_of answers entries) ≡ None
    → tickets_of answers (insert_entry nat_eq entries t (save_asked asked (length answers))) ≡ tickets_of answers entries ++ ticket t (standing_asked asked) ∷ []
tickets_asked answers entries t asked fresh =
    ap (tickets_of answers) (insert_absent entries t (save_asked asked (length answers)) (absent t answers entries fresh))
    ∙ (tickets_push answers entries t (save_asked asked (length answers))
    ∙ ap (λ s. tickets_of answers entries ++ ticket t s ∷ []) (shares_asked asked answers))

-- the saves that have no answer after a request: at most one more, of which the request may share one
pub record Opens (asked : Asked) (run after : Option Running) (queue later : Option QueuedSave) : Type 0 where
  pub least : open_saves run queue ≤ open_saves after later
  pub most : open_saves after later ≤ open_saves run queue + 1
  pub known : (n : ℕ) → is_known (n + open_saves after later) (save_asked asked n) ≡ true
  pub waits : waits_for_one after later ≡ true

lower : (n k m : ℕ) → k < m → nat_lt (n + k) (n + m) ≡ true
lower n k m less = grind (arith, nat_tests, less)

lowest : (n m : ℕ) → 0 < m → nat_lt n (n + m) ≡ true
lowest n m less = grind (arith, nat_tests, less)

one : (b : Bool) → cond b 1 0 ≤ 1
one true = omega arith
one false = omega arith

pub opens : (asked : Asked) (run : Option Running) (queue : Option QueuedSave) (current : ℕ) (force over : Bool) → may_come asked run ≡ true → waits_for_one run queue ≡ true
    → Opens asked run (run_asked asked current over run) queue (queued_after asked force over queue)
opens Joined None queue current force over may waits = absurd cc
opens Joined (Some run) queue current force over may waits = record { least = omega arith; most = omega arith; known = λ n. lowest n (1 + cond (is_some queue) 1 0) (omega arith); waits = refl }
opens SaidClean run queue current force over may waits = record { least = omega arith; most = omega arith; known = λ n. refl; waits = waits }
opens Queued None queue current force over may waits = absurd cc
opens Queued (Some run) queue current force over may waits = record { least = omega (arith, one (is_some queue)); most = omega arith; known = λ n. lower n 1 2 (omega arith); waits = refl }
opens SaidStarted None None current force over may waits = record { least = omega arith; most = omega arith; known = λ n. lowest n 1 (omega arith); waits = refl }
opens SaidStarted None (Some queue) current force over may waits = absurd cc
opens SaidStarted (Some run) queue current force over may waits = absurd cc

pub opened : (asked : Asked) (run after : Option Running) (queue later : Option QueuedSave) (current : ℕ) (force over : Bool) → after ≡ run_asked asked current over run → later ≡ queued_after asked force over queue
    → may_come asked run ≡ true → waits_for_one run queue ≡ true → Opens asked run after queue later
opened asked run after queue later current force over is_run is_queue may waits =
    subst (λ (a : Option Running). Opens asked run a queue later) (sym is_run)
    (subst (λ (q : Option QueuedSave). Opens asked run (run_asked asked current over run) queue q) (sym is_queue) (opens asked run queue current force over may waits))

-- ---- the numbers of saves
known_more : (n m : ℕ) (save : Option ℕ) → n ≤ m → is_known n save ≡ true → is_known m save ≡ true
known_more n m None more known = refl
known_more n m (Some save) more known = grind (arith, nat_tests, more, known)

first : (a b : Bool) → (a && b) ≡ true → a ≡ true
first true b both = refl
first false b both = both

rest : (a b : Bool) → (a && b) ≡ true → b ≡ true
rest true b both = both
rest false b both = absurd cc

joined : (a b : Bool) → a ≡ true → b ≡ true → (a && b) ≡ true
joined a b is_a is_b = ap (λ x. x && b) is_a ∙ is_b

all_known_push : (n m : ℕ) (entries : List (ℕ × Option ℕ)) (t : ℕ) (save : Option ℕ) → n ≤ m → are_known n entries ≡ true → is_known m save ≡ true → are_known m (entries ++ (t, save) ∷ []) ≡ true
all_known_push n m [] t save more known new = joined (is_known m save) true new refl
all_known_push n m (e ∷ entries) t save more known new =
    joined (is_known m e.1) _ (known_more n m e.1 more (first (is_known n e.1) (are_known n entries) known))
    (all_known_push n m entries t save more (rest (is_known n e.1) (are_known n entries) known) new)

pub known_asked : (n m : ℕ) (answers : List SaveAnswer) (entries : List (ℕ × Option ℕ)) (t : ℕ) (save : Option ℕ) → stand_in t (tickets_of answers entries) ≡ None → n ≤ m → are_known n entries ≡ true → is_known m save ≡ true → are_known m (insert_entry nat_eq entries t save) ≡ true
known_asked n m answers entries t save fresh more known new =
    ap (are_known m) (insert_absent entries t save (absent t answers entries fresh)) ∙ all_known_push n m entries t save more known new

-- ---- a finish
-- how many saves had no answer before this end of one
abbrev pub open_before : Next → ℕ
open_before Empty = 1
open_before Clean = 2
open_before Started = 2

abbrev pub is_started : Next → Bool
is_started Empty = false
is_started Clean = false
is_started Started = true

-- what stands after a finish, by what follows it
stands_ended : (next : Next) (answer : SaveAnswer) (answers : List SaveAnswer) (save : ℕ) → save < length answers + open_before next → stands (ended next answer answers) save ≡ standing_finished (is_started next) answer (stands answers save)
stands_ended Empty answer [] zero less = refl
stands_ended Clean answer [] zero less = refl
stands_ended Started answer [] zero less = refl
stands_ended Empty answer [] (suc n) less = absurd (omega (arith, less))
stands_ended Clean answer [] (suc zero) less = refl
stands_ended Clean answer [] (suc (suc n)) less = absurd (omega (arith, less))
stands_ended Started answer [] (suc zero) less = refl
stands_ended Started answer [] (suc (suc n)) less = absurd (omega (arith, less))
stands_ended Empty answer (a ∷ answers) zero less = refl
stands_ended Clean answer (a ∷ answers) zero less = refl
stands_ended Started answer (a ∷ answers) zero less = refl
stands_ended Empty answer (a ∷ answers) (suc n) less = stands_ended Empty answer answers n (omega (arith, less))
stands_ended Clean answer (a ∷ answers) (suc n) less = stands_ended Clean answer answers n (omega (arith, less))
stands_ended Started answer (a ∷ answers) (suc n) less = stands_ended Started answer answers n (omega (arith, less))

shares_ended : (next : Next) (answer : SaveAnswer) (answers : List SaveAnswer) (n : ℕ) (save : Option ℕ) → n ≡ length answers + open_before next → is_known n save ≡ true → shares (ended next answer answers) save ≡ standing_finished (is_started next) answer (shares answers save)
shares_ended next answer answers n None is known = refl
shares_ended next answer answers n (Some save) is known = stands_ended next answer answers save (grind (arith, nat_tests, is, known))

tickets_ended : (next : Next) (answer : SaveAnswer) (answers : List SaveAnswer) (n : ℕ) (entries : List (ℕ × Option ℕ)) → n ≡ length answers + open_before next → are_known n entries ≡ true → tickets_of (ended next answer answers) entries ≡ map (finished (is_started next) answer) (tickets_of answers entries)
tickets_ended next answer answers n [] is known = refl
tickets_ended next answer answers n (e ∷ entries) is known =
    let here = shares_ended next answer answers n e.1 is (first (is_known n e.1) (are_known n entries) known) in
    let others = tickets_ended next answer answers n entries is (rest (is_known n e.1) (are_known n entries) known) in
    (λ j. ticket e.0 (here j) ∷ others j)

started_is : (queue : Option QueuedSave) (dirty : Bool) → is_started (next_by queue dirty) ≡ starts queue dirty
started_is queue dirty = step (starts queue dirty) (is_some queue)
  where
    step : (a b : Bool) → is_started (cond a Started (cond b Clean Empty)) ≡ a
    step true b = refl
    step false true = refl
    step false false = refl

pub open_is : (run : Option Running) (queue : Option QueuedSave) (dirty : Bool) → is_some run ≡ true → open_saves run queue ≡ open_before (next_by queue dirty)
open_is None queue dirty runs = absurd cc
open_is (Some run) None dirty runs = refl
open_is (Some run) (Some queue) dirty runs = step (starts (Some queue) dirty)
  where
    step : (b : Bool) → 2 ≡ open_before (cond b Started Clean)
    step true = refl
    step false = refl

-- as many saves as before are known after a finish
length_ended : (next : Next) (answer : SaveAnswer) (answers : List SaveAnswer) → length (ended next answer answers) ≡ length answers + open_by next
length_ended Empty answer answers = length-append answers (answer ∷ [])
length_ended Started answer answers = length-append answers (answer ∷ [])
length_ended Clean answer answers = omega (arith, length-append (answers ++ answer ∷ []) (AnswerClean ∷ []), length-append answers (answer ∷ []))

open_after : (run : Option Running) (queue : Option QueuedSave) (dirty : Bool) (current : ℕ) → is_some run ≡ true → open_by (next_by queue dirty) + open_saves (run_finished queue dirty current) None ≡ open_saves run queue
open_after None queue dirty current runs = absurd cc
open_after (Some run) None dirty current runs = refl
open_after (Some run) (Some queue) dirty current runs = step (starts (Some queue) dirty)
  where
    step : (b : Bool) → open_by (cond b Started Clean) + open_saves (cond b (Some record { version = current; over = queue.over; checked = false }) None) None ≡ 2
    step true = refl
    step false = refl

pub known_finished : (answers : List SaveAnswer) (entries : List (ℕ × Option ℕ)) (run : Option Running) (queue : Option QueuedSave) (dirty : Bool) (current : ℕ) (answer : SaveAnswer)
    → is_some run ≡ true → are_known (length answers + open_saves run queue) entries ≡ true
    → are_known (length (ended (next_by queue dirty) answer answers) + open_saves (run_finished queue dirty current) None) entries ≡ true
known_finished answers entries run queue dirty current answer runs known =
    ap (λ n. are_known n entries) (omega (arith, length_ended (next_by queue dirty) answer answers, open_after run queue dirty current runs)) ∙ known

-- the tickets after a finish
pub tickets_finished : (answers : List SaveAnswer) (entries : List (ℕ × Option ℕ)) (run : Option Running) (queue : Option QueuedSave) (dirty : Bool) (answer : SaveAnswer)
    → is_some run ≡ true → are_known (length answers + open_saves run queue) entries ≡ true
    → tickets_of (ended (next_by queue dirty) answer answers) entries ≡ map (finished (starts queue dirty) answer) (tickets_of answers entries)
tickets_finished answers entries run queue dirty answer runs known =
    tickets_ended (next_by queue dirty) answer answers (length answers + open_saves run queue) entries (ap (λ n. length answers + n) (open_is run queue dirty runs)) known
    ∙ ap (λ b. map (finished b answer) (tickets_of answers entries)) (started_is queue dirty)
