-- The commands of windows, step by step.
use Rattle.std.specs.Prelude.{◌≡◌, ◌≤◌, ◌<◌, ◌+◌, ◌==◌, ℕ, zero, suc, Bool, true, false, List, [], ◌∷◌, ◌++◌, length, All, map, get_or, set, if◌then◌else◌, Result, Ok, Err, OnOk, is_err, refl}
use Rattle.std.proofs.Common.{sym, ◌∙◌, ap, arith, ne_eqb}
use Rattle.std.proofs.lemmas.List.{append-nil}
use Rattle.std.proofs.lemmas.Bool.Decides.{nat_tests}
use Rattle.hx_events.specs.declared.event.Actor.{Actor}
use Rattle.hx_events.specs.declared.event.Actor.TheVariants.{Window}
use Rattle.hx_events.specs.declared.event.Command.{Command}
use Rattle.hx_events.specs.declared.event.Event.{Event}
use Rattle.hx_events.specs.declared.event.Event.TheVariants.{Act, Vault, Flush, Quit}
use Rattle.hx_events.specs.Texts.{resource_of}
use Rattle.hx_rules.specs.Interleavings.{is_window}
use Rattle.hx_script.specs.declared.script.Step.{Step}
use Rattle.hx_script.specs.declared.script.Step.TheVariants.{Do, Crash, Restart}
use Rattle.hx_script.specs.Scripts.{IsStepOf}
use Rattle.hx_actors.specs.Pieces.{IsNamed}
use Rattle.hx_play.proofs.Halts.{all_tail}
use Rattle.hx_play.specs.Runs.{commands_of, scripts_from, scripts_of, with_command}

if_joined : (b : Bool) (c : Command) (xs ys : List Command) → (if b then c ∷ (xs ++ ys) else (xs ++ ys)) ≡ (if b then c ∷ xs else xs) ++ ys
if_joined true c xs ys = refl
if_joined false c xs ys = refl

-- what one step more makes of a window's commands
commands_more : (k : ℕ) (before : List Step) (step : Step) → commands_of k (before ++ step ∷ []) ≡ commands_of k before ++ commands_of k (step ∷ [])
commands_more k [] step = refl
commands_more k (Do actor (Act c) ∷ before) step = ap (λ (cs : List Command). if is_window k actor then c ∷ cs else cs) (commands_more k before step) ∙ if_joined (is_window k actor) c (commands_of k before) (commands_of k (step ∷ []))
commands_more k (Do actor (Vault r) ∷ before) step = commands_more k before step
commands_more k (Do actor (Flush r) ∷ before) step = commands_more k before step
commands_more k (Do actor Quit ∷ before) step = commands_more k before step
commands_more k (Crash pick ∷ before) step = commands_more k before step
commands_more k (Restart ∷ before) step = commands_more k before step

-- a step that is no command of the window
commands_stay : (k : ℕ) (before : List Step) (step : Step) → commands_of k (step ∷ []) ≡ [] → commands_of k (before ++ step ∷ []) ≡ commands_of k before
commands_stay k before step none = commands_more k before step ∙ ap (λ (cs : List Command). commands_of k before ++ cs) none ∙ append-nil (commands_of k before)

pub scripts_stay : (k m : ℕ) (before : List Step) (step : Step) → ((i : ℕ) → k ≤ i → commands_of i (step ∷ []) ≡ []) → scripts_from k m (before ++ step ∷ []) ≡ scripts_from k m before
scripts_stay k zero before step none = refl
scripts_stay k (suc m) before step none = λ i. commands_stay k before step (none k (omega arith)) i ∷ scripts_stay (suc k) m before step (λ n le. none n (omega (arith, le))) i

is_same : (k w : ℕ) → w ≡ k → (w == k) ≡ true
is_same k w same = grind (arith, nat_tests)

own_command : (k w : ℕ) (c : Command) → w ≡ k → commands_of k (Do (Window w) (Act c) ∷ []) ≡ c ∷ []
own_command k w c same = rw (is_same k w same)

others_command : (k w : ℕ) (c : Command) → (w ≡ k → ⊥) → commands_of k (Do (Window w) (Act c) ∷ []) ≡ []
others_command k w c apart = rw (ne_eqb w k apart)

-- a window's command
command_from : (k m j w : ℕ) (c : Command) (before : List Step) → w ≡ k + j → with_command j c (scripts_from k m before) ≡ scripts_from k m (before ++ Do (Window w) (Act c) ∷ [])
command_from k zero j w c before same = refl
command_from k (suc m) zero w c before same = λ i.
    (sym (commands_more k before (Do (Window w) (Act c)) ∙ ap (λ (cs : List Command). commands_of k before ++ cs) (own_command k w c (omega (arith, same))))) i
    ∷ sym (scripts_stay (suc k) m before (Do (Window w) (Act c)) (λ n le. others_command n w c (λ is. omega (arith, same, le, is)))) i
command_from k (suc m) (suc j) w c before same = λ i.
    sym (commands_stay k before (Do (Window w) (Act c)) (others_command k w c (λ is. omega (arith, same, is)))) i
    ∷ command_from (suc k) m j w c before (omega (arith, same)) i

pub command_added : (w : ℕ) (c : Command) (before : List Step) → with_command w c (scripts_of before) ≡ scripts_of (before ++ Do (Window w) (Act c) ∷ [])
unfolding scripts_of
command_added w c before = command_from 0 8 w w c before (omega arith)

-- the place of a window's commands is written
pub written : {A : Type 0} (f : A → List Command) (j : ℕ) (c : Command) (xs : List A) (y d : A) → j < length xs → f y ≡ f (get_or xs j d) ++ c ∷ [] → map f (set xs j y) ≡ with_command j c (map f xs)
written f j c [] y d below added = absurd (omega (arith, below))
written f zero c (x ∷ xs) y d below added = λ i. added i ∷ map f xs
written f (suc j) c (x ∷ xs) y d below added = λ i. f x ∷ written f j c xs y d (omega (arith, below)) added i

-- a window that isn't there
pub unwritten_past : (j : ℕ) (c : Command) (ss : List (List Command)) → length ss ≤ j → with_command j c ss ≡ ss
unwritten_past j c [] past = refl
unwritten_past zero c (s ∷ ss) past = absurd (omega (arith, past))
unwritten_past (suc j) c (s ∷ ss) past = λ i. s ∷ unwritten_past j c ss (omega (arith, past)) i

-- the commands of a script name its own resources
one_named : (n : ℕ) (c : Command) (cs : List Command) → resource_of c < n → IsNamed n cs → IsNamed n (c ∷ cs)
one_named n c cs first rest zero d below = first
one_named n c cs first rest (suc i) d below = rest i d (omega (arith, below))

if_named : (n : ℕ) (b : Bool) (c : Command) (cs : List Command) → resource_of c < n → IsNamed n cs → IsNamed n (if b then c ∷ cs else cs)
if_named n true c cs first rest = one_named n c cs first rest
if_named n false c cs first rest = rest

commands_named : (names : List (List ℕ)) (k : ℕ) (steps : List Step) → All (IsStepOf names) steps → IsNamed (length names) (commands_of k steps)
commands_named names k [] all = λ i d below. absurd (omega (arith, below))
commands_named names k (Do actor (Act c) ∷ steps) all = if_named (length names) (is_window k actor) c (commands_of k steps) (all 0 (Do actor (Act c)) (omega arith)).0 (commands_named names k steps (all_tail (IsStepOf names) (Do actor (Act c)) steps all))
commands_named names k (Do actor (Vault r) ∷ steps) all = commands_named names k steps (all_tail (IsStepOf names) (Do actor (Vault r)) steps all)
commands_named names k (Do actor (Flush r) ∷ steps) all = commands_named names k steps (all_tail (IsStepOf names) (Do actor (Flush r)) steps all)
commands_named names k (Do actor Quit ∷ steps) all = commands_named names k steps (all_tail (IsStepOf names) (Do actor Quit) steps all)
commands_named names k (Crash pick ∷ steps) all = commands_named names k steps (all_tail (IsStepOf names) (Crash pick) steps all)
commands_named names k (Restart ∷ steps) all = commands_named names k steps (all_tail (IsStepOf names) Restart steps all)

one_more_named : (n : ℕ) (cs : List Command) (ss : List (List Command)) → IsNamed n cs → All (IsNamed n) ss → All (IsNamed n) (cs ∷ ss)
one_more_named n cs ss first rest zero d below = first
one_more_named n cs ss first rest (suc i) d below = rest i d (omega (arith, below))

scripts_named : (names : List (List ℕ)) (k m : ℕ) (steps : List Step) → All (IsStepOf names) steps → All (IsNamed (length names)) (scripts_from k m steps)
scripts_named names k zero steps all = λ i d below. absurd (omega (arith, below))
scripts_named names k (suc m) steps all = one_more_named (length names) (commands_of k steps) (scripts_from (suc k) m steps) (commands_named names k steps all) (scripts_named names (suc k) m steps all)

pub all_scripts_named : (names : List (List ℕ)) (steps : List Step) → All (IsStepOf names) steps → All (IsNamed (length names)) (scripts_of steps)
unfolding scripts_of
all_scripts_named names steps all = scripts_named names 0 8 steps all

-- more names name as much
pub named_still : (n more : ℕ) (ss : List (List Command)) → n ≤ more → All (IsNamed n) ss → All (IsNamed more) ss
named_still n more ss le all = λ k d below i c within. omega (arith, le, all k d below i c within)

-- a step that is no window's command
step_stays : (before : List Step) (step : Step) → ((i : ℕ) → commands_of i (step ∷ []) ≡ []) → scripts_of before ≡ scripts_of (before ++ step ∷ [])
unfolding scripts_of
step_stays before step none = sym (scripts_stay 0 8 before step (λ i le. none i))

others_actor : (i : ℕ) (actor : Actor) (c : Command) → ((w : ℕ) → actor ≡ Window w → ⊥) → commands_of i (Do actor (Act c) ∷ []) ≡ []
others_actor i (Window w) c no_window = absurd (no_window w refl)
others_actor i _ c no_window = refl

others_event : (i : ℕ) (actor : Actor) (event : Event) → ((c : Command) → event ≡ Act c → ⊥) → commands_of i (Do actor event ∷ []) ≡ []
others_event i actor (Act c) no_command = absurd (no_command c refl)
others_event i actor _ no_command = refl

others_step : (i : ℕ) (step : Step) → ((actor : Actor) (event : Event) → step ≡ Do actor event → ⊥) → commands_of i (step ∷ []) ≡ []
others_step i (Do actor event) no_deed = absurd (no_deed actor event refl)
others_step i _ no_deed = refl

pub actor_stays : (before : List Step) (actor : Actor) (c : Command) → ((w : ℕ) → actor ≡ Window w → ⊥) → scripts_of before ≡ scripts_of (before ++ Do actor (Act c) ∷ [])
actor_stays before actor c no_window = step_stays before (Do actor (Act c)) (λ i. others_actor i actor c no_window)

pub event_stays_out : (before : List Step) (actor : Actor) (event : Event) → ((c : Command) → event ≡ Act c → ⊥) → scripts_of before ≡ scripts_of (before ++ Do actor event ∷ [])
event_stays_out before actor event no_command = step_stays before (Do actor event) (λ i. others_event i actor event no_command)

pub step_stays_out : (before : List Step) (step : Step) → ((actor : Actor) (event : Event) → step ≡ Do actor event → ⊥) → scripts_of before ≡ scripts_of (before ++ step ∷ [])
step_stays_out before step no_deed = step_stays before step (λ i. others_step i step no_deed)

pub on_ok : {T E : Type 0} (r : Result T E) (P Q : Type 0) → (P → Q) → OnOk r P → OnOk r Q
on_ok (Ok x) P Q next is = next is
on_ok (Err e) P Q next is = tt

pub of_ok : {T E : Type 0} (r : Result T E) (P : Type 0) → is_err r ≡ false → OnOk r P → P
of_ok (Ok x) P fine is = is
of_ok (Err e) P fine is = absurd (let odd : true ≡ false = fine in cc)
