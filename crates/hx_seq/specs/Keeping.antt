-- Each call of a sequencer is a step: what it leaves is what the steps leave.
use Rattle.std.proofs.Common.{◌≡◌, ℕ, ◌==◌, Bool, true, false, cond, List, [], ◌∷◌, ◌++◌, map, Some, None, refl, ap, ◌∙◌, arith}
use Rattle.std.proofs.lemmas.Bool.Decides.{nat_tests}
use Rattle.hx_rules.specs.declared.saves.Asked.{Asked}
use Rattle.hx_rules.specs.declared.saves.SaveAnswer.{SaveAnswer}
use Rattle.hx_rules.specs.Saves.{SaveStep, Ask, Check, Finish, run_asked, run_checked, run_finished, queued_after, standing_asked, standing_finished, standing_finished_if, standing, starts}
use Rattle.hx_seq.specs.Keeps.{Seq, Ticket, ticket, Keeps, KeepsWith, stand_in, finished, asked_seq, checked_seq, finished_seq}

-- a new ticket at the end is found, and the others as before
pub stand_in-push : (t : ℕ) (xs : List Ticket) (x : Ticket) → stand_in x.number xs ≡ None → stand_in t (xs ++ x ∷ []) ≡ cond (x.number == t) (Some x.standing) (stand_in t xs)
stand_in-push t [] x new = refl
stand_in-push t (y ∷ ys) x new = step (y.number == x.number) refl new (λ none. stand_in-push t ys x none)
  where
    step : (b : Bool) → (y.number == x.number) ≡ b → cond b (Some y.standing) (stand_in x.number ys) ≡ None → (stand_in x.number ys ≡ None → stand_in t (ys ++ x ∷ []) ≡ cond (x.number == t) (Some x.standing) (stand_in t ys)) → stand_in t ((y ∷ ys) ++ x ∷ []) ≡ cond (x.number == t) (Some x.standing) (stand_in t (y ∷ ys))
    step true is new' rest = absurd cc
    step false is new' rest = grind (arith, nat_tests, rest new')

pub stand_in-finished : (t : ℕ) (started : Bool) (answer : SaveAnswer) (xs : List Ticket) → stand_in t (map (finished started answer) xs) ≡ standing_finished_if started answer (stand_in t xs)
stand_in-finished t started answer [] = refl
stand_in-finished t started answer (x ∷ xs) = step (x.number == t) (stand_in-finished t started answer xs)
  where
    step : (b : Bool) → stand_in t (map (finished started answer) xs) ≡ standing_finished_if started answer (stand_in t xs) → cond b (Some (standing_finished started answer x.standing)) (stand_in t (map (finished started answer) xs)) ≡ standing_finished_if started answer (cond b (Some x.standing) (stand_in t xs))
    step true rest = refl
    step false rest = rest

-- a request
pub keeps_asked : (steps : List SaveStep) (old new : Seq) (t current : ℕ) (dirty force over : Bool) (answer : Asked)
    → Keeps steps old → stand_in t old.tickets ≡ None
    → new.run ≡ run_asked answer current over old.run → new.queue ≡ queued_after answer force over old.queue → new.tickets ≡ old.tickets ++ ticket t (standing_asked answer) ∷ []
    → Keeps (Ask t current dirty force over answer ∷ steps) new
keeps_asked steps old new t current dirty force over answer keeps fresh run queue tickets = record {
  run = run ∙ ap (run_asked answer current over) keeps.run;
  queue = queue ∙ ap (queued_after answer force over) keeps.queue;
  tickets = λ u.
      ap (stand_in u) tickets ∙ (stand_in-push u old.tickets (ticket t (standing_asked answer)) fresh
      ∙ ap (λ s. cond (t == u) (Some (standing_asked answer)) s) (keeps.tickets u));
}

-- a check
pub keeps_checked : (steps : List SaveStep) (old new : Seq) → Keeps steps old → new.run ≡ run_checked old.run → new.queue ≡ old.queue → new.tickets ≡ old.tickets → Keeps (Check ∷ steps) new
keeps_checked steps old new keeps run queue tickets = record {
  run = run ∙ ap run_checked keeps.run;
  queue = queue ∙ keeps.queue;
  tickets = λ u. ap (stand_in u) tickets ∙ keeps.tickets u;
}

-- a finish
pub keeps_finished : (steps : List SaveStep) (old new : Seq) (current : ℕ) (dirty : Bool) (answer : SaveAnswer)
    → Keeps steps old → new.run ≡ run_finished old.queue dirty current → new.queue ≡ None → new.tickets ≡ map (finished (starts old.queue dirty) answer) old.tickets
    → Keeps (Finish current dirty answer ∷ steps) new
keeps_finished steps old new current dirty answer keeps run queue tickets = record {
  run = run ∙ ap (λ w. run_finished w dirty current) keeps.queue;
  queue = queue;
  tickets = λ u.
      ap (stand_in u) tickets ∙ (stand_in-finished u (starts old.queue dirty) answer old.tickets
      ∙ (ap (λ s. standing_finished_if (starts old.queue dirty) answer s) (keeps.tickets u)
      ∙ ap (λ w. standing_finished_if (starts w dirty) answer (standing u steps)) keeps.queue));
}

-- the same for a call that leaves exactly this
pub keeps_with_asked : (t current : ℕ) (dirty force over : Bool) (answer : Asked) (old new : Seq) → stand_in t old.tickets ≡ None → new ≡ asked_seq t current force over answer old → KeepsWith (Ask t current dirty force over answer) old new
keeps_with_asked t current dirty force over answer old new fresh is steps keeps =
    keeps_asked steps old new t current dirty force over answer keeps fresh (ap (λ (s : Seq). s.run) is) (ap (λ (s : Seq). s.queue) is) (ap (λ (s : Seq). s.tickets) is)

pub keeps_with_checked : (old new : Seq) → new ≡ checked_seq old → KeepsWith Check old new
keeps_with_checked old new is steps keeps = keeps_checked steps old new keeps (ap (λ (s : Seq). s.run) is) (ap (λ (s : Seq). s.queue) is) (ap (λ (s : Seq). s.tickets) is)

pub keeps_with_finished : (current : ℕ) (dirty : Bool) (answer : SaveAnswer) (old new : Seq) → new ≡ finished_seq current dirty answer old → KeepsWith (Finish current dirty answer) old new
keeps_with_finished current dirty answer old new is steps keeps =
    keeps_finished steps old new current dirty answer keeps (ap (λ (s : Seq). s.run) is) (ap (λ (s : Seq). s.queue) is) (ap (λ (s : Seq). s.tickets) is)
