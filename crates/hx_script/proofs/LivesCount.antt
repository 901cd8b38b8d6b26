-- Each step that ends a life has ended one.
use Rattle.std.proofs.Common.{◌≡◌, ℕ, ◌+◌, Bool, List, [], ◌∷◌, length, ap, cond, arith}
use Rattle.std.specs.Prelude.{count_by}
use Rattle.std.proofs.lemmas.List.Sums.{sum_by-append}
use Rattle.hx_events.specs.declared.life.Life.{Life}
use Rattle.hx_script.specs.declared.script.Step.{Step}
use Rattle.hx_script.specs.declared.script.Step.TheVariants.{Do, Crash, Restart}
use Rattle.hx_script.specs.Follows.{HaveEnded}
use Rattle.hx_script.specs.Laws.{CountsLives}
use Rattle.hx_script.specs.Scripts.{is_ending}

count_ended : (guarded : Bool) (declared : List (List ℕ)) (steps : List Step) (lives : List Life) → HaveEnded guarded declared steps lives → length lives ≡ count_by is_ending steps
count_ended guarded declared [] lives ended = ap length ended
count_ended guarded declared (Do actor event ∷ before) lives ended =
    let same : count_by is_ending (Do actor event ∷ before) ≡ 0 + count_by is_ending before = sum_by-append (λ (s : Step). cond (is_ending s) 1 0) ((Do actor event) ∷ []) before in
    omega (arith, same, count_ended guarded declared before lives ended)
count_ended guarded declared (Crash pick ∷ before) [] ended = absurd ended
count_ended guarded declared (Crash pick ∷ before) (life ∷ earlier) ended =
    let more : count_by is_ending (Crash pick ∷ before) ≡ 1 + count_by is_ending before = sum_by-append (λ (s : Step). cond (is_ending s) 1 0) ((Crash pick) ∷ []) before in
    omega (arith, more, count_ended guarded declared before earlier ended.1)
count_ended guarded declared (Restart ∷ before) [] ended = absurd ended
count_ended guarded declared (Restart ∷ before) (life ∷ earlier) ended =
    let more : count_by is_ending (Restart ∷ before) ≡ 1 + count_by is_ending before = sum_by-append (λ (s : Step). cond (is_ending s) 1 0) ((Restart) ∷ []) before in
    omega (arith, more, count_ended guarded declared before earlier ended.1)

pub counts : CountsLives
counts guarded declared steps [] follows = absurd follows
counts guarded declared steps (last ∷ earlier) follows = omega (arith, count_ended guarded declared steps earlier follows.1)
