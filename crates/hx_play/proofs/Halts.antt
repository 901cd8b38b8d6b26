-- Where a script stops: the steps that were taken, and those that are left.
use Rattle.std.specs.Prelude.{◌≡◌, ℕ, Bool, true, List, [], ◌∷◌, ◌++◌, length, All, reverse, suc, refl}
use Rattle.std.proofs.Common.{sym, ◌∙◌, ap, subst, arith, append_assoc}
use Rattle.std.proofs.lemmas.List.{append-nil, reverse-append}
use Rattle.hx_disk.specs.File.{FileState}
use Rattle.hx_events.specs.declared.life.Life.{Life}
use Rattle.hx_script.specs.declared.script.Step.{Step}
use Rattle.hx_script.specs.declared.script.Step.TheVariants.{Do, Crash, Restart}
use Rattle.hx_script.specs.Follows.{HaveEnded, IsCutOff, StopsAtOpening, StopsInLife, closes_before, moves_asked, opens_after}
use Rattle.hx_lives.specs.Course.{Past, course_of}
use Rattle.hx_play.specs.Running.{IsBetween, IsCutShort, is_restart}

pub all_tail : (P : Step → Type 0) (x : Step) (xs : List Step) → All P (x ∷ xs) → All P xs
all_tail P x xs all = λ k d below. all (suc k) d (omega (arith, below))

-- the newest is the head
pub taken_more : {A : Type 0} (done : List A) (next : A) → reverse (done ++ next ∷ []) ≡ next ∷ reverse done
taken_more done next = reverse-append done (next ∷ [])

pub behind_one : (done : List Step) (step : Step) (rest : List Step) → done ++ (step ∷ rest) ≡ (done ++ step ∷ []) ++ rest
behind_one done step rest = sym (append_assoc done (step ∷ []) rest)

-- nothing is left
pub none_left : (done rest : List Step) → length rest ≡ 0 → done ++ rest ≡ done
none_left done [] none = append-nil done
none_left done (step ∷ rest) none = absurd (omega (arith, none))

closing_next : (step : Step) (rest : List Step) → is_restart step ≡ closes_before (step ∷ rest)
closing_next (Do actor event) rest = refl
closing_next (Crash pick) rest = refl
closing_next Restart rest = refl

-- nothing was planted
pub stops_unplanted : (guarded : Bool) (declared : List (List ℕ)) (steps : List Step) (lives : List Life) → lives ≡ [] → StopsAtOpening guarded declared steps lives
stops_unplanted guarded declared steps lives none = record { taken = []; rest = steps; all = refl; opens = refl; ended = none }

module _ {D : Type 0} (picked : ℕ → FileState → List ℕ) (tells : Bool) (time : D → ℕ) (past : D → Past) (failures : D → ℕ) (guarded : Bool) (declared : List (List ℕ)) (moment faults : ℕ) where
  -- the first vault wasn't opened
  pub stops_first : (steps : List Step) (lives : List Life) (disk : D) → IsBetween picked tells time past failures guarded declared moment faults [] lives disk → StopsAtOpening guarded declared steps lives
  stops_first steps lives disk between = record { taken = []; rest = steps; all = refl; opens = between.opens; ended = between.ended }

  -- a step ended a life, and no vault was opened behind it
  pub stops_at_opening : (steps so_far rest : List Step) (step : Step) (lives : List Life) (disk : D) → steps ≡ so_far ++ (step ∷ rest) → IsBetween picked tells time past failures guarded declared moment faults (step ∷ reverse so_far) lives disk → StopsAtOpening guarded declared steps lives
  stops_at_opening steps so_far rest step lives disk all between = record {
    taken = so_far ++ step ∷ [];
    rest = rest;
    all = all ∙ behind_one so_far step rest;
    opens = ap opens_after (taken_more so_far step) ∙ between.opens;
    ended = subst (λ (taken : List Step). HaveEnded guarded declared taken lives) (sym (taken_more so_far step)) between.ended;
  }

  -- a step found no memory in a life
  pub stops_in_life : (steps so_far rest : List Step) (step : Step) (lives : List Life) (disk : D) → steps ≡ so_far ++ (step ∷ rest) → IsCutShort picked tells time past failures guarded declared moment faults (is_restart step) (reverse so_far) lives disk → StopsInLife guarded declared steps lives
  stops_in_life steps so_far rest step lives disk all short = record {
    taken = so_far;
    rest = step ∷ rest;
    all = all;
    cut = short.cut;
    earlier = short.earlier;
    whole = short.whole;
    ended_so = short.ended_so;
    guarded_so = short.guarded_so;
    named = short.named;
    done = subst (λ b. IsCutOff b (course_of short.cut) (moves_asked (reverse so_far))) (closing_next step rest) short.entries;
    ended = short.ended;
  }

  -- the end of the last life found no memory
  pub stops_at_end : (steps so_far : List Step) (lives : List Life) (disk : D) → steps ≡ so_far → IsCutShort picked tells time past failures guarded declared moment faults true (reverse so_far) lives disk → StopsInLife guarded declared steps lives
  stops_at_end steps so_far lives disk all short = record {
    taken = so_far;
    rest = [];
    all = all ∙ sym (append-nil so_far);
    cut = short.cut;
    earlier = short.earlier;
    whole = short.whole;
    ended_so = short.ended_so;
    guarded_so = short.guarded_so;
    named = short.named;
    done = short.entries;
    ended = short.ended;
  }
