-- The blocks of a frame, put behind a closed gate one after the other.
use Rattle.std.specs.Prelude.{◌≡◌, ◌<◌, ◌+◌, ◌^◌, ℕ, Bool, false, IsTrue, IsSome, List, [], ◌++◌, length, Option, Some, None, refl}
use Rattle.std.proofs.Common.{sym, ◌∙◌, ap, subst, arith}
use Rattle.std.proofs.lemmas.List.{append_assoc, append-nil, length-append, nil_from_length}
use Rattle.hx_disk.specs.File.{FileState}
use Rattle.hx_rules.specs.Allowed.{allowed_of}
use Rattle.hx_rules.specs.Backups.{Snapshot}
use Rattle.hx_vault.specs.Vaults.{VaultState, pair_at, place_of, put_length}
use Rattle.hx_history_laws.specs.Keeping.{MovesPair, moves_joined, moves_none, owns_fine}
use Rattle.hx_history_laws.specs.PairRuns.{PairRun, run_joined, run_still}
use Rattle.hx_history_laws.specs.PairStages.{IsPairFine}
use Rattle.hx_history_laws.specs.Stages.{HasPut, put_owns}
use Rattle.hx_history_laws.specs.Stamps.{AreStamped}

-- Of these bytes all but the rest were put behind what stood behind the gate before.
pub record PutsFront {D : Type 0} (tells : Bool) (time : D → ℕ) (past : D → ℕ → ℕ → FileState) (now : D → ℕ → FileState) (failures : D → ℕ) (p : ℕ) (v w : VaultState) (old new : D) (bytes rest : List ℕ) : Type 0 where
  pub done : List ℕ
  pub parts : done ++ rest ≡ bytes
  pub moves : MovesPair p v w
  pub stamp : w.stamp ≡ v.stamp
  pub placed : (pair_at w p).put ≡ Some (place_of (pair_at v p) + length done)
  pub no_fault : failures new ≡ failures old
  pub run : IsTrue tells → (resource : List ℕ) (was : Option Snapshot) (put : List ℕ) → HasPut resource was put v p (now old) → PairRun time past p (IsPairFine resource (allowed_of was None false) p) old new
  pub stamped : IsTrue tells → (own : Bool) → AreStamped own v (now old) → AreStamped own w (now new)
  pub ready : IsTrue tells → (resource : List ℕ) (was : Option Snapshot) (put : List ℕ) → HasPut resource was put v p (now old) → HasPut resource was (put ++ done) w p (now new)

begun_at : (put : Option ℕ) → IsSome put → put ≡ Some (put_length put + 0)
begun_at None is = absurd cc
begun_at (Some n) is = ap (λ k. Some k) (let z : n ≡ n + 0 = omega arith in z)

pub is_begun : (put : Option ℕ) (n : ℕ) → put ≡ Some n → IsSome put
is_begun put n is = subst IsSome (sym is) refl

module _ {D : Type 0} (tells : Bool) (time : D → ℕ) (past : D → ℕ → ℕ → FileState) (now : D → ℕ → FileState) (present : (d : D) (f : ℕ) → past d (time d) f ≡ now d f) (failures : D → ℕ) (p : ℕ) where
  -- none yet
  pub puts_none : (v : VaultState) (disk : D) (bytes rest : List ℕ) → IsSome (pair_at v p).put → rest ≡ bytes → PutsFront tells time past now failures p v v disk disk bytes rest
  puts_none v disk bytes rest begun whole = record {
    done = [];
    parts = whole;
    moves = moves_none p v v refl;
    stamp = refl;
    placed = begun_at (pair_at v p).put begun;
    no_fault = refl;
    run = λ told resource was put is. run_still time past now present p (IsPairFine resource (allowed_of was None false) p) disk disk (record { still = refl; kept = λ t f le. refl; same = λ f. refl })
        (owns_fine resource was None false v p (now disk) (put_owns resource was put v p (now disk) is));
    stamped = λ told own is. is;
    ready = λ told resource was put is. subst (λ (l : List ℕ). HasPut resource was l v p (now disk)) (sym (append-nil put)) is;
  }

  module _ (v u : VaultState) (old mid : D) (bytes rest : List ℕ) (front : PutsFront tells time past now failures p v u old mid bytes rest) where
    -- what the next block asks for
    pub next_begun : IsSome (pair_at u p).put
    next_begun = is_begun (pair_at u p).put (place_of (pair_at v p) + length front.done) front.placed

    pub next_place : place_of (pair_at u p) ≡ place_of (pair_at v p) + length front.done
    next_place = ap put_length front.placed

    pub next_small : (block more : List ℕ) → rest ≡ block ++ more → place_of (pair_at v p) + length bytes < 2 ^ 32 → place_of (pair_at u p) + length block < 2 ^ 32
    next_small block more is small =
        let whole = ap (λ (l : List ℕ). length l) front.parts in
        let parts = length-append front.done rest in
        let here = ap (λ (l : List ℕ). length l) is in
        let sum = length-append block more in
        omega (arith, whole, parts, here, sum, small, next_place)

    pub next_side : IsTrue tells → (resource : List ℕ) × (was : Option Snapshot) × (put : List ℕ) × HasPut resource was put v p (now old) → (resource : List ℕ) × (was : Option Snapshot) × (put : List ℕ) × HasPut resource was put u p (now mid)
    next_side told h = (h.0, h.1, h.2 ++ front.done, front.ready told h.0 h.1 h.2 h.3)

    -- a run behind it, of a block that was put or not
    pub front_run : (new : D) → IsTrue tells → ((resource : List ℕ) (was : Option Snapshot) (put : List ℕ) → HasPut resource was put u p (now mid) → PairRun time past p (IsPairFine resource (allowed_of was None false) p) mid new)
        → (resource : List ℕ) (was : Option Snapshot) (put : List ℕ) → HasPut resource was put v p (now old) → PairRun time past p (IsPairFine resource (allowed_of was None false) p) old new
    front_run new told run resource was put is = run_joined time past now present p (IsPairFine resource (allowed_of was None false) p) old mid new (front.run told resource was put is)
        (run resource was (put ++ front.done) (front.ready told resource was put is))

    -- one block more
    pub puts_more : (w : VaultState) (new : D) (block more : List ℕ) → rest ≡ block ++ more → MovesPair p u w → w.stamp ≡ u.stamp → (pair_at w p).put ≡ Some (place_of (pair_at u p) + length block) → failures new ≡ failures mid
        → (IsTrue tells → (resource : List ℕ) (was : Option Snapshot) (put : List ℕ) → HasPut resource was put u p (now mid) → PairRun time past p (IsPairFine resource (allowed_of was None false) p) mid new)
        → (IsTrue tells → (own : Bool) → AreStamped own u (now mid) → AreStamped own w (now new))
        → (IsTrue tells → (resource : List ℕ) (was : Option Snapshot) (put : List ℕ) → HasPut resource was put u p (now mid) → HasPut resource was (put ++ block) w p (now new))
        → PutsFront tells time past now failures p v w old new bytes more
    puts_more w new block more is moves stamp placed no_fault run stamped ready = record {
      done = front.done ++ block;
      parts = append_assoc front.done block more ∙ ap (λ (l : List ℕ). front.done ++ l) (sym is) ∙ front.parts;
      moves = moves_joined p v u w front.moves moves;
      stamp = stamp ∙ front.stamp;
      placed = placed ∙ ap (λ n. Some n) (let sum = length-append front.done block in let z : place_of (pair_at u p) + length block ≡ place_of (pair_at v p) + length (front.done ++ block) = omega (arith, sum, next_place) in z);
      no_fault = no_fault ∙ front.no_fault;
      run = λ told. front_run new told (run told);
      stamped = λ told own at. stamped told own (front.stamped told own at);
      ready = λ told resource was put at. subst (λ (l : List ℕ). HasPut resource was l w p (now new)) (append_assoc put front.done block) (ready told resource was (put ++ front.done) (front.ready told resource was put at));
    }

    -- all of them
    pub puts_all : length rest ≡ 0 → IsTrue tells → (resource : List ℕ) (was : Option Snapshot) (put : List ℕ) → HasPut resource was put v p (now old) → HasPut resource was (put ++ bytes) u p (now mid)
    puts_all none told resource was put is =
        let all : front.done ≡ bytes = sym (append-nil front.done) ∙ ap (λ (l : List ℕ). front.done ++ l) (sym (nil_from_length rest none)) ∙ front.parts in
        subst (λ (l : List ℕ). HasPut resource was (put ++ l) u p (now mid)) all (front.ready told resource was put is)
