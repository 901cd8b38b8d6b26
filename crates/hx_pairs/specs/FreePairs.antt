-- A free pair is there exactly where the rules don't say that none is left: of the 64 pairs each is free, barred as the base
-- has it, or held, one to one.
use Rattle.std.specs.Prelude.{◌≡◌, ◌≢◌, ◌<◌, ◌⊎◌, ℕ, ◌+◌, ◌==◌, Bool, true, false, List, length, count_by, Option, Some, None, is_some, slice_index_or, refl}
use Rattle.std.proofs.Common.{sym, ◌∙◌, ap, inl, inr, ⊎_elim, arith}
use Rattle.std.proofs.lemmas.Bool.Decides.{nat_tests}
use Rattle.std.proofs.lemmas.List.{length-map}
use Rattle.hx_events.specs.declared.backup.PairFound.{PairFound}
use Rattle.hx_events.specs.declared.backup.PairFound.TheVariants.{Empty, Found, Damaged, Twin}
use Rattle.hx_rules.specs.Legal.{count_below, holds_at, is_barred, no_pair_free}
use Rattle.hx_vault.specs.declared.pair.Pair.{Pair}
use Rattle.hx_vault.specs.declared.pair.PairUse.{PairUse}
use Rattle.hx_vault.specs.declared.pair.PairUse.TheVariants.{Free, Taken, Barred}
use Rattle.hx_vault.specs.Vaults.{VaultState, pair_at, adopted}
use Rattle.hx_lives.specs.Course.{Course, opening}
use Rattle.hx_pairs.specs.Counting.{one_if, same_tests, IsJoined, no_fewer, in_three, some_below, counts_one, count_by_places}
use Rattle.hx_pairs.specs.AllPairs.{held_at}
use Rattle.hx_pairs.specs.Safe.{held_below}
use Rattle.hx_pairs.specs.Registries.{IsPlaced, IsExact, is_barred_use, barred_pairs}

pub record IsFreePair (v : VaultState) : Type 0 where
  pub pair : ℕ
  pub below : pair < 64
  pub free : (pair_at v pair).used ≡ Free

-- Where the rules don't say that no pair is left, one is free.
abbrev pub FreePairIsThere : Type 0
FreePairIsThere = (c : Course) (v : VaultState) (held : List (Option ℕ)) → IsPlaced c.names (opening c).barred v held → IsExact c held → no_pair_free (opening c) c.entries ≡ false → IsFreePair v

-- Where they say so, none is.
abbrev pub NoPairIsFree : Type 0
NoPairIsFree = (c : Course) (v : VaultState) (held : List (Option ℕ)) → IsPlaced c.names (opening c).barred v held → IsExact c held → no_pair_free (opening c) c.entries ≡ true → (p : ℕ) → p < 64 → (pair_at v p).used ≢ Free

abbrev is_free : PairUse → Bool
is_free Free = true
is_free Taken = false
is_free Barred = false

abbrev is_taken : PairUse → Bool
is_taken Free = false
is_taken Taken = true
is_taken Barred = false

one_use : (u : PairUse) → one_if (is_free u) + one_if (is_taken u) + one_if (is_barred_use u) ≡ 1
one_use Free = refl
one_use Taken = refl
one_use Barred = refl

was_free : (u : PairUse) → is_free u ≡ true → u ≡ Free
was_free Free h = refl
was_free Taken h = absurd cc
was_free Barred h = absurd cc

was_taken : (u : PairUse) → is_taken u ≡ true → u ≡ Taken
was_taken Free h = absurd cc
was_taken Taken h = refl
was_taken Barred h = absurd cc

module _ (c : Course) (v : VaultState) (held : List (Option ℕ)) (placed : IsPlaced c.names (opening c).barred v held) (exact : IsExact c held) where
  free_at : ℕ → Bool
  free_at p = is_free (pair_at v p).used

  taken_at : ℕ → Bool
  taken_at p = is_taken (pair_at v p).used

  barred_at : ℕ → Bool
  barred_at p = is_barred_use (pair_at v p).used

  holder : ℕ → Bool
  holder k = holds_at (opening c) c.entries k

  -- who holds a pair is joined to it
  its_pair : (k : ℕ) → k < length c.names → holder k ≡ true → IsJoined taken_at 64 (λ p. held_at held k ≡ Some p)
  unfolding holder taken_at
  its_pair k within is = go (held_at held k) refl (sym (exact k within) ∙ is)
    where
      go : (h : Option ℕ) → held_at held k ≡ h → is_some h ≡ true → IsJoined taken_at 64 (λ p. held_at held k ≡ Some p)
      go None has some = absurd cc
      go (Some p) has some = record { number = p; below = placed.below k p has; passes = ap is_taken (placed.used k p has); joined = has }

  held_within : (k p : ℕ) → held_at held k ≡ Some p → k < length c.names
  held_within k p has = held_below held (length c.names) k p placed.owners has

  its_holder : (p : ℕ) → p < 64 → taken_at p ≡ true → IsJoined holder (length c.names) (λ k. held_at held k ≡ Some p)
  unfolding taken_at holder
  its_holder p below is =
      let h = placed.owned p below (was_taken (pair_at v p).used is) in
      let within = held_within h.owner p h.is in
      record { number = h.owner; below = within; passes = exact h.owner within ∙ ap (λ (x : Option ℕ). is_some x) h.is; joined = h.is }

  same_pair : (p q k : ℕ) → held_at held k ≡ Some p → held_at held k ≡ Some q → p ≡ q
  same_pair p q k one other = let e : Some p ≡ Some q = sym one ∙ other in cc

  as_many : count_below holder (length c.names) ≡ count_below taken_at 64
  as_many =
      let less = no_fewer holder taken_at (length c.names) 64 (λ k p. held_at held k ≡ Some p) its_pair (λ i k j one other. placed.apart i k j one other) in
      let more = no_fewer taken_at holder 64 (length c.names) (λ p k. held_at held k ≡ Some p) its_holder same_pair in
      omega (arith, less, more)

  each_use : (p : ℕ) → p < 64 → one_if (free_at p) + one_if (taken_at p) + one_if (barred_at p) ≡ 1
  unfolding free_at taken_at barred_at
  each_use p below = one_use (pair_at v p).used

  all_uses : count_below free_at 64 + count_below taken_at 64 + count_below barred_at 64 ≡ 64
  all_uses = in_three free_at taken_at barred_at 64 each_use

  barred_is : count_below barred_at 64 ≡ (opening c).barred
  unfolding barred_at barred_pairs
  barred_is = placed.foreign

  -- what the rules add up
  sum_is : count_below holder (length c.names) + (opening c).barred + count_below free_at 64 ≡ 64
  sum_is = omega (arith, as_many, all_uses, barred_is)

-- the number of resources is that of the names
as_named : (c : Course) → length (opening c).restored ≡ length c.names
as_named c = simp length-map

sums : (n b f : ℕ) (t : Bool) → (n + b == 64) ≡ t → n + b + f ≡ 64 → ((t ≡ true) × (f ≡ 0)) ⊎ ((t ≡ false) × (0 < f))
sums n b f true is sum = inl (refl, grind (arith, nat_tests))
sums n b f false is sum = inr (refl, grind (arith, nat_tests))

by_sum : (c : Course) (v : VaultState) (held : List (Option ℕ)) (placed : IsPlaced c.names (opening c).barred v held) (exact : IsExact c held) (t : Bool) → no_pair_free (opening c) c.entries ≡ t
    → ((t ≡ true) × (count_below (λ p. is_free (pair_at v p).used) 64 ≡ 0)) ⊎ ((t ≡ false) × (0 < count_below (λ p. is_free (pair_at v p).used) 64))
unfolding holder free_at
by_sum c v held placed exact t is =
    sums (count_below (holds_at (opening c) c.entries) (length (opening c).restored)) (opening c).barred (count_below (λ p. is_free (pair_at v p).used) 64) t is
    (ap (λ n. count_below (holds_at (opening c) c.entries) n + (opening c).barred + count_below (λ p. is_free (pair_at v p).used) 64) (as_named c) ∙ sum_is c v held placed exact)

pub free_pair_is_there : FreePairIsThere
free_pair_is_there c v held placed exact room = ⊎_elim
    (λ full. absurd (let e : false ≡ true = full.0 in cc))
    (λ some. ⊎_elim
    (λ none. absurd (omega (arith, none, some.1)))
    (λ one. record { pair = one.number; below = one.below; free = was_free (pair_at v one.number).used one.passes })
    (some_below (λ p. is_free (pair_at v p).used) 64))
    (by_sum c v held placed exact false room)

pub no_pair_is_free : NoPairIsFree
no_pair_is_free c v held placed exact full p below free = ⊎_elim
    (λ none. let one = counts_one (λ q. is_free (pair_at v q).used) 64 p below (ap is_free free) in omega (arith, one, none.1))
    (λ some. let e : true ≡ false = some.0 in cc)
    (by_sum c v held placed exact true full)

-- A vault that was adopted has as many barred pairs as the base.
abbrev pub AdoptedIsBarred : Type 0
AdoptedIsBarred = (found : List PairFound) (old new : VaultState) → length found ≡ 64 → ((p : ℕ) → p < 64 → pair_at new p ≡ adopted (slice_index_or found p Empty) (pair_at old p)) → barred_pairs new ≡ count_by is_barred found

adopted_use : (f : PairFound) (pair : Pair) → is_barred_use (adopted f pair).used ≡ is_barred f
adopted_use Empty pair = refl
adopted_use (Found backup side) pair = refl
adopted_use Damaged pair = refl
adopted_use (Twin q) pair = refl

barred_upto : (found : List PairFound) (old new : VaultState) (n : ℕ) → ((p : ℕ) → p < n → pair_at new p ≡ adopted (slice_index_or found p Empty) (pair_at old p))
    → count_below (λ p. is_barred_use (pair_at new p).used) n ≡ count_below (λ p. is_barred (slice_index_or found p Empty)) n
barred_upto found old new n each = same_tests (λ p. is_barred_use (pair_at new p).used) (λ p. is_barred (slice_index_or found p Empty)) n
    (λ p lt. ap (λ (x : Pair). is_barred_use x.used) (each p lt) ∙ adopted_use (slice_index_or found p Empty) (pair_at old p))

pub adopted_is_barred : AdoptedIsBarred
unfolding barred_pairs
adopted_is_barred found old new long each =
    barred_upto found old new 64 each
    ∙ ap (count_below (λ p. is_barred (slice_index_or found p Empty))) (sym long)
    ∙ sym (count_by_places is_barred found Empty)
