-- From what each pair of an image holds to what a restart finds.
use Rattle.std.specs.Prelude.{◌≡◌, ◌<◌, ◌≤◌, ◌⊎◌, ℕ, zero, suc, ◌+◌, Bool, true, false, if◌then◌else◌, List, Option, Some, None, refl}
use Rattle.std.proofs.Common.{sym, ◌∙◌, ap, subst, inl, inr, ⊎_elim, arith}
use Rattle.std.proofs.lemmas.Bool.{cases_lt}
use Rattle.std.proofs.lemmas.Slice.Eq.{bytes_eq-Decides}
use Rattle.hx_events.specs.declared.backup.Backup.{Backup}
use Rattle.hx_events.specs.declared.backup.PairFound.{PairFound}
use Rattle.hx_events.specs.declared.backup.PairFound.TheVariants.{Empty, Found, Damaged, Twin}
use Rattle.hx_events.specs.declared.backup.Side.{Side}
use Rattle.hx_restore.specs.declared.value.PairValue.{PairValue}
use Rattle.hx_restore.specs.declared.value.PairValue.TheVariants.{Nothing, Broken, Held}
use Rattle.hx_restore.specs.Values.{holds_for, found_by, earlier_of, found_from, pair_value, restored}
use Rattle.hx_rules.specs.Legal.{lowest_from}
use Rattle.hx_lives.specs.Course.{Start}
use Rattle.hx_lives.specs.CrashSafe.{found_at, IsKnownTwin, HasNoOther, HasTwin}
use Rattle.hx_pairs.specs.Values.{HasOwnValues}

-- the finding of the pair p by the values
found_of : (ℕ → PairValue) → ℕ → PairFound
found_of values p = found_by (values p) (earlier_of values p (values p))

-- the finding of each of n pairs from i on, and of no pair behind them
at_from : (values : ℕ → PairValue) (i n k : ℕ) → ((n ≤ k) × (found_at (found_from values i n) k ≡ Empty)) ⊎ ((k < n) × (found_at (found_from values i n) k ≡ found_by (values (i + k)) (earlier_of values (i + k) (values (i + k)))))
at_from values i zero k = inl (omega arith, refl)
at_from values i (suc n) zero = inr (omega arith, ap (λ m. found_by (values m) (earlier_of values m (values m))) (let e : i ≡ i + 0 = omega arith in e))
at_from values i (suc n) (suc k) = ⊎_elim
    (λ none. inl (omega (arith, none.0), none.1))
    (λ at. inr (omega (arith, at.0), at.1 ∙ ap (λ m. found_by (values m) (earlier_of values m (values m))) (let e : i + 1 + k ≡ i + suc k = omega arith in e)))
    (at_from values (i + 1) n k)

pub at_place : (values : ℕ → PairValue) (n k : ℕ) → ((n ≤ k) × (found_at (found_from values 0 n) k ≡ Empty)) ⊎ ((k < n) × (found_at (found_from values 0 n) k ≡ found_by (values k) (earlier_of values k (values k))))
at_place values n k = ⊎_elim (λ none. inl none) (λ at. inr (at.0, at.1 ∙ ap (λ m. found_by (values m) (earlier_of values m (values m))) (let e : 0 + k ≡ k = omega arith in e))) (at_from values 0 n k)

was_held : (v : PairValue) (e : Option ℕ) (backup : Backup) (side : Side) → found_by v e ≡ Found backup side → v ≡ Held backup side
was_held Nothing e backup side h = absurd cc
was_held Broken e backup side h = absurd cc
was_held (Held b s) None backup side h = cc
was_held (Held b s) (Some q) backup side h = absurd cc

was_broken : (v : PairValue) (e : Option ℕ) → found_by v e ≡ Damaged → v ≡ Broken
was_broken Nothing e h = absurd cc
was_broken Broken e h = refl
was_broken (Held b s) None h = absurd cc
was_broken (Held b s) (Some q) h = absurd cc

-- the lowest of these numbers that passes the test
pub record IsLowest (test : ℕ → Bool) (i n q : ℕ) : Type 0 where
  pub from : i ≤ q
  pub below : q < i + n
  pub passes : test q ≡ true
  pub first : (r : ℕ) → i ≤ r → r < q → test r ≡ false

lowest_is : (test : ℕ → Bool) (i n q : ℕ) → lowest_from test i n ≡ Some q → IsLowest test i n q
lowest_is test i zero q h = absurd cc
lowest_is test i (suc n) q h = go (λ l. lowest_is test (i + 1) n q l) (test i) refl h
  where
    go : (lowest_from test (i + 1) n ≡ Some q → IsLowest test (i + 1) n q) → (t : Bool) → test i ≡ t → (if t then Some i else lowest_from test (i + 1) n) ≡ Some q → IsLowest test i (suc n) q
    go ih true is h =
        let e : i ≡ q = cc in
        record { from = omega (arith, e); below = omega (arith, e); passes = subst (λ m. test m ≡ true) e is; first = λ r from lt. absurd (omega (arith, from, lt, e)) }
    go ih false is h =
        let l = ih h in
        record {
          from = omega (arith, l.from);
          below = omega (arith, l.below);
          passes = l.passes;
          first = λ r from lt. ⊎_elim (λ after. l.first r (omega (arith, after)) lt) (λ before. subst (λ m. test m ≡ false) (let e : i ≡ r = omega (arith, from, before) in e) is) (cases_lt i r);
        }

none_lowest : (test : ℕ → Bool) (i n : ℕ) → ((q : ℕ) → i ≤ q → q < i + n → test q ≡ false) → lowest_from test i n ≡ None
none_lowest test i zero none = refl
none_lowest test i (suc n) none = rw (none i (omega arith) (omega arith)) (none_lowest test (i + 1) n (λ q from lt. none q (omega (arith, from)) (omega (arith, lt))))

-- which pair an earlier one is, and what it holds
pub record IsEarlier (values : ℕ → PairValue) (p q : ℕ) : Type 0 where
  pub backup : Backup
  pub side : Side
  pub mine : values p ≡ Held backup side
  pub lowest : IsLowest (λ k. holds_for backup.resource (values k)) 0 p q

pub was_twin : (values : ℕ → PairValue) (p q : ℕ) (v : PairValue) → values p ≡ v → found_by v (earlier_of values p v) ≡ Twin q → IsEarlier values p q
was_twin values p q Nothing is h = absurd cc
was_twin values p q Broken is h = absurd cc
was_twin values p q (Held b s) is h = go (lowest_from (λ k. holds_for b.resource (values k)) 0 p) refl h
  where
    go : (x : Option ℕ) → lowest_from (λ k. holds_for b.resource (values k)) 0 p ≡ x → found_by (Held b s) x ≡ Twin q → IsEarlier values p q
    go None at h = absurd cc
    go (Some k) at h = let e : k ≡ q = cc in record { backup = b; side = s; mine = is; lowest = lowest_is (λ k. holds_for b.resource (values k)) 0 p q (at ∙ ap (λ n. Some n) e) }

-- the lowest pair that holds the resource is found to hold it
pub first_found : (values : ℕ → PairValue) (resource : List ℕ) (q : ℕ) (v : PairValue) → holds_for resource v ≡ true → ((r : ℕ) → r < q → holds_for resource (values r) ≡ false)
    → (b : Backup) × (s : Side) × (found_by v (earlier_of values q v) ≡ Found b s) × (b.resource ≡ resource)
first_found values resource q Nothing h none = absurd cc
first_found values resource q Broken h none = absurd cc
first_found values resource q (Held b s) h none =
    let same : b.resource ≡ resource = (bytes_eq-Decides b.resource resource).0 h in
    let lowest : lowest_from (λ k. holds_for b.resource (values k)) 0 q ≡ None = subst (λ (r : List ℕ). lowest_from (λ k. holds_for r (values k)) 0 q ≡ None) (sym same) (none_lowest (λ k. holds_for resource (values k)) 0 q (λ r from lt. none r (omega (arith, lt)))) in
    (b, s, ap (found_by (Held b s)) lowest, same)

-- the same for n pairs in all
words : (b : Start) (image : ℕ → List ℕ) (n : ℕ) → n ≤ 64 → HasOwnValues b image → HasNoOther b.names b.base (found_from (pair_value image) 0 n)
words b image n most own = record {
  named = λ p backup side h. ⊎_elim
      (λ none. absurd (let e : Empty ≡ Found backup side = sym none.1 ∙ h in cc))
      (λ at. own.names p backup side (omega (arith, at.0, most)) (was_held (values p) (earlier_of values p (values p)) backup side (sym at.1 ∙ h)))
      (at_place values n p);
  damaged = λ p h. ⊎_elim
      (λ none. absurd (let e : Empty ≡ Damaged = sym none.1 ∙ h in cc))
      (λ at. own.broken p (omega (arith, at.0, most)) (was_broken (values p) (earlier_of values p (values p)) (sym at.1 ∙ h)))
      (at_place values n p);
  twins = λ p q h. ⊎_elim
      (λ none. absurd (let e : Empty ≡ Twin q = sym none.1 ∙ h in cc))
      (λ at. twin p q at.0 (was_twin values p q (values p) refl (sym at.1 ∙ h)))
      (at_place values n p);
}
  where
    values : ℕ → PairValue
    values = pair_value image

    twin : (p q : ℕ) → p < n → IsEarlier (pair_value image) p q → IsKnownTwin b.base (found_from (pair_value image) 0 n) q
    twin p q within w =
        let l = w.lowest in
        let mine : holds_for w.backup.resource (pair_value image p) ≡ true = ap (holds_for w.backup.resource) w.mine ∙ (bytes_eq-Decides w.backup.resource w.backup.resource).1 refl in
        let f = first_found (pair_value image) w.backup.resource q (pair_value image q) l.passes (λ r lt. l.first r (omega arith) lt) in
        let known : HasTwin b.base w.backup.resource = own.twins p q w.backup.resource (omega (arith, within, most)) (omega (arith, within, most, l.below)) (λ same. omega (arith, same, l.below)) mine l.passes in
        record {
          backup = f.0;
          side = f.1;
          earlier = ⊎_elim
              (λ none. absurd (omega (arith, none.0, within, l.below)))
              (λ at. at.1 ∙ f.2)
              (at_place (pair_value image) n q);
          known = subst (HasTwin b.base) (sym f.3) known;
        }

-- What each pair of an image holds, in the words of what a restart finds.
pub own_words : (b : Start) (image : ℕ → List ℕ) → HasOwnValues b image → HasNoOther b.names b.base (restored image)
unfolding restored
own_words b image own = words b image 64 (omega arith) own
