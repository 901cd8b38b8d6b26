-- How many numbers pass a test: numbers that are joined one to one are as many.
use Rattle.std.specs.Prelude.{◌≡◌, ◌≢◌, ◌<◌, ◌≤◌, ◌⊎◌, ℕ, zero, suc, ◌+◌, ◌==◌, Bool, true, false, if◌then◌else◌, List, length, take, slice_index_or, count_by, refl}
use Rattle.std.proofs.Common.{sym, ◌∙◌, ap, subst, inl, inr, ⊎_elim, arith}
use Rattle.std.proofs.lemmas.Bool.Decides.{nat_tests, eqb_tells}
use Rattle.std.proofs.lemmas.List.Sums.{count_by_more_no, count_by_more_yes}
use Rattle.std.proofs.Math.Seq.{take-length}
use Rattle.hx_rules.specs.Legal.{count_below}

abbrev pub one_if : Bool → ℕ
one_if t = if t then 1 else 0

-- the test, but for this number
abbrev pub but_for : (ℕ → Bool) → ℕ → ℕ → Bool
but_for test j i = if i == j then false else test i

eq_true : (i j : ℕ) → i ≡ j → (i == j) ≡ true
eq_true i j same = grind (arith, nat_tests)

eq_false : (i j : ℕ) → i ≢ j → (i == j) ≡ false
eq_false i j apart = grind (arith, nat_tests)

but_here : (test : ℕ → Bool) (j i : ℕ) → i ≡ j → but_for test j i ≡ false
but_here test j i same = rw (eq_true i j same) refl

pub but_elsewhere : (test : ℕ → Bool) (j i : ℕ) → i ≢ j → but_for test j i ≡ test i
but_elsewhere test j i apart = rw (eq_false i j apart) refl

pub same_tests : (f g : ℕ → Bool) (n : ℕ) → ((i : ℕ) → i < n → f i ≡ g i) → count_below f n ≡ count_below g n
same_tests f g zero same = refl
same_tests f g (suc n) same = ap (λ (t : Bool). one_if t + count_below f n) (same n (omega arith)) ∙ ap (λ k. one_if (g n) + k) (same_tests f g n (λ i lt. same i (omega (arith, lt))))

one_true : (t : Bool) → t ≡ true → one_if t ≡ 1
one_true true h = refl
one_true false h = absurd cc

one_false : (t : Bool) → t ≡ false → one_if t ≡ 0
one_false true h = absurd cc
one_false false h = refl

-- one number less
one_less : (test : ℕ → Bool) (j n : ℕ) → j < n → test j ≡ true → count_below test n ≡ 1 + count_below (but_for test j) n
one_less test j zero below is = absurd (omega (arith, below))
one_less test j (suc n) below is = ⊎_elim
    (λ same.
    let rest : count_below test n ≡ count_below (but_for test j) n = same_tests test (but_for test j) n (λ i lt. sym (but_elsewhere test j i (λ e. omega (arith, lt, e, same.1)))) in
    let here = one_true (test n) (ap test same.1 ∙ is) in
    let gone = one_false (but_for test j n) (but_here test j n same.1) in
    omega (arith, rest, here, gone))
    (λ apart.
    let rest = one_less test j n (omega (arith, below, apart.1)) is in
    let here : one_if (but_for test j n) ≡ one_if (test n) = ap one_if (but_elsewhere test j n apart.1) in
    omega (arith, rest, here))
    (eqb_tells n j)

-- the number that this one is joined to
pub record IsJoined (g : ℕ → Bool) (m : ℕ) (R : ℕ → Type 0) : Type 0 where
  pub number : ℕ
  pub below : number < m
  pub passes : g number ≡ true
  pub joined : R number

-- Where each number that passes the one test is joined to one that passes the other, and no two to the same, there are no
-- fewer of these.
-- the others are joined to other numbers than the last
others : (f g : ℕ → Bool) (n m : ℕ) (R : ℕ → ℕ → Type 0) → ((i : ℕ) → i < suc n → f i ≡ true → IsJoined g m (R i)) → ((i k j : ℕ) → R i j → R k j → i ≡ k) → (last : IsJoined g m (R n))
    → (i : ℕ) → i < n → f i ≡ true → IsJoined (but_for g last.number) m (R i)
others f g n m R each apart last i lt passes = beside (each i (omega (arith, lt)) passes)
  where
    beside : (mine : IsJoined g m (R i)) → IsJoined (but_for g last.number) m (R i)
    beside mine = record {
      number = mine.number;
      below = mine.below;
      passes = but_elsewhere g last.number mine.number (λ same. let e : i ≡ n = apart i n last.number (subst (R i) same mine.joined) last.joined in omega (arith, lt, e)) ∙ mine.passes;
      joined = mine.joined;
    }

one_more : (f g : ℕ → Bool) (n m : ℕ) (R : ℕ → ℕ → Type 0) → (last : IsJoined g m (R n)) → f n ≡ true → count_below f n ≤ count_below (but_for g last.number) m → one_if (f n) + count_below f n ≤ count_below g m
one_more f g n m R last is less =
    let all = one_less g last.number m last.below last.passes in
    let here = one_true (f n) is in
    omega (arith, less, all, here)

pub no_fewer : (f g : ℕ → Bool) (n m : ℕ) (R : ℕ → ℕ → Type 0) → ((i : ℕ) → i < n → f i ≡ true → IsJoined g m (R i)) → ((i k j : ℕ) → R i j → R k j → i ≡ k) → count_below f n ≤ count_below g m
no_fewer f g zero m R each apart = omega arith
no_fewer f g (suc n) m R each apart =
    by_test (f n) refl (no_fewer f g n m R (λ i lt. each i (omega (arith, lt))) apart)
    (λ last. no_fewer f (but_for g last.number) n m R (others f g n m R each apart last) apart)
  where
    by_test : (t : Bool) → f n ≡ t → count_below f n ≤ count_below g m → ((last : IsJoined g m (R n)) → count_below f n ≤ count_below (but_for g last.number) m) → one_if (f n) + count_below f n ≤ count_below g m
    by_test true is ih more = let last = each n (omega arith) is in one_more f g n m R last is (more last)
    by_test false is ih more = let here = one_false (f n) is in omega (arith, ih, here)

-- three tests of which each number passes exactly one
pub in_three : (f g h : ℕ → Bool) (n : ℕ) → ((i : ℕ) → i < n → one_if (f i) + one_if (g i) + one_if (h i) ≡ 1) → count_below f n + count_below g n + count_below h n ≡ n
in_three f g h zero each = refl
in_three f g h (suc n) each = omega (arith, in_three f g h n (λ i lt. each i (omega (arith, lt))), each n (omega arith))

-- one that passes is there, or none is
pub record IsSomeBelow (f : ℕ → Bool) (n : ℕ) : Type 0 where
  pub number : ℕ
  pub below : number < n
  pub passes : f number ≡ true

pub some_below : (f : ℕ → Bool) (n : ℕ) → (count_below f n ≡ 0) ⊎ IsSomeBelow f n
some_below f zero = inl refl
some_below f (suc n) = by_test (f n) refl (some_below f n)
  where
    by_test : (t : Bool) → f n ≡ t → (count_below f n ≡ 0) ⊎ IsSomeBelow f n → (one_if (f n) + count_below f n ≡ 0) ⊎ IsSomeBelow f (suc n)
    by_test true is rest = inr (record { number = n; below = omega arith; passes = is })
    by_test false is (inl none) = let here = one_false (f n) is in inl (omega (arith, none, here))
    by_test false is (inr one) = inr (record { number = one.number; below = let b = one.below in omega (arith, b); passes = one.passes })

pub counts_one : (f : ℕ → Bool) (n i : ℕ) → i < n → f i ≡ true → 0 < count_below f n
counts_one f n i below is = let e = one_less f i n below is in omega (arith, e)

-- counting a list by its places
front_more : {X : Type 0} (p : X → Bool) (xs : List X) (d : X) (n : ℕ) (t : Bool) → p (slice_index_or xs n d) ≡ t → n < length xs → count_by p (take n xs) ≡ count_below (λ i. p (slice_index_or xs i d)) n
    → count_by p (take (n + 1) xs) ≡ one_if (p (slice_index_or xs n d)) + count_below (λ i. p (slice_index_or xs i d)) n
front_more p xs d n true is lt so_far =
    let more = count_by_more_yes p xs n d lt is in
    let here = one_true (p (slice_index_or xs n d)) is in
    more ∙ omega (arith, so_far, here)
front_more p xs d n false is lt so_far =
    let more = count_by_more_no p xs n d lt is in
    let here = one_false (p (slice_index_or xs n d)) is in
    more ∙ omega (arith, so_far, here)

by_front : {X : Type 0} (p : X → Bool) (xs : List X) (d : X) (n : ℕ) → n ≤ length xs → count_by p (take n xs) ≡ count_below (λ i. p (slice_index_or xs i d)) n
by_front p xs d zero le = refl
by_front p xs d (suc n) le =
    ap (λ k. count_by p (take k xs)) (let e : suc n ≡ n + 1 = omega arith in e)
    ∙ front_more p xs d n (p (slice_index_or xs n d)) refl (omega (arith, le)) (by_front p xs d n (omega (arith, le)))

pub count_by_places : {X : Type 0} (p : X → Bool) (xs : List X) (d : X) → count_by p xs ≡ count_below (λ i. p (slice_index_or xs i d)) (length xs)
count_by_places p xs d = ap (count_by p) (sym (take-length xs)) ∙ by_front p xs d (length xs) (omega arith)
