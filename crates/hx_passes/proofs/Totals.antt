-- Totals over the views, and counts of places and leaves.
use Rattle.std.proofs.Common.{◌≡◌, ◌≢◌, ℕ, zero, suc, ◌+◌, ◌≤◌, ◌<◌, nat_le, nat_lt, ◌==◌, Bool, true, false, List, [], ◌∷◌, ◌++◌, length, refl, ap, sym, arith}
use Rattle.std.proofs.lemmas.Bool.Decides.{nat_tests}
use mathlib.Core.Option.{some, some-injective, some-ne-none}
use lib.ListN.{get_elem?, set}
use Rattle.hx_passes.specs.declared.rule.Call.{Call}
use Rattle.hx_passes.specs.Rules.{total, times, one_if, up_to, below, Each}

module _ {A : Type 0} where
  pub total_set : (f : A → ℕ) (views : List A) (id : ℕ) (v w : A) → get_elem? views id ≡ some v → total f (set views id w) + f v ≡ total f views + f w
  total_set f [] id v w at = absurd (some-ne-none v (sym at))
  total_set f (x ∷ xs) zero v w at = omega (arith, ap f (some-injective x v at))
  total_set f (x ∷ xs) (suc id) v w at = omega (arith, total_set f xs id v w at)

  pub total_same : (f : A → ℕ) (views : List A) (id : ℕ) (v w : A) → get_elem? views id ≡ some v → f w ≡ f v → total f (set views id w) ≡ total f views
  total_same f views id v w at same = omega (arith, total_set f views id v w at, same)

  pub total_push : (f : A → ℕ) (views : List A) (w : A) → total f (views ++ w ∷ []) ≡ total f views + f w
  total_push f [] w = omega arith
  total_push f (x ∷ xs) w = omega (arith, total_push f xs w)

  pub total_none : (f : A → ℕ) (views : List A) → length views ≤ 0 → total f views ≡ 0
  total_none f [] le = refl
  total_none f (x ∷ xs) le = absurd (omega (arith, le))

  pub total_one : (f : A → ℕ) (views : List A) (id : ℕ) (v : A) → get_elem? views id ≡ some v → f v ≤ total f views
  total_one f [] id v at = absurd (some-ne-none v (sym at))
  total_one f (x ∷ xs) zero v at = omega (arith, ap f (some-injective x v at))
  total_one f (x ∷ xs) (suc id) v at = omega (arith, total_one f xs id v at)

  -- two views at two places
  pub total_two : (f : A → ℕ) (views : List A) (i j : ℕ) (v w : A) → i ≢ j → get_elem? views i ≡ some v → get_elem? views j ≡ some w → f v + f w ≤ total f views
  total_two f [] i j v w apart at to = absurd (some-ne-none v (sym at))
  total_two f (x ∷ xs) zero zero v w apart at to = absurd (apart refl)
  total_two f (x ∷ xs) zero (suc j) v w apart at to = omega (arith, ap f (some-injective x v at), total_one f xs j w to)
  total_two f (x ∷ xs) (suc i) zero v w apart at to = omega (arith, ap f (some-injective x w to), total_one f xs i v at)
  total_two f (x ∷ xs) (suc i) (suc j) v w apart at to = omega (arith, total_two f xs i j v w (λ e. apart (ap suc e)) at to)

  -- what is at most as much in each view is so in all, and less where it is less in one
  pub total_most : (f g : A → ℕ) (views : List A) → ((id : ℕ) (v : A) → get_elem? views id ≡ some v → f v ≤ g v) → total f views ≤ total g views
  total_most f g [] le = omega arith
  total_most f g (x ∷ xs) le = omega (arith, le 0 x refl, total_most f g xs (λ id v at. le (suc id) v at))

  pub total_less : (f g : A → ℕ) (views : List A) (id : ℕ) (v : A) → get_elem? views id ≡ some v → f v < g v → ((id : ℕ) (v : A) → get_elem? views id ≡ some v → f v ≤ g v) → total f views < total g views
  total_less f g [] id v at less le = absurd (some-ne-none v (sym at))
  total_less f g (x ∷ xs) zero v at less le = omega (arith, less, ap f (some-injective x v at), ap g (some-injective x v at), total_most f g xs (λ id v at. le (suc id) v at))
  total_less f g (x ∷ xs) (suc id) v at less le = omega (arith, le 0 x refl, total_less f g xs id v at less (λ id v at. le (suc id) v at))

  -- where one view has all that g counts, and f is 0 where g is, it has all that f counts
  pub sole : (f g : A → ℕ) (views : List A) (id : ℕ) (v : A) → get_elem? views id ≡ some v → ((j : ℕ) (u : A) → get_elem? views j ≡ some u → g u ≡ 0 → f u ≡ 0) → total g views ≡ g v → total f views ≡ f v
  sole f g [] id v at idle all = absurd (some-ne-none v (sym at))
  sole f g (x ∷ xs) zero v at idle all =
      let e = some-injective x v at in
      omega (arith, ap f e, nothing f g xs (λ j u to. idle (suc j) u to) (omega (arith, all, ap g e)))
    where
      nothing : (f g : A → ℕ) (views : List A) → ((j : ℕ) (u : A) → get_elem? views j ≡ some u → g u ≡ 0 → f u ≡ 0) → total g views ≡ 0 → total f views ≡ 0
      nothing f g [] idle all = refl
      nothing f g (x ∷ xs) idle all = omega (arith, idle 0 x refl (omega (arith, all)), nothing f g xs (λ j u to. idle (suc j) u to) (omega (arith, all)))
  sole f g (x ∷ xs) (suc id) v at idle all =
      let most = total_one g xs id v at in
      omega (arith, idle 0 x refl (omega (arith, all, most)), sole f g xs id v at (λ j u to. idle (suc j) u to) (omega (arith, all, most)))

pub times_append : (p : ℕ) (cs ds : List Call) → times p (cs ++ ds) ≡ times p cs + times p ds
times_append p [] ds = omega arith
times_append p (c ∷ cs) ds = omega (arith, times_append p cs ds)

pub up_to_append : (n : ℕ) (ls ms : List ℕ) → up_to n (ls ++ ms) ≡ up_to n ls + up_to n ms
up_to_append n [] ms = omega arith
up_to_append n (l ∷ ls) ms = omega (arith, up_to_append n ls ms)

pub below_append : (n : ℕ) (ls ms : List ℕ) → below n (ls ++ ms) ≡ below n ls + below n ms
below_append n [] ms = omega arith
below_append n (l ∷ ls) ms = omega (arith, below_append n ls ms)

pub one_more : (p n : ℕ) → one_if (nat_le p (suc n)) ≡ one_if (nat_le p n) + one_if (suc n == p)
one_more p n = grind (arith, nat_tests)

pub is_one : (x n : ℕ) → x ≤ n → one_if (nat_le x n) ≡ 1
is_one x n le = grind (arith, nat_tests)

pub is_none : (n first : ℕ) → n ≤ first → one_if (nat_lt first n) ≡ 0
is_none n first le = grind (arith, nat_tests)

one_le : (b : Bool) → one_if b ≤ 1
one_le true = omega arith
one_le false = omega arith

-- of leaves up to n, all are up to n
pub up_to_all : (n : ℕ) (ls : List ℕ) → Each (λ l. l ≤ n) ls → up_to n ls ≡ length ls
up_to_all n [] all = refl
up_to_all n (x ∷ xs) all = omega (arith, is_one x n all.0, up_to_all n xs all.1)

pub below_most : (n : ℕ) (ls : List ℕ) → below n ls ≤ length ls
below_most n [] = omega arith
below_most n (x ∷ xs) = omega (arith, below_most n xs, one_le (nat_lt x n))

-- no leaves have no count
pub up_to_none : (n : ℕ) (ls : List ℕ) → length ls ≤ 0 → up_to n ls ≡ 0
up_to_none n [] le = refl
up_to_none n (x ∷ xs) le = absurd (omega (arith, le))

pub below_none : (n : ℕ) (ls : List ℕ) → length ls ≤ 0 → below n ls ≡ 0
below_none n [] le = refl
below_none n (x ∷ xs) le = absurd (omega (arith, le))
