-- What is found in one pair more: a twin by what was found before is one by the pairs' values.
use Rattle.std.specs.Prelude.{◌≡◌, ◌<◌, ◌+◌, ◌*◌, ℕ, zero, suc, Bool, true, false, bytes_eq, if◌then◌else◌, List, [], ◌∷◌, ◌++◌, length, take, Option, Some, None, refl}
use Rattle.std.specs.List.{position_from}
use Rattle.std.proofs.Common.{sym, ◌∙◌, ap, ⊎_elim, arith}
use Rattle.std.proofs.lemmas.Bool.Decides.{eqb_tells}
use Rattle.std.proofs.lemmas.Iterator.Adapters.{position_from-zero}
use Rattle.hx_events.specs.declared.backup.PairFound.{PairFound}
use Rattle.hx_restore.specs.declared.value.PairValue.{PairValue}
use Rattle.hx_restore.specs.declared.value.PairValue.TheVariants.{Nothing, Broken, Held}
use Rattle.hx_restore.specs.Choices.{is_found_of, twin_in}
use Rattle.hx_restore.specs.Laws.{no_twin}
use Rattle.hx_slots.specs.Raws.{raw_at, AreReadOf}
use Rattle.hx_restore.specs.Values.{holds_for, found_by, earlier_of, found_from, pair_value, value_by_bytes, values_in, restored, restored_pairs}
use Rattle.hx_rules.specs.Legal.{lowest_from}
use Rattle.hx_slots.specs.Laws.{shown_within}
use Rattle.hx_slots.specs.Frames.{Frame, shown_in}
use Rattle.hx_restore.specs.Values.{side_of, value_of}
use Rattle.hx_slots.specs.declared.pair.RawPair.{RawPair}

-- a pair is found to have a backup of the resource where it holds one and no pair before it does
one_found : (resource : List ℕ) (v : PairValue) (earlier : Option ℕ) → (holds_for resource v ≡ true → earlier ≡ None) → is_found_of resource (found_by v earlier) ≡ holds_for resource v
one_found resource Nothing earlier first = refl
one_found resource Broken earlier first = refl
one_found resource (Held b side) None first = refl
one_found resource (Held b side) (Some q) first = go (bytes_eq b.resource resource) first
  where
    go : (t : Bool) → (t ≡ true → Some q ≡ None) → false ≡ t
    go true f = absurd (let e : Some q ≡ None = f refl in cc)
    go false f = refl

later : (t : Bool) (i : ℕ) (x y : Option ℕ) → (t ≡ false → x ≡ y) → (if t then Some i else x) ≡ (if t then Some i else y)
later true i x y same = refl
later false i x y same = same refl

first_from : (resource : List ℕ) (values : ℕ → PairValue) (i n : ℕ) → ((q : ℕ) → q < i → holds_for resource (values q) ≡ false)
    → position_from (is_found_of resource) i (found_from values i n) ≡ lowest_from (λ q. holds_for resource (values q)) i n
first_from resource values i zero none = refl
first_from resource values i (suc n) none =
    ap (λ (t : Bool). if t then Some i else position_from (is_found_of resource) (i + 1) (found_from values (i + 1) n)) (one_found resource (values i) (earlier_of values i (values i)) (no_twin resource values i none (values i)))
    ∙ later (holds_for resource (values i)) i (position_from (is_found_of resource) (i + 1) (found_from values (i + 1) n)) (lowest_from (λ q. holds_for resource (values q)) (i + 1) n)
    (λ here. first_from resource values (i + 1) n (λ q lt. ⊎_elim
    (λ same. ap (λ k. holds_for resource (values k)) same.1 ∙ here)
    (λ apart. none q (omega (arith, lt, apart.1)))
    (eqb_tells q i)))

twin_is : (values : ℕ → PairValue) (n : ℕ) (v : PairValue) → twin_in (found_from values 0 n) v ≡ earlier_of values n v
twin_is values n Nothing = refl
twin_is values n Broken = refl
twin_is values n (Held b side) = position_from-zero (is_found_of b.resource) (found_from values 0 n) ∙ first_from b.resource values 0 n (λ q lt. absurd (omega (arith, lt)))

-- the pairs found so far and one more
found_last : (values : ℕ → PairValue) (i n : ℕ) → found_from values i (suc n) ≡ found_from values i n ++ (found_by (values (i + n)) (earlier_of values (i + n) (values (i + n))) ∷ [])
found_last values i zero = ap (λ k. found_by (values k) (earlier_of values k (values k)) ∷ []) (let e : i ≡ i + 0 = omega arith in e)
found_last values i (suc n) =
    ap (λ (l : List PairFound). found_by (values i) (earlier_of values i (values i)) ∷ l)
    (found_last values (i + 1) n ∙ ap (λ k. found_from values (i + 1) n ++ (found_by (values k) (earlier_of values k (values k)) ∷ [])) (let e : i + 1 + n ≡ i + suc n = omega arith in e))

pub one_more : (values : ℕ → PairValue) (n : ℕ) (found : List PairFound) (v : PairValue) (next : PairFound) → found ≡ found_from values 0 n → v ≡ values n → next ≡ found_by v (twin_in found v) → found ++ (next ∷ []) ≡ found_from values 0 (n + 1)
one_more values n found v next so_far is_value is_next =
    ap (λ (l : List PairFound). l ++ (next ∷ [])) so_far
    ∙ ap (λ (x : PairFound). found_from values 0 n ++ (x ∷ [])) (is_next ∙ ap (λ (l : List PairFound). found_by v (twin_in l v)) so_far ∙ ap (found_by v) (twin_is values n v) ∙ ap (λ (w : PairValue). found_by w (earlier_of values n w)) is_value)
    ∙ sym (found_last values 0 n ∙ ap (λ k. found_from values 0 n ++ (found_by (values k) (earlier_of values k (values k)) ∷ [])) (let e : 0 + n ≡ n = omega arith in e))
    ∙ ap (found_from values 0) (let e : suc n ≡ n + 1 = omega arith in e)

same_lowest : (s t : ℕ → Bool) (i n : ℕ) → ((q : ℕ) → q < i + n → s q ≡ t q) → lowest_from s i n ≡ lowest_from t i n
same_lowest s t i zero same = refl
same_lowest s t i (suc n) same =
    ap (λ (k : Bool). if k then Some i else lowest_from s (i + 1) n) (same i (omega arith))
    ∙ ap (λ (k : Option ℕ). if t i then Some i else k) (same_lowest s t (i + 1) n (λ q lt. same q (omega (arith, lt))))

same_earlier : (v w : ℕ → PairValue) (i : ℕ) (x : PairValue) → ((q : ℕ) → q < i → v q ≡ w q) → earlier_of v i x ≡ earlier_of w i x
same_earlier v w i Nothing same = refl
same_earlier v w i Broken same = refl
same_earlier v w i (Held b side) same = same_lowest (λ q. holds_for b.resource (v q)) (λ q. holds_for b.resource (w q)) 0 i (λ q lt. ap (holds_for b.resource) (same q (omega (arith, lt))))

-- pairs of the same values are found to be the same
same_found : (v w : ℕ → PairValue) (i n : ℕ) → ((q : ℕ) → q < i + n → v q ≡ w q) → found_from v i n ≡ found_from w i n
same_found v w i zero same = refl
same_found v w i (suc n) same =
    ap (λ (x : PairFound). x ∷ found_from v (i + 1) n)
    (ap (λ (x : PairValue). found_by x (earlier_of v i x)) (same i (omega arith)) ∙ ap (found_by (w i)) (same_earlier v w i (w i) (λ q lt. same q (omega (arith, lt)))))
    ∙ ap (λ (l : List PairFound). found_by (w i) (earlier_of w i (w i)) ∷ l) (same_found v w (i + 1) n (λ q lt. same q (omega (arith, lt))))

same_of : (v w : ℕ → PairValue) (n m : ℕ) → n ≡ m → ((q : ℕ) → q < m → v q ≡ w q) → found_from v 0 n ≡ found_from w 0 m
same_of v w n m is same = ap (found_from v 0) is ∙ same_found v w 0 m (λ q lt. same q (omega (arith, lt)))

cut_value : (a b x y : List ℕ) → x ≡ take 534305 a → y ≡ take 534305 b → value_by_bytes x y ≡ value_by_bytes a b
cut_value a b x y is_x is_y =
    ap (λ (f : Option Frame). value_of (side_of f) (side_of (shown_in y))) (ap shown_in is_x ∙ shown_within a)
    ∙ ap (λ (f : Option Frame). value_of (side_of (shown_in a)) (side_of f)) (ap shown_in is_y ∙ shown_within b)

pub restored_of_image : (image : ℕ → List ℕ) (pairs : List RawPair) → AreReadOf image pairs → restored_pairs pairs ≡ restored image
unfolding restored_pairs restored pair_value
restored_of_image image pairs read = same_of (values_in pairs) (pair_value image) (length pairs) 64 read.count
    (λ p below. cut_value (image (2 * p)) (image (2 * p + 1)) (raw_at pairs p).a (raw_at pairs p).b (read.read_a p below) (read.read_b p below))
