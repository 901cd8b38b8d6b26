-- A list of distinct names stays so when a new one is added.
use Rattle.std.proofs.Common.{◌≡◌, ℕ, ◌+◌, ◌<◌, ◌≤◌, Bool, true, false, cond, List, [], ◌∷◌, ◌++◌, length, length-append, Some, None, refl, ap, sym, subst, ◌∙◌, arith, ◌||◌, nat_lt, if◌then◌else◌, Vec, Result, Ok, Err, IfOk}
use Rattle.std.specs.Global.{Global}
use Rattle.std.specs.Prelude.{bytes_eq}
use Rattle.std.specs.Bool.{one_answer}
use Rattle.std.specs.List.{position_from, position_or_len, list_any}
use Rattle.std.proofs.lemmas.Iterator.Adapters.{position_from-zero}
use Rattle.std.proofs.lemmas.List.{map-append}
use Rattle.std.proofs.lemmas.Slice.Eq.{bytes_eq-Decides}
use Rattle.hx_events.specs.Places.{texts_of, is_named, place_of, IsDistinct}

-- a test of bytes doesn't ask in which order they are given
pub bytes_eq-sym : (xs ys : List ℕ) → bytes_eq xs ys ≡ bytes_eq ys xs
bytes_eq-sym xs ys =
    let other = bytes_eq-Decides ys xs in
    one_answer (bytes_eq xs ys) (bytes_eq ys xs) (bytes_eq-Decides xs ys) ((λ h. sym (other.0 h)), (λ e. other.1 (sym e)))

-- whether a name stands in a list doesn't depend on where counting begins
pub none_from : (r : List ℕ) (i j : ℕ) (xs : List (List ℕ)) → position_from (is_named r) i xs ≡ None → position_from (is_named r) j xs ≡ None
none_from r i j [] none = refl
none_from r i j (x ∷ xs) none = step (is_named r x) none (none_from r (i + 1) (j + 1) xs)
  where
    step : (b : Bool) → cond b (Some i) (position_from (is_named r) (i + 1) xs) ≡ None → (position_from (is_named r) (i + 1) xs ≡ None → position_from (is_named r) (j + 1) xs ≡ None) → cond b (Some j) (position_from (is_named r) (j + 1) xs) ≡ None
    step true h ih = absurd cc
    step false h ih = ih h

pub none_push : (r y : List ℕ) (i : ℕ) (xs : List (List ℕ)) → is_named r y ≡ false → position_from (is_named r) i xs ≡ None → position_from (is_named r) i (xs ++ y ∷ []) ≡ None
none_push r y i [] other none = ap (λ b. cond b (Some i) None) other
none_push r y i (x ∷ xs) other none = step (is_named r x) none (none_push r y (i + 1) xs other)
  where
    step : (b : Bool) → cond b (Some i) (position_from (is_named r) (i + 1) xs) ≡ None → (position_from (is_named r) (i + 1) xs ≡ None → position_from (is_named r) (i + 1) (xs ++ y ∷ []) ≡ None) → cond b (Some i) (position_from (is_named r) (i + 1) (xs ++ y ∷ [])) ≡ None
    step true h ih = absurd cc
    step false h ih = ih h

head_other : (r x : List ℕ) (i : ℕ) (xs : List (List ℕ)) → position_from (is_named r) i (x ∷ xs) ≡ None → is_named r x ≡ false
head_other r x i xs none = step (is_named r x) none
  where
    step : (b : Bool) → cond b (Some i) (position_from (is_named r) (i + 1) xs) ≡ None → b ≡ false
    step true h = absurd cc
    step false h = refl

tail_none : (r x : List ℕ) (i : ℕ) (xs : List (List ℕ)) → position_from (is_named r) i (x ∷ xs) ≡ None → position_from (is_named r) (i + 1) xs ≡ None
tail_none r x i xs none = step (is_named r x) none
  where
    step : (b : Bool) → cond b (Some i) (position_from (is_named r) (i + 1) xs) ≡ None → position_from (is_named r) (i + 1) xs ≡ None
    step true h = absurd cc
    step false h = h

pub distinct_push : (xs : List (List ℕ)) (y : List ℕ) → place_of y xs ≡ None → IsDistinct xs → IsDistinct (xs ++ y ∷ [])
distinct_push [] y new distinct = (refl, tt)
distinct_push (x ∷ xs) y new distinct =
    let other : is_named x y ≡ false = bytes_eq-sym y x ∙ head_other y x 0 xs new in
    (none_push x y 0 xs other distinct.0, distinct_push xs y (none_from y 1 0 xs (tail_none y x 0 xs new)) distinct.1)

-- what the type of the names keeps
abbrev pub AreNames : List (List ℕ) → Type 0
AreNames xs = (length xs ≤ 256) × IsDistinct xs

pub names_push : (xs ys old : List (List ℕ)) (y z : List ℕ) → ys ≡ xs ++ y ∷ [] → y ≡ z → xs ≡ old → place_of z old ≡ None → length old < 256 → AreNames xs → AreNames ys
names_push xs ys old y z grown is same new room names =
    let fresh : place_of y xs ≡ None = ap (λ (r : List ℕ). place_of r xs) is ∙ ap (place_of z) same ∙ new in
    let bound : length xs < 256 = omega (arith, ap length same) in
    subst AreNames (sym grown) (omega (arith, length-append xs (y ∷ [])), distinct_push xs y fresh names.1)

pub names_same : (xs ys : List (List ℕ)) → ys ≡ xs → AreNames xs → AreNames ys
names_same xs ys same names = subst AreNames (sym same) names

-- The table of names that are kept finds a name where the list has it.
module _ (r : List ℕ) (test : Vec ℕ Global → Bool) (tests_name : (name : Vec ℕ Global) → test name ≡ is_named r name.items) where
  place_from : (i : ℕ) (names : List (Vec ℕ Global)) → position_from test i names ≡ position_from (is_named r) i (texts_of names)
  place_from i [] = refl
  place_from i (name ∷ names) =
      ap (λ b. cond b (Some i) (position_from test (i + 1) names)) (tests_name name)
      ∙ ap (λ found. cond (is_named r name.items) (Some i) found) (place_from (i + 1) names)

  pub found_place : (names : List (Vec ℕ Global)) → cond (nat_lt (position_or_len test names) (length names)) (Some (position_or_len test names)) None ≡ place_of r (texts_of names)
  found_place names = position_from-zero test names ∙ place_from 0 names

  pub none_there : (i : ℕ) (names : List (Vec ℕ Global)) → position_from (is_named r) i (texts_of names) ≡ None → list_any test names ≡ false
  none_there i [] none = refl
  none_there i (name ∷ names) none =
      ap (λ b. b || list_any test names) (tests_name name ∙ head_other r name.items i (texts_of names) none)
      ∙ none_there (i + 1) names (tail_none r name.items i (texts_of names) none)

-- a test of bytes in the other order
pub named_is : (r : List ℕ) (name : Vec ℕ Global) → bytes_eq r name.items ≡ is_named r name.items
named_is r name = bytes_eq-sym r name.items

pub texts_push : (names : List (Vec ℕ Global)) (name : Vec ℕ Global) → texts_of (names ++ name ∷ []) ≡ texts_of names ++ name.items ∷ []
texts_push names name = map-append (λ (n : Vec ℕ Global). n.items) names (name ∷ [])

-- a new name goes to the end of the table
pub table_push : (names new : List (Vec ℕ Global)) (name : Vec ℕ Global) (there : Bool) → there ≡ false → new ≡ (if there then names else names ++ name ∷ []) → texts_of new ≡ texts_of names ++ name.items ∷ []
table_push names new name there absent is = ap texts_of (is ∙ ap (λ b. if b then names else names ++ name ∷ []) absent) ∙ texts_push names name

-- what a success gives, where nothing of its value is asked
pub if_ok : {A E : Type 0} (P : Type 0) (result : Result A E) → P → IfOk result (λ x. P)
if_ok P (Ok x) holds = holds
if_ok P (Err e) holds = tt

pub if_failed : {A E : Type 0} (P : Type 0) (result : Result A E) (e : E) → result ≡ Err e → IfOk result (λ x. P)
if_failed P (Ok x) e failed = absurd cc
if_failed P (Err f) e failed = tt
