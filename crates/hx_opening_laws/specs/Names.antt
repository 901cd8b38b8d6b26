-- The names of a life that begins: no two are the same, each restored resource is among them, and they are few.
use Rattle.std.specs.Prelude.{◌≡◌, ◌<◌, ◌≤◌, ◌⊎◌, ℕ, zero, suc, ◌+◌, Bool, true, false, cond, is_some, if◌then◌else◌, All, List, [], ◌∷◌, ◌++◌, length, take, slice_get, slice_index_or, Option, Some, None, refl}
use Rattle.std.specs.List.{position_from}
use Rattle.std.proofs.Common.{sym, ◌∙◌, ap, subst, inl, inr, ⊎_elim, arith}
use Rattle.std.proofs.lemmas.Option.{get_or_from_slice_get}
use Rattle.std.proofs.lemmas.Slice.Eq.{bytes_eq-Decides}
use Rattle.hx_events.specs.declared.backup.Backup.{Backup}
use Rattle.hx_events.specs.declared.backup.PairFound.{PairFound}
use Rattle.hx_events.specs.declared.backup.PairFound.TheVariants.{Empty, Found, Damaged, Twin}
use Rattle.hx_events.specs.declared.backup.Side.{Side}
use Rattle.hx_events.specs.Places.{is_named, place_of, IsDistinct}
use Rattle.hx_events.specs.Resources.{is_resource}
use Rattle.hx_rules.specs.Legal.{with_name, with_restored}
use Rattle.hx_lives.specs.CrashSafe.{found_at, IsNamed}

-- the name at a place
abbrev name_in : List (List ℕ) → ℕ → List ℕ
name_in names k = slice_index_or names k []

-- a resource that isn't found stands at no place
absent : (r : List ℕ) (i : ℕ) (xs : List (List ℕ)) → position_from (is_named r) i xs ≡ None → (k : ℕ) → k < length xs → name_in xs k ≡ r → ⊥
absent r i [] none k lt is = omega (arith, lt)
absent r i (x ∷ xs) none zero lt is = go (is_named r x) ((bytes_eq-Decides x r).1 is) none
  where
    go : (t : Bool) → t ≡ true → cond t (Some i) (position_from (is_named r) (i + 1) xs) ≡ None → ⊥
    go true here none = cc
    go false here none = cc
absent r i (x ∷ xs) none (suc k) lt is = go (λ h. absent r (i + 1) xs h k (omega (arith, lt)) is) (is_named r x) none
  where
    go : (position_from (is_named r) (i + 1) xs ≡ None → ⊥) → (t : Bool) → cond t (Some i) (position_from (is_named r) (i + 1) xs) ≡ None → ⊥
    go later true none = cc
    go later false none = later none

-- two places of distinct names that hold the same are one
pub names_apart : (names : List (List ℕ)) → IsDistinct names → (c k : ℕ) → c < length names → k < length names → name_in names c ≡ name_in names k → c ≡ k
names_apart [] distinct c k lt mt same = absurd (omega (arith, lt))
names_apart (x ∷ xs) distinct zero zero lt mt same = refl
names_apart (x ∷ xs) distinct zero (suc k) lt mt same = absurd (absent x 0 xs distinct.0 k (omega (arith, mt)) (sym same))
names_apart (x ∷ xs) distinct (suc c) zero lt mt same = absurd (absent x 0 xs distinct.0 c (omega (arith, lt)) same)
names_apart (x ∷ xs) distinct (suc c) (suc k) lt mt same = let e : c ≡ k = names_apart xs distinct.1 c k (omega (arith, lt)) (omega (arith, mt)) same in omega (arith, e)

-- a resource that is found stands at some place
present : (r : List ℕ) (i : ℕ) (xs : List (List ℕ)) → is_some (position_from (is_named r) i xs) ≡ true → IsNamed xs r
present r i [] some = absurd cc
present r i (x ∷ xs) some = go (λ h. present r (i + 1) xs h) (is_named r x) refl some
  where
    later : IsNamed xs r → IsNamed (x ∷ xs) r
    later n = let lt = n.below in record { number = suc n.number; below = omega (arith, lt); is = n.is }

    go : (is_some (position_from (is_named r) (i + 1) xs) ≡ true → IsNamed xs r) → (t : Bool) → is_named r x ≡ t → is_some (cond t (Some i) (position_from (is_named r) (i + 1) xs)) ≡ true → IsNamed (x ∷ xs) r
    go rest true is some = record { number = 0; below = omega arith; is = (bytes_eq-Decides x r).0 is }
    go rest false is some = later (rest some)

length_more : (r : List ℕ) (xs : List (List ℕ)) → length (xs ++ r ∷ []) ≡ length xs + 1
length_more r [] = refl
length_more r (x ∷ xs) = let e = length_more r xs in omega (arith, e)

at_last : (r : List ℕ) (xs : List (List ℕ)) → name_in (xs ++ r ∷ []) (length xs) ≡ r
at_last r [] = refl
at_last r (x ∷ xs) = at_last r xs

at_before : (r : List ℕ) (xs : List (List ℕ)) (k : ℕ) → k < length xs → name_in (xs ++ r ∷ []) k ≡ name_in xs k
at_before r [] k lt = absurd (omega (arith, lt))
at_before r (x ∷ xs) zero lt = refl
at_before r (x ∷ xs) (suc k) lt = at_before r xs k (omega (arith, lt))

-- the names with one more, or as they are
abbrev grown : Bool → List ℕ → List (List ℕ) → List (List ℕ)
grown t r names = if t then names else names ++ r ∷ []

grown_names : (t : Bool) (r : List ℕ) (names : List (List ℕ)) → (t ≡ true → IsNamed names r) → IsNamed (grown t r names) r
grown_names true r names is = is refl
grown_names false r names is = record { number = length names; below = (let e = length_more r names in omega (arith, e)); is = at_last r names }

added_named : (r : List ℕ) (names : List (List ℕ)) → IsNamed (with_name r names) r
added_named r names = grown_names (is_some (place_of r names)) r names (present r 0 names)

grown_keeps : (t : Bool) (r x : List ℕ) (names : List (List ℕ)) → IsNamed names r → IsNamed (grown t x names) r
grown_keeps true r x names n = n
grown_keeps false r x names n = record { number = n.number; below = (let e = length_more x names in let lt = n.below in omega (arith, e, lt)); is = at_before x names n.number n.below ∙ n.is }

restored_keeps : (r : List ℕ) (names : List (List ℕ)) (pairs : List PairFound) → IsNamed names r → IsNamed (with_restored names pairs) r
restored_keeps r names [] n = n
restored_keeps r names (Empty ∷ pairs) n = restored_keeps r names pairs n
restored_keeps r names (Found b side ∷ pairs) n = restored_keeps r (with_name b.resource names) pairs (grown_keeps (is_some (place_of b.resource names)) r b.resource names n)
restored_keeps r names (Damaged ∷ pairs) n = restored_keeps r names pairs n
restored_keeps r names (Twin q ∷ pairs) n = restored_keeps r names pairs n

pub same_resource : (b c : Backup) (s t : Side) → Found b s ≡ Found c t → b.resource ≡ c.resource
same_resource b c s t e = cc

-- Each resource of a found backup is among the names of the life.
pub restored_named : (names : List (List ℕ)) (pairs : List PairFound) (p : ℕ) (b : Backup) (side : Side) → found_at pairs p ≡ Found b side → IsNamed (with_restored names pairs) b.resource
restored_named names [] p b side h = absurd cc
restored_named names (Found c s ∷ pairs) zero b side h = subst (IsNamed (with_restored (with_name c.resource names) pairs)) (same_resource c b s side h) (restored_keeps c.resource (with_name c.resource names) pairs (added_named c.resource names))
restored_named names (Empty ∷ pairs) zero b side h = absurd cc
restored_named names (Damaged ∷ pairs) zero b side h = absurd cc
restored_named names (Twin q ∷ pairs) zero b side h = absurd cc
restored_named names (Found c s ∷ pairs) (suc p) b side h = restored_named (with_name c.resource names) pairs p b side h
restored_named names (Empty ∷ pairs) (suc p) b side h = restored_named names pairs p b side h
restored_named names (Damaged ∷ pairs) (suc p) b side h = restored_named names pairs p b side h
restored_named names (Twin q ∷ pairs) (suc p) b side h = restored_named names pairs p b side h

grown_few : (t : Bool) (r : List ℕ) (names : List (List ℕ)) → length (grown t r names) ≤ length names + 1
grown_few true r names = omega arith
grown_few false r names = let e = length_more r names in omega (arith, e)

-- There are at most as many names more as pairs.
pub restored_few : (names : List (List ℕ)) (pairs : List PairFound) → length (with_restored names pairs) ≤ length names + length pairs
restored_few names [] = omega arith
restored_few names (Found b side ∷ pairs) = let one = grown_few (is_some (place_of b.resource names)) b.resource names in let rest = restored_few (with_name b.resource names) pairs in omega (arith, one, rest)
restored_few names (Empty ∷ pairs) = let rest = restored_few names pairs in omega (arith, rest)
restored_few names (Damaged ∷ pairs) = let rest = restored_few names pairs in omega (arith, rest)
restored_few names (Twin q ∷ pairs) = let rest = restored_few names pairs in omega (arith, rest)

-- each of these is a resource
abbrev pub AreResources : List (List ℕ) → Type 0
AreResources names = All (λ name. is_resource name ≡ true) names

-- each found backup is one of a resource
abbrev pub FindsResources : List PairFound → Type 0
FindsResources pairs = (p : ℕ) (b : Backup) (side : Side) → found_at pairs p ≡ Found b side → is_resource b.resource ≡ true

-- an element past the given names is the added one
at_end : (r d : List ℕ) (xs : List (List ℕ)) (k : ℕ) → k < length xs + 1 → (slice_index_or (xs ++ r ∷ []) k d ≡ slice_index_or xs k d) × (k < length xs) ⊎ (slice_index_or (xs ++ r ∷ []) k d ≡ r)
at_end r d [] zero lt = inr refl
at_end r d [] (suc k) lt = absurd (omega (arith, lt))
at_end r d (x ∷ xs) zero lt = inl (refl, omega arith)
at_end r d (x ∷ xs) (suc k) lt = ⊎_elim (λ e. inl (e.0, omega (arith, e.1))) (λ e. inr e) (at_end r d xs k (omega (arith, lt)))

grown_resources : (t : Bool) (r : List ℕ) (names : List (List ℕ)) → is_resource r ≡ true → AreResources names → AreResources (grown t r names)
grown_resources true r names is are k d lt = are k d lt
grown_resources false r names is are k d lt = ⊎_elim
    (λ e. subst (λ (name : List ℕ). is_resource name ≡ true) (sym e.0) (are k d e.1))
    (λ e. subst (λ (name : List ℕ). is_resource name ≡ true) (sym e) is)
    (at_end r d names k (let e = length_more r names in omega (arith, e, lt)))

-- Where the declared names and the found backups are of resources, all names are.
pub restored_resources : (names : List (List ℕ)) (pairs : List PairFound) → AreResources names → FindsResources pairs → AreResources (with_restored names pairs)
restored_resources names [] are finds = are
restored_resources names (Found b side ∷ pairs) are finds = restored_resources (with_name b.resource names) pairs (grown_resources (is_some (place_of b.resource names)) b.resource names (finds 0 b side refl) are) (λ p. finds (suc p))
restored_resources names (Empty ∷ pairs) are finds = restored_resources names pairs are (λ p. finds (suc p))
restored_resources names (Damaged ∷ pairs) are finds = restored_resources names pairs are (λ p. finds (suc p))
restored_resources names (Twin q ∷ pairs) are finds = restored_resources names pairs are (λ p. finds (suc p))

-- a resource that none of the first k names is isn't found among them
new_from : (r : List ℕ) (i : ℕ) (xs : List (List ℕ)) (k : ℕ) → ((j : ℕ) → j < k → j < length xs → name_in xs j ≡ r → ⊥) → position_from (is_named r) i (take k xs) ≡ None
new_from r i xs zero other = refl
new_from r i [] (suc k) other = refl
new_from r i (x ∷ xs) (suc k) other = go (is_named r x) refl (new_from r (i + 1) xs k (λ j lt within same. other (suc j) (omega (arith, lt)) (omega (arith, within)) same))
  where
    go : (t : Bool) → is_named r x ≡ t → position_from (is_named r) (i + 1) (take k xs) ≡ None → cond t (Some i) (position_from (is_named r) (i + 1) (take k xs)) ≡ None
    go true is none = absurd (other 0 (omega arith) (omega arith) ((bytes_eq-Decides x r).0 is))
    go false is none = none

-- Of distinct names none is among those before it.
new_name : (names : List (List ℕ)) (k : ℕ) → IsDistinct names → k < length names → place_of (name_in names k) (take k names) ≡ None
new_name names k distinct within = new_from (name_in names k) 0 names k (λ j lt short same. omega (arith, lt, names_apart names distinct j k short within same))

pub new_text : (names : List (List ℕ)) (k : ℕ) (text : List ℕ) → IsDistinct names → k < length names → slice_get names k ≡ Some text → place_of text (take k names) ≡ None
new_text names k text distinct within got = ap (λ (r : List ℕ). place_of r (take k names)) (sym (get_or_from_slice_get names k text [] got)) ∙ new_name names k distinct within

pub text_more : (names : List (List ℕ)) (k : ℕ) (text : List ℕ) → slice_get names k ≡ Some text → take k names ++ text ∷ [] ≡ take (k + 1) names
text_more [] zero text got = absurd cc
text_more [] (suc k) text got = absurd cc
text_more (x ∷ xs) zero text got = let e : x ≡ text = cc in ap (λ (y : List ℕ). y ∷ []) (sym e)
text_more (x ∷ xs) (suc k) text got =
    let e : suc (k + 1) ≡ suc k + 1 = omega arith in
    ap (λ (ys : List (List ℕ)). x ∷ ys) (text_more xs k text got) ∙ ap (λ n. take n (x ∷ xs)) e
