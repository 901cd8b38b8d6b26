-- A list read one item further.
use Rattle.std.specs.Prelude.{◌≡◌, ◌⊎◌, ℕ, zero, suc, ◌+◌, ◌<◌, List, [], ◌∷◌, ◌++◌, length, take, drop, get_or, codes, Some, slice_get, refl}
use Rattle.std.proofs.Common.{ap, sym, ◌∙◌, subst, arith, inl, inr, ⊎_elim, append_assoc}
use Rattle.std.proofs.Math.Seq.{take-suc, drop-cons}
use Rattle.std.proofs.lemmas.List.{reverse-append, length-reverse}
use Rattle.hx_events.specs.declared.life.Entry.{Entry}
use Rattle.hx_events.specs.Texts.{name_of}
use Rattle.hx_rules.specs.Entries.{past}
use Rattle.hx_events.specs.Texts.{IsEntryOf}
use Rattle.hx_report.specs.Traces.{AreEntriesOf, name_lines}

pub past_more : (h : List Entry) (i : ℕ) (e : Entry) → i < length h → e ≡ get_or h i e → past (take (i + 1) h) ≡ e ∷ past (take i h)
past_more h i e lt is =
    let next : i + 1 ≡ suc i = omega arith in
    ap (λ n. past (take n h)) next
    ∙ (ap past (take-suc h i e lt)
    ∙ (reverse-append (take i h) (get_or h i e ∷ [])
    ∙ ap (λ (x : Entry). x ∷ past (take i h)) (sym is)))

pub past_length : (h : List Entry) (i : ℕ) → i < length h → length (past (take i h)) ≡ i
past_length h i lt = length-reverse (take i h) ∙ taken h i lt
  where
    taken : (h : List Entry) (i : ℕ) → i < length h → length (take i h) ≡ i
    taken [] i lt = absurd (omega (arith, lt))
    taken (x ∷ h) zero lt = refl
    taken (x ∷ h) (suc i) lt = ap suc (taken h i (omega (arith, lt)))

pub drop_next : {A : Type 0} (xs : List A) (i : ℕ) (x : A) → i < length xs → x ≡ get_or xs i x → drop i xs ≡ x ∷ drop (i + 1) xs
drop_next xs i x lt is =
    let next : suc i ≡ i + 1 = omega arith in
    drop-cons xs i x lt ∙ (λ j. sym is j ∷ drop (next j) xs)

pub known_next : (names : List (List ℕ)) (h : List Entry) (i : ℕ) (e : Entry) → i < length h → e ≡ get_or h i e → AreEntriesOf names (drop i h) → IsEntryOf names e × AreEntriesOf names (drop (i + 1) h)
known_next names h i e lt is known = subst (AreEntriesOf names) (drop_next h i e lt is) known

pub push_get : {A : Type 0} (xs : List A) (y : A) (k : ℕ) (x : A) → slice_get (xs ++ y ∷ []) k ≡ Some x → (slice_get xs k ≡ Some x) ⊎ ((k ≡ length xs) × (x ≡ y))
push_get [] y zero x h = inr (refl, cc)
push_get [] y (suc k) x h = absurd cc
push_get (z ∷ zs) y zero x h = inl h
push_get (z ∷ zs) y (suc k) x h = ⊎_elim (λ a. inl a) (λ b. inr (ap suc b.0, b.1)) (push_get zs y k x h)

pub name_is : (names : List (List ℕ)) (k : ℕ) (name : List ℕ) → slice_get names k ≡ Some name → name_of names k ≡ name
name_is [] k name h = absurd cc
name_is (x ∷ names) zero name h = cc
name_is (x ∷ names) (suc k) name h = name_is names k name h

get_next : {A : Type 0} (xs : List A) (i : ℕ) (x : A) → slice_get xs i ≡ Some x → drop i xs ≡ x ∷ drop (suc i) xs
get_next [] i x h = absurd cc
get_next (z ∷ zs) zero x h = let e : z ≡ x = cc in ap (λ y. y ∷ zs) e
get_next (z ∷ zs) (suc i) x h = get_next zs i x h

name_line : (out name rest : List ℕ) → (((out ++ codes "name ") ++ name) ++ 10 ∷ []) ++ rest ≡ out ++ (codes "name " ++ (name ++ 10 ∷ rest))
name_line out name rest = simp append_assoc

-- one name more
pub names_next : (names : List (List ℕ)) (i : ℕ) (name out next : List ℕ) → slice_get names i ≡ Some name → next ≡ ((out ++ codes "name ") ++ name) ++ 10 ∷ [] → next ++ name_lines (drop (i + 1) names) ≡ out ++ name_lines (drop i names)
names_next names i name out next at is =
    let e : i + 1 ≡ suc i = omega arith in
    (λ j. is j ++ name_lines (drop (e j) names))
    ∙ (name_line out name (name_lines (drop (suc i) names))
    ∙ (ap (λ (rest : List ℕ). out ++ (codes "name " ++ rest)) (sym (append_assoc name (10 ∷ []) (name_lines (drop (suc i) names))))
    ∙ ap (λ (xs : List (List ℕ)). out ++ name_lines xs) (sym (get_next names i name at))))
