-- Beginnings of one list, and facts on each of a list.
use Rattle.std.proofs.Common.{◌≡◌, ℕ, zero, suc, ◌≤◌, List, [], ◌∷◌, ◌++◌, length, Some, slice_get, refl, ap, sym, ◌∙◌, arith, append_assoc}
use mathlib.Core.List.{IsPrefix}
use Rattle.hx_events.specs.declared.life.Entry.{Entry}
use Rattle.hx_passes.specs.Rules.{Each, at_place}

module _ {A : Type 0} where
  pub prefix_self : (xs : List A) → IsPrefix xs xs
  prefix_self [] = ([], refl)
  prefix_self (x ∷ xs) = (let r = prefix_self xs in r.0, ap (λ ys. x ∷ ys) (prefix_self xs).1)

  pub prefix_more : (xs ys : List A) (y : A) → IsPrefix xs ys → IsPrefix xs (ys ++ y ∷ [])
  prefix_more xs ys y p = (p.0 ++ y ∷ [], sym (append_assoc xs p.0 (y ∷ [])) ∙ ap (λ w. w ++ y ∷ []) p.1)

  pub prefix_trans : (xs ys zs : List A) → IsPrefix xs ys → IsPrefix ys zs → IsPrefix xs zs
  prefix_trans xs ys zs p q = (p.0 ++ q.0, sym (append_assoc xs p.0 q.0) ∙ (ap (λ w. w ++ q.0) p.1 ∙ q.1))

  pub prefix_length : (xs ys : List A) → IsPrefix xs ys → length xs ≤ length ys
  prefix_length [] ys p = omega arith
  prefix_length (x ∷ xs) [] p = absurd (cc (p.1))
  prefix_length (x ∷ xs) (y ∷ ys) p = omega (arith, prefix_length xs ys (p.0, cc (p.1)))

  pub get_more : (xs : List A) (k : ℕ) (x y : A) → slice_get xs k ≡ Some x → slice_get (xs ++ y ∷ []) k ≡ Some x
  get_more [] k x y h = absurd cc
  get_more (z ∷ zs) zero x y h = h
  get_more (z ∷ zs) (suc k) x y h = get_more zs k x y h

  pub get_last : (xs : List A) (y : A) → slice_get (xs ++ y ∷ []) (length xs) ≡ Some y
  get_last [] y = refl
  get_last (x ∷ xs) y = get_last xs y

  pub each_map : (P Q : A → Type 0) → ((x : A) → P x → Q x) → (xs : List A) → Each P xs → Each Q xs
  each_map P Q f [] all = tt
  each_map P Q f (x ∷ xs) all = (f x all.0, each_map P Q f xs all.1)

  pub each_append : (P : A → Type 0) (xs ys : List A) → Each P xs → Each P ys → Each P (xs ++ ys)
  each_append P [] ys a b = b
  each_append P (x ∷ xs) ys a b = (a.0, each_append P xs ys a.1 b)

  pub each_left : (P : A → Type 0) (xs ys : List A) → Each P (xs ++ ys) → Each P xs
  each_left P [] ys all = tt
  each_left P (x ∷ xs) ys all = (all.0, each_left P xs ys all.1)

  pub each_right : (P : A → Type 0) (xs ys : List A) → Each P (xs ++ ys) → Each P ys
  each_right P [] ys all = all
  each_right P (x ∷ xs) ys all = each_right P xs ys all.1

  pub each_none : (P : A → Type 0) (xs : List A) → length xs ≤ 0 → Each P xs
  each_none P [] le = tt
  each_none P (x ∷ xs) le = absurd (omega (arith, le))

pub place_more : (h : List Entry) (p : ℕ) (x y : Entry) → at_place h p ≡ Some x → at_place (h ++ y ∷ []) p ≡ Some x
place_more h zero x y got = absurd cc
place_more h (suc i) x y got = get_more h i x y got
