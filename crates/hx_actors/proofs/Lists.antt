-- Lists of calls and entries, and facts on each of a list or on one.
use Rattle.std.proofs.Common.{◌≡◌, ℕ, zero, suc, ◌≤◌, ◌<◌, ◌==◌, nat_le, Bool, true, false, ◌&&◌, ◌||◌, cond, ◌⊎◌, inl, inr, List, [], ◌∷◌, ◌++◌, length, Some, refl, ap, sym, ◌∙◌, subst, arith}
use Rattle.std.proofs.lemmas.Bool.Decides.{nat_tests}
use Rattle.hx_events.specs.declared.life.Entry.{Entry}
use Rattle.hx_rules.specs.Interleavings.{is_window, is_some_window, events_of, may_stand, all_may_stand, has_window}
use Rattle.hx_passes.specs.declared.rule.Call.{Call}
use Rattle.hx_passes.specs.Rules.{Each, total, one_if, times}
use Rattle.hx_passes.specs.Newest.{entry_at, oldest}
use Rattle.hx_passes.proofs.Lists.{each_map}
use Rattle.hx_actors.specs.Work.{Falls, events}

abbrev pub Any : {A : Type 0} → (A → Type 0) → List A → Type 0
Any P [] = ⊥
Any P (x ∷ xs) = P x ⊎ Any P xs

module _ {A : Type 0} where
  pub each_both : (P Q : A → Type 0) (xs : List A) → Each P xs → Each Q xs → Each (λ x. P x × Q x) xs
  each_both P Q [] ps qs = tt
  each_both P Q (x ∷ xs) ps qs = ((ps.0, qs.0), each_both P Q xs ps.1 qs.1)

  -- what holds of each holds of the one that is there
  pub meet : (P Q R : A → Type 0) → ((x : A) → P x → Q x → R x) → (xs : List A) → Each P xs → Any Q xs → Any R xs
  meet P Q R f [] each any = absurd any
  meet P Q R f (x ∷ xs) each (inl q) = inl (f x each.0 q)
  meet P Q R f (x ∷ xs) each (inr any) = inr (meet P Q R f xs each.1 any)

  pub any_map : (Q R : A → Type 0) → ((x : A) → Q x → R x) → (xs : List A) → Any Q xs → Any R xs
  any_map Q R f [] any = absurd any
  any_map Q R f (x ∷ xs) (inl q) = inl (f x q)
  any_map Q R f (x ∷ xs) (inr any) = inr (any_map Q R f xs any)

  pub only : (P : A → Type 0) (C : Type 0) → ((x : A) → P x → C) → (xs : List A) → Any P xs → C
  only P C f [] any = absurd any
  only P C f (x ∷ xs) (inl p) = f x p
  only P C f (x ∷ xs) (inr any) = only P C f xs any

  pub tail_of : (P : A → Type 0) (x : A) (xs : List A) → (P x → ⊥) → Any P (x ∷ xs) → Any P xs
  tail_of P x xs not_head (inl p) = absurd (not_head p)
  tail_of P x xs not_head (inr any) = any

  -- where the sum isn't 0 there is one that isn't 0
  pub there : (f : A → ℕ) (xs : List A) → 1 ≤ total f xs → Any (λ x. 1 ≤ f x) xs
  there f [] some = absurd (omega (arith, some))
  there f (x ∷ xs) some = go (f x) refl (λ is. there f xs (omega (arith, some, is)))
    where
      go : (n : ℕ) → f x ≡ n → (f x ≡ 0 → Any (λ x. 1 ≤ f x) xs) → (1 ≤ f x) ⊎ Any (λ x. 1 ≤ f x) xs
      go zero is rest = inr (rest is)
      go (suc n) is rest = inl (omega (arith, is))

  total_le : (f g : A → ℕ) (xs : List A) → Each (λ x. f x ≤ g x) xs → total f xs ≤ total g xs
  total_le f g [] each = omega arith
  total_le f g (x ∷ xs) each = omega (arith, each.0, total_le f g xs each.1)

  -- where none is more and the sum isn't less, none is less
  pub none_less : (f g : A → ℕ) (xs : List A) → Each (λ x. f x ≤ g x) xs → total g xs ≤ total f xs → Each (λ x. g x ≤ f x) xs
  none_less f g [] each le = tt
  none_less f g (x ∷ xs) each le =
      let rest = total_le f g xs each.1 in
      let here = each.0 in (omega (arith, le, rest), none_less f g xs each.1 (omega (arith, le, here)))

pub is_one : (b : Bool) → 1 ≤ one_if b → b ≡ true
is_one true some = refl
is_one false some = absurd (omega (arith, some))

pub eq_of : (a b : ℕ) → (a == b) ≡ true → a ≡ b
eq_of a b is = grind (arith, nat_tests)

pub eq_true : (a b : ℕ) → a ≡ b → (a == b) ≡ true
eq_true a b is = grind (arith, nat_tests)

pub eq_false : (a b : ℕ) → a < b → (a == b) ≡ false
eq_false a b less = grind (arith, nat_tests)

and_true : (a b : Bool) → a ≡ true → b ≡ true → (a && b) ≡ true
and_true true b p q = q
and_true false b p q = absurd cc

or_false : (a b : Bool) → a ≡ false → b ≡ false → (a || b) ≡ false
or_false false b p q = q
or_false true b p q = absurd cc

pub some_is : {A : Type 0} (x y : A) → Some x ≡ Some y → x ≡ y
some_is x y h = cc

entry_new : (e : Entry) (es : List Entry) → entry_at (e ∷ es) (suc (length es)) ≡ Some e
entry_new e es = ap (λ b. cond b (Some e) (entry_at es (suc (length es)))) (eq_true (suc (length es)) (suc (length es)) refl)

entry_older : (e : Entry) (es : List Entry) (p : ℕ) → p < suc (length es) → entry_at (e ∷ es) p ≡ entry_at es p
entry_older e es p less = ap (λ b. cond b (Some e) (entry_at es p)) (eq_false p (suc (length es)) less)

pub entry_inside : (h : List Entry) (p : ℕ) (e : Entry) → entry_at h p ≡ Some e → (1 ≤ p) × (p ≤ length h)
entry_inside [] p e at = absurd cc
entry_inside (x ∷ xs) p e at = go (p == suc (length xs)) refl (λ older. let r = entry_inside xs p e older in (r.0, omega (arith, r.1)))
  where
    go : (b : Bool) → (p == suc (length xs)) ≡ b → (entry_at xs p ≡ Some e → (1 ≤ p) × (p ≤ suc (length xs))) → (1 ≤ p) × (p ≤ suc (length xs))
    go true is rest = let same = eq_of p (suc (length xs)) is in (omega (arith, same), omega (arith, same))
    go false is rest = rest (sym (ap (λ b. cond b (Some x) (entry_at xs p)) is) ∙ at)

pub times_any : (p : ℕ) (cs : List Call) → 1 ≤ times p cs → Any (λ c. c.place ≡ p) cs
times_any p [] some = absurd (omega (arith, some))
times_any p (c ∷ cs) some = go (c.place == p) refl (λ more. times_any p cs more)
  where
    go : (b : Bool) → (c.place == p) ≡ b → (1 ≤ times p cs → Any (λ c. c.place ≡ p) cs) → (c.place ≡ p) ⊎ Any (λ c. c.place ≡ p) cs
    go true is rest = inl (eq_of c.place p is)
    go false is rest = inr (rest (let none = ap one_if is in omega (arith, some, none)))

pub falls_more : (m n : ℕ) (cs : List Call) → m ≤ n → Falls m cs → Falls n cs
falls_more m n [] le falls = tt
falls_more m n (c ∷ cs) le falls = (let less = falls.0 in omega (arith, less, le), falls.1)

falls_each : (n : ℕ) (cs : List Call) → Falls n cs → Each (λ c. c.place < n) cs
falls_each n [] falls = tt
falls_each n (c ∷ cs) falls = (falls.0, falls_each n cs (falls_more c.place n cs (let less = falls.0 in omega (arith, less)) falls.1))

pub falls_below : (n p : ℕ) (cs : List Call) → Falls n cs → Any (λ c. c.place ≡ p) cs → p < n
falls_below n p [] falls any = absurd any
falls_below n p (c ∷ cs) falls (inl is) = (let less = falls.0 in omega (arith, less, is))
falls_below n p (c ∷ cs) falls (inr any) = (let less = falls.0 in let rest = falls_below c.place p cs falls.1 any in omega (arith, less, rest))

-- the call is an entry of window k at its place
pub record IsOf (k : ℕ) (h : List Entry) (c : Call) : Type 0 where
  pub at : entry_at h c.place ≡ Some c.entry
  pub by : is_window k c.entry.actor ≡ true

-- each entry of window k is a call of these
abbrev pub Covers : ℕ → List Entry → List Call → Type 0
Covers k h cs = (p : ℕ) (e : Entry) → entry_at h p ≡ Some e → is_window k e.actor ≡ true → Any (λ c. c.place ≡ p) cs

older_of : (k : ℕ) (e : Entry) (es : List Entry) (c : Call) → c.place < suc (length es) → IsOf k (e ∷ es) c → IsOf k es c
older_of k e es c less m = record { at = sym (entry_older e es c.place less) ∙ m.at; by = m.by }

newest_of : (k : ℕ) (e : Entry) (es : List Entry) (c : Call) → c.place ≡ suc (length es) → IsOf k (e ∷ es) c → e ≡ c.entry
newest_of k e es c here m = some_is e c.entry (sym (entry_new e es) ∙ (ap (entry_at (e ∷ es)) (sym here) ∙ m.at))

older_all : (k : ℕ) (e : Entry) (es : List Entry) (cs : List Call) → Falls (suc (length es)) cs → Each (IsOf k (e ∷ es)) cs → Each (IsOf k es) cs
older_all k e es cs falls made = each_map (λ c. (c.place < suc (length es)) × IsOf k (e ∷ es) c) (IsOf k es) (λ c m. older_of k e es c m.0 m.1) cs (each_both (λ c. c.place < suc (length es)) (IsOf k (e ∷ es)) cs (falls_each (suc (length es)) cs falls) made)

top : (n : ℕ) (c : Call) (cs : List Call) → c.place < suc n → Falls c.place cs → Any (λ c. c.place ≡ n) (c ∷ cs) → c.place ≡ n
top n c cs less falls (inl is) = is
top n c cs less falls (inr any) = absurd (let below = falls_below c.place n cs falls any in omega (arith, less, below))

mine : (k : ℕ) (e : Entry) (es : List Entry) (cs : List Call) → ((ds : List Call) → Falls (suc (length es)) ds → Each (IsOf k es) ds → Covers k es ds → events_of k es ≡ events ds)
    → is_window k e.actor ≡ true → Falls (suc (suc (length es))) cs → Each (IsOf k (e ∷ es)) cs → Covers k (e ∷ es) cs → e.event ∷ events_of k es ≡ events cs
mine k e es [] ih is falls made covers = absurd (covers (suc (length es)) e (entry_new e es) is)
mine k e es (c ∷ cs) ih is falls made covers =
    let here : c.place ≡ suc (length es) = top (suc (length es)) c cs falls.0 falls.1 (covers (suc (length es)) e (entry_new e es) is) in
    let event : e.event ≡ c.entry.event = ap (λ x. x.event) (newest_of k e es c here made.0) in
    let below : Falls (suc (length es)) cs = subst (λ (n : ℕ). Falls n cs) here falls.1 in
    let rest : events_of k es ≡ events cs = ih cs below (older_all k e es cs below made.1)
    (λ p x at win. let inside = (entry_inside es p x at).1 in tail_of (λ c. c.place ≡ p) c cs (λ is_p. omega (arith, inside, is_p, here)) (covers p x (entry_older e es p (omega (arith, inside)) ∙ at) win)) in
    ap (λ ev. ev ∷ events_of k es) event ∙ ap (λ evs. c.entry.event ∷ evs) rest

lower : (k : ℕ) (e : Entry) (es : List Entry) (cs : List Call) → is_window k e.actor ≡ false → Falls (suc (suc (length es))) cs → Each (IsOf k (e ∷ es)) cs → Falls (suc (length es)) cs
lower k e es [] is falls made = tt
lower k e es (c ∷ cs) is falls made = (go (c.place == suc (length es)) refl, falls.1)
  where
    go : (b : Bool) → (c.place == suc (length es)) ≡ b → c.place < suc (length es)
    go true same = absurd (let here = eq_of c.place (suc (length es)) same in let x = ap (λ (y : Entry). is_window k y.actor) (newest_of k e es c here made.0) in let y = made.0.by in cc (is, x, y))
    go false other = let less = falls.0 in grind (arith, nat_tests)

yours : (k : ℕ) (e : Entry) (es : List Entry) (cs : List Call) → ((ds : List Call) → Falls (suc (length es)) ds → Each (IsOf k es) ds → Covers k es ds → events_of k es ≡ events ds)
    → is_window k e.actor ≡ false → Falls (suc (suc (length es))) cs → Each (IsOf k (e ∷ es)) cs → Covers k (e ∷ es) cs → events_of k es ≡ events cs
yours k e es cs ih is falls made covers =
    let below = lower k e es cs is falls made in
    ih cs below (older_all k e es cs below made) (λ p x at win. covers p x (entry_older e es p (let inside = (entry_inside es p x at).1 in omega (arith, inside)) ∙ at) win)

-- a window's calls, where they fall and cover its entries, are its entries
pub matches : (k : ℕ) (h : List Entry) (cs : List Call) → Falls (suc (length h)) cs → Each (IsOf k h) cs → Covers k h cs → events_of k h ≡ events cs
matches k [] [] falls made covers = refl
matches k [] (c ∷ cs) falls made covers = absurd (let at = made.0.at in cc at)
matches k (e ∷ es) cs falls made covers = go (is_window k e.actor) refl (λ ds f m c. matches k es ds f m c)
  where
    go : (b : Bool) → is_window k e.actor ≡ b → ((ds : List Call) → Falls (suc (length es)) ds → Each (IsOf k es) ds → Covers k es ds → events_of k es ≡ events ds) → cond (is_window k e.actor) (e.event ∷ events_of k es) (events_of k es) ≡ events cs
    go true is ih = ap (λ b. cond b (e.event ∷ events_of k es) (events_of k es)) is ∙ mine k e es cs ih is falls made covers
    go false is ih = ap (λ b. cond b (e.event ∷ events_of k es) (events_of k es)) is ∙ yours k e es cs ih is falls made covers

pub all_stand : (h : List Entry) → ((p : ℕ) (e : Entry) → entry_at h p ≡ Some e → may_stand false e.actor e.event e.outcome ≡ true) → all_may_stand false h ≡ true
all_stand [] each = refl
all_stand (e ∷ es) each = and_true (may_stand false e.actor e.event e.outcome) (all_may_stand false es) (each (suc (length es)) e (entry_new e es))
    (all_stand es (λ p x at. each p x (entry_older e es p (let inside = (entry_inside es p x at).1 in omega (arith, inside)) ∙ at)))

-- the entries behind the first n
abbrev pub newer : ℕ → List Entry → List Entry
newer n [] = []
newer n (e ∷ es) = cond (nat_le (suc (length es)) n) [] (e ∷ newer n es)

pub two_parts : (n : ℕ) (h : List Entry) → h ≡ newer n h ++ oldest n h
two_parts n [] = refl
two_parts n (e ∷ es) = go (nat_le (suc (length es)) n) (two_parts n es)
  where
    go : (b : Bool) → es ≡ newer n es ++ oldest n es → e ∷ es ≡ cond b [] (e ∷ newer n es) ++ cond b (e ∷ es) (oldest n es)
    go true ih = refl
    go false ih = ap (λ xs. e ∷ xs) ih

pub no_window : (n : ℕ) (h : List Entry) → ((p : ℕ) (e : Entry) → n < p → entry_at h p ≡ Some e → is_some_window e.actor ≡ false) → has_window (newer n h) ≡ false
no_window n [] none = refl
no_window n (e ∷ es) none = go (nat_le (suc (length es)) n) refl (no_window n es (λ p x less at. none p x less (entry_older e es p (let inside = (entry_inside es p x at).1 in omega (arith, inside)) ∙ at)))
  where
    go : (b : Bool) → nat_le (suc (length es)) n ≡ b → has_window (newer n es) ≡ false → has_window (cond b [] (e ∷ newer n es)) ≡ false
    go true is ih = refl
    go false is ih = or_false (is_some_window e.actor) (has_window (newer n es)) (none (suc (length es)) e (grind (arith, nat_tests)) (entry_new e es)) ih
