-- Laws from the value of a pair to what a restart finds of a resource.
use Rattle.std.specs.Prelude.{◌≡◌, ◌≢◌, ◌<◌, ◌≤◌, ℕ, zero, suc, ◌+◌, ◌*◌, Bool, true, false, bytes_eq, if◌then◌else◌, List, ◌∷◌, Option, Some, None, refl}
use Rattle.std.proofs.Common.{sym, ◌∙◌, ap, subst, ⊎_elim, arith}
use Rattle.std.proofs.lemmas.Bool.Decides.{eqb_tells}
use Rattle.std.proofs.lemmas.Slice.Eq.{bytes_eq-Decides}
use Rattle.hx_events.specs.declared.backup.Backup.{Backup}
use Rattle.hx_events.specs.declared.backup.PairFound.{PairFound}
use Rattle.hx_rules.specs.Legal.{found_backup, lowest_from}
use Rattle.hx_restore.specs.declared.value.PairValue.{PairValue}
use Rattle.hx_restore.specs.declared.value.PairValue.TheVariants.{Nothing, Broken, Held}
use Rattle.hx_restore.specs.Values.{backup_for, holds_for, found_by, earlier_of, found_from, restored, shows, pair_value, value_by_bytes, first_backup}

-- Where no pair but p has a backup of the resource, a restart finds what p has of it.
abbrev pub OnlyPair : Type 0
OnlyPair = (resource : List ℕ) (values : ℕ → PairValue) (p : ℕ) → p < 64 → ((q : ℕ) → q < 64 → q ≢ p → backup_for resource (values q) ≡ None) → first_backup resource values 0 64 ≡ backup_for resource (values p)

-- A restart finds of a resource what the first pair has of it.
abbrev pub ShowsFirst : Type 0
ShowsFirst = (resource : List ℕ) (image : ℕ → List ℕ) → shows image resource ≡ first_backup resource (pair_value image) 0 64

skip : (x rest : Option Backup) → x ≡ None → elim x as (λ _. Option Backup) [ Some b ↦ Some b | None ↦ rest ] ≡ rest
skip None rest none = refl
skip (Some b) rest none = absurd cc

none_first : (resource : List ℕ) (values : ℕ → PairValue) (p i n : ℕ) → p < i → ((q : ℕ) → q < i + n → q ≢ p → backup_for resource (values q) ≡ None) → first_backup resource values i n ≡ None
none_first resource values p i zero below none = refl
none_first resource values p i (suc n) below none =
    skip (backup_for resource (values i)) (first_backup resource values (i + 1) n) (none i (omega arith) (λ e. omega (arith, e, below)))
    ∙ none_first resource values p (i + 1) n (omega (arith, below)) (λ q lt apart. none q (omega (arith, lt)) apart)

take_it : (x rest : Option Backup) → rest ≡ None → elim x as (λ _. Option Backup) [ Some b ↦ Some b | None ↦ rest ] ≡ x
take_it None rest none = none
take_it (Some b) rest none = refl

only_from : (resource : List ℕ) (values : ℕ → PairValue) (p i n : ℕ) → i ≤ p → p < i + n → ((q : ℕ) → q < i + n → q ≢ p → backup_for resource (values q) ≡ None) → first_backup resource values i n ≡ backup_for resource (values p)
only_from resource values p i zero from to none = absurd (omega (arith, from, to))
only_from resource values p i (suc n) from to none = ⊎_elim
    (λ same. take_it (backup_for resource (values i)) (first_backup resource values (i + 1) n) (none_first resource values p (i + 1) n (omega (arith, same.1)) (λ q lt apart. none q (omega (arith, lt)) apart))
    ∙ ap (λ k. backup_for resource (values k)) same.1)
    (λ apart. skip (backup_for resource (values i)) (first_backup resource values (i + 1) n) (none i (omega (arith, from, to)) apart.1)
    ∙ only_from resource values p (i + 1) n (later apart.1) (omega (arith, to)) (λ q lt apart. none q (omega (arith, lt)) apart))
    (eqb_tells i p)
  where
    later : (i ≢ p) → i + 1 ≤ p
    later apart = omega (arith, from, apart)

pub only_pair : OnlyPair
only_pair resource values p below none = only_from resource values p 0 64 (omega arith) below none

none_lowest : (test : ℕ → Bool) (i n : ℕ) → ((q : ℕ) → q < i + n → test q ≡ false) → lowest_from test i n ≡ None
none_lowest test i zero none = refl
none_lowest test i (suc n) none = rw (none i (omega arith)) (none_lowest test (i + 1) n (λ q lt. none q (omega (arith, lt))))

-- a pair that holds a backup of the resource is no twin where no pair before it holds one
pub no_twin : (resource : List ℕ) (values : ℕ → PairValue) (i : ℕ) → ((q : ℕ) → q < i → holds_for resource (values q) ≡ false) → (v : PairValue) → holds_for resource v ≡ true → earlier_of values i v ≡ None
no_twin resource values i none Nothing h = refl
no_twin resource values i none Broken h = refl
no_twin resource values i none (Held b side) h =
    subst (λ (r : List ℕ). lowest_from (λ q. holds_for r (values q)) 0 i ≡ None) (sym ((bytes_eq-Decides b.resource resource).0 h))
    (none_lowest (λ q. holds_for resource (values q)) 0 i (λ q lt. none q (omega (arith, lt))))

one_found : (resource : List ℕ) (v : PairValue) (earlier : Option ℕ) (xs : List PairFound) (rest : Option Backup) → (holds_for resource v ≡ true → earlier ≡ None) → (holds_for resource v ≡ false → found_backup resource xs ≡ rest)
    → found_backup resource (found_by v earlier ∷ xs) ≡ elim (backup_for resource v) as (λ _. Option Backup) [ Some b ↦ Some b | None ↦ rest ]
one_found resource Nothing earlier xs rest twin ih = ih refl
one_found resource Broken earlier xs rest twin ih = ih refl
one_found resource (Held b side) None xs rest twin ih = go (bytes_eq b.resource resource) ih
  where
    go : (t : Bool) → (t ≡ false → found_backup resource xs ≡ rest) → (if t then Some b else found_backup resource xs) ≡ elim (if t then Some b else None) as (λ _. Option Backup) [ Some b ↦ Some b | None ↦ rest ]
    go true h = refl
    go false h = h refl
one_found resource (Held b side) (Some q) xs rest twin ih = go (bytes_eq b.resource resource) twin ih
  where
    go : (t : Bool) → (t ≡ true → Some q ≡ None) → (t ≡ false → found_backup resource xs ≡ rest) → found_backup resource xs ≡ elim (if t then Some b else None) as (λ _. Option Backup) [ Some b ↦ Some b | None ↦ rest ]
    go true t h = absurd (let e : Some q ≡ None = t refl in cc)
    go false t h = h refl

found_is : (resource : List ℕ) (values : ℕ → PairValue) (i n : ℕ) → ((q : ℕ) → q < i → holds_for resource (values q) ≡ false) → found_backup resource (found_from values i n) ≡ first_backup resource values i n
found_is resource values i zero none = refl
found_is resource values i (suc n) none =
    one_found resource (values i) (earlier_of values i (values i)) (found_from values (i + 1) n) (first_backup resource values (i + 1) n) (no_twin resource values i none (values i))
    (λ here. found_is resource values (i + 1) n (λ q lt. ⊎_elim
    (λ same. ap (λ k. holds_for resource (values k)) same.1 ∙ here)
    (λ apart. none q (omega (arith, lt, apart.1)))
    (eqb_tells q i)))

found_all : (resource : List ℕ) (values : ℕ → PairValue) (n : ℕ) → found_backup resource (found_from values 0 n) ≡ first_backup resource values 0 n
found_all resource values n = found_is resource values 0 n (λ q lt. absurd (omega (arith, lt)))

pub shows_first : ShowsFirst
unfolding shows restored
shows_first resource image = found_all resource (pair_value image) 64

-- Two images whose pairs have the same of a resource, pair by pair, show the same of it.
abbrev pub SameShown : Type 0
SameShown = (resource : List ℕ) (left right : ℕ → List ℕ) → ((p : ℕ) → p < 64 → backup_for resource (pair_value left p) ≡ backup_for resource (pair_value right p)) → shows left resource ≡ shows right resource

-- A pair's value depends on its own two files.
abbrev pub OwnFiles : Type 0
OwnFiles = (left right : ℕ → List ℕ) (p : ℕ) → left (2 * p) ≡ right (2 * p) → left (2 * p + 1) ≡ right (2 * p + 1) → pair_value left p ≡ pair_value right p

same_choice : (x y r s : Option Backup) → x ≡ y → r ≡ s → elim x as (λ _. Option Backup) [ Some b ↦ Some b | None ↦ r ] ≡ elim y as (λ _. Option Backup) [ Some b ↦ Some b | None ↦ s ]
same_choice x y r s same rest = ap (λ (k : Option Backup). elim k as (λ _. Option Backup) [ Some b ↦ Some b | None ↦ r ]) same ∙ ap (λ (k : Option Backup). elim y as (λ _. Option Backup) [ Some b ↦ Some b | None ↦ k ]) rest

same_first : (resource : List ℕ) (v w : ℕ → PairValue) (i n : ℕ) → ((p : ℕ) → p < i + n → backup_for resource (v p) ≡ backup_for resource (w p)) → first_backup resource v i n ≡ first_backup resource w i n
same_first resource v w i zero same = refl
same_first resource v w i (suc n) same = same_choice (backup_for resource (v i)) (backup_for resource (w i)) (first_backup resource v (i + 1) n) (first_backup resource w (i + 1) n) (same i (omega arith)) (same_first resource v w (i + 1) n (λ p lt. same p (omega (arith, lt))))

same_all : (resource : List ℕ) (v w : ℕ → PairValue) (n : ℕ) → ((p : ℕ) → p < n → backup_for resource (v p) ≡ backup_for resource (w p)) → first_backup resource v 0 n ≡ first_backup resource w 0 n
same_all resource v w n same = same_first resource v w 0 n (λ p lt. same p (omega (arith, lt)))

pub same_shown : SameShown
same_shown resource left right same = shows_first resource left ∙ same_all resource (pair_value left) (pair_value right) 64 same ∙ sym (shows_first resource right)

pub own_files : OwnFiles
unfolding pair_value
own_files left right p same_a same_b =
    ap (λ (x : List ℕ). value_by_bytes x (left (2 * p + 1))) same_a
    ∙ ap (value_by_bytes (right (2 * p))) same_b
