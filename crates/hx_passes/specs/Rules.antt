-- The rule of the two words, and what each kind of step tells its seat. This project's own.
use Rattle.std.specs.Prelude.{ℕ, zero, suc, ◌≡◌, ◌+◌, ◌≤◌, nat_le, nat_lt, ◌==◌, Bool, true, List, [], ◌∷◌, length, if◌then◌else◌, slice_get, Option, Some, None}
use mathlib.Core.Option.{some}
use mathlib.Core.List.{IsPrefix}
use lib.ListN.{get_elem?}
use Rattle.atomic_table.specs.Table.{Me, Step}
use Rattle.hx_events.specs.declared.life.Entry.{Entry}
use Rattle.hx_passes.specs.declared.rule.Call.{Call}
use Rattle.hx_passes.specs.declared.rule.Finding.{Finding}
use Rattle.hx_passes.specs.declared.rule.Note.{Note}
use Rattle.hx_passes.specs.declared.rule.View.{View}
use Rattle.hx_passes.specs.Views.{view_of, grown, departed, noting}

-- p holds of each
abbrev pub Each : {A : Type 0} → (A → Type 0) → List A → Type 0
Each p [] = Unit {0}
Each p (x ∷ xs) = p x × Each p xs

-- f of each, added up
abbrev pub total : {A : Type 0} → (A → ℕ) → List A → ℕ
total f [] = 0
total f (x ∷ xs) = f x + total f xs

abbrev pub one_if : Bool → ℕ
one_if b = if b then 1 else 0

-- how often the place stands in these calls
abbrev pub times : ℕ → List Call → ℕ
times p [] = 0
times p (c ∷ cs) = one_if (c.place == p) + times p cs

-- how many of these leaves are at most n, and how many are below n
abbrev pub up_to : ℕ → List ℕ → ℕ
up_to n [] = 0
up_to n (l ∷ ls) = one_if (nat_le l n) + up_to n ls

abbrev pub below : ℕ → List ℕ → ℕ
below n [] = 0
below n (l ∷ ls) = one_if (nat_lt l n) + below n ls

-- the entry at this place, from 1
abbrev pub at_place : List Entry → ℕ → Option Entry
at_place h zero = None
at_place h (suc i) = slice_get h i

-- the call is the history's entry at its place
abbrev pub IsMade : List Entry → Call → Type 0
IsMade h c = at_place h c.place ≡ Some c.entry

-- at least as many as were found left at most then, and at most as many before
pub record Stands (views : List View) (m : Note) : Type 0 where
  pub least : m.left ≤ total (λ v. up_to (length m.upto) v.leaves) views
  pub most : total (λ v. below (length m.upto) v.leaves) views ≤ m.left

-- A view knows beginnings of the log, the whole of it with the right to add, and its own calls, leaves and notes in it.
-- A view without parts has no calls, and each leave takes a part.
pub record Fits (log : List Entry) (v : View) : Type 0 where
  pub seen : IsPrefix v.seen log
  pub told : IsPrefix v.told log
  pub whole : v.right ≡ true → v.seen ≡ log
  pub calls : Each (IsMade log) v.calls
  pub notes : Each (λ m. IsPrefix m.upto log) v.notes
  pub leaves : Each (λ n. n ≤ length log) v.leaves
  pub idle : v.parts ≡ 0 → v.calls ≡ []
  pub few : length v.leaves ≤ v.parts

-- The words are the length of one log, which begins with the history that was there first, and the number of all leaves.
-- Each view fits the log. One view may add, and the parts are all there. Each place of the log is one of the first
-- history or stands in the calls of one view, once. Each note stands.
pub record Kept (before : List Entry) (all : ℕ) (words : List ℕ) (views : List View) : Type 0 where
  pub log : List Entry
  pub word : words ≡ length log ∷ total (λ v. length v.leaves) views ∷ []
  pub begins : IsPrefix before log
  pub fits : (id : ℕ) (v : View) → get_elem? views id ≡ some v → Fits log v
  pub rights : total (λ v. one_if v.right) views ≡ 1
  pub parts : total (λ v. v.parts) views ≡ all
  pub once : (p : ℕ) → total (λ v. times p v.calls) views + one_if (nat_le p (length before)) ≡ one_if (nat_le p (length log))
  pub stand : (id : ℕ) (v : View) → get_elem? views id ≡ some v → Each (Stands views) v.notes

-- the history so far was seen, and its length found. It begins with all that was seen and told before
abbrev pub LooksAt : View → ℕ → View → Type 0
LooksAt v found w =
    IsPrefix v.seen w.seen × IsPrefix v.told w.seen × (length w.seen ≡ found) × (w ≡ view_of w.seen [] v.calls v.notes v.leaves v.parts v.right) × (v.right ≡ true → w.seen ≡ v.seen)

abbrev pub Looks : Step (Unit {0}) → Me (Unit {0}) View → ℕ → Me (Unit {0}) View → Type 0
Looks s v found w = LooksAt v.0 found w.0 × (w.1 ≡ v.1)

-- the entry was added to all that was seen, and is the seat's call
abbrev pub Adds : Entry → Me (Unit {0}) View → ℕ → Me (Unit {0}) View → Type 0
Adds e v found w = (found ≡ length v.0.seen) × (w ≡ (grown v.0 e, v.1))

-- the leave was counted
abbrev pub Departs : Step (Unit {0}) → Me (Unit {0}) View → ℕ → Me (Unit {0}) View → Type 0
Departs s v found w = w ≡ (departed v.0, v.1)

-- the finding was noted, with the number of leaves that was found
abbrev pub NotesDown : Finding → Me (Unit {0}) View → ℕ → Me (Unit {0}) View → Type 0
NotesDown finding v found w = w ≡ (noting finding found v.0, v.1)
