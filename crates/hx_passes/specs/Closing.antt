-- What the seats know when the words end. This project's own.
use Rattle.std.specs.Prelude.{ℕ, ◌≡◌, ◌+◌, ◌<◌, ◌≤◌, nat_le, false, List, [], ◌++◌, length}
use mathlib.Core.List.{IsPrefix}
use Rattle.hx_events.specs.declared.life.Entry.{Entry}
use Rattle.hx_events.specs.declared.event.Actor.{Actor}
use Rattle.hx_passes.specs.declared.rule.Finding.{Finding}
use Rattle.hx_passes.specs.declared.rule.Note.{Note}
use Rattle.hx_passes.specs.declared.rule.View.{View}
use Rattle.hx_passes.specs.declared.rule.Known.{Known}
use Rattle.hx_passes.specs.Views.{view_of}
use Rattle.hx_passes.specs.Rules.{Each, total, one_if, times, up_to, below, IsMade}

-- the note is of a beginning of the history, and what it found has left lies between these counts of leaves
pub record IsNoted (h : List Entry) (at_most before_it : ℕ → ℕ) (m : Note) : Type 0 where
  pub upto : IsPrefix m.upto h
  pub least : m.left ≤ at_most (length m.upto)
  pub most : before_it (length m.upto) ≤ m.left

-- what the seat with all parts knows of the history
pub record Ends (before h : List Entry) (v : View) : Type 0 where
  pub begins : IsPrefix before h
  pub seen : IsPrefix v.seen h
  pub calls : Each (IsMade h) v.calls
  pub notes : Each (IsNoted h (λ n. up_to n v.leaves) (λ n. below n v.leaves)) v.notes
  pub once : (p : ℕ) → times p v.calls + one_if (nat_le p (length before)) ≡ one_if (nat_le p (length h))

-- one seat has taken in another and has looked
pub record TakesIn (v w u : View) : Type 0 where
  pub seen : IsPrefix v.seen u.seen
  pub told : IsPrefix w.seen u.seen
  pub same : u ≡ view_of u.seen [] (w.calls ++ v.calls) (w.notes ++ v.notes) (w.leaves ++ v.leaves) (v.parts + w.parts) false

-- What a pass is, whatever the table is: it has a part, has left at most once, and its calls are its actor's. What a
-- finding says held of the history then.
pub record IsOwn (says : Finding → List Entry → Type 0) (actor : Actor) (v : View) : Type 0 where
  pub part : 1 ≤ v.parts
  pub left : length v.leaves ≤ 1
  pub calls : Each (λ c. c.entry.actor ≡ actor) v.calls
  pub found : Each (λ m. says m.finding m.upto) v.notes

-- what a pass knows of the history, where these functions count the leaves
pub record IsSound (says : Finding → List Entry → Type 0) (h : List Entry) (at_most before_it : ℕ → ℕ) (p : Known) : Type 0 where
  pub seen : IsPrefix p.seen h
  pub left : length p.leaves ≤ 1
  pub calls : Each (IsMade h) p.calls
  pub mine : Each (λ c. c.entry.actor ≡ p.actor) p.calls
  pub notes : Each (IsNoted h at_most before_it) p.notes
  pub found : Each (λ m. says m.finding m.upto) p.notes

-- Of a note at the end: the history began as it says, and what was found held of that beginning. Where it says that all
-- windows had left, as many passes left at lengths up to its own; else fewer left at lengths below it.
pub record Holds (windows : ℕ) (says : Finding → List Entry → Type 0) (passes : List Known) (h : List Entry) (m : Note) : Type 0 where
  pub upto : IsPrefix m.upto h
  pub found : says m.finding m.upto
  pub over : windows ≤ m.left → windows ≤ total (λ p. up_to (length m.upto) p.leaves) passes
  pub rest : m.left < windows → total (λ p. below (length m.upto) p.leaves) passes < windows

-- Of a pass at the end: the history begins with what it has seen, each of its calls is the history's entry at its place,
-- by the pass's actor, its notes hold, and it has left at most once.
pub record Knows (windows : ℕ) (says : Finding → List Entry → Type 0) (passes : List Known) (h : List Entry) (p : Known) : Type 0 where
  pub seen : IsPrefix p.seen h
  pub calls : Each (λ c. IsMade h c × (c.entry.actor ≡ p.actor)) p.calls
  pub notes : Each (Holds windows says passes h) p.notes
  pub left : length p.leaves ≤ 1

-- What a history is that these passes ended. It begins with the history that was there first, and each place behind that
-- stands in the calls of just one pass, once.
pub record IsClosed (before : List Entry) (windows : ℕ) (says : Finding → List Entry → Type 0) (h : List Entry) (passes : List Known) : Type 0 where
  pub begins : IsPrefix before h
  pub knows : Each (Knows windows says passes h) passes
  pub once : (n : ℕ) → total (λ p. times n p.calls) passes + one_if (nat_le n (length before)) ≡ one_if (nat_le n (length h))
