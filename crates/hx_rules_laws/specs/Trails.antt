-- Versions and the trail, in the words of the rules.
use Rattle.std.specs.Prelude.{◌≡◌, ℕ, ◌+◌, nat_lt, true, List, [], ◌∷◌, ◌++◌, reverse, take, length, Option}
use Rattle.hx_events.specs.declared.backup.Backup.{Backup}
use Rattle.hx_events.specs.declared.outcome.Outcome.TheVariants.{Edited, Undone, Redone}
use Rattle.hx_rules.specs.Entries.{Deed}
use Rattle.hx_rules.specs.Versions.{Trail, can_undo, can_redo, trail_after, last_version, versions}

-- A version id is a position in the versions: the last one is how many there are.
abbrev pub LastVersionCounts : Type 0
LastVersionCounts = (restored : Option Backup) (ds : List Deed) → length (versions restored ds) ≡ last_version restored ds

-- the ids of a trail in their order, and the place of one of them, from 1
abbrev pub ids : Trail → List ℕ
ids t = reverse t.back ++ t.ahead

abbrev pub place : Trail → ℕ
place t = length t.back

-- An edit that makes the version n leaves the ids up to the place, and puts n behind them, with the place on it.
pub record EditLaws (n v : ℕ) (t : Trail) : Type 0 where
  pub ids : ids (trail_after (Edited v) n t) ≡ take (place t) (ids t) ++ n ∷ []
  pub place : place (trail_after (Edited v) n t) ≡ place t + 1

-- An undo leaves the ids and moves the place one back, which is possible exactly where the place isn't the first.
pub record UndoLaws (n v : ℕ) (t : Trail) : Type 0 where
  pub possible : can_undo t ≡ nat_lt 1 (place t)
  pub ids : ids (trail_after (Undone v) n t) ≡ ids t
  pub place : can_undo t ≡ true → place (trail_after (Undone v) n t) + 1 ≡ place t

-- A redo leaves the ids and moves the place one on, which is possible exactly where the place isn't the last.
pub record RedoLaws (n v : ℕ) (t : Trail) : Type 0 where
  pub possible : can_redo t ≡ nat_lt (place t) (length (ids t))
  pub ids : ids (trail_after (Redone v) n t) ≡ ids t
  pub place : can_redo t ≡ true → place (trail_after (Redone v) n t) ≡ place t + 1

abbrev pub TrailsChange : Type 0
TrailsChange = (n v : ℕ) (t : Trail) → EditLaws n v t × UndoLaws n v t × RedoLaws n v t
