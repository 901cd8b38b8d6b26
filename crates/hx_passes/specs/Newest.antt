-- One history read from either end. Passes keep their beginnings with the oldest entry first; the rules of a history read
-- it newest first.
use Rattle.std.specs.Prelude.{ℕ, suc, ◌≡◌, ◌==◌, nat_le, List, [], ◌∷◌, length, reverse, if◌then◌else◌, Option, Some, None}
use mathlib.Core.List.{IsPrefix}
use Rattle.hx_events.specs.declared.life.Entry.{Entry}
use Rattle.hx_passes.specs.Rules.{at_place}

-- the entry at this place, of a history that is read newest first. The oldest has the place 1
abbrev pub entry_at : List Entry → ℕ → Option Entry
entry_at [] p = None
entry_at (e ∷ es) p = if p == suc (length es) then Some e else entry_at es p

-- the first n entries that were made, newest first
abbrev pub oldest : ℕ → List Entry → List Entry
oldest n [] = []
oldest n (e ∷ es) = if nat_le (suc (length es)) n then e ∷ es else oldest n es

-- each place has the same entry, from whichever end a history is read
abbrev pub PlacesAgree : Type 0
PlacesAgree = (h : List Entry) (p : ℕ) (e : Entry) → at_place h p ≡ Some e → entry_at (reverse h) p ≡ Some e

-- a beginning of a history is its first entries, from whichever end they are read
abbrev pub BeginningsAgree : Type 0
BeginningsAgree = (h u : List Entry) → IsPrefix u h → oldest (length u) (reverse h) ≡ reverse u
