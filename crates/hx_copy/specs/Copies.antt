-- A working copy as plain data, and what each call makes of it.
use Rattle.std.specs.Prelude.{ℕ, ◌≡◌, ◌+◌, ◌-◌, ◌==◌, nat_le, nat_lt, not, min, Bool, true, false, ◌&&◌, List, [], ◌∷◌, map, length, if◌then◌else◌, Option, Some, None, Result, Ok, Err}
use Rattle.hx_etag.specs.declared.stat.Stat.{Stat}
use Rattle.hx_etag.specs.Conflicts.{newer_of}
use Rattle.hx_events.specs.declared.outcome.Outcome.{Outcome}
use Rattle.hx_rules.specs.Copies.{is_number, mark_after, kept_after}
use Rattle.hx_rules.specs.Stats.{newer_found}
use Rattle.hx_rules.specs.Versions.{Trail, trail_of, trail_after, adds_version, replaced}
use Rattle.hx_rules.specs.Legal.{deletes_past, grows_past}
use Rattle.hx_copy.specs.declared.errors.EditError.{EditError}
use Rattle.hx_copy.specs.declared.errors.EditError.TheVariants.{OutOfContent, TooLarge}
use Rattle.hx_copy.specs.Steps.{Step, StepsState, first_step, stepped}

-- a place of the trail: the id of the version that stands there, and its content
pub record Place : Type 0 where
  pub id : ℕ
  pub content : List ℕ

abbrev pub place_of : ℕ → List ℕ → Place
place_of id content = record { id = id; content = content }

-- The last version; the place of the trail, those before it and those behind it, the nearest first; the id of the clean
-- state, if there is one; and the stat that the copy keeps of its file.
pub record Copy : Type 0 where
  pub version : ℕ
  pub here : Place
  pub back : List Place
  pub ahead : List Place
  pub mark : Option ℕ
  pub base : Option Stat

abbrev pub copy_of : ℕ → Place → List Place → List Place → Option ℕ → Option Stat → Copy
copy_of version here back ahead mark base = record { version = version; here = here; back = back; ahead = ahead; mark = mark; base = base }

-- A copy, and what there is room for: one edit that adds fewer bytes than this, the next undo, the next redo.
pub record CopyState : Type 0 where
  pub copy : Copy
  pub adds : ℕ
  pub undoes : Bool
  pub redoes : Bool

-- the copy isn't in its clean state
abbrev pub is_dirty_copy : Copy → Bool
is_dirty_copy c = not (is_number c.here.id c.mark)

abbrev pub new_copy : ℕ → List ℕ → Option Stat → Bool → Copy
new_copy first content base clean = copy_of first (place_of first content) [] [] (if clean then Some first else None) base

-- An edit makes the next version, and forgets what lay behind the place.
abbrev pub edited_copy : ℕ → ℕ → List ℕ → Copy → Copy
edited_copy off del text c = copy_of (c.version + 1) (place_of (c.version + 1) (replaced off del text c.here.content)) (c.here ∷ c.back) [] c.mark c.base

-- An undo makes the next version, which is that of the place before; without one the place stays.
abbrev pub undone_copy : Copy → Copy
undone_copy c = elim c.back [ [] ↦ copy_of (c.version + 1) c.here [] c.ahead c.mark c.base | p ∷ ps ↦ copy_of (c.version + 1) p ps (c.here ∷ c.ahead) c.mark c.base ]

-- A redo makes the next version, which is that of the place behind; without one the place stays.
abbrev pub redone_copy : Copy → Copy
redone_copy c = elim c.ahead [ [] ↦ copy_of (c.version + 1) c.here c.back [] c.mark c.base | p ∷ ps ↦ copy_of (c.version + 1) p (c.here ∷ c.back) ps c.mark c.base ]

-- A revert makes the next version, begins the trail anew with it, and is clean.
abbrev pub reverted_copy : List ℕ → Stat → Copy → Copy
reverted_copy content found c = new_copy (c.version + 1) content (Some (newer_of c.base found)) true

-- A save of the last version makes the place the clean state. Of an older version it leaves the mark.
abbrev pub saved_copy : ℕ → Option Stat → Copy → Copy
saved_copy version found c = copy_of c.version c.here c.back c.ahead (if version == c.version then Some c.here.id else c.mark) (newer_found c.base found)

abbrev pub has_places : List Place → Bool
has_places [] = false
has_places (p ∷ ps) = true

-- what an edit of a content of this length is answered, memory aside
abbrev pub edit_answer : ℕ → ℕ → ℕ → ℕ → Result (Unit {0}) EditError
edit_answer len off del add = if deletes_past len off del then Err OutOfContent else if grows_past len del add then Err TooLarge else Ok tt

-- ---- the same in the terms of a history
-- the trail of the copy's version ids
abbrev pub trail_in : Copy → Trail
trail_in c = trail_of (c.here.id ∷ map (λ (p : Place). p.id) c.back) (map (λ (p : Place). p.id) c.ahead)

-- What a deed with this outcome makes of a copy's versions, trail, clean state and stat.
pub record Follows (outcome : Outcome) (old new : Copy) : Type 0 where
  pub version : new.version ≡ (if adds_version outcome then old.version + 1 else old.version)
  pub trail : trail_in new ≡ trail_after outcome (old.version + 1) (trail_in old)
  pub mark : new.mark ≡ mark_after outcome old.version new.here.id old.mark
  pub base : new.base ≡ kept_after outcome old.base

-- ---- how it is kept: the content of the place, and steps to both sides
-- the places that steps lead to
abbrev pub walked : List ℕ → List Step → List Place
walked content [] = []
walked content (s ∷ ss) = place_of s.id (stepped s content) ∷ walked (stepped s content) ss

-- The room for an edit of a content of this length, that may grow by `spare` bytes: a step keeps what is put in and what is
-- replaced, which may be all.
abbrev pub room_to_add : ℕ → ℕ → StepsState → ℕ
room_to_add len spare back = if nat_lt 0 back.places && nat_le len back.bytes then min spare (back.bytes - len) + 1 else 0

-- the room for the nearest step of one side, which goes over to the other
abbrev pub room_to_walk : ℕ → ℕ → List Step → StepsState → Bool
room_to_walk len most steps other =
    nat_lt 0 other.places
    && nat_le (length (first_step steps).here + length (first_step steps).there) other.bytes
    && nat_le (len - length (first_step steps).here + length (first_step steps).there) most
