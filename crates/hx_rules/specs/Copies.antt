-- What a working copy is after the deeds of its resource, newest first.
use Rattle.std.specs.Prelude.{ℕ, ◌==◌, not, Bool, true, false, ◌&&◌, List, [], ◌∷◌, if◌then◌else◌, Option, Some, None, is_some}
use Rattle.hx_etag.specs.declared.stat.Stat.{Stat}
use Rattle.hx_events.specs.declared.backup.Backup.{Backup}
use Rattle.hx_events.specs.declared.outcome.Outcome.{Outcome}
use Rattle.hx_events.specs.declared.outcome.Outcome.TheVariants.{Opened, Created, Reverted, Closed, Saved}
use Rattle.hx_rules.specs.Entries.{Deed}
use Rattle.hx_etag.specs.Conflicts.{newer_of}
use Rattle.hx_rules.specs.Stats.{newer_found}
use Rattle.hx_rules.specs.Versions.{last_version, alternative}

-- what an outcome makes of being registered
abbrev pub registered_after : Outcome → Bool → Bool
registered_after (Opened s) was = true
registered_after (Created n) was = true
registered_after Closed was = false
registered_after _ was = was

-- The id that counts as clean: of an open, a create and a revert the one that they made, and of a save the one at the
-- place, where what was saved is still the last version. After VS Code, where a save of an older version leaves a copy
-- dirty.
abbrev pub mark_after : Outcome → ℕ → ℕ → Option ℕ → Option ℕ
mark_after (Opened s) last now was = Some now
mark_after (Created n) last now was = Some now
mark_after (Reverted s) last now was = Some now
mark_after (Saved n x) last now was = if n == last then Some now else was
mark_after _ last now was = was

-- is this number there, and is it n?
abbrev pub is_number : ℕ → Option ℕ → Bool
is_number n None = false
is_number n (Some m) = m == n

-- what an outcome makes of the kept stat
abbrev pub kept_after : Outcome → Option Stat → Option Stat
kept_after (Opened s) was = Some s
kept_after (Created n) was = None
kept_after (Reverted s) was = Some (newer_of was s)
kept_after (Saved n x) was = newer_found was x
kept_after _ was = was

module _ (restored : Option Backup) where
  -- The copy is registered: the last of its opens, creates and closes isn't a close. A restored one is so from the start.
  abbrev pub registered : List Deed → Bool
  registered [] = is_some restored
  registered (d ∷ ds) = registered_after d.outcome (registered ds)

  -- the alternative id of the clean state. A restored copy has none
  abbrev pub mark : List Deed → Option ℕ
  mark [] = None
  mark (d ∷ ds) = mark_after d.outcome (last_version restored ds) (alternative restored (d ∷ ds)) (mark ds)

  -- The copy is dirty: it is registered, and its alternative id isn't that of its clean state. After VS Code, where an
  -- undo that brings back the saved state makes a copy clean; the exact rule is this project's own.
  abbrev pub dirty : List Deed → Bool
  dirty ds = registered ds && not (is_number (alternative restored ds) (mark ds))

  -- The stat that the copy keeps of its file: of those that its open, its reverts and its saves found, the last among
  -- those of the greatest time. A restored copy begins with that of its backup.
  abbrev pub kept : List Deed → Option Stat
  kept [] = elim restored [ None ↦ None | Some b ↦ b.base ]
  kept (d ∷ ds) = kept_after d.outcome (kept ds)
