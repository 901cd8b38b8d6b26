-- The versions of a working copy, and the trail that undo and redo walk on. The deeds of a resource are read newest first.
use Rattle.std.specs.Prelude.{ℕ, ◌+◌, ◌-◌, ◌==◌, Bool, true, false, List, [], ◌∷◌, ◌++◌, take, drop, length, if◌then◌else◌, Option, Some, None, is_some}
use Rattle.hx_events.specs.declared.backup.Backup.{Backup}
use Rattle.hx_events.specs.declared.event.Command.TheVariants.{Edit}
use Rattle.hx_events.specs.declared.event.Event.{Event}
use Rattle.hx_events.specs.declared.event.Event.TheVariants.{Act}
use Rattle.hx_events.specs.declared.outcome.Outcome.{Outcome}
use Rattle.hx_events.specs.declared.outcome.Outcome.TheVariants.{Opened, Created, Edited, Undone, Redone, Reverted}
use Rattle.hx_rules.specs.Entries.{Deed}

-- A content that the copy has had. Its size is the content's length; that of a version made by an open or a revert is
-- the size of the stat, since a printed history doesn't have the content.
pub record Version : Type 0 where
  pub content : List ℕ
  pub size : ℕ

abbrev pub version : List ℕ → ℕ → Version
version content size = record { content = content; size = size }

-- the content with `del` bytes from `off` on replaced by the text
abbrev pub replaced : ℕ → ℕ → List ℕ → List ℕ → List ℕ
replaced off del text old = take off old ++ text ++ drop (off + del) old

-- what an edit makes of a version
abbrev pub edited : Event → Version → Version
edited (Act (Edit c off del text)) old = version (replaced off del text old.content) (old.size - del + length text)
edited _ old = old

-- Each of these makes a new version: an open, a create, an edit, an undo, a redo, a revert.
abbrev pub adds_version : Outcome → Bool
adds_version (Opened s) = true
adds_version (Created n) = true
adds_version (Edited n) = true
adds_version (Undone n) = true
adds_version (Redone n) = true
adds_version (Reverted s) = true
adds_version _ = false

-- Version ids with a place in them: those up to the place, its own first, and those behind it, the nearest first.
pub record Trail : Type 0 where
  pub back : List ℕ
  pub ahead : List ℕ

abbrev pub trail_of : List ℕ → List ℕ → Trail
trail_of back ahead = record { back = back; ahead = ahead }

-- The id at the place. A trail without one, of a copy that was never opened nor created, gives 0, which is no version's id.
abbrev pub at_place : Trail → ℕ
at_place t = elim t.back [ [] ↦ 0 | n ∷ ns ↦ n ]

-- Is there an id before the place, for an undo to go back to?
abbrev pub can_undo : Trail → Bool
can_undo t = elim t.back [ [] ↦ false | n ∷ ns ↦ elim ns [ [] ↦ false | m ∷ ms ↦ true ] ]

-- Is there an id behind the place, for a redo to go on to?
abbrev pub can_redo : Trail → Bool
can_redo t = elim t.ahead [ [] ↦ false | n ∷ ns ↦ true ]

-- the place moved one back, where there is an id before it
abbrev pub moved_back : Trail → Trail
moved_back t = elim t.back [ [] ↦ t | n ∷ ns ↦ elim ns [ [] ↦ t | m ∷ ms ↦ trail_of (m ∷ ms) (n ∷ t.ahead) ] ]

-- the place moved one on, where there is an id behind it
abbrev pub moved_on : Trail → Trail
moved_on t = elim t.ahead [ [] ↦ t | n ∷ ns ↦ trail_of (n ∷ t.back) ns ]

-- The trail after an outcome that made the version n. An edit forgets what lay behind the place; an open, a create and a
-- revert begin the trail anew, which is this project's own rule.
abbrev pub trail_after : Outcome → ℕ → Trail → Trail
trail_after (Opened s) n t = trail_of (n ∷ []) []
trail_after (Created v) n t = trail_of (n ∷ []) []
trail_after (Reverted s) n t = trail_of (n ∷ []) []
trail_after (Edited v) n t = trail_of (n ∷ t.back) []
trail_after (Undone v) n t = moved_back t
trail_after (Redone v) n t = moved_on t
trail_after _ n t = t

-- The versions after an outcome, newest first. An undo and a redo bring back the version at the place that they moved to.
abbrev pub versions_after : Outcome → Event → List ℕ → Version → List Version → List Version
versions_after (Opened s) event content back vs = version content s.size ∷ vs
versions_after (Reverted s) event content back vs = version content s.size ∷ vs
versions_after (Created n) event content back vs = version [] 0 ∷ vs
versions_after (Edited n) event content back vs = edited event (elim vs [ [] ↦ version [] 0 | v ∷ rest ↦ v ]) ∷ vs
versions_after (Undone n) event content back vs = back ∷ vs
versions_after (Redone n) event content back vs = back ∷ vs
versions_after _ event content back vs = vs

-- The version with this id, of these, newest first. Ids count the versions from 1. An id that isn't there, which a legal
-- history never asks for, gives an empty one.
abbrev pub version_at : ℕ → List Version → Version
version_at n [] = version [] 0
version_at n (v ∷ vs) = if length vs + 1 == n then v else version_at n vs

module _ (restored : Option Backup) where
  -- The id of the last version. Ids go on through the whole life of a resource, and a restored copy begins with 1.
  abbrev pub last_version : List Deed → ℕ
  last_version [] = if is_some restored then 1 else 0
  last_version (d ∷ ds) = if adds_version d.outcome then last_version ds + 1 else last_version ds

  -- the trail: that of a restored copy begins with 1 alone
  abbrev pub trail : List Deed → Trail
  trail [] = elim restored [ None ↦ trail_of [] [] | Some b ↦ trail_of (1 ∷ []) [] ]
  trail (d ∷ ds) = trail_after d.outcome (last_version ds + 1) (trail ds)

  -- The alternative id of the last version, after VS Code: the id that stands at the trail's place.
  abbrev pub alternative : List Deed → ℕ
  alternative ds = at_place (trail ds)

  -- the versions of the copy, newest first: those of a restored copy begin with the backup's content
  abbrev pub versions : List Deed → List Version
  versions [] = elim restored [ None ↦ [] | Some b ↦ version b.content (length b.content) ∷ [] ]
  versions (d ∷ ds) = versions_after d.outcome d.event d.content (version_at (alternative (d ∷ ds)) (versions ds)) (versions ds)

  -- the last version, or an empty one where there is none, which a legal history never reads
  abbrev pub last_content : List Deed → Version
  last_content ds = elim (versions ds) [ [] ↦ version [] 0 | v ∷ rest ↦ v ]
