-- Saves that wait, join, or meet an edit.
use Rattle.std.specs.Prelude.{false, true, List, [], ◌∷◌, ◌++◌, codes, Some, None}
use Rattle.hx_events.specs.declared.event.Command.TheVariants.{Save}
use Rattle.hx_events.specs.declared.life.Entry.{Entry}
use Rattle.hx_events.specs.declared.outcome.Outcome.TheVariants.{Edited, Joined, Clean, Queued, Started, Checked, Saved, Quit as MayQuit}
use Rattle.hx_rules_rows.specs.Story.{stat, does, flush, insert, save, create, backup_stages, asks_quit}

-- Version 2 is being saved, and three more requests wait while versions 3 to 5 are made.
abbrev pub four_requests : List Entry
four_requests =
    create
    ∷ does (insert 0 (codes "a")) (Edited 2)
    ∷ does save (Started 2)
    ∷ does (insert 0 (codes "b")) (Edited 3)
    ∷ does save Queued
    ∷ does (insert 0 (codes "c")) (Edited 4)
    ∷ does save Queued
    ∷ does (insert 0 (codes "d")) (Edited 5)
    ∷ does save Queued
    ∷ []

-- Two saves answer all four.
abbrev pub queue_story : List Entry
queue_story =
    four_requests ++ flush (Checked None)
    ∷ flush (Saved 2 (Some (stat 2000 1)))
    ∷ flush (Checked (Some (stat 2000 1)))
    ∷ flush (Saved 5 (Some (stat 4000 4)))
    ∷ []

-- A request for the version that is being saved joins it.
abbrev pub joined_story : List Entry
joined_story =
    create
    ∷ does (insert 0 (codes "a")) (Edited 2)
    ∷ does save (Started 2)
    ∷ does save Joined
    ∷ flush (Checked None)
    ∷ flush (Saved 2 (Some (stat 2000 1)))
    ∷ []

-- A clean copy is saved only by force.
abbrev pub forced_story : List Entry
forced_story =
    joined_story ++ does save Clean
    ∷ does (Save 0 true false) (Started 2)
    ∷ flush (Checked (Some (stat 2000 1)))
    ∷ flush (Saved 2 (Some (stat 4000 1)))
    ∷ []

-- An edit comes between the check and the write of version 2.
abbrev pub edited_before_write : List Entry
edited_before_write =
    create
    ∷ does (insert 0 (codes "a")) (Edited 2)
    ∷ (backup_stages 2 ++ does save (Started 2)
    ∷ flush (Checked None)
    ∷ does (insert 0 (codes "b")) (Edited 3)
    ∷ [])

abbrev pub written_story : List Entry
written_story = edited_before_write ++ flush (Saved 2 (Some (stat 5000 1))) ∷ []

abbrev pub backed_up_again_story : List Entry
backed_up_again_story = written_story ++ backup_stages 3 ++ asks_quit MayQuit ∷ []
