-- Undo and redo.
use Rattle.std.specs.Prelude.{List, [], ◌∷◌, ◌++◌, codes, Some, None}
use Rattle.hx_events.specs.declared.event.Command.TheVariants.{Undo, Redo}
use Rattle.hx_events.specs.declared.event.Stage.TheVariants.{Fade, Drop}
use Rattle.hx_events.specs.declared.life.Entry.{Entry}
use Rattle.hx_events.specs.declared.outcome.Outcome.TheVariants.{Edited, Undone, Redone, NoUndo, NoRedo, Clean, Queued, Started, Checked, Saved}
use Rattle.hx_rules_rows.specs.Story.{stat, does, flush, insert, save, create, stage_ok, backup_stages, hello_backed_up}

-- back to the beginning, on again, and another way
abbrev pub walk_story : List Entry
walk_story =
    create
    ∷ does (insert 0 (codes "a")) (Edited 2)
    ∷ does (insert 1 (codes "b")) (Edited 3)
    ∷ does (Undo 0) (Undone 4)
    ∷ does (Undo 0) (Undone 5)
    ∷ does (Undo 0) NoUndo
    ∷ does (Redo 0) (Redone 6)
    ∷ does (insert 1 (codes "c")) (Edited 7)
    ∷ does (Redo 0) NoRedo
    ∷ []

abbrev pub walk_backed_up : List Entry
walk_backed_up = walk_story ++ backup_stages 7

-- an undo to the created state discards the backup
abbrev pub undone_to_created : List Entry
undone_to_created = hello_backed_up ++ does (Undo 0) (Undone 3) ∷ stage_ok Fade 0 ∷ stage_ok Drop 0 ∷ []

-- an undo to the saved state
abbrev pub undone_to_saved : List Entry
undone_to_saved =
    create
    ∷ does (insert 0 (codes "a")) (Edited 2)
    ∷ does save (Started 2)
    ∷ flush (Checked None)
    ∷ flush (Saved 2 (Some (stat 2000 1)))
    ∷ does (insert 1 (codes "b")) (Edited 3)
    ∷ does (Undo 0) (Undone 4)
    ∷ does save Clean
    ∷ []

-- an undo while a save runs: the save is of a version that isn't the last one, so it moves no mark
abbrev pub undone_while_saving : List Entry
undone_while_saving =
    create
    ∷ does (insert 0 (codes "a")) (Edited 2)
    ∷ does save (Started 2)
    ∷ flush (Checked None)
    ∷ does (Undo 0) (Undone 3)
    ∷ flush (Saved 2 (Some (stat 2000 1)))
    ∷ does save Clean
    ∷ []

-- an undo and a redo while a save runs
abbrev pub redone_while_saving : List Entry
redone_while_saving =
    create
    ∷ does (insert 0 (codes "a")) (Edited 2)
    ∷ does save (Started 2)
    ∷ does (Undo 0) (Undone 3)
    ∷ does (Redo 0) (Redone 4)
    ∷ does save Queued
    ∷ flush (Checked None)
    ∷ flush (Saved 2 (Some (stat 2000 1)))
    ∷ flush (Checked (Some (stat 2000 1)))
    ∷ flush (Saved 4 (Some (stat 4000 1)))
    ∷ []
