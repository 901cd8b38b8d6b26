-- Saves whose check finds that the file was changed.
use Rattle.std.specs.Prelude.{ℕ, false, true, List, [], ◌∷◌, ◌++◌, codes, Some}
use Rattle.hx_events.specs.declared.event.Command.TheVariants.{Open, Save, Outside}
use Rattle.hx_events.specs.declared.life.Entry.{Entry}
use Rattle.hx_events.specs.declared.outcome.Outcome.TheVariants.{Opened, Edited, Written, Started, Checked, Modified, Saved}
use Rattle.hx_rules_rows.specs.Story.{stat, does, reads, flush, insert, save}

-- A file of three bytes is opened and edited, and another program writes this text to it; then the copy is saved.
abbrev pub edited_and_changed : List ℕ → List Entry
edited_and_changed text =
    does (Outside 0 5000 (codes "one")) Written
    ∷ reads (Open 0) (Opened (stat 5000 3)) (codes "one")
    ∷ does (insert 3 (codes "!")) (Edited 2)
    ∷ does (Outside 0 9000 text) Written
    ∷ does save (Started 2)
    ∷ []

-- Another size is a conflict; the next save overwrites it.
abbrev pub conflict_story : List Entry
conflict_story =
    edited_and_changed (codes "other") ++ flush (Modified (stat 9000 5))
    ∷ does (Save 0 false true) (Started 2)
    ∷ flush (Checked (Some (stat 9000 5)))
    ∷ flush (Saved 2 (Some (stat 6000 4)))
    ∷ []

-- The same size is none, though the file is newer: a known compromise.
abbrev pub same_size_story : List Entry
same_size_story =
    edited_and_changed (codes "two") ++ flush (Checked (Some (stat 9000 3)))
    ∷ flush (Saved 2 (Some (stat 6000 4)))
    ∷ []
