-- A window, a writer and a saver at work, and the Closer at the end.
use Rattle.std.specs.Prelude.{List, [], ◌∷◌, ◌++◌, codes, Some, None}
use Rattle.hx_events.specs.declared.event.Actor.TheVariants.{Closer}
use Rattle.hx_events.specs.declared.event.Command.{Command}
use Rattle.hx_events.specs.declared.event.Command.TheVariants.{Create}
use Rattle.hx_events.specs.declared.event.Event.TheVariants.{Vault, Flush}
use Rattle.hx_events.specs.declared.life.Entry.{Entry}
use Rattle.hx_events.specs.declared.outcome.Outcome.{Outcome}
use Rattle.hx_events.specs.declared.outcome.Outcome.TheVariants.{Edited, Started, Checked, Saved, Quit as MayQuit}
use Rattle.hx_rules_rows.specs.Story.{stat, entry, does, flush, insert, save, create, backup_stages, asks_quit}

-- the window's commands
abbrev pub window_script : List Command
window_script = Create 0 ∷ insert 0 (codes "a") ∷ save ∷ insert 0 (codes "b") ∷ []

-- what the three make of them, the oldest first
abbrev pub run_story : List Entry
run_story =
    create
    ∷ does (insert 0 (codes "a")) (Edited 2)
    ∷ (backup_stages 2 ++ does save (Started 2)
    ∷ flush (Checked None)
    ∷ flush (Saved 2 (Some (stat 5000 1)))
    ∷ does (insert 0 (codes "b")) (Edited 3)
    ∷ backup_stages 3)

-- the Closer's vault stage and save stage of the first resource
abbrev pub closer_vault : Outcome → Entry
closer_vault outcome = entry Closer (Vault 0) outcome []

abbrev pub closer_flush : Outcome → Entry
closer_flush outcome = entry Closer (Flush 0) outcome []

-- a copy whose save runs, and its backup, are left to the Closer
abbrev pub left_story : List Entry
left_story = create ∷ does (insert 0 (codes "a")) (Edited 2) ∷ does save (Started 2) ∷ []

abbrev pub closing_story : List Entry
closing_story = closer_flush (Checked None) ∷ closer_flush (Saved 2 (Some (stat 3000 1))) ∷ asks_quit MayQuit ∷ []
