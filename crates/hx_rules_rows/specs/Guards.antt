-- Saves of a guarded life.
use Rattle.std.specs.Prelude.{List, [], ◌∷◌, ◌++◌, codes, Some, None}
use Rattle.hx_events.specs.declared.event.Stage.TheVariants.{Prepare, Fade, Drop}
use Rattle.hx_events.specs.declared.life.Entry.{Entry}
use Rattle.hx_events.specs.declared.outcome.Outcome.TheVariants.{Edited, Started, Checked, Saved, Unguarded, Idle, Vetoed}
use Rattle.hx_rules_rows.specs.Story.{stat, does, flush, insert, save, create, stage_ok, stage_fault, backup_stages, asks_quit}

-- A save is checked, and its version isn't backed up.
abbrev pub checked_first : List Entry
checked_first =
    create
    ∷ does (insert 0 (codes "a")) (Edited 2)
    ∷ does save (Started 2)
    ∷ flush (Checked None)
    ∷ []

-- Its write waits for the backup, which is discarded only afterwards.
abbrev pub guarded_story : List Entry
guarded_story =
    checked_first ++ flush Idle
    ∷ (backup_stages 2 ++ flush (Saved 2 (Some (stat 5000 1)))
    ∷ stage_ok Fade 0
    ∷ stage_ok Drop 0
    ∷ [])

-- Where the backup fails, the write is given up.
abbrev pub refused_story : List Entry
refused_story =
    checked_first ++ stage_fault Prepare 2
    ∷ flush (Unguarded 2)
    ∷ asks_quit (Vetoed 0)
    ∷ []
