-- Backups that are discarded, and faults on the way.
use Rattle.std.specs.Prelude.{List, [], ◌∷◌, ◌++◌, codes}
use Rattle.hx_events.specs.declared.event.Stage.TheVariants.{Prepare, Body, Open as OpenGate, Fade, Drop}
use Rattle.hx_events.specs.declared.life.Entry.{Entry}
use Rattle.hx_events.specs.declared.outcome.Outcome.TheVariants.{Edited, Spent, Vetoed}
use Rattle.hx_rules_rows.specs.Story.{does, vault, insert, create, stage_ok, stage_fault, idle_vault, hello_edited, both_backed_up, close, asks_quit}

-- the copy of which two versions were backed up is closed, and its backups are discarded
abbrev pub closed_story : List Entry
closed_story = both_backed_up ++ close ∷ []

abbrev pub faded_story : List Entry
faded_story = closed_story ++ stage_ok Fade 0 ∷ []

abbrev pub discarded_story : List Entry
discarded_story = faded_story ++ stage_ok Drop 0 ∷ []

-- the same where a device call fails and all after it: at the first Prepare
abbrev pub first_prepare_fails : List Entry
first_prepare_fails =
    create
    ∷ does (insert 0 (codes "hello")) (Edited 2)
    ∷ stage_fault Prepare 2
    ∷ idle_vault
    ∷ idle_vault
    ∷ does (insert 5 (codes "!")) (Edited 3)
    ∷ stage_fault Prepare 3
    ∷ idle_vault
    ∷ idle_vault
    ∷ close
    ∷ idle_vault
    ∷ idle_vault
    ∷ []

-- at the first Body; the next Prepare needs no device call
abbrev pub first_body_fails : List Entry
first_body_fails =
    create
    ∷ does (insert 0 (codes "hello")) (Edited 2)
    ∷ stage_ok Prepare 2
    ∷ stage_fault Body 2
    ∷ idle_vault
    ∷ does (insert 5 (codes "!")) (Edited 3)
    ∷ stage_ok Prepare 3
    ∷ stage_fault Body 3
    ∷ idle_vault
    ∷ close
    ∷ idle_vault
    ∷ idle_vault
    ∷ []

-- at the first Open
abbrev pub first_open_fails : List Entry
first_open_fails =
    create
    ∷ does (insert 0 (codes "hello")) (Edited 2)
    ∷ stage_ok Prepare 2
    ∷ stage_ok Body 2
    ∷ stage_fault OpenGate 2
    ∷ does (insert 5 (codes "!")) (Edited 3)
    ∷ stage_fault Prepare 3
    ∷ idle_vault
    ∷ idle_vault
    ∷ close
    ∷ stage_fault Fade 0
    ∷ idle_vault
    ∷ []

-- at the second Prepare
abbrev pub second_prepare_fails : List Entry
second_prepare_fails = hello_edited ++ stage_fault Prepare 3 ∷ idle_vault ∷ idle_vault ∷ close ∷ stage_fault Fade 0 ∷ idle_vault ∷ []

-- at the second Body; the Fade needs no device call
abbrev pub second_body_fails : List Entry
second_body_fails = hello_edited ++ stage_ok Prepare 3 ∷ stage_fault Body 3 ∷ idle_vault ∷ close ∷ stage_ok Fade 0 ∷ stage_fault Drop 0 ∷ []

-- at the second Open
abbrev pub second_open_fails : List Entry
second_open_fails = hello_edited ++ stage_ok Prepare 3 ∷ stage_ok Body 3 ∷ stage_fault OpenGate 3 ∷ close ∷ stage_fault Fade 0 ∷ idle_vault ∷ []

-- at the Fade
abbrev pub fade_fails : List Entry
fade_fails = closed_story ++ stage_fault Fade 0 ∷ idle_vault ∷ []

-- at the Drop
abbrev pub drop_fails : List Entry
drop_fails = faded_story ++ stage_fault Drop 0 ∷ []

-- after a failed Open another edit begins a further backup
abbrev pub open_fails : List Entry
open_fails = hello_edited ++ stage_ok Prepare 3 ∷ stage_ok Body 3 ∷ stage_fault OpenGate 3 ∷ []

abbrev pub begun_again : List Entry
begun_again = open_fails ++ does (insert 6 (codes "?")) (Edited 4) ∷ stage_ok Prepare 4 ∷ []

-- In a life that was restored with a backup the stamps are used up.
abbrev pub spent_story : List Entry
spent_story = does (insert 0 (codes "x")) (Edited 2) ∷ vault Spent ∷ []

abbrev pub vetoed_story : List Entry
vetoed_story = spent_story ++ asks_quit (Vetoed 0) ∷ []

abbrev pub spent_again : List Entry
spent_again = spent_story ++ does (insert 0 (codes "y")) (Edited 3) ∷ []
