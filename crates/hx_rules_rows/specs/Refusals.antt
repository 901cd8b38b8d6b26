-- Refusals, limits, faults of saves, and pairs.
use Rattle.std.specs.Prelude.{false, true, List, [], ◌∷◌, ◌++◌, codes, Some, None}
use Rattle.hx_events.specs.declared.backup.PairFound.{PairFound}
use Rattle.hx_events.specs.declared.backup.PairFound.TheVariants.{Empty, Found, Damaged, Twin}
use Rattle.hx_events.specs.declared.backup.Side.TheVariants.{A}
use Rattle.hx_events.specs.declared.event.Command.TheVariants.{Open, Create, Edit, Save, Revert, Close}
use Rattle.hx_events.specs.declared.event.Stage.TheVariants.{Prepare, Body, Open as OpenGate}
use Rattle.hx_events.specs.declared.life.Entry.{Entry}
use Rattle.hx_events.specs.declared.outcome.Outcome.TheVariants.{Opened, Created, Edited, Started, Reverted, Missing, NoPair, AlreadyOpen, NotOpen, OutOfContent, TooLarge, Saving, Checked, Modified, Saved, WriteFault}
use Rattle.hx_rules.specs.Legal.{Opening}
use Rattle.hx_rules_rows.specs.Story.{stat, does, reads, flush, insert, save, create, stage_ok, close}

-- a file of the greatest size is opened and edited
abbrev pub limits_story : List Entry
limits_story =
    does (Open 0) (Opened (stat 1 524288))
    ∷ does (insert 524288 []) (Edited 2)
    ∷ does (insert 0 (codes "y")) TooLarge
    ∷ does (Edit 0 0 1 (codes "y")) (Edited 3)
    ∷ does (Edit 0 1 18446744073709551615 []) OutOfContent
    ∷ []

-- what is refused before, while and after a copy is there
abbrev pub refusals_story : List Entry
refusals_story =
    does save NotOpen
    ∷ does (Open 0) Missing
    ∷ create
    ∷ does (Create 0) AlreadyOpen
    ∷ does (Save 0 true false) (Started 1)
    ∷ does (Close 0) Saving
    ∷ does (Revert 0) Saving
    ∷ []

-- a write fails after it has changed the file, so that the next check finds a conflict
abbrev pub write_fault_story : List Entry
write_fault_story =
    reads (Open 0) (Opened (stat 500 3)) (codes "one")
    ∷ does (insert 3 (codes "!")) (Edited 2)
    ∷ does save (Started 2)
    ∷ flush (Checked (Some (stat 500 3)))
    ∷ flush (WriteFault 2)
    ∷ does save (Started 2)
    ∷ flush (Modified (stat 3000 4))
    ∷ does (Save 0 false true) (Started 2)
    ∷ flush (Checked (Some (stat 3000 4)))
    ∷ flush (Saved 2 (Some (stat 5000 4)))
    ∷ []

-- a file of two blocks is opened and edited; its backup goes on while a further edit is made
abbrev pub one_block_written : List Entry
one_block_written =
    does (Open 0) (Opened (stat 500 5000))
    ∷ does (insert 0 (codes "y")) (Edited 2)
    ∷ stage_ok Prepare 2
    ∷ stage_ok Body 2
    ∷ does (insert 0 (codes "z")) (Edited 3)
    ∷ []

abbrev pub two_blocks_written : List Entry
two_blocks_written = one_block_written ++ stage_ok Body 2 ∷ []

abbrev pub blocks_story : List Entry
blocks_story = two_blocks_written ++ stage_ok OpenGate 2 ∷ stage_ok Prepare 3 ∷ []

-- two resources, where one pair is free
abbrev pub one_pair_free : Opening
one_pair_free = record { restored = None ∷ None ∷ []; barred = 63; guarded = false }

abbrev pub pairs_story : List Entry
pairs_story =
    create
    ∷ does (Create 1) NoPair
    ∷ close
    ∷ does (Create 1) (Created 1)
    ∷ []

-- two dirty copies without a backup
abbrev pub two_resources : Opening
two_resources = record { restored = None ∷ None ∷ []; barred = 0; guarded = false }

abbrev pub two_dirty : List Entry
two_dirty =
    does (Create 1) (Created 1)
    ∷ does (Edit 1 0 0 (codes "b")) (Edited 2)
    ∷ create
    ∷ does (insert 0 (codes "a")) (Edited 2)
    ∷ []

-- a revert to an older file
abbrev pub reverted_story : List Entry
reverted_story =
    reads (Open 0) (Opened (stat 9000 3)) (codes "new")
    ∷ does (insert 0 (codes "x")) (Edited 2)
    ∷ reads (Revert 0) (Reverted (stat 4000 5)) (codes "older")
    ∷ []

-- what a vault was found to hold: a backup, another one of the same resource, and something that doesn't read
abbrev pub found_pairs : List PairFound
found_pairs =
    Found (record { resource = codes "a"; base = None; content = codes "hello" }) A
    ∷ Twin 0
    ∷ Damaged
    ∷ Empty
    ∷ []
