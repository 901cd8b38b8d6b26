-- Which backups a crash may bring back.
use Rattle.std.specs.Prelude.{◌≡◌, ◌⊎◌, ℕ, Bool, List, [], ◌∷◌, ◌++◌, if◌then◌else◌, Option, Some, None, option_map}
use Rattle.hx_events.specs.declared.backup.Backup.{Backup}
use Rattle.hx_events.specs.declared.life.Entry.{Entry}
use Rattle.hx_events.specs.declared.outcome.Outcome.{Outcome}
use Rattle.hx_events.specs.declared.outcome.Outcome.TheVariants.{StageOk, StageFault}
use Rattle.hx_rules.specs.Entries.{Deed, deed}
use Rattle.hx_rules.specs.Backups.{Snapshot, backup_of, done, tried, undone}

-- the outcome where the stage in hand fails: ok turned into a fault, and every other one as it is
abbrev pub failed_outcome : Outcome → Outcome
failed_outcome (StageOk s v) = StageFault s v
failed_outcome outcome = outcome

-- An entry whose stage is in hand: nothing but its end is left open.
abbrev pub failed : Entry → Entry
failed e = record { moment = e.moment; faults = e.faults; actor = e.actor; event = e.event; outcome = failed_outcome e.outcome; content = e.content }

-- the same of a deed
abbrev pub failed_deed : Deed → Deed
failed_deed d = deed d.place d.event (failed_outcome d.outcome) d.content

abbrev pub if_tried : Option Snapshot → List (Option Snapshot)
if_tried None = []
if_tried (Some t) = Some t ∷ []

abbrev pub if_undone : Bool → List (Option Snapshot)
if_undone is_undone = if is_undone then None ∷ [] else []

-- What a restart may find of a copy, a backup or nothing: the completed backup, or nothing where there is none; the one
-- whose Open failed; and nothing, where a discard failed.
abbrev pub allowed_of : Option Snapshot → Option Snapshot → Bool → List (Option Snapshot)
allowed_of is_done is_tried is_undone =
    is_done ∷ (if_tried is_tried ++ if_undone is_undone)

module _ (restored : Option Backup) where
  abbrev pub allowed : List Deed → List (Option Snapshot)
  allowed ds = allowed_of (done restored ds) (tried restored ds) (undone ds)

-- it is one of these
abbrev pub IsAmong : Option Snapshot → List (Option Snapshot) → Type 0
IsAmong s [] = ⊥
IsAmong s (x ∷ xs) = (s ≡ x) ⊎ IsAmong s xs

-- this backup, or none, is among them: `found` is what a pair shows of the resource
abbrev pub IsAllowed : List ℕ → Option Backup → List Deed → Option Backup → Type 0
IsAllowed resource restored ds found = (s : Option Snapshot) × IsAmong s (allowed restored ds) × (found ≡ option_map (backup_of resource) s)
