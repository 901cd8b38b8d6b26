-- How a copy and its saves change when one deed is added, for each kind of outcome.
use Rattle.std.specs.Prelude.{◌≡◌, ℕ, ◌+◌, ◌==◌, ◌≤◌, Bool, true, false, List, [], ◌∷◌, if◌then◌else◌, Option, Some, None, IfSome}
use Rattle.hx_etag.specs.declared.stat.Stat.{Stat}
use Rattle.hx_events.specs.declared.backup.Backup.{Backup}
use Rattle.hx_events.specs.declared.event.Command.TheVariants.{Save}
use Rattle.hx_events.specs.declared.event.Event.{Event}
use Rattle.hx_events.specs.declared.event.Event.TheVariants.{Act}
use Rattle.hx_events.specs.declared.outcome.Outcome.{Outcome}
use Rattle.hx_events.specs.declared.outcome.Outcome.TheVariants.{Opened, Created, Edited, Undone, Redone, Reverted, Closed, Saved, Joined, Clean, Queued, Started, Checked, CheckFault, Modified, WriteFault, Unguarded}
use Rattle.hx_rules.specs.declared.saves.QueuedSave.{QueuedSave}
use Rattle.hx_rules.specs.declared.saves.Running.{Running}
use Rattle.hx_rules.specs.Entries.{Deed, deed}
use Rattle.hx_etag.specs.Conflicts.{newer_of}
use Rattle.hx_rules.specs.Stats.{newer_found}
use Rattle.hx_rules.specs.Versions.{Trail, trail_of, moved_back, moved_on, last_version, trail, alternative}
use Rattle.hx_rules.specs.Copies.{registered, mark, dirty, kept}
use Rattle.hx_rules.specs.Backups.{is_change}
use Rattle.hx_rules.specs.Saves.{queued, running, run_checked, run_finished, save_steps}

-- what decides whether a copy is dirty, and what it keeps of its file
pub record CopyState : Type 0 where
  pub registered : Bool
  pub mark : Option ℕ
  pub kept : Option Stat
  pub last : ℕ
  pub trail : Trail

abbrev pub copy_state : Option Backup → List Deed → CopyState
copy_state restored ds = record {
  registered = registered restored ds;
  mark = mark restored ds;
  kept = kept restored ds;
  last = last_version restored ds;
  trail = trail restored ds;
}

-- What each outcome does to the copy. What isn't named stays.
pub record CopyLaws (restored : Option Backup) (place : ℕ) (event : Event) (content : List ℕ) (ds : List Deed) : Type 0 where
  pub opened : (s : Stat) → copy_state restored (deed place event (Opened s) content ∷ ds) ≡ record { registered = true; mark = Some (last_version restored ds + 1); kept = Some s; last = last_version restored ds + 1; trail = trail_of ((last_version restored ds + 1) ∷ []) [] }
  pub created : (n : ℕ) → copy_state restored (deed place event (Created n) content ∷ ds) ≡ record { registered = true; mark = Some (last_version restored ds + 1); kept = None; last = last_version restored ds + 1; trail = trail_of ((last_version restored ds + 1) ∷ []) [] }
  pub edited : (n : ℕ) → copy_state restored (deed place event (Edited n) content ∷ ds) ≡ record (copy_state restored ds) { last = last_version restored ds + 1; trail = trail_of ((last_version restored ds + 1) ∷ (trail restored ds).back) [] }
  pub undone : (n : ℕ) → copy_state restored (deed place event (Undone n) content ∷ ds) ≡ record (copy_state restored ds) { last = last_version restored ds + 1; trail = moved_back (trail restored ds) }
  pub redone : (n : ℕ) → copy_state restored (deed place event (Redone n) content ∷ ds) ≡ record (copy_state restored ds) { last = last_version restored ds + 1; trail = moved_on (trail restored ds) }
  pub reverted : (s : Stat) → copy_state restored (deed place event (Reverted s) content ∷ ds) ≡ record (copy_state restored ds) { mark = Some (last_version restored ds + 1); kept = Some (newer_of (kept restored ds) s); last = last_version restored ds + 1; trail = trail_of ((last_version restored ds + 1) ∷ []) [] }
  pub closed : copy_state restored (deed place event Closed content ∷ ds) ≡ record (copy_state restored ds) { registered = false }
  pub saved : (n : ℕ) (x : Option Stat) → copy_state restored (deed place event (Saved n x) content ∷ ds) ≡ record (copy_state restored ds) { mark = if n == last_version restored ds then Some (alternative restored ds) else mark restored ds; kept = newer_found (kept restored ds) x }
  pub other : (outcome : Outcome) → is_change outcome ≡ false → copy_state restored (deed place event outcome content ∷ ds) ≡ copy_state restored ds
  -- so the copy is clean after an open, a create, a revert and a close
  pub opened_clean : (s : Stat) → dirty restored (deed place event (Opened s) content ∷ ds) ≡ false
  pub created_clean : (n : ℕ) → dirty restored (deed place event (Created n) content ∷ ds) ≡ false
  pub reverted_clean : (s : Stat) → dirty restored (deed place event (Reverted s) content ∷ ds) ≡ false
  pub closed_clean : dirty restored (deed place event Closed content ∷ ds) ≡ false
  -- it is dirty after an edit
  pub edited_dirty : (n : ℕ) → registered restored ds ≡ true → dirty restored (deed place event (Edited n) content ∷ ds) ≡ true
  -- and clean after a completed save of the last version
  pub saved_clean : (x : Option Stat) → dirty restored (deed place event (Saved (last_version restored ds) x) content ∷ ds) ≡ false
  pub other_dirty : (outcome : Outcome) → is_change outcome ≡ false → dirty restored (deed place event outcome content ∷ ds) ≡ dirty restored ds

abbrev pub CopiesChange : Type 0
CopiesChange = (restored : Option Backup) (place : ℕ) (event : Event) (content : List ℕ) (ds : List Deed) → CopyLaws restored place event content ds

-- the save that runs and the one that waits
pub record SaveState : Type 0 where
  pub run : Option Running
  pub queue : Option QueuedSave

abbrev pub save_state : Option Backup → List Deed → SaveState
save_state restored ds = record { run = running (save_steps restored ds); queue = queued (save_steps restored ds) }

abbrev pub begun_save : ℕ → Bool → Running
begun_save version over = record { version = version; over = over; checked = false }

abbrev pub waiting_save : Bool → Bool → QueuedSave
waiting_save force over = record { force = force; over = over }

-- does the outcome say something of a save?
abbrev pub is_save_outcome : Outcome → Bool
is_save_outcome Joined = true
is_save_outcome Clean = true
is_save_outcome Queued = true
is_save_outcome (Started n) = true
is_save_outcome (Checked x) = true
is_save_outcome CheckFault = true
is_save_outcome (Modified s) = true
is_save_outcome (WriteFault n) = true
is_save_outcome (Unguarded n) = true
is_save_outcome (Saved n x) = true
is_save_outcome _ = false

module _ (restored : Option Backup) where
  -- what a finish leaves: what was queued runs, where the copy is dirty after it or that is forced
  abbrev pub finished_save : Deed → List Deed → SaveState
  finished_save d ds = record { run = run_finished (queued (save_steps restored ds)) (dirty restored (d ∷ ds)) (last_version restored ds); queue = None }

-- What each outcome does to the saves of its resource. What isn't named stays.
pub record SavesLaws (restored : Option Backup) (place c : ℕ) (force over : Bool) (event : Event) (content : List ℕ) (ds : List Deed) : Type 0 where
  pub joined : save_state restored (deed place (Act (Save c force over)) Joined content ∷ ds) ≡ save_state restored ds
  pub clean : save_state restored (deed place (Act (Save c force over)) Clean content ∷ ds) ≡ save_state restored ds
  pub queued : save_state restored (deed place (Act (Save c force over)) Queued content ∷ ds) ≡ record (save_state restored ds) { queue = Some (waiting_save force over) }
  pub started : (n : ℕ) → save_state restored (deed place (Act (Save c force over)) (Started n) content ∷ ds) ≡ record (save_state restored ds) { run = Some (begun_save (last_version restored ds) over) }
  pub checked : (x : Option Stat) → save_state restored (deed place event (Checked x) content ∷ ds) ≡ record (save_state restored ds) { run = run_checked (running (save_steps restored ds)) }
  pub check_fault : save_state restored (deed place event CheckFault content ∷ ds) ≡ finished_save restored (deed place event CheckFault content) ds
  pub modified : (s : Stat) → save_state restored (deed place event (Modified s) content ∷ ds) ≡ finished_save restored (deed place event (Modified s) content) ds
  pub write_fault : (n : ℕ) → save_state restored (deed place event (WriteFault n) content ∷ ds) ≡ finished_save restored (deed place event (WriteFault n) content) ds
  pub unguarded : (n : ℕ) → save_state restored (deed place event (Unguarded n) content ∷ ds) ≡ finished_save restored (deed place event (Unguarded n) content) ds
  pub saved : (n : ℕ) (x : Option Stat) → save_state restored (deed place event (Saved n x) content ∷ ds) ≡ finished_save restored (deed place event (Saved n x) content) ds
  -- any other outcome leaves the steps themselves, and with them every answer
  pub other : (outcome : Outcome) → is_save_outcome outcome ≡ false → save_steps restored (deed place event outcome content ∷ ds) ≡ save_steps restored ds

abbrev pub SavesChange : Type 0
SavesChange = (restored : Option Backup) (place c : ℕ) (force over : Bool) (event : Event) (content : List ℕ) (ds : List Deed) → SavesLaws restored place c force over event content ds

-- The ids on the trail, and the one of the clean state, are of versions that were made.
abbrev pub AreUpTo : ℕ → List ℕ → Type 0
AreUpTo last [] = Unit {0}
AreUpTo last (n ∷ ns) = (n ≤ last) × AreUpTo last ns

pub record IsWithinVersions (restored : Option Backup) (ds : List Deed) : Type 0 where
  pub back : AreUpTo (last_version restored ds) (trail restored ds).back
  pub ahead : AreUpTo (last_version restored ds) (trail restored ds).ahead
  pub mark : IfSome (mark restored ds) (λ n. n ≤ last_version restored ds)

abbrev pub TrailIsWithinVersions : Type 0
TrailIsWithinVersions = (restored : Option Backup) (ds : List Deed) → IsWithinVersions restored ds
