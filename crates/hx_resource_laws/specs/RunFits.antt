-- The running save and its content fit the longer deeds.
use Rattle.std.specs.Prelude.{ℕ, ◌≡◌, ◌+◌, ◌||◌, Bool, true, false, List, ◌∷◌, Option, Some, None, is_some, option_map, IfSome, if◌then◌else◌, refl}
use Rattle.std.proofs.Common.{arith, ap, sym, ◌∙◌, subst, cond}
use Rattle.hx_events.specs.declared.backup.Backup.{Backup}
use Rattle.hx_events.specs.declared.event.Command.TheVariants.{Save}
use Rattle.hx_events.specs.declared.event.Event.{Event}
use Rattle.hx_events.specs.declared.event.Event.TheVariants.{Act}
use Rattle.hx_events.specs.declared.outcome.Outcome.{Outcome}
use Rattle.hx_events.specs.declared.outcome.Outcome.TheVariants.{Opened, Created, Edited, Undone, Redone, Joined, Clean, Queued, Started, Reverted, Closed, Checked, Modified, CheckFault, Saved, WriteFault, Unguarded}
use Rattle.hx_rules.specs.declared.saves.Asked.TheVariants.{Joined as SaidJoined, Clean as SaidClean, Queued as SaidQueued}
use Rattle.hx_rules.specs.declared.saves.Running.{Running}
use Rattle.hx_rules.specs.declared.saves.QueuedSave.{QueuedSave}
use Rattle.hx_rules.specs.Entries.{Deed, deed}
use Rattle.hx_rules.specs.Versions.{Version, version_at, last_version, versions}
use Rattle.hx_rules.specs.Saves.{starts, run_finished, run_checked}
use Rattle.hx_rules_laws.specs.TrailLaws.{last_version_counts}
use Rattle.hx_seq.specs.Keeps.{Seq}
use Rattle.hx_copy.specs.Copies.{Place}
use Rattle.hx_copy.specs.Copies.{Copy, saved_copy}
use Rattle.hx_resource.specs.Kept.{Kept, asks_seq, starts_run, dirty_now, content_in, new_copy_of, new_seq_of}
use Rattle.hx_resource_laws.specs.Fits.{IsVersion, FitsCopy, Fits}
use Rattle.hx_resource_laws.specs.CopyFits.{old_version}
use Rattle.hx_resource_laws.specs.SlotFits.{newest_is}

abbrev pub saved_place : Running → List ℕ → Place
saved_place run content = record { id = run.version; content = content }

-- the running save is of one of these versions, and this is its content
abbrev pub FitsRun : Option Backup → List Deed → Option Running → Option Copy → List ℕ → Type 0
FitsRun r ds run copy saving = IfSome run (λ x. (is_some copy ≡ true) × IsVersion (last_version r ds) (versions r ds) (saved_place x saving))

-- what an outcome asks of the running save
abbrev pub FitsOutcome : Outcome → Kept → Type 0
FitsOutcome Closed s = s.seq.run ≡ None
FitsOutcome (Started v) s = is_some s.copy ≡ true
FitsOutcome CheckFault s = is_some s.seq.run ≡ true
FitsOutcome (Modified x) s = is_some s.seq.run ≡ true
FitsOutcome (WriteFault v) s = is_some s.seq.run ≡ true
FitsOutcome (Unguarded v) s = is_some s.seq.run ≡ true
FitsOutcome (Saved v x) s = is_some s.seq.run ≡ true
FitsOutcome _ s = Unit {0}

mapped : (f : Copy → Copy) (c : Option Copy) → is_some c ≡ true → is_some (option_map f c) ≡ true
mapped f None h = h
mapped f (Some c) h = refl

run_map : (r : Option Backup) (ds es : List Deed) (run : Option Running) (c d : Option Copy) (saving : List ℕ)
    → (is_some c ≡ true → is_some d ≡ true)
    → ((p : Place) → IsVersion (last_version r ds) (versions r ds) p → IsVersion (last_version r es) (versions r es) p)
    → FitsRun r ds run c saving → FitsRun r es run d saving
run_map r ds es None c d saving there keep fits = tt
run_map r ds es (Some run) c d saving there keep fits = (there fits.0, keep (saved_place run saving) fits.1)

asks_run : (event : Event) (place last : ℕ) (s : Seq) → (asks_seq event place last SaidJoined s).run ≡ s.run
asks_run (Act (Save c force over)) place last s = refl
asks_run (Act _) place last s = refl
asks_run _ place last s = refl

asks_clean : (event : Event) (place last : ℕ) (s : Seq) → (asks_seq event place last SaidClean s).run ≡ s.run
asks_clean (Act (Save c force over)) place last s = refl
asks_clean (Act _) place last s = refl
asks_clean _ place last s = refl

asks_queued : (event : Event) (place last : ℕ) (s : Seq) → (asks_seq event place last SaidQueued s).run ≡ s.run
asks_queued (Act (Save c force over)) place last s = refl
asks_queued (Act _) place last s = refl
asks_queued _ place last s = refl

-- a save that a finish starts is of the last version, with the copy's content
finish_run : (r : Option Backup) (ds : List Deed) (queue : Option QueuedSave) (is_dirty : Bool) (copy : Option Copy) (saving : List ℕ) (last : ℕ) → last ≡ last_version r ds → is_some copy ≡ true → IfSome copy (FitsCopy r ds)
    → FitsRun r ds (run_finished queue is_dirty last) copy (if starts queue is_dirty then content_in copy else saving)
finish_run r ds None is_dirty copy saving last is there fits = tt
finish_run r ds (Some q) is_dirty copy saving last is there fits = step (is_dirty || q.force)
  where
    step : (b : Bool) → FitsRun r ds (cond b (Some record { version = last; over = q.over; checked = false }) None) copy (cond b (content_in copy) saving)
    step true = (there, record { id = omega (arith, is); content = ap (λ n. version_at n (versions r ds)) is ∙ newest_is r ds copy there fits })
    step false = tt

pub was_there : (r : Option Backup) (ds : List Deed) (run : Option Running) (copy : Option Copy) (saving : List ℕ) → is_some run ≡ true → FitsRun r ds run copy saving → is_some copy ≡ true
was_there r ds None copy saving h fits = absurd cc
was_there r ds (Some run) copy saving h fits = fits.0

no_run : (r : Option Backup) (ds : List Deed) (run : Option Running) (copy : Option Copy) (saving : List ℕ) → run ≡ None → FitsRun r ds run copy saving
no_run r ds None copy saving h = tt
no_run r ds (Some run) copy saving h = absurd cc

checked_run : (r : Option Backup) (ds : List Deed) (run : Option Running) (copy : Option Copy) (saving : List ℕ) → FitsRun r ds run copy saving → FitsRun r ds (run_checked run) copy saving
checked_run r ds None copy saving fits = tt
checked_run r ds (Some run) copy saving fits = fits

module _ (r : Option Backup) (guarded : Bool) (ds : List Deed) (place : ℕ) (event : Event) (content : List ℕ) (s : Kept) where
  abbrev next : Outcome → List Deed
  next outcome = deed place event outcome content ∷ ds

  abbrev pub RunFits : Outcome → Type 0
  RunFits outcome =
      FitsRun r (next outcome) (new_seq_of place event outcome content s).run (new_copy_of event outcome content s)
      (if starts_run outcome event (starts s.seq.queue (dirty_now (new_copy_of event outcome content s))) then content_in (new_copy_of event outcome content s) else s.saving)

  grown : (v : Version) (p : Place) → IsVersion (last_version r ds) (versions r ds) p → IsVersion (last_version r ds + 1) (v ∷ versions r ds) p
  grown v p old = old_version (last_version r ds) v (versions r ds) p (last_version_counts r ds) old

  started : (event : Event) → is_some s.copy ≡ true → s.last ≡ last_version r ds → IfSome s.copy (FitsCopy r ds) → FitsRun r ds s.seq.run s.copy s.saving → (v : ℕ)
      → FitsRun r (deed place event (Started v) content ∷ ds) (new_seq_of place event (Started v) content s).run s.copy (if starts_run (Started v) event (starts s.seq.queue (dirty_now s.copy)) then content_in s.copy else s.saving)
  started (Act (Save c force over)) there last copy run v = (there, record { id = omega (arith, last); content = ap (λ n. version_at n (versions r ds)) last ∙ newest_is r ds s.copy there copy })
  started (Act _) there last copy run v = run
  started _ there last copy run v = run

  pub run_fits : (outcome : Outcome) → FitsOutcome outcome s → Fits r guarded ds s → IfSome (new_copy_of event outcome content s) (FitsCopy r (next outcome)) → RunFits outcome
  run_fits (Opened x) asks fits copy = run_map r ds (next (Opened x)) s.seq.run s.copy (new_copy_of event (Opened x) content s) s.saving (λ h. refl) (grown _) fits.run
  run_fits (Created n) asks fits copy = run_map r ds (next (Created n)) s.seq.run s.copy (new_copy_of event (Created n) content s) s.saving (λ h. refl) (grown _) fits.run
  run_fits (Edited n) asks fits copy = run_map r ds (next (Edited n)) s.seq.run s.copy (new_copy_of event (Edited n) content s) s.saving (mapped _ s.copy) (grown _) fits.run
  run_fits (Undone n) asks fits copy = run_map r ds (next (Undone n)) s.seq.run s.copy (new_copy_of event (Undone n) content s) s.saving (mapped _ s.copy) (grown _) fits.run
  run_fits (Redone n) asks fits copy = run_map r ds (next (Redone n)) s.seq.run s.copy (new_copy_of event (Redone n) content s) s.saving (mapped _ s.copy) (grown _) fits.run
  run_fits (Reverted x) asks fits copy = run_map r ds (next (Reverted x)) s.seq.run s.copy (new_copy_of event (Reverted x) content s) s.saving (mapped _ s.copy) (grown _) fits.run
  run_fits Closed asks fits copy = no_run r (next Closed) s.seq.run None s.saving asks
  run_fits Joined asks fits copy = subst (λ run. FitsRun r ds run s.copy s.saving) (sym (asks_run event place s.last s.seq)) fits.run
  run_fits Clean asks fits copy = subst (λ run. FitsRun r ds run s.copy s.saving) (sym (asks_clean event place s.last s.seq)) fits.run
  run_fits Queued asks fits copy = subst (λ run. FitsRun r ds run s.copy s.saving) (sym (asks_queued event place s.last s.seq)) fits.run
  run_fits (Started v) asks fits copy = started event asks fits.last fits.copy fits.run v
  run_fits (Checked x) asks fits copy = checked_run r ds s.seq.run s.copy s.saving fits.run
  run_fits CheckFault asks fits copy = finish_run r (next CheckFault) s.seq.queue _ s.copy s.saving s.last fits.last (was_there r ds s.seq.run s.copy s.saving asks fits.run) copy
  run_fits (Modified x) asks fits copy = finish_run r (next (Modified x)) s.seq.queue _ s.copy s.saving s.last fits.last (was_there r ds s.seq.run s.copy s.saving asks fits.run) copy
  run_fits (WriteFault v) asks fits copy = finish_run r (next (WriteFault v)) s.seq.queue _ s.copy s.saving s.last fits.last (was_there r ds s.seq.run s.copy s.saving asks fits.run) copy
  run_fits (Unguarded v) asks fits copy = finish_run r (next (Unguarded v)) s.seq.queue _ s.copy s.saving s.last fits.last (was_there r ds s.seq.run s.copy s.saving asks fits.run) copy
  run_fits (Saved v x) asks fits copy = finish_run r (next (Saved v x)) s.seq.queue _ (option_map (saved_copy v x) s.copy) s.saving s.last fits.last (mapped _ s.copy (was_there r ds s.seq.run s.copy s.saving asks fits.run)) copy
  run_fits _ asks fits copy = fits.run
