-- What is kept of a resource fits its deeds after each outcome.
use Rattle.std.specs.Prelude.{ℕ, ◌≡◌, ◌+◌, ◌||◌, Bool, List, ◌∷◌, Option, None, is_some, IfSome, if◌then◌else◌}
use Rattle.std.proofs.Common.{ap, sym, ◌∙◌, subst}
use Rattle.hx_events.specs.declared.backup.Backup.{Backup}
use Rattle.hx_events.specs.declared.event.Event.{Event}
use Rattle.hx_events.specs.declared.outcome.Outcome.{Outcome}
use Rattle.hx_rules.specs.Entries.{Deed, deed}
use Rattle.hx_rules.specs.Versions.{last_version, adds_version}
use Rattle.hx_rules.specs.Copies.{registered_after, dirty}
use Rattle.hx_rules.specs.Saves.{save_steps, steps_after}
use Rattle.hx_rules.specs.Backups.{begun_after, done, wanted, safe_after, halted_after, opened_after, faded_after, write_failed_after}
use Rattle.hx_seq.specs.Keeps.{Keeps, stand_in}
use Rattle.hx_resource.specs.Kept.{Kept, copy_after, dirty_now, held_by, begins, done_version_after, kept_after, new_copy_of, new_seq_of}
use Rattle.hx_resource_laws.specs.Fits.{FitsCopy, Fits}
use Rattle.hx_resource_laws.specs.CopyFits.{FitsContent, copy_fits, copy_there, dirty_is}
use Rattle.hx_resource_laws.specs.SlotFits.{steps_keep, FitsPrepare, begun_same, done_same, safe_same}
use Rattle.hx_resource_laws.specs.RunFits.{FitsOutcome, run_fits}

-- what an outcome asks
pub record Asks (event : Event) (outcome : Outcome) (content : List ℕ) (s : Kept) : Type 0 where
  pub read : FitsContent event content outcome s.copy
  pub saves : FitsOutcome outcome s
  pub prepares : FitsPrepare outcome s

pub fits_after : (r : Option Backup) (guarded : Bool) (ds : List Deed) (place : ℕ) (event : Event) (outcome : Outcome) (content : List ℕ) (s : Kept)
    → Asks event outcome content s → stand_in place s.seq.tickets ≡ None → Fits r guarded ds s
    → Fits r guarded (deed place event outcome content ∷ ds) (kept_after guarded place event outcome content s)
fits_after r guarded ds place event outcome content s asks new fits =
    let next = deed place event outcome content ∷ ds in
    let there : is_some (new_copy_of event outcome content s) ≡ registered_after outcome _ = copy_there outcome event content (s.last + 1) s.copy ∙ ap (registered_after outcome) fits.there in
    let copy : IfSome (new_copy_of event outcome content s) (FitsCopy r next) =
    subst (λ (n : ℕ). IfSome (copy_after outcome event content (n + 1) s.copy) (FitsCopy r next)) (sym fits.last) (copy_fits r ds place event content outcome s.copy asks.read fits.copy) in
    let is_dirty : dirty_now (new_copy_of event outcome content s) ≡ dirty r next = dirty_is r next (new_copy_of event outcome content s) there copy in
    let seq : Keeps (save_steps r next) (new_seq_of place event outcome content s) =
    subst (λ (b : Bool). Keeps (steps_after outcome event place (last_version r ds) (dirty r ds) b (save_steps r ds)) (new_seq_of place event outcome content s)) is_dirty
    (subst (λ (n : ℕ). Keeps (steps_after outcome event place n (dirty r ds) (dirty_now (new_copy_of event outcome content s)) (save_steps r ds)) (new_seq_of place event outcome content s)) fits.last
    (steps_keep outcome event place s.last (dirty r ds) (dirty_now (new_copy_of event outcome content s)) (save_steps r ds) s.seq fits.seq new)) in
    record {
      last = ap (λ n. if adds_version outcome then n + 1 else n) fits.last;
      there = there;
      copy = copy;
      seq = seq;
      run = run_fits r guarded ds place event content s outcome asks.saves fits copy;
      begun =
          ap (λ b. begun_after outcome (b || held_by guarded (new_seq_of place event outcome content s).run) (λ v. begins v s) s.begun) is_dirty
          ∙ (ap (λ x. begun_after outcome (dirty r next || held_by guarded x) (λ v. begins v s) s.begun) seq.run
          ∙ begun_same r guarded ds outcome s (wanted r guarded next) asks.prepares fits);
      done = ap (done_version_after outcome) fits.done ∙ done_same r ds outcome (done r ds);
      safe = λ v. safe_same v outcome s.safe ∙ ap (safe_after v outcome) (fits.safe v);
      halted = ap (halted_after outcome) fits.halted;
      opened = ap (opened_after outcome) fits.opened;
      faded = ap (faded_after outcome) fits.faded;
      write_failed = ap (write_failed_after outcome) fits.write_failed;
    }
