-- What an outcome asks follows from its row.
use Rattle.std.specs.Prelude.{ℕ, ◌≡◌, ◌⊎◌, ◌+◌, ◌==◌, ◌≤◌, nat_lt, not, Bool, true, false, ◌&&◌, List, length, Option, Some, None, is_some, if◌then◌else◌, refl}
use Rattle.std.proofs.Common.{arith, inl, inr, ⊎_elim}
use Rattle.std.proofs.lemmas.Bool.Decides.{nat_tests}
use Rattle.hx_events.specs.declared.backup.Backup.{Backup}
use Rattle.hx_events.specs.declared.event.Command.TheVariants.{Edit, Save, Close}
use Rattle.hx_events.specs.declared.event.Event.{Event}
use Rattle.hx_events.specs.declared.event.Event.TheVariants.{Act, Vault}
use Rattle.hx_events.specs.declared.event.Stage.TheVariants.{Prepare, Body, Open, Fade, Drop}
use Rattle.hx_events.specs.declared.outcome.Outcome.{Outcome}
use Rattle.hx_events.specs.declared.outcome.Outcome.TheVariants.{Opened, Edited, Started, Reverted, Closed, StageOk, Modified, CheckFault, WriteFault, Saved, Unguarded}
use Rattle.hx_rules.specs.declared.saves.Running.{Running}
use Rattle.hx_rules.specs.declared.saves.Asked.{Asked}
use Rattle.hx_rules.specs.Entries.{Deed}
use Rattle.hx_rules.specs.Saves.{asked_by}
use Rattle.hx_rules.specs.Backups.{Begun, blocks_of}
use Rattle.hx_rules.specs.Due.{VaultWork, vault_work, first_of, work_if, next_work, run_version}
use Rattle.hx_rules.specs.Legal.{edit_row, deletes_past, grows_past, close_row, is_work, save_row}
use Rattle.hx_rules_laws.specs.Rows.{and_left}
use Rattle.hx_copy.specs.Copies.{Copy}
use Rattle.hx_resource.specs.Kept.{Kept, dirty_now, content_in, held_by, is_safe_to}
use Rattle.hx_resource.specs.Rooms.{IsRead}
use Rattle.hx_resource.specs.Makes.{not_prepared, saves_can}
use Rattle.hx_resource.specs.Rows.{row_kept, vault_due_kept, is_backed}
use Rattle.hx_resource_laws.specs.Fits.{Fits}
use Rattle.hx_resource_laws.specs.CopyFits.{FitsContent, FitsEdit}
use Rattle.hx_resource_laws.specs.SlotFits.{KnowsVersion, FitsPrepare}
use Rattle.hx_resource_laws.specs.RunFits.{FitsOutcome, was_there}
use Rattle.hx_resource_laws.specs.StepFits.{Asks}

within : (size off del : ℕ) → not (deletes_past size off del) ≡ true → off + del ≤ size
within size off del h = grind (arith, nat_tests)

edit_asks : (is_open : Bool) (size off del add last n : ℕ) → edit_row is_open size off del add last (Edited n) ≡ true → off + del ≤ size
edit_asks false size off del add last n h = absurd cc
edit_asks true size off del add last n h = within size off del (and_left (not (deletes_past size off del)) (not (grows_past size del add)) (and_left (not (deletes_past size off del) && not (grows_past size del add)) (n == last + 1) h))

edits_ask : (guarded lacks spent : Bool) (s : Kept) (event : Event) (n : ℕ) → row_kept guarded lacks spent s event (Edited n) ≡ true → FitsEdit event (length (content_in s.copy))
edits_ask guarded lacks spent s (Act (Edit c off del text)) n h = edit_asks (is_some s.copy) (length (content_in s.copy)) off del (length text) s.last n h
edits_ask guarded lacks spent s (Act (Close c)) n h = absurd cc
edits_ask guarded lacks spent s (Act _) n h = absurd cc
edits_ask guarded lacks spent s _ n h = absurd cc

read_asks : (guarded lacks spent : Bool) (s : Kept) (event : Event) (outcome : Outcome) (content : List ℕ) → IsRead outcome content → row_kept guarded lacks spent s event outcome ≡ true → FitsContent event content outcome s.copy
read_asks guarded lacks spent s event (Opened x) content is row = is
read_asks guarded lacks spent s event (Reverted x) content is row = is
read_asks guarded lacks spent s event (Edited n) content is row = edits_ask guarded lacks spent s event n row
read_asks guarded lacks spent s event _ content is row = tt

no_run : (is_open : Bool) (run : Option Running) → close_row is_open (is_some run) Closed ≡ true → run ≡ None
no_run false run h = absurd cc
no_run true None h = refl
no_run true (Some x) h = absurd cc

closed_asks : (guarded lacks spent : Bool) (s : Kept) (event : Event) → row_kept guarded lacks spent s event Closed ≡ true → s.seq.run ≡ None
closed_asks guarded lacks spent s (Act (Close c)) h = no_run (is_some s.copy) s.seq.run h
closed_asks guarded lacks spent s (Act _) h = absurd cc
closed_asks guarded lacks spent s _ h = absurd cc

started_open : (is_open : Bool) (asked : Asked) (last v : ℕ) → save_row is_open asked last (Started v) ≡ true → is_open ≡ true
started_open true asked last v h = refl
started_open false asked last v h = absurd cc

started_asks : (guarded lacks spent : Bool) (s : Kept) (event : Event) (v : ℕ) → row_kept guarded lacks spent s event (Started v) ≡ true → is_some s.copy ≡ true
started_asks guarded lacks spent s (Act (Save c force over)) v h = started_open (is_some s.copy) (asked_by s.seq.run s.last (dirty_now s.copy) force) s.last v h
started_asks guarded lacks spent s (Act _) v h = absurd cc
started_asks guarded lacks spent s _ v h = absurd cc

saves_ask : (guarded lacks spent : Bool) (s : Kept) (event : Event) (outcome : Outcome) → row_kept guarded lacks spent s event outcome ≡ true → FitsOutcome outcome s
saves_ask guarded lacks spent s event Closed h = closed_asks guarded lacks spent s event h
saves_ask guarded lacks spent s event (Started v) h = started_asks guarded lacks spent s event v h
saves_ask guarded lacks spent s event CheckFault h = saves_can guarded lacks spent s event CheckFault h
saves_ask guarded lacks spent s event (Modified x) h = saves_can guarded lacks spent s event (Modified x) h
saves_ask guarded lacks spent s event (WriteFault v) h = saves_can guarded lacks spent s event (WriteFault v) h
saves_ask guarded lacks spent s event (Unguarded v) h = saves_can guarded lacks spent s event (Unguarded v) h
saves_ask guarded lacks spent s event (Saved v x) h = saves_can guarded lacks spent s event (Saved v x) h
saves_ask guarded lacks spent s event _ h = tt

same_number : (n c : ℕ) → (n == c) ≡ true → c ≡ n
same_number n c h = grind (arith, nat_tests)

prepare_asks : (halt : Bool) (b : Option VaultWork) (v : ℕ) (not_prepare : is_work b Prepare v ≡ false) (p q r f : Bool) (run last : ℕ)
    → is_work (if halt then None else first_of b (first_of (work_if p (vault_work Prepare run)) (first_of (work_if q (vault_work Prepare last)) (work_if r (vault_work (if f then Drop else Fade) 0))))) Prepare v ≡ true
    → ((p ≡ true) × (v ≡ run)) ⊎ ((q ≡ true) × (v ≡ last))
prepare_asks true b v other p q r f run last h = absurd cc
prepare_asks false (Some w) v other p q r f run last h = absurd cc
prepare_asks false None v other true q r f run last h = inl (refl, same_number run v h)
prepare_asks false None v other false true r f run last h = inr (refl, same_number last v h)
prepare_asks false None v other false false true true run last h = absurd cc
prepare_asks false None v other false false true false run last h = absurd cc
prepare_asks false None v other false false false f run last h = absurd cc

begun_is_other : (b : Option Begun) (v : ℕ) → is_work (next_work b) Prepare v ≡ false
begun_is_other None v = refl
begun_is_other (Some b) v = step (nat_lt b.blocks (blocks_of b.size))
  where
    step : (x : Bool) → is_work (Some (vault_work (if x then Body else Open) b.snapshot.version)) Prepare v ≡ false
    step true = refl
    step false = refl

dirty_there : (copy : Option Copy) → dirty_now copy ≡ true → is_some copy ≡ true
dirty_there None h = absurd cc
dirty_there (Some c) h = refl

held_runs : (guarded : Bool) (run : Option Running) → held_by guarded run ≡ true → is_some run ≡ true
held_runs true run h = h
held_runs false run h = absurd cc

prepare_knows : (r : Option Backup) (guarded : Bool) (ds : List Deed) (s : Kept) (v : ℕ) → Fits r guarded ds s → is_work (vault_due_kept guarded s) Prepare v ≡ true → KnowsVersion v s
prepare_knows r guarded ds s v fits h =
    ⊎_elim
    (λ a. let run = held_runs guarded s.seq.run (and_left (held_by guarded s.seq.run) _ a.0) in
    record { there = was_there r ds s.seq.run s.copy s.saving run fits.run; which = inr (run, a.1) })
    (λ a. record { there = dirty_there s.copy (and_left (dirty_now s.copy) _ a.0); which = inl a.1 })
    (prepare_asks s.halted (next_work s.begun) v (begun_is_other s.begun v) (held_by guarded s.seq.run && not (is_safe_to (run_version s.seq.run) s.safe)) (dirty_now s.copy && not (is_backed s.last s.done)) _ s.faded (run_version s.seq.run) s.last h)

prepares_ask : (r : Option Backup) (guarded lacks spent : Bool) (ds : List Deed) (s : Kept) (event : Event) (outcome : Outcome) → Fits r guarded ds s → row_kept guarded lacks spent s event outcome ≡ true → FitsPrepare outcome s
prepares_ask r guarded lacks spent ds s (Vault c) (StageOk Prepare v) fits h = prepare_knows r guarded ds s v fits (and_left (is_work (vault_due_kept guarded s) Prepare v) _ h)
prepares_ask r guarded lacks spent ds s (Act command) (StageOk Prepare v) _ h = absurd (not_prepared guarded lacks spent s command v h)
prepares_ask r guarded lacks spent ds s _ (StageOk Prepare v) _ h = absurd cc
prepares_ask r guarded lacks spent ds s event _ fits h = tt

pub row_asks : (r : Option Backup) (guarded lacks spent : Bool) (ds : List Deed) (s : Kept) (event : Event) (outcome : Outcome) (content : List ℕ) → Fits r guarded ds s → IsRead outcome content → row_kept guarded lacks spent s event outcome ≡ true → Asks event outcome content s
row_asks r guarded lacks spent ds s event outcome content fits is row = record {
  read = read_asks guarded lacks spent s event outcome content is row;
  saves = saves_ask guarded lacks spent s event outcome row;
  prepares = prepares_ask r guarded lacks spent ds s event outcome fits row;
}
