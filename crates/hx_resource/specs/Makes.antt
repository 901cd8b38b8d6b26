-- The change by an outcome that the event may have can be made.
use Rattle.std.specs.Prelude.{ℕ, ◌≡◌, ◌+◌, ◌-◌, ◌^◌, ◌==◌, ◌<◌, ◌≤◌, not, Bool, true, false, ◌&&◌, List, length, if◌then◌else◌, Option, Some, None, is_some, is_none, option_map, Result, Ok, Err, IfSome, refl}
use Rattle.std.proofs.Common.{arith, ap, ◌∙◌, subst}
use Rattle.std.proofs.lemmas.Bool.Decides.{nat_tests}
use Rattle.hx_etag.specs.declared.stat.Stat.{Stat}
use Rattle.hx_events.specs.declared.event.Command.{Command}
use Rattle.hx_events.specs.declared.event.Command.TheVariants.{Open, Edit, Undo, Redo, Save, Revert, Close}
use Rattle.hx_events.specs.declared.event.Event.{Event}
use Rattle.hx_events.specs.declared.event.Event.TheVariants.{Act, Vault, Flush}
use Rattle.hx_events.specs.declared.event.Stage.TheVariants.{Prepare}
use Rattle.hx_events.specs.declared.outcome.Outcome.{Outcome}
use Rattle.hx_events.specs.declared.outcome.Outcome.TheVariants.{Opened, Edited, Undone, Redone, Joined, Queued, Started, Reverted, StageOk, CheckFault, Modified, WriteFault, Unguarded, Saved}
use Rattle.hx_rules.specs.declared.saves.Running.{Running}
use Rattle.hx_rules.specs.declared.saves.QueuedSave.{QueuedSave}
use Rattle.hx_rules.specs.declared.saves.Asked.TheVariants.{Joined as SaidJoined, Clean as SaidClean, Queued as SaidQueued, Started as SaidStarted}
use Rattle.hx_rules.specs.Saves.{asked_by, starts}
use Rattle.hx_rules.specs.Due.{VaultWork, save_work}
use Rattle.hx_rules.specs.Legal.{edit_row, undo_row, redo_row, deletes_past, grows_past, is_work, is_check, is_write, is_refusal, is_joined, is_queued, is_started, same_stage}
use Rattle.hx_copy.specs.declared.errors.EditError.{EditError}
use Rattle.hx_copy.specs.declared.errors.EditError.TheVariants.{OutOfContent, TooLarge}
use Rattle.hx_copy.specs.Copies.{Copy, CopyState, has_places}
use Rattle.hx_resource.specs.Kept.{Kept, ResourceState, dirty_now, content_in, content_at, starts_run}
use Rattle.hx_resource.specs.Rows.{row_kept, undo_in, redo_in, vault_due_kept}
use Rattle.hx_resource.specs.Rooms.{CanCount, CopyRoom, HasRoom, snapshot_size, copied_by, CanChange, CanSave, ReadRoom, SnapshotRoom, CanApply}

and_left : (a b : Bool) → (a && b) ≡ true → a ≡ true
and_left true b h = refl
and_left false b h = h

and_right : (a b : Bool) → (a && b) ≡ true → b ≡ true
and_right true b h = h
and_right false b h = absurd cc

-- ---- the copy
abbrev answer_by : Bool → Bool → Result (Unit {0}) EditError
answer_by d g = if d then Err OutOfContent else if g then Err TooLarge else Ok tt

edit_made : (d g x : Bool) → (not d && not g && x) ≡ true → answer_by d g ≡ answer_by false false
edit_made true g x h = absurd cc
edit_made false true x h = absurd cc
edit_made false false x h = refl

edits : (copy : Option CopyState) (off del : ℕ) (text : List ℕ) (c last n : ℕ) → edit_row (is_some (option_map (λ (s : CopyState). s.copy) copy)) (length (content_in (option_map (λ (s : CopyState). s.copy) copy))) off del (length text) last (Edited n) ≡ true
    → IfSome copy (CopyRoom (Act (Edit c off del text))) → IfSome copy (CanChange (Act (Edit c off del text)) (Edited n))
edits None off del text c last n h room = tt
edits (Some s) off del text c last n h room = (edit_made (deletes_past (length s.copy.here.content) off del) (grows_past (length s.copy.here.content) del (length text)) (n == last + 1) h, room)

undoes : (copy : Option CopyState) (c last n : ℕ) → undo_row (is_some (option_map (λ (s : CopyState). s.copy) copy)) (undo_in (option_map (λ (s : CopyState). s.copy) copy)) last (Undone n) ≡ true → IfSome copy (CopyRoom (Act (Undo c))) → IfSome copy (CanChange (Act (Undo c)) (Undone n))
undoes None c last n h room = tt
undoes (Some s) c last n h room = (and_left (has_places s.copy.back) (n == last + 1) h, room)

redoes : (copy : Option CopyState) (c last n : ℕ) → redo_row (is_some (option_map (λ (s : CopyState). s.copy) copy)) (redo_in (option_map (λ (s : CopyState). s.copy) copy)) last (Redone n) ≡ true → IfSome copy (CopyRoom (Act (Redo c))) → IfSome copy (CanChange (Act (Redo c)) (Redone n))
redoes None c last n h room = tt
redoes (Some s) c last n h room = (and_left (has_places s.copy.ahead) (n == last + 1) h, room)

no_change : (copy : Option CopyState) → IfSome copy (λ c. Unit {0})
no_change None = tt
no_change (Some c) = tt

module _ (guarded lacks spent : Bool) (s : ResourceState) (tied : s.kept.copy ≡ option_map (λ (c : CopyState). c.copy) s.copy) where
  edited : (event : Event) (n : ℕ) → row_kept guarded lacks spent s.kept event (Edited n) ≡ true → IfSome s.copy (CopyRoom event) → IfSome s.copy (CanChange event (Edited n))
  edited (Act (Edit c off del text)) n h room =
      edits s.copy off del text c s.kept.last n (subst (λ (x : Option Copy). edit_row (is_some x) (length (content_in x)) off del (length text) s.kept.last (Edited n) ≡ true) tied h) room
  edited (Act _) n h _ = absurd cc
  edited _ n h _ = absurd cc

  undone : (event : Event) (n : ℕ) → row_kept guarded lacks spent s.kept event (Undone n) ≡ true → IfSome s.copy (CopyRoom event) → IfSome s.copy (CanChange event (Undone n))
  undone (Act (Undo c)) n h room = undoes s.copy c s.kept.last n (subst (λ (x : Option Copy). undo_row (is_some x) (undo_in x) s.kept.last (Undone n) ≡ true) tied h) room
  undone (Act _) n h _ = absurd cc
  undone _ n h _ = absurd cc

  redone : (event : Event) (n : ℕ) → row_kept guarded lacks spent s.kept event (Redone n) ≡ true → IfSome s.copy (CopyRoom event) → IfSome s.copy (CanChange event (Redone n))
  redone (Act (Redo c)) n h room = redoes s.copy c s.kept.last n (subst (λ (x : Option Copy). redo_row (is_some x) (redo_in x) s.kept.last (Redone n) ≡ true) tied h) room
  redone (Act _) n h _ = absurd cc
  redone _ n h _ = absurd cc

  changes : (event : Event) (outcome : Outcome) → row_kept guarded lacks spent s.kept event outcome ≡ true → IfSome s.copy (CopyRoom event) → IfSome s.copy (CanChange event outcome)
  changes event (Edited n) h room = edited event n h room
  changes event (Undone n) h room = undone event n h room
  changes event (Redone n) h room = redone event n h room
  changes event _ h _ = no_change s.copy

-- ---- the saves
joins : (run : Option Running) (last : ℕ) (is_dirty force : Bool) → is_joined (asked_by run last is_dirty force) ≡ true → is_some run ≡ true
joins None last is_dirty force h = absurd (step (not is_dirty && not force) h)
  where
    step : (x : Bool) → is_joined (if x then SaidClean else SaidStarted) ≡ true → ⊥
    step true h = absurd cc
    step false h = absurd cc
joins (Some run) last is_dirty force h = refl

queues : (run : Option Running) (last : ℕ) (is_dirty force : Bool) → is_queued (asked_by run last is_dirty force) ≡ true → is_some run ≡ true
queues None last is_dirty force h = absurd (step (not is_dirty && not force) h)
  where
    step : (x : Bool) → is_queued (if x then SaidClean else SaidStarted) ≡ true → ⊥
    step true h = absurd cc
    step false h = absurd cc
queues (Some run) last is_dirty force h = refl

starts_none : (run : Option Running) (last : ℕ) (is_dirty force : Bool) → is_started (asked_by run last is_dirty force) ≡ true → is_none run ≡ true
starts_none None last is_dirty force h = refl
starts_none (Some run) last is_dirty force h = step (run.version == last) (not is_dirty && not force) h
  where
    step : (a b : Bool) → is_started (if a then SaidJoined else if b then SaidClean else SaidQueued) ≡ true → is_none (Some run) ≡ true
    step true b h = absurd cc
    step false true h = absurd cc
    step false false h = absurd cc

check_runs : (guarded is_safe is_halted : Bool) (run : Option Running) → is_check (save_work guarded is_safe is_halted run) ≡ true → is_some run ≡ true
check_runs guarded is_safe is_halted None h = absurd cc
check_runs guarded is_safe is_halted (Some x) h = refl

write_runs : (guarded is_safe is_halted : Bool) (run : Option Running) (n : ℕ) → is_write (save_work guarded is_safe is_halted run) n ≡ true → is_some run ≡ true
write_runs guarded is_safe is_halted None n h = absurd cc
write_runs guarded is_safe is_halted (Some x) n h = refl

refusal_runs : (guarded is_safe is_halted : Bool) (run : Option Running) (n : ℕ) → is_refusal (save_work guarded is_safe is_halted run) n ≡ true → is_some run ≡ true
refusal_runs guarded is_safe is_halted None n h = absurd cc
refusal_runs guarded is_safe is_halted (Some x) n h = refl

-- an outcome of a save stage or of a vault stage comes of no command
module _ (guarded lacks spent : Bool) (s : Kept) where
  not_check_fault : (command : Command) → row_kept guarded lacks spent s (Act command) CheckFault ≡ true → ⊥
  not_check_fault (Close c) h = absurd cc
  not_check_fault _ h = absurd cc

  not_modified : (command : Command) (x : Stat) → row_kept guarded lacks spent s (Act command) (Modified x) ≡ true → ⊥
  not_modified (Close c) x h = absurd cc
  not_modified _ x h = absurd cc

  not_write_fault : (command : Command) (v : ℕ) → row_kept guarded lacks spent s (Act command) (WriteFault v) ≡ true → ⊥
  not_write_fault (Close c) v h = absurd cc
  not_write_fault _ v h = absurd cc

  not_unguarded : (command : Command) (v : ℕ) → row_kept guarded lacks spent s (Act command) (Unguarded v) ≡ true → ⊥
  not_unguarded (Close c) v h = absurd cc
  not_unguarded _ v h = absurd cc

  not_saved : (command : Command) (v : ℕ) (x : Option Stat) → row_kept guarded lacks spent s (Act command) (Saved v x) ≡ true → ⊥
  not_saved (Close c) v x h = absurd cc
  not_saved _ v x h = absurd cc

  pub not_prepared : (command : Command) (v : ℕ) → row_kept guarded lacks spent s (Act command) (StageOk Prepare v) ≡ true → ⊥
  not_prepared (Close c) v h = absurd cc
  not_prepared _ v h = absurd cc

  joined : (event : Event) → row_kept guarded lacks spent s event Joined ≡ true → is_some s.seq.run ≡ true
  joined (Act (Save c force over)) h = joins s.seq.run s.last (dirty_now s.copy) force (and_right (is_some s.copy) _ h)
  joined (Act (Close c)) h = absurd cc
  joined (Act _) h = absurd cc
  joined _ h = absurd cc

  waits : (event : Event) → row_kept guarded lacks spent s event Queued ≡ true → is_some s.seq.run ≡ true
  waits (Act (Save c force over)) h = queues s.seq.run s.last (dirty_now s.copy) force (and_right (is_some s.copy) _ h)
  waits (Act (Close c)) h = absurd cc
  waits (Act _) h = absurd cc
  waits _ h = absurd cc

  pub started : (event : Event) (v : ℕ) → row_kept guarded lacks spent s event (Started v) ≡ true → is_none s.seq.run ≡ true
  started (Act (Save c force over)) v h = starts_none s.seq.run s.last (dirty_now s.copy) force (and_right (is_some s.copy) _ (and_left _ (v == s.last) h))
  started (Act (Close c)) v h = absurd cc
  started (Act _) v h = absurd cc
  started _ v h = absurd cc

  -- what is asked of the saves follows from the row
  pub saves_can : (event : Event) (outcome : Outcome) → row_kept guarded lacks spent s event outcome ≡ true → CanSave outcome s.seq.run
  saves_can event Joined h = joined event h
  saves_can event Queued h = waits event h
  saves_can event (Started v) h = started event v h
  saves_can (Flush c) CheckFault h = check_runs guarded _ s.halted s.seq.run h
  saves_can (Act command) CheckFault h = absurd (not_check_fault command h)
  saves_can _ CheckFault h = absurd cc
  saves_can (Flush c) (Modified x) h = check_runs guarded _ s.halted s.seq.run (and_left _ _ h)
  saves_can (Act command) (Modified x) h = absurd (not_modified command x h)
  saves_can _ (Modified x) h = absurd cc
  saves_can (Flush c) (WriteFault v) h = write_runs guarded _ s.halted s.seq.run v h
  saves_can (Act command) (WriteFault v) h = absurd (not_write_fault command v h)
  saves_can _ (WriteFault v) h = absurd cc
  saves_can (Flush c) (Unguarded v) h = refusal_runs guarded _ s.halted s.seq.run v h
  saves_can (Act command) (Unguarded v) h = absurd (not_unguarded command v h)
  saves_can _ (Unguarded v) h = absurd cc
  saves_can (Flush c) (Saved v x) h = write_runs guarded _ s.halted s.seq.run v h
  saves_can (Act command) (Saved v x) h = absurd (not_saved command v x h)
  saves_can _ (Saved v x) h = absurd cc
  saves_can event _ h = tt

-- ---- the bytes that are copied
due_snapshot : (due : Option VaultWork) (v : ℕ) (s : Kept) → is_work due Prepare v ≡ true → snapshot_size due s ≡ length (content_at v s)
due_snapshot None v s h = absurd cc
due_snapshot (Some w) v s h =
    ap (λ b. if b then length (content_at w.version s) else 0) (and_left (same_stage w.stage Prepare) (w.version == v) h)
    ∙ ap (λ n. length (content_at n s)) (number w.version v (and_right (same_stage w.stage Prepare) (w.version == v) h))
  where
    number : (n m : ℕ) → (n == m) ≡ true → n ≡ m
    number n m h = grind (arith, nat_tests)

queued_starts : (queue : Option QueuedSave) (is_dirty : Bool) (n : ℕ) → starts queue is_dirty ≡ true → (if starts queue true then n else 0) ≡ n
queued_starts None is_dirty n h = absurd cc
queued_starts (Some q) is_dirty n h = refl

none_runs : (run : Option Running) (n : ℕ) → is_none run ≡ true → (if is_some run then 0 else n) ≡ n
none_runs None n h = refl
none_runs (Some r) n h = absurd cc

module _ (guarded lacks spent : Bool) (s : Kept) (room : ℕ) where
  opened_room : (event : Event) (x : Stat) (content : List ℕ) → row_kept guarded lacks spent s event (Opened x) ≡ true → copied_by guarded event (length content) s ≤ room → length content ≤ room
  opened_room (Act (Open c)) x content h le = le
  opened_room (Act (Close c)) x content h le = absurd cc
  opened_room (Act _) x content h _ = absurd cc
  opened_room _ x content h _ = absurd cc

  reverted_room : (event : Event) (x : Stat) (content : List ℕ) → row_kept guarded lacks spent s event (Reverted x) ≡ true → copied_by guarded event (length content) s ≤ room → length content ≤ room
  reverted_room (Act (Revert c)) x content h le = le
  reverted_room (Act (Close c)) x content h le = absurd cc
  reverted_room (Act _) x content h _ = absurd cc
  reverted_room _ x content h _ = absurd cc

  read_room : (event : Event) (outcome : Outcome) (content : List ℕ) → row_kept guarded lacks spent s event outcome ≡ true → copied_by guarded event (length content) s ≤ room → ReadRoom outcome content room
  read_room event (Opened x) content h le = opened_room event x content h le
  read_room event (Reverted x) content h le = reverted_room event x content h le
  read_room event _ content h le = tt

  prepared_room : (event : Event) (v read : ℕ) → row_kept guarded lacks spent s event (StageOk Prepare v) ≡ true → copied_by guarded event read s ≤ room → length (content_at v s) ≤ room
  prepared_room (Vault c) v read h le = subst (λ (n : ℕ). n ≤ room) (due_snapshot (vault_due_kept guarded s) v s (and_left _ _ h)) le
  prepared_room (Act command) v read h _ = absurd (not_prepared guarded lacks spent s command v h)
  prepared_room _ v read h _ = absurd cc

  snapshot_room : (event : Event) (outcome : Outcome) (read : ℕ) → row_kept guarded lacks spent s event outcome ≡ true → copied_by guarded event read s ≤ room → SnapshotRoom outcome s room
  snapshot_room event (StageOk Prepare v) read h le = prepared_room event v read h le
  snapshot_room event _ read h le = tt

  started_room : (event : Event) (v read : ℕ) → row_kept guarded lacks spent s event (Started v) ≡ true → copied_by guarded event read s ≤ room → length (content_in s.copy) ≤ room
  started_room (Act (Save c force over)) v read h le = subst (λ (n : ℕ). n ≤ room) (none_runs s.seq.run (length (content_in s.copy)) (started guarded lacks spent s (Act (Save c force over)) v h)) le
  started_room (Act (Close c)) v read h le = absurd cc
  started_room (Act _) v read h _ = absurd cc
  started_room _ v read h _ = absurd cc

  finish_room : (c read : ℕ) (is_dirty : Bool) → starts s.seq.queue is_dirty ≡ true → copied_by guarded (Flush c) read s ≤ room → length (content_in s.copy) ≤ room
  finish_room c read is_dirty h le = subst (λ (n : ℕ). n ≤ room) (queued_starts s.seq.queue is_dirty (length (content_in s.copy)) h) le

  saving_room : (event : Event) (outcome : Outcome) (read : ℕ) (is_dirty : Bool) → row_kept guarded lacks spent s event outcome ≡ true → copied_by guarded event read s ≤ room → starts_run outcome event (starts s.seq.queue is_dirty) ≡ true → length (content_in s.copy) ≤ room
  saving_room event (Started v) read is_dirty row le h = started_room event v read row le
  saving_room (Flush c) CheckFault read is_dirty row le h = finish_room c read is_dirty h le
  saving_room (Act command) CheckFault read is_dirty row _ h = absurd (not_check_fault guarded lacks spent s command row)
  saving_room _ CheckFault read is_dirty row _ h = absurd cc
  saving_room (Flush c) (Modified x) read is_dirty row le h = finish_room c read is_dirty h le
  saving_room (Act command) (Modified x) read is_dirty row _ h = absurd (not_modified guarded lacks spent s command x row)
  saving_room _ (Modified x) read is_dirty row _ h = absurd cc
  saving_room (Flush c) (WriteFault v) read is_dirty row le h = finish_room c read is_dirty h le
  saving_room (Act command) (WriteFault v) read is_dirty row _ h = absurd (not_write_fault guarded lacks spent s command v row)
  saving_room _ (WriteFault v) read is_dirty row _ h = absurd cc
  saving_room (Flush c) (Unguarded v) read is_dirty row le h = finish_room c read is_dirty h le
  saving_room (Act command) (Unguarded v) read is_dirty row _ h = absurd (not_unguarded guarded lacks spent s command v row)
  saving_room _ (Unguarded v) read is_dirty row _ h = absurd cc
  saving_room (Flush c) (Saved v x) read is_dirty row le h = finish_room c read is_dirty h le
  saving_room (Act command) (Saved v x) read is_dirty row _ h = absurd (not_saved guarded lacks spent s command v x row)
  saving_room _ (Saved v x) read is_dirty row _ h = absurd cc
  saving_room event _ read is_dirty row _ h = absurd cc

versioned : (n : ℕ) (copy : Option CopyState) → IfSome (option_map (λ (s : CopyState). s.copy) copy) (λ c. c.version < n) → IfSome copy (λ c. c.copy.version < n)
versioned n None h = tt
versioned n (Some c) h = h

pub can_apply : (guarded lacks spent : Bool) (s : ResourceState) (event : Event) (outcome : Outcome) (content : List ℕ) → s.kept.copy ≡ option_map (λ (c : CopyState). c.copy) s.copy
    → row_kept guarded lacks spent s.kept event outcome ≡ true → HasRoom guarded event (length content) s → CanCount s.kept → CanApply event outcome content s
can_apply guarded lacks spent s event outcome content tied row room counts = record {
  counts = counts;
  version = versioned (2 ^ 64 - 1) s.copy (subst (λ (x : Option Copy). IfSome x (λ c. c.version < 2 ^ 64 - 1)) tied counts.version);
  change = changes guarded lacks spent s tied event outcome row room.copy;
  save = saves_can guarded lacks spent s.kept event outcome row;
  tickets = room.tickets;
  read_in = read_room guarded lacks spent s.kept s.spare event outcome content row room.bytes;
  snapshot = snapshot_room guarded lacks spent s.kept s.spare event outcome (length content) row room.bytes;
  saving = λ is_dirty h. saving_room guarded lacks spent s.kept s.spare event outcome (length content) is_dirty row room.bytes h;
}
