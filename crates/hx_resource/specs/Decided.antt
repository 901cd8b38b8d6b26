-- What is decided may be decided, and can be made.
use Rattle.std.specs.Prelude.{ℕ, ◌≡◌, ◌+◌, ◌==◌, ◌≤◌, nat_le, not, Bool, true, false, ◌&&◌, ◌||◌, List, length, if◌then◌else◌, Option, Some, None, is_some, refl}
use Rattle.std.proofs.Common.{arith, ap, ◌∙◌}
use Rattle.std.proofs.lemmas.Bool.Decides.{nat_tests}
use Rattle.hx_etag.specs.declared.stat.Stat.{Stat}
use Rattle.hx_events.specs.declared.backup.TheConstants.{CONTENT_MAX}
use Rattle.hx_events.specs.declared.event.Command.TheVariants.{Open, Create, Edit, Undo, Redo, Save, Revert, Close, Outside}
use Rattle.hx_events.specs.declared.event.Event.{Event}
use Rattle.hx_events.specs.declared.event.Event.TheVariants.{Act, Vault, Flush, Quit}
use Rattle.hx_events.specs.declared.event.Stage.{Stage}
use Rattle.hx_events.specs.declared.event.Stage.TheVariants.{Prepare, Body, Open as OpenGate, Fade, Drop}
use Rattle.hx_events.specs.declared.outcome.Outcome.{Outcome}
use Rattle.hx_events.specs.declared.outcome.Outcome.TheVariants.{Spent, StageOk, StageFault, Checked, Modified}
use Rattle.hx_rules.specs.declared.saves.Asked.{Asked as Request}
use Rattle.hx_rules.specs.declared.saves.Asked.TheVariants.{Joined as SaidJoined, Clean as SaidClean, Queued as SaidQueued, Started as SaidStarted}
use Rattle.hx_rules.specs.declared.saves.Running.{Running}
use Rattle.hx_rules.specs.Saves.{asked_by}
use Rattle.hx_rules.specs.Due.{VaultWork, SaveWork, Check as DueCheck, Write as DueWrite, Refuse, vault_work, version_due, run_version, save_work}
use Rattle.hx_rules.specs.Legal.{open_row, create_row, edit_row, undo_row, redo_row, save_row, revert_row, close_row, outside_row, vault_row, flush_row, deletes_past, grows_past, finds_conflict, is_over, is_work, same_stage}
use Rattle.hx_resource.specs.declared.asks.Asked.{Asked}
use Rattle.hx_resource.specs.declared.asks.Got.{Got}
use Rattle.hx_resource.specs.declared.asks.Got.TheVariants.{Failed, Done, Spent as GotSpent, Found, Read, Big}
use Rattle.hx_resource.specs.declared.asks.Work.TheVariants.{ReadFile}
use Rattle.hx_resource.specs.Kept.{Kept, dirty_now, content_in, base_in, is_safe_to}
use Rattle.hx_resource.specs.Rows.{row_kept, undo_in, redo_in, vault_due_kept, save_due_kept}
use Rattle.hx_resource.specs.Asks.{open_asks, create_asks, edit_asks, undo_asks, redo_asks, save_asks, revert_asks, close_asks, vault_asks, flush_asks, asks_kept, FitsAsked, FitsWork, outcome_by, outcome_kept, read_outcome, outside_outcome, check_outcome, write_outcome, is_spent_answer, is_done_answer, stage_outcome}
use Rattle.hx_resource.specs.Rooms.{IsKnown, IsRead, got_content}

same : (n : ℕ) → (n == n) ≡ true
same n = grind (arith, nat_tests)

within : (a b : ℕ) → a ≤ b → nat_le a b ≡ true
within a b le = grind (arith, nat_tests)

both : (a b : Bool) → a ≡ true → b ≡ true → (a && b) ≡ true
both a b ha hb = ap (λ x. x && b) ha ∙ hb

-- ---- the outcome is one that the event may have
open_read : (c : ℕ) (got : Got) → FitsWork (ReadFile c) got → open_row false false (read_outcome false got) ≡ true
open_read c Failed fits = refl
open_read c (Found x) fits = refl
open_read c (Big s) fits = refl
open_read c (Read s bytes) fits = within s.size CONTENT_MAX fits.1
open_read c _ fits = refl

revert_read : (c : ℕ) (got : Got) → FitsWork (ReadFile c) got → revert_row true false (read_outcome true got) ≡ true
revert_read c Failed fits = refl
revert_read c (Found x) fits = refl
revert_read c (Big s) fits = refl
revert_read c (Read s bytes) fits = within s.size CONTENT_MAX fits.1
revert_read c _ fits = refl

stage_done : (spent : Bool) (stage : Stage) (v : ℕ) (done : Bool) → is_work (Some (vault_work stage v)) stage v ≡ true → (if done then (is_work (Some (vault_work stage v)) stage v && true) else (is_work (Some (vault_work stage v)) stage v && true)) ≡ true
stage_done spent stage v true is = both _ _ is refl
stage_done spent stage v false is = both _ _ is refl

staged_by : (spent : Bool) (stage : Stage) (v : ℕ) (done : Bool) → (vault_row spent (Some (vault_work stage v)) (StageOk stage v)) ≡ true → (vault_row spent (Some (vault_work stage v)) (StageFault stage v)) ≡ true → vault_row spent (Some (vault_work stage v)) (if done then StageOk stage v else StageFault stage v) ≡ true
staged_by spent stage v true ok fault = ok
staged_by spent stage v false ok fault = fault

staged : (spent : Bool) (stage : Stage) (v : ℕ) (got : Got) → vault_row spent (Some (vault_work stage v)) (stage_outcome spent stage v got) ≡ true
staged true Prepare v got = refl
staged false Prepare v Done = both _ true (same v) refl
staged false Prepare v GotSpent = refl
staged false Prepare v _ = both _ true (same v) refl
staged spent Body v got = staged_by spent Body v (is_done_answer got) (both _ true (same v) refl) (both _ true (same v) refl)
staged spent OpenGate v got = staged_by spent OpenGate v (is_done_answer got) (both _ true (same v) refl) (both _ true (same v) refl)
staged spent Fade v got = staged_by spent Fade v (is_done_answer got) (both _ true (same v) refl) (both _ true (same v) refl)
staged spent Drop v got = staged_by spent Drop v (is_done_answer got) (both _ true (same v) refl) (both _ true (same v) refl)

none_found : (over : Bool) (base : Option Stat) → not (finds_conflict over base None) ≡ true
none_found true base = refl
none_found false None = refl
none_found false (Some b) = refl

found_by : (x : Bool) (s : Stat) (over : Bool) (base : Option Stat) → finds_conflict over base (Some s) ≡ x → flush_row (Some DueCheck) over base (if x then Modified s else Checked (Some s)) ≡ true
found_by true s over base is = is
found_by false s over base is = ap not is

check_holds : (over : Bool) (base : Option Stat) (got : Got) → flush_row (Some DueCheck) over base (check_outcome over base got) ≡ true
check_holds over base (Found None) = none_found over base
check_holds over base (Found (Some s)) = found_by (finds_conflict over base (Some s)) s over base refl
check_holds over base _ = refl

write_holds : (v : ℕ) (over : Bool) (base : Option Stat) (got : Got) → flush_row (Some (DueWrite v)) over base (write_outcome v got) ≡ true
write_holds v over base (Found x) = same v
write_holds v over base _ = same v

version_of : (checked may_write halted : Bool) (n v : ℕ) → (if not checked then Some DueCheck else if may_write then Some (DueWrite n) else if halted then Some (Refuse n) else None) ≡ Some (DueWrite v) → n ≡ v
version_of false may_write halted n v h = absurd cc
version_of true true halted n v h = cc
version_of true false true n v h = absurd cc
version_of true false false n v h = absurd cc

written_version : (guarded is_safe halted : Bool) (run : Option Running) (v : ℕ) → save_work guarded is_safe halted run ≡ Some (DueWrite v) → run_version run ≡ v
written_version guarded is_safe halted None v h = absurd cc
written_version guarded is_safe halted (Some run) v h = version_of run.checked (not guarded || is_safe) halted run.version v h

outside_holds : (got : Got) → outside_row (outside_outcome got) ≡ true
outside_holds Done = refl
outside_holds _ = refl

module _ (guarded lacks spent : Bool) (s : Kept) (got : Got) where
  abbrev result : Asked → Outcome
  result asked = outcome_by guarded spent s asked got

  opens : (c : ℕ) (is_open none_left : Bool) → is_some s.copy ≡ is_open → FitsAsked (open_asks c is_open none_left) got → open_row is_open none_left (result (open_asks c is_open none_left)) ≡ true
  opens c true none_left is fits = refl
  opens c false true is fits = refl
  opens c false false is fits = ap (λ b. open_row false false (read_outcome b got)) is ∙ open_read c got fits

  reverts : (c : ℕ) (is_open is_saving : Bool) → is_some s.copy ≡ is_open → FitsAsked (revert_asks c is_open is_saving) got → revert_row is_open is_saving (result (revert_asks c is_open is_saving)) ≡ true
  reverts c false is_saving is fits = refl
  reverts c true true is fits = refl
  reverts c true false is fits = ap (λ b. revert_row true false (read_outcome b got)) is ∙ revert_read c got fits

  creates : (is_open none_left : Bool) (last : ℕ) → create_row is_open none_left last (result (create_asks is_open none_left last)) ≡ true
  creates true none_left last = refl
  creates false true last = refl
  creates false false last = same (last + 1)

  edits : (is_open d g : Bool) (size off del add last : ℕ) → deletes_past size off del ≡ d → grows_past size del add ≡ g → edit_row is_open size off del add last (result (edit_asks is_open d g last)) ≡ true
  edits false d g size off del add last ed eg = refl
  edits true true g size off del add last ed eg = ed
  edits true false true size off del add last ed eg = both _ _ (ap not ed) eg
  edits true false false size off del add last ed eg = both _ _ (both _ _ (ap not ed) (ap not eg)) (same (last + 1))

  undoes : (is_open can : Bool) (last : ℕ) → undo_row is_open can last (result (undo_asks is_open can last)) ≡ true
  undoes false can last = refl
  undoes true false last = refl
  undoes true true last = same (last + 1)

  redoes : (is_open can : Bool) (last : ℕ) → redo_row is_open can last (result (redo_asks is_open can last)) ≡ true
  redoes false can last = refl
  redoes true false last = refl
  redoes true true last = same (last + 1)

  saves : (is_open : Bool) (request : Request) (last : ℕ) → save_row is_open request last (result (save_asks is_open request last)) ≡ true
  saves false request last = refl
  saves true SaidJoined last = refl
  saves true SaidClean last = refl
  saves true SaidQueued last = refl
  saves true SaidStarted last = same last

  closes : (is_open is_saving : Bool) → close_row is_open is_saving (result (close_asks is_open is_saving)) ≡ true
  closes false is_saving = refl
  closes true true = refl
  closes true false = refl

  stages : (c : ℕ) (due : Option VaultWork) → vault_due_kept guarded s ≡ due → vault_row spent due (result (vault_asks c due)) ≡ true
  stages c None is = refl
  stages c (Some w) is = ap (λ x. vault_row spent (Some w) (stage_outcome spent w.stage (version_due x) got)) is ∙ staged spent w.stage w.version got

  flushes : (c : ℕ) (due : Option SaveWork) → save_due_kept guarded s ≡ due → flush_row due (is_over s.seq.run) (base_in s.copy) (result (flush_asks c due)) ≡ true
  flushes c None is = refl
  flushes c (Some DueCheck) is = check_holds (is_over s.seq.run) (base_in s.copy) got
  flushes c (Some (DueWrite v)) is =
      ap (λ n. flush_row (Some (DueWrite v)) (is_over s.seq.run) (base_in s.copy) (write_outcome n got)) (written_version guarded (is_safe_to (run_version s.seq.run) s.safe) s.halted s.seq.run v is)
      ∙ write_holds v (is_over s.seq.run) (base_in s.copy) got
  flushes c (Some (Refuse v)) is = same v

  pub row_holds : (event : Event) → IsKnown event → FitsAsked (asks_kept guarded lacks s event) got → row_kept guarded lacks spent s event (outcome_kept guarded lacks spent s event got) ≡ true
  row_holds (Act (Open c)) known fits = opens c (is_some s.copy) lacks refl fits
  row_holds (Act (Create c)) known fits = creates (is_some s.copy) lacks s.last
  row_holds (Act (Edit c off del text)) known fits = edits (is_some s.copy) _ _ (length (content_in s.copy)) off del (length text) s.last refl refl
  row_holds (Act (Undo c)) known fits = undoes (is_some s.copy) (undo_in s.copy) s.last
  row_holds (Act (Redo c)) known fits = redoes (is_some s.copy) (redo_in s.copy) s.last
  row_holds (Act (Save c force over)) known fits = saves (is_some s.copy) (asked_by s.seq.run s.last (dirty_now s.copy) force) s.last
  row_holds (Act (Revert c)) known fits = reverts c (is_some s.copy) (is_some s.seq.run) refl fits
  row_holds (Act (Close c)) known fits = closes (is_some s.copy) (is_some s.seq.run)
  row_holds (Act (Outside c mtime text)) known fits = outside_holds got
  row_holds (Vault c) known fits = stages c (vault_due_kept guarded s) refl
  row_holds (Flush c) known fits = flushes c (save_due_kept guarded s) refl
  row_holds Quit known fits = absurd known

-- ---- what was read is as long as its stat says
is_read : (c : ℕ) (is_open : Bool) (got : Got) → FitsWork (ReadFile c) got → IsRead (read_outcome is_open got) (got_content got)
is_read c true (Read s bytes) fits = fits.0
is_read c false (Read s bytes) fits = fits.0
is_read c is_open Failed fits = tt
is_read c is_open (Found x) fits = tt
is_read c is_open (Big s) fits = tt
is_read c is_open _ fits = tt

stage_unread : (stage : Stage) (v : ℕ) (content : List ℕ) (is_spent done : Bool) → IsRead (if is_spent then Spent else if done then StageOk stage v else StageFault stage v) content
stage_unread stage v content true done = tt
stage_unread stage v content false true = tt
stage_unread stage v content false false = tt

found_unread : (s : Stat) (content : List ℕ) (x : Bool) → IsRead (if x then Modified s else Checked (Some s)) content
found_unread s content true = tt
found_unread s content false = tt

check_unread : (over : Bool) (base : Option Stat) (got : Got) (content : List ℕ) → IsRead (check_outcome over base got) content
check_unread over base (Found None) content = tt
check_unread over base (Found (Some s)) content = found_unread s content (finds_conflict over base (Some s))
check_unread over base _ content = tt

write_unread : (v : ℕ) (got : Got) (content : List ℕ) → IsRead (write_outcome v got) content
write_unread v (Found x) content = tt
write_unread v _ content = tt

outside_unread : (got : Got) (content : List ℕ) → IsRead (outside_outcome got) content
outside_unread Done content = tt
outside_unread _ content = tt

module _ (guarded lacks spent : Bool) (s : Kept) (got : Got) where
  abbrev Unread : Asked → Type 0
  Unread asked = IsRead (outcome_by guarded spent s asked got) (got_content got)

  open_is_read : (c : ℕ) (is_open none_left : Bool) → FitsAsked (open_asks c is_open none_left) got → Unread (open_asks c is_open none_left)
  open_is_read c true none_left fits = tt
  open_is_read c false true fits = tt
  open_is_read c false false fits = is_read c (is_some s.copy) got fits

  revert_is_read : (c : ℕ) (is_open is_saving : Bool) → FitsAsked (revert_asks c is_open is_saving) got → Unread (revert_asks c is_open is_saving)
  revert_is_read c false is_saving fits = tt
  revert_is_read c true true fits = tt
  revert_is_read c true false fits = is_read c (is_some s.copy) got fits

  create_unread : (is_open none_left : Bool) (last : ℕ) → Unread (create_asks is_open none_left last)
  create_unread true none_left last = tt
  create_unread false true last = tt
  create_unread false false last = tt

  edit_unread : (is_open d g : Bool) (last : ℕ) → Unread (edit_asks is_open d g last)
  edit_unread false d g last = tt
  edit_unread true true g last = tt
  edit_unread true false true last = tt
  edit_unread true false false last = tt

  undo_unread : (is_open can : Bool) (last : ℕ) → Unread (undo_asks is_open can last)
  undo_unread false can last = tt
  undo_unread true false last = tt
  undo_unread true true last = tt

  redo_unread : (is_open can : Bool) (last : ℕ) → Unread (redo_asks is_open can last)
  redo_unread false can last = tt
  redo_unread true false last = tt
  redo_unread true true last = tt

  save_unread : (is_open : Bool) (request : Request) (last : ℕ) → Unread (save_asks is_open request last)
  save_unread false request last = tt
  save_unread true SaidJoined last = tt
  save_unread true SaidClean last = tt
  save_unread true SaidQueued last = tt
  save_unread true SaidStarted last = tt

  close_unread : (is_open is_saving : Bool) → Unread (close_asks is_open is_saving)
  close_unread false is_saving = tt
  close_unread true true = tt
  close_unread true false = tt

  vault_unread : (c : ℕ) (due : Option VaultWork) → Unread (vault_asks c due)
  vault_unread c None = tt
  vault_unread c (Some w) = stage_unread w.stage (version_due (vault_due_kept guarded s)) (got_content got) (same_stage w.stage Prepare && (spent || is_spent_answer got)) (is_done_answer got)

  flush_unread : (c : ℕ) (due : Option SaveWork) → Unread (flush_asks c due)
  flush_unread c None = tt
  flush_unread c (Some DueCheck) = check_unread (is_over s.seq.run) (base_in s.copy) got (got_content got)
  flush_unread c (Some (DueWrite v)) = write_unread (run_version s.seq.run) got (got_content got)
  flush_unread c (Some (Refuse v)) = tt

  pub read_holds : (event : Event) → IsKnown event → FitsAsked (asks_kept guarded lacks s event) got → IsRead (outcome_kept guarded lacks spent s event got) (got_content got)
  read_holds (Act (Open c)) known fits = open_is_read c (is_some s.copy) lacks fits
  read_holds (Act (Create c)) known fits = create_unread (is_some s.copy) lacks s.last
  read_holds (Act (Edit c off del text)) known fits = edit_unread (is_some s.copy) _ _ s.last
  read_holds (Act (Undo c)) known fits = undo_unread (is_some s.copy) (undo_in s.copy) s.last
  read_holds (Act (Redo c)) known fits = redo_unread (is_some s.copy) (redo_in s.copy) s.last
  read_holds (Act (Save c force over)) known fits = save_unread (is_some s.copy) (asked_by s.seq.run s.last (dirty_now s.copy) force) s.last
  read_holds (Act (Revert c)) known fits = revert_is_read c (is_some s.copy) (is_some s.seq.run) fits
  read_holds (Act (Close c)) known fits = close_unread (is_some s.copy) (is_some s.seq.run)
  read_holds (Act (Outside c mtime text)) known fits = outside_unread got (got_content got)
  read_holds (Vault c) known fits = vault_unread c (vault_due_kept guarded s)
  read_holds (Flush c) known fits = flush_unread c (save_due_kept guarded s)
  read_holds Quit known fits = absurd known
