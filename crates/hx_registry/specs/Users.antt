-- Events on a user's file.
use Rattle.std.specs.Prelude.{◌≡◌, ◌≤◌, ℕ, ◌+◌, Bool, true, false, if◌then◌else◌, IsTrue, List, [], length, Option, Some, None, is_some, Result, Ok, Err, IfOk, OnErr, refl}
use Rattle.std.proofs.Common.{sym, ◌∙◌, ap, subst, arith}
use Rattle.std.proofs.lemmas.Bool.Decides.{nat_tests}
use Rattle.hx_faults.specs.Faults.{Rose}
use Rattle.hx_disk.specs.File.{FileState}
use Rattle.hx_disk.specs.Disk.{Through, ChangesNothing}
use Rattle.hx_etag.specs.declared.stat.Stat.{Stat}
use Rattle.hx_slots.specs.Gate.{IsAnyState}
use Rattle.hx_events.specs.declared.event.Actor.{Actor}
use Rattle.hx_events.specs.declared.event.Command.{Command}
use Rattle.hx_events.specs.declared.event.Command.TheVariants.{Open, Create, Edit, Undo, Redo, Save, Revert, Close, Outside}
use Rattle.hx_events.specs.declared.event.Event.{Event}
use Rattle.hx_events.specs.declared.event.Event.TheVariants.{Act, Flush}
use Rattle.hx_events.specs.declared.life.Entry.{Entry}
use Rattle.hx_events.specs.declared.outcome.Outcome.{Outcome}
use Rattle.hx_events.specs.declared.outcome.Outcome.TheVariants.{Checked, Modified, Saved, WriteFault, Written, Fault}
use Rattle.hx_events.specs.Texts.{resource_of}
use Rattle.hx_rules.specs.declared.saves.Running.{Running}
use Rattle.hx_rules.specs.declared.saves.Asked.{Asked as Request}
use Rattle.hx_rules.specs.Due.{SaveWork, Check as DueCheck, Write as DueWrite, Refuse, save_work}
use Rattle.hx_rules.specs.Entries.{own, is_of}
use Rattle.hx_rules.specs.Legal.{Opening, restored_at, is_row, finds_conflict}
use Rattle.hx_rules.specs.Saves.{running, save_steps}
use Rattle.hx_rules.specs.Versions.{versions, version_at}
use Rattle.hx_resource.specs.declared.asks.Asked.{Asked}
use Rattle.hx_resource.specs.declared.asks.Asked.TheVariants.{Settled, Device}
use Rattle.hx_resource.specs.declared.asks.Got.{Got}
use Rattle.hx_resource.specs.declared.asks.Got.TheVariants.{Nothing, Failed, Done, Spent as GotSpent, Found, Read, Big}
use Rattle.hx_resource.specs.declared.asks.Work.{Work}
use Rattle.hx_resource.specs.declared.asks.Work.TheVariants.{ReadFile, OutsideWrite, Check, Write, Vault as VaultStage}
use Rattle.hx_resource.specs.Asks.{FitsWork, flush_asks, check_outcome, open_asks, create_asks, edit_asks, undo_asks, redo_asks, save_asks, revert_asks, close_asks}
use Rattle.hx_resource.specs.Rooms.{got_content}
use Rattle.hx_core.specs.Cores.{CoreState, StepRoom, asks_at, outcome_at}
use Rattle.hx_vault.specs.Vaults.{VaultState}
use Rattle.hx_lives.specs.Course.{Course, Past, opening, with_entry}
use Rattle.hx_lives.specs.Told.{user_file, resource_in}
use Rattle.hx_pairs.specs.Registries.{RegistryInvariant, same_hold}
use Rattle.hx_pairs.specs.UserFiles.{invariant_write}
use Rattle.hx_registry.specs.Answered.{IsAnswered}
use Rattle.hx_registry.specs.Files.{IsWhole, IsSavedAs}
use Rattle.hx_registry.specs.Given.{IsGiven, IsReadAs, Reads, is_failed, flush_given}
use Rattle.hx_registry.specs.OpenLives.{entry_by}

-- a command's event is of its resource
pub of_command : (command : Command) → is_of (resource_of command) (Act command) ≡ true
of_command command = grind (arith, nat_tests)

-- ---- which work there is
abbrev is_read_or_write : Work → Bool
is_read_or_write (ReadFile d) = true
is_read_or_write OutsideWrite = true
is_read_or_write work = false

abbrev IsActWork : Command → Asked → Type 0
IsActWork command (Settled outcome) = Unit {0}
IsActWork command (Device (ReadFile d)) = Reads (Act command)
IsActWork command (Device OutsideWrite) = Unit {0}
IsActWork command (Device work) = ⊥

open_work : (c d : ℕ) (a b : Bool) → IsActWork (Open c) (open_asks d a b)
open_work c d true b = tt
open_work c d false true = tt
open_work c d false false = tt

create_work : (c : ℕ) (a b : Bool) (n : ℕ) → IsActWork (Create c) (create_asks a b n)
create_work c true b n = tt
create_work c false true n = tt
create_work c false false n = tt

edit_work : (command : Command) (a b d : Bool) (n : ℕ) → IsActWork command (edit_asks a b d n)
edit_work command false b d n = tt
edit_work command true true d n = tt
edit_work command true false true n = tt
edit_work command true false false n = tt

undo_work : (command : Command) (a b : Bool) (n : ℕ) → IsActWork command (undo_asks a b n)
undo_work command false b n = tt
undo_work command true false n = tt
undo_work command true true n = tt

redo_work : (command : Command) (a b : Bool) (n : ℕ) → IsActWork command (redo_asks a b n)
redo_work command false b n = tt
redo_work command true false n = tt
redo_work command true true n = tt

save_work_of : (command : Command) (a : Bool) (request : Request) (n : ℕ) → IsActWork command (save_asks a request n)
save_work_of command false request n = tt
save_work_of command true request n = tt

revert_work : (c d : ℕ) (a b : Bool) → IsActWork (Revert c) (revert_asks d a b)
revert_work c d false b = tt
revert_work c d true true = tt
revert_work c d true false = tt

close_work : (command : Command) (a b : Bool) → IsActWork command (close_asks a b)
close_work command false b = tt
close_work command true true = tt
close_work command true false = tt

act_work : (o : Opening) (es : List Entry) (command : Command) → IsActWork command (asks_at o es (Act command))
act_work o es (Open c) = open_work c c _ _
act_work o es (Create c) = create_work c _ _ _
act_work o es (Edit c off del text) = edit_work (Edit c off del text) _ _ _ _
act_work o es (Undo c) = undo_work (Undo c) _ _ _
act_work o es (Redo c) = redo_work (Redo c) _ _ _
act_work o es (Save c force over) = save_work_of (Save c force over) _ _ _
act_work o es (Revert c) = revert_work c c _ _
act_work o es (Close c) = close_work (Close c) _ _
act_work o es (Outside c mtime text) = tt

-- what is read is an open's or a revert's
pub reads_by_act : (o : Opening) (es : List Entry) (command : Command) (d : ℕ) → asks_at o es (Act command) ≡ Device (ReadFile d) → Reads (Act command)
reads_by_act o es command d is = subst (IsActWork command) is (act_work o es command)

-- a command asks for no other work than reading a file or an outside write
pub only_reads_and_writes : (o : Opening) (es : List Entry) (command : Command) (work : Work) → asks_at o es (Act command) ≡ Device work → ((d : ℕ) → work ≡ ReadFile d → ⊥) → (work ≡ OutsideWrite → ⊥) → ⊥
only_reads_and_writes o es command (ReadFile d) is no_read no_write = no_read d refl
only_reads_and_writes o es command OutsideWrite is no_read no_write = no_write refl
only_reads_and_writes o es command (Check d) is no_read no_write = subst (IsActWork command) is (act_work o es command)
only_reads_and_writes o es command (Write d) is no_read no_write = subst (IsActWork command) is (act_work o es command)
only_reads_and_writes o es command (VaultStage d stage) is no_read no_write = subst (IsActWork command) is (act_work o es command)

-- only an outside write is asked for as one
abbrev IsOutside : Command → Type 0
IsOutside (Outside c mtime text) = Unit {0}
IsOutside command = ⊥

abbrev OutsideIsAsked : Command → Asked → Type 0
OutsideIsAsked command (Device OutsideWrite) = IsOutside command
OutsideIsAsked command asked = Unit {0}

open_outside : (c d : ℕ) (a b : Bool) → OutsideIsAsked (Open c) (open_asks d a b)
open_outside c d true b = tt
open_outside c d false true = tt
open_outside c d false false = tt

create_outside : (command : Command) (a b : Bool) (n : ℕ) → OutsideIsAsked command (create_asks a b n)
create_outside command true b n = tt
create_outside command false true n = tt
create_outside command false false n = tt

edit_outside : (command : Command) (a b d : Bool) (n : ℕ) → OutsideIsAsked command (edit_asks a b d n)
edit_outside command false b d n = tt
edit_outside command true true d n = tt
edit_outside command true false true n = tt
edit_outside command true false false n = tt

undo_outside : (command : Command) (a b : Bool) (n : ℕ) → OutsideIsAsked command (undo_asks a b n)
undo_outside command false b n = tt
undo_outside command true false n = tt
undo_outside command true true n = tt

redo_outside : (command : Command) (a b : Bool) (n : ℕ) → OutsideIsAsked command (redo_asks a b n)
redo_outside command false b n = tt
redo_outside command true false n = tt
redo_outside command true true n = tt

save_outside : (command : Command) (a : Bool) (request : Request) (n : ℕ) → OutsideIsAsked command (save_asks a request n)
save_outside command false request n = tt
save_outside command true request n = tt

revert_outside : (command : Command) (d : ℕ) (a b : Bool) → OutsideIsAsked command (revert_asks d a b)
revert_outside command d false b = tt
revert_outside command d true true = tt
revert_outside command d true false = tt

close_outside : (command : Command) (a b : Bool) → OutsideIsAsked command (close_asks a b)
close_outside command false b = tt
close_outside command true true = tt
close_outside command true false = tt

outside_work : (o : Opening) (es : List Entry) (command : Command) → OutsideIsAsked command (asks_at o es (Act command))
outside_work o es (Open c) = open_outside c c _ _
outside_work o es (Create c) = create_outside (Create c) _ _ _
outside_work o es (Edit c off del text) = edit_outside (Edit c off del text) _ _ _ _
outside_work o es (Undo c) = undo_outside (Undo c) _ _ _
outside_work o es (Redo c) = redo_outside (Redo c) _ _ _
outside_work o es (Save c force over) = save_outside (Save c force over) _ _ _
outside_work o es (Revert c) = revert_outside (Revert c) c _ _
outside_work o es (Close c) = close_outside (Close c) _ _
outside_work o es (Outside c mtime text) = tt

pub outside_asked : (o : Opening) (es : List Entry) (command : Command) → asks_at o es (Act command) ≡ Device OutsideWrite → ((c mtime : ℕ) (text : List ℕ) → command ≡ Outside c mtime text → ⊥) → ⊥
outside_asked o es command is other = go command (subst (OutsideIsAsked command) is (outside_work o es command)) other
  where
    go : (command : Command) → IsOutside command → ((c mtime : ℕ) (text : List ℕ) → command ≡ Outside c mtime text → ⊥) → ⊥
    go (Outside c mtime text) is other = other c mtime text refl
    go (Open c) is other = is
    go (Create c) is other = is
    go (Edit c off del text) is other = is
    go (Undo c) is other = is
    go (Redo c) is other = is
    go (Save c force over) is other = is
    go (Revert c) is other = is
    go (Close c) is other = is

-- a save stage asks for nothing but a check and a write
pub only_checks_and_writes : (c : ℕ) (due : Option SaveWork) (work : Work) → flush_asks c due ≡ Device work → ((d : ℕ) → work ≡ Check d → ⊥) → ((d : ℕ) → work ≡ Write d → ⊥) → ⊥
only_checks_and_writes c None work is no_check no_write = absurd cc
only_checks_and_writes c (Some DueCheck) work is no_check no_write = no_check c cc
only_checks_and_writes c (Some (DueWrite v)) work is no_check no_write = no_write c cc
only_checks_and_writes c (Some (Refuse v)) work is no_check no_write = absurd cc

-- where a write is due a save runs
write_runs : (c d : ℕ) (guarded is_safe is_halted : Bool) (run : Option Running) → flush_asks c (save_work guarded is_safe is_halted run) ≡ Device (Write d) → run ≡ None → ⊥
write_runs c d guarded is_safe is_halted None is none = absurd cc
write_runs c d guarded is_safe is_halted (Some run) is none = absurd cc

pub write_has_run : (o : Opening) (es : List Entry) (c d : ℕ) → asks_at o es (Flush c) ≡ Device (Write d) → is_some (running (save_steps (restored_at o c) (own c es))) ≡ false → ⊥
write_has_run o es c d is none = write_runs c d o.guarded _ _ (running (save_steps (restored_at o c) (own c es))) is (none_of (running (save_steps (restored_at o c) (own c es))) none)
  where
    none_of : (run : Option Running) → is_some run ≡ false → run ≡ None
    none_of None h = refl
    none_of (Some run) h = absurd cc

check_same : (conflict : Bool) (s : Stat) → same_hold (if conflict then Modified s else Checked (Some s)) ≡ true
check_same true s = refl
check_same false s = refl

checks_hold : (d : ℕ) (over : Bool) (base : Option Stat) (got : Got) → FitsWork (Check d) got → same_hold (check_outcome over base got) ≡ true
checks_hold d over base Failed fits = refl
checks_hold d over base (Found None) fits = refl
checks_hold d over base (Found (Some s)) fits = check_same (finds_conflict over base (Some s)) s
checks_hold d over base Nothing fits = absurd fits
checks_hold d over base Done fits = absurd fits
checks_hold d over base GotSpent fits = absurd fits
checks_hold d over base (Read s bytes) fits = absurd fits
checks_hold d over base (Big s) fits = absurd fits

-- a check changes nobody's hold
pub check_rests : (o : Opening) (es : List Entry) (c d : ℕ) (got : Got) → asks_at o es (Flush c) ≡ Device (Check d) → FitsWork (Check d) got → same_hold (outcome_at o es (Flush c) got) ≡ true
check_rests o es c d got is fits = ap same_hold (flush_given o es c (Check d) got is) ∙ checks_hold d _ _ got fits

module _ {D : Type 0} (tells : Bool) (time : D → ℕ) (past : D → Past) (now : D → ℕ → FileState) (failures : D → ℕ) (c : Course) (v : VaultState) (held : List (Option ℕ)) (before disk : D) where
  -- what a question to the disk makes of an event
  pub given_answered : (event : Event) (got : Got) (outcome : Outcome) → RegistryInvariant tells time past now failures c v held before → failures before ≤ failures disk → ChangesNothing time past now before disk → IsGiven event got outcome
      → (is_failed got ≡ true → Rose (failures before) (failures disk)) → (IsTrue tells → IsReadAs got (now disk (user_file (resource_in event))))
      → IsAnswered tells time past now failures c v held disk event outcome (got_content got)
  given_answered event got outcome holding later none given rose read = record {
    before = before;
    holding = holding;
    later = later;
    none = none;
    free = given.free;
    rose = λ bad. rose (given.fault bad);
    found = λ told. given.found (now disk (user_file (resource_in event))) _ (read told);
  }

module _ {D : Type 0} (tells : Bool) (time : D → ℕ) (past : D → Past) (now : D → ℕ → FileState) (failures : D → ℕ) (present : (d : D) (f : ℕ) → past d (time d) f ≡ now d f)
    (c : Course) (v : VaultState) (held : List (Option ℕ)) (old new : D) (actor : Actor) (r : ℕ) (outcome : Outcome) (holding : RegistryInvariant tells time past now failures c v held old) (later : failures old ≤ failures new) where
  -- a write that is done, by what the file is then
  pub saved_invariant : (n : ℕ) (found : Option Stat) → outcome ≡ Saved n found → is_row (opening c) c.entries (Flush r) outcome ≡ true → Through time past (128 + r) IsAnyState old new
      → (IsTrue tells → IsSavedAs (version_at n (versions (restored_at (opening c) r) (own r c.entries))).content found (now new (128 + r)))
      → RegistryInvariant tells time past now failures (with_entry c (entry_by (time new) (failures new) actor (Flush r) outcome [])) v held new
  saved_invariant n found is row run saved =
      subst (λ (o : Outcome). RegistryInvariant tells time past now failures (with_entry c (entry_by (time new) (failures new) actor (Flush r) o [])) v held new) (sym is)
      (invariant_write tells time past now failures present c (entry_by (time new) (failures new) actor (Flush r) (Saved n found) []) v held old new holding later refl refl (subst (λ (o : Outcome). is_row (opening c) c.entries (Flush r) o ≡ true) is row) (λ bad. absurd cc) r run refl refl refl refl
      (λ told. let s = subst (IsSavedAs (version_at n (versions (restored_at (opening c) r) (own r c.entries))).content found) (sym (present new (128 + r))) (saved told) in (s.reading, s.settled, s.stat)))

  -- a write that failed
  pub write_failed_invariant : (n : ℕ) → outcome ≡ WriteFault n → is_row (opening c) c.entries (Flush r) outcome ≡ true → Through time past (128 + r) IsAnyState old new → Rose (failures old) (failures new)
      → RegistryInvariant tells time past now failures (with_entry c (entry_by (time new) (failures new) actor (Flush r) outcome [])) v held new
  write_failed_invariant n is row run rose =
      subst (λ (o : Outcome). RegistryInvariant tells time past now failures (with_entry c (entry_by (time new) (failures new) actor (Flush r) o [])) v held new) (sym is)
      (invariant_write tells time past now failures present c (entry_by (time new) (failures new) actor (Flush r) (WriteFault n) []) v held old new holding later refl refl (subst (λ (o : Outcome). is_row (opening c) c.entries (Flush r) o ≡ true) is row) (λ bad. rose) r run refl refl refl refl (λ told. tt))

  -- another program's write
  pub outside_invariant : (event : Event) (mtime : ℕ) (text : List ℕ) → event ≡ Act (Outside r mtime text) → outcome ≡ Written → Through time past (128 + r) IsAnyState old new → (IsTrue tells → IsWhole text mtime (now new (128 + r)))
      → RegistryInvariant tells time past now failures (with_entry c (entry_by (time new) (failures new) actor event outcome [])) v held new
  outside_invariant event mtime text of is run whole =
      subst (λ (x : Event). RegistryInvariant tells time past now failures (with_entry c (entry_by (time new) (failures new) actor x outcome [])) v held new) (sym of)
      (subst (λ (o : Outcome). RegistryInvariant tells time past now failures (with_entry c (entry_by (time new) (failures new) actor (Act (Outside r mtime text)) o [])) v held new) (sym is)
      (invariant_write tells time past now failures present c (entry_by (time new) (failures new) actor (Act (Outside r mtime text)) Written []) v held old new holding later refl refl refl (λ bad. absurd cc) r run refl refl refl refl
      (λ told. let s = subst (IsWhole text mtime) (sym (present new (128 + r))) (whole told) in (s.reading, s.settled, s.time))))

  -- one that failed
  pub outside_failed_invariant : (event : Event) (mtime : ℕ) (text : List ℕ) → event ≡ Act (Outside r mtime text) → outcome ≡ Fault → Through time past (128 + r) IsAnyState old new → Rose (failures old) (failures new)
      → RegistryInvariant tells time past now failures (with_entry c (entry_by (time new) (failures new) actor event outcome [])) v held new
  outside_failed_invariant event mtime text of is run rose =
      subst (λ (x : Event). RegistryInvariant tells time past now failures (with_entry c (entry_by (time new) (failures new) actor x outcome [])) v held new) (sym of)
      (subst (λ (o : Outcome). RegistryInvariant tells time past now failures (with_entry c (entry_by (time new) (failures new) actor (Act (Outside r mtime text)) o [])) v held new) (sym is)
      (invariant_write tells time past now failures present c (entry_by (time new) (failures new) actor (Act (Outside r mtime text)) Fault []) v held old new holding later refl refl refl (λ bad. rose) r run refl refl refl refl (λ told. tt)))

-- there is room for what was read
pub room_for : {E : Type 0} (r : Result Got E) (size : ℕ) (event : Event) (core : CoreState) → ((n : ℕ) → n ≤ size → StepRoom event n core) → IfOk r (λ got. length (got_content got) ≤ size) → IfOk r (λ got. StepRoom event (length (got_content got)) core)
room_for (Ok got) size event core room short = room (length (got_content got)) short
room_for (Err e) size event core room short = tt

pub same_on_err : {X E : Type 0} (r : Result X E) (a b c : ℕ) → OnErr r (a ≡ b) → b ≡ c → OnErr r (a ≡ c)
same_on_err (Ok x) a b c h same = tt
same_on_err (Err e) a b c h same = h ∙ same
