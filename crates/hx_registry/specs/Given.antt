-- What the device's answer makes the outcome of an event.
use Rattle.std.specs.Prelude.{◌≡◌, ◌<◌, ◌-◌, ◌^◌, ℕ, Bool, true, false, ◌&&◌, ◌||◌, List, [], length, if◌then◌else◌, Option, Some, None, refl}
use Rattle.std.proofs.Common.{sym, ◌∙◌, ap, subst, arith}
use Rattle.hx_disk.specs.File.{FileState}
use Rattle.hx_etag.specs.declared.stat.Stat.{Stat}
use Rattle.hx_events.specs.declared.backup.TheConstants.{CONTENT_MAX}
use Rattle.hx_events.specs.declared.backup.Backup.{Backup}
use Rattle.hx_events.specs.declared.event.Command.{Command}
use Rattle.hx_events.specs.declared.event.Command.TheVariants.{Open, Revert}
use Rattle.hx_events.specs.declared.event.Event.{Event}
use Rattle.hx_events.specs.declared.event.Event.TheVariants.{Act, Vault, Flush, Quit}
use Rattle.hx_events.specs.declared.event.Stage.{Stage}
use Rattle.hx_events.specs.declared.event.Stage.TheVariants.{Prepare, Body, Open as OpenGate, Fade, Drop}
use Rattle.hx_events.specs.declared.life.Entry.{Entry}
use Rattle.hx_events.specs.declared.outcome.Outcome.{Outcome}
use Rattle.hx_events.specs.declared.outcome.Outcome.TheVariants.{Opened, Reverted, TooLarge, Checked, Modified, Spent, StageOk, StageFault}
use Rattle.hx_events.specs.Texts.{resource_of}
use Rattle.hx_rules.specs.Copies.{registered}
use Rattle.hx_rules.specs.Due.{VaultWork, due_vault, stage_due, version_due}
use Rattle.hx_rules.specs.Entries.{Deed, own}
use Rattle.hx_rules.specs.Legal.{Opening, restored_at, vault_due, was_spent, lowest, is_unsafe, same_stage, finds_conflict, is_over}
use Rattle.hx_rules.specs.Saves.{running, save_steps}
use Rattle.hx_rules.specs.Versions.{Version}
use Rattle.hx_rules_laws.specs.Sizes.{IsWholeEntry}
use Rattle.hx_resource.specs.declared.asks.Asked.{Asked}
use Rattle.hx_resource.specs.declared.asks.Asked.TheVariants.{Settled, Device}
use Rattle.hx_resource.specs.declared.asks.Got.{Got}
use Rattle.hx_resource.specs.declared.asks.Got.TheVariants.{Nothing, Failed, Done, Spent as GotSpent, Found, Read, Big}
use Rattle.hx_resource.specs.declared.asks.Work.{Work}
use Rattle.hx_resource.specs.declared.asks.Work.TheVariants.{ReadFile, OutsideWrite, Check, Write, Vault as VaultStage}
use Rattle.hx_resource.specs.Asks.{FitsAsked, FitsWork, vault_asks, check_outcome, read_outcome, stage_outcome}
use Rattle.hx_resource.specs.Rooms.{got_content}
use Rattle.hx_resource_laws.specs.AskFits.{given_of, work_of, kept_now}
use Rattle.hx_core.specs.Cores.{asks_at, outcome_at, quit_outcome}
use Rattle.hx_lives.specs.Caused.{is_fault}
use Rattle.hx_lives.specs.Told.{IsFound, IsTooLarge}
use Rattle.hx_pairs.specs.UserFiles.{no_stamp}
use Rattle.hx_registry.specs.Asking.{IsMildAsked, asked_is_mild}

-- ---- the outcome, where the device was asked
pub vault_given : (o : Opening) (es : List Entry) (c : ℕ) (work : Work) (got : Got) → asks_at o es (Vault c) ≡ Device work → outcome_at o es (Vault c) got ≡ work_of (restored_at o c) o.guarded (was_spent es) (own c es) work got
vault_given o es c work got is = ap (λ (a : Asked). given_of (restored_at o c) o.guarded (was_spent es) (own c es) a got) is

pub flush_given : (o : Opening) (es : List Entry) (c : ℕ) (work : Work) (got : Got) → asks_at o es (Flush c) ≡ Device work → outcome_at o es (Flush c) got ≡ work_of (restored_at o c) o.guarded (was_spent es) (own c es) work got
flush_given o es c work got is = ap (λ (a : Asked). given_of (restored_at o c) o.guarded (was_spent es) (own c es) a got) is

pub act_given : (o : Opening) (es : List Entry) (command : Command) (work : Work) (got : Got) → asks_at o es (Act command) ≡ Device work
    → outcome_at o es (Act command) got ≡ work_of (restored_at o (resource_of command)) o.guarded (was_spent es) (own (resource_of command) es) work got
act_given o es command work got is = ap (λ (a : Asked). given_of (restored_at o (resource_of command)) o.guarded (was_spent es) (own (resource_of command) es) a got) is

-- what is settled is the outcome
pub settled_given : (o : Opening) (es : List Entry) (event : Event) (outcome : Outcome) (got : Got) → asks_at o es event ≡ Settled outcome → outcome_at o es event got ≡ outcome
settled_given o es (Act command) outcome got is = ap (λ (a : Asked). given_of (restored_at o (resource_of command)) o.guarded (was_spent es) (own (resource_of command) es) a got) is
settled_given o es (Vault c) outcome got is = ap (λ (a : Asked). given_of (restored_at o c) o.guarded (was_spent es) (own c es) a got) is
settled_given o es (Flush c) outcome got is = ap (λ (a : Asked). given_of (restored_at o c) o.guarded (was_spent es) (own c es) a got) is
settled_given o es Quit outcome got is = cc

-- ---- vault stages
ok_given : (spent : Bool) (stage : Stage) (v : ℕ) → (stage ≡ Prepare → spent ≡ false) → stage_outcome spent stage v Done ≡ StageOk stage v
ok_given spent Prepare v un = ap (λ b. if b || false then Spent else StageOk Prepare v) (un refl)
ok_given spent Body v un = refl
ok_given spent OpenGate v un = refl
ok_given spent Fade v un = refl
ok_given spent Drop v un = refl

fault_given : (spent : Bool) (stage : Stage) (v : ℕ) → (stage ≡ Prepare → spent ≡ false) → stage_outcome spent stage v Failed ≡ StageFault stage v
fault_given spent Prepare v un = ap (λ b. if b || false then Spent else StageFault Prepare v) (un refl)
fault_given spent Body v un = refl
fault_given spent OpenGate v un = refl
fault_given spent Fade v un = refl
fault_given spent Drop v un = refl

spent_given : (spent : Bool) (v : ℕ) → stage_outcome spent Prepare v GotSpent ≡ Spent
spent_given true v = refl
spent_given false v = refl

due_of_asked : (c d : ℕ) (due : Option VaultWork) (stage : Stage) → vault_asks c due ≡ Device (VaultStage d stage) → stage_due due ≡ Some stage
due_of_asked c d None stage h = absurd cc
due_of_asked c d (Some w) stage h = cc

-- the stage that the vault is asked for is due
pub stage_asked : (o : Opening) (es : List Entry) (c d : ℕ) (stage : Stage) → asks_at o es (Vault c) ≡ Device (VaultStage d stage) → stage_due (vault_due o es c) ≡ Some stage
stage_asked o es c d stage is = due_of_asked c d (vault_due o es c) stage is

pub stage_done : (o : Opening) (es : List Entry) (c d : ℕ) (stage : Stage) → asks_at o es (Vault c) ≡ Device (VaultStage d stage) → (stage ≡ Prepare → was_spent es ≡ false) → outcome_at o es (Vault c) Done ≡ StageOk stage (version_due (vault_due o es c))
stage_done o es c d stage is un = vault_given o es c (VaultStage d stage) Done is ∙ ok_given (was_spent es) stage (version_due (vault_due o es c)) un

pub stage_failed : (o : Opening) (es : List Entry) (c d : ℕ) (stage : Stage) → asks_at o es (Vault c) ≡ Device (VaultStage d stage) → (stage ≡ Prepare → was_spent es ≡ false) → outcome_at o es (Vault c) Failed ≡ StageFault stage (version_due (vault_due o es c))
stage_failed o es c d stage is un = vault_given o es c (VaultStage d stage) Failed is ∙ fault_given (was_spent es) stage (version_due (vault_due o es c)) un

pub stage_spent : (o : Opening) (es : List Entry) (c d : ℕ) → asks_at o es (Vault c) ≡ Device (VaultStage d Prepare) → outcome_at o es (Vault c) GotSpent ≡ Spent
stage_spent o es c d is = vault_given o es c (VaultStage d Prepare) GotSpent is ∙ spent_given (was_spent es) (version_due (vault_due o es c))

work_done : (d : ℕ) (stage : Stage) → FitsWork (VaultStage d stage) Done × FitsWork (VaultStage d stage) Failed
work_done d Prepare = (tt, tt)
work_done d Body = (tt, tt)
work_done d OpenGate = (tt, tt)
work_done d Fade = (tt, tt)
work_done d Drop = (tt, tt)

-- what a stage is answered fits
pub fits_done : (asked : Asked) (d : ℕ) (stage : Stage) → asked ≡ Device (VaultStage d stage) → FitsAsked asked Done × FitsAsked asked Failed
fits_done asked d stage is = subst (λ (a : Asked). FitsAsked a Done × FitsAsked a Failed) (sym is) (work_done d stage)

pub fits_work : (asked : Asked) (work : Work) (got : Got) → asked ≡ Device work → FitsWork work got → FitsAsked asked got
fits_work asked work got is fits = subst (λ (a : Asked). FitsAsked a got) (sym is) fits

pub fits_nothing : (asked : Asked) (outcome : Outcome) → asked ≡ Settled outcome → FitsAsked asked Nothing
fits_nothing asked outcome is = subst (λ (a : Asked). FitsAsked a Nothing) (sym is) tt

-- while stamps are left none was answered Spent
pub unspent : (was : Bool) (stamp : ℕ) → (was ≡ true → stamp ≡ 2 ^ 64 - 1) → stamp < 2 ^ 64 - 1 → was ≡ false
unspent true stamp law left = absurd (let e = law refl in omega (arith, e, left))
unspent false stamp law left = refl

-- ---- what was found of a file
-- a failed call
abbrev pub is_failed : Got → Bool
is_failed Failed = true
is_failed got = false

-- what was found is what the file is
abbrev pub IsReadAs : Got → FileState → Type 0
IsReadAs (Found x) file = file.stat ≡ x
IsReadAs (Big s) file = file.stat ≡ Some s
IsReadAs (Read s bytes) file = (file.stat ≡ Some s) × (file.reading ≡ bytes)
IsReadAs got file = Unit {0}

-- What the answer to a question makes of an event: a fault only for a failed call, and what it says of the file is so.
pub record IsGiven (event : Event) (got : Got) (outcome : Outcome) : Type 0 where
  pub free : no_stamp outcome ≡ true
  pub fault : is_fault outcome ≡ true → is_failed got ≡ true
  pub found : (file : FileState) (saved : List Version) → IsReadAs got file → IsFound file event (got_content got) saved outcome

found_by : (c : ℕ) (conflict : Bool) (s : Stat) → IsGiven (Flush c) (Found (Some s)) (if conflict then Modified s else Checked (Some s))
found_by c true s = record { free = refl; fault = λ is. absurd cc; found = λ file saved is. is }
found_by c false s = record { free = refl; fault = λ is. absurd cc; found = λ file saved is. is }

check_given : (c d : ℕ) (over : Bool) (base : Option Stat) (got : Got) → FitsWork (Check d) got → IsGiven (Flush c) got (check_outcome over base got)
check_given c d over base Failed fits = record { free = refl; fault = λ is. refl; found = λ file saved is. tt }
check_given c d over base (Found None) fits = record { free = refl; fault = λ is. absurd cc; found = λ file saved is. is }
check_given c d over base (Found (Some s)) fits = found_by c (finds_conflict over base (Some s)) s
check_given c d over base Nothing fits = absurd fits
check_given c d over base Done fits = absurd fits
check_given c d over base GotSpent fits = absurd fits
check_given c d over base (Read s bytes) fits = absurd fits
check_given c d over base (Big s) fits = absurd fits

pub check_is_given : (o : Opening) (es : List Entry) (c d : ℕ) (got : Got) → asks_at o es (Flush c) ≡ Device (Check d) → FitsWork (Check d) got → IsGiven (Flush c) got (outcome_at o es (Flush c) got)
check_is_given o es c d got is fits =
    subst (IsGiven (Flush c) got) (sym (flush_given o es c (Check d) got is))
    (check_given c d (is_over (running (save_steps (restored_at o c) (own c es)))) (kept_now (restored_at o c) (own c es)) got fits)

-- the event reads a file
abbrev pub Reads : Event → Type 0
Reads (Act (Open c)) = Unit {0}
Reads (Act (Revert c)) = Unit {0}
Reads event = ⊥

too_large : (event : Event) (file : FileState) (s : Stat) (content : List ℕ) (saved : List Version) → Reads event → CONTENT_MAX < s.size → file.stat ≡ Some s → IsFound file event content saved TooLarge
too_large (Act (Open c)) file s content saved reads large is = subst IsTooLarge (sym is) large
too_large (Act (Revert c)) file s content saved reads large is = subst IsTooLarge (sym is) large
too_large (Act _) file s content saved reads large is = absurd reads
too_large _ file s content saved reads large is = absurd reads

read_by : (event : Event) (is_open : Bool) (s : Stat) (bytes : List ℕ) → IsGiven event (Read s bytes) (if is_open then Reverted s else Opened s)
read_by event true s bytes = record { free = refl; fault = λ is. absurd cc; found = λ file saved is. is }
read_by event false s bytes = record { free = refl; fault = λ is. absurd cc; found = λ file saved is. is }

read_given : (event : Event) (d : ℕ) (is_open : Bool) (got : Got) → Reads event → FitsWork (ReadFile d) got → IsGiven event got (read_outcome is_open got)
read_given event d is_open Failed reads fits = record { free = refl; fault = λ is. refl; found = λ file saved is. tt }
read_given event d is_open (Found None) reads fits = record { free = refl; fault = λ is. absurd cc; found = λ file saved is. is }
read_given event d is_open (Found (Some s)) reads fits = absurd fits
read_given event d is_open (Big s) reads fits = record { free = refl; fault = λ is. absurd cc; found = λ file saved is. too_large event file s [] saved reads fits is }
read_given event d is_open (Read s bytes) reads fits = read_by event is_open s bytes
read_given event d is_open Nothing reads fits = absurd fits
read_given event d is_open Done reads fits = absurd fits
read_given event d is_open GotSpent reads fits = absurd fits

pub read_is_given : (o : Opening) (es : List Entry) (command : Command) (d : ℕ) (got : Got) → Reads (Act command) → asks_at o es (Act command) ≡ Device (ReadFile d) → FitsWork (ReadFile d) got → IsGiven (Act command) got (outcome_at o es (Act command) got)
read_is_given o es command d got reads is fits =
    subst (IsGiven (Act command) got) (sym (act_given o es command (ReadFile d) got is))
    (read_given (Act command) d (registered (restored_at o (resource_of command)) (own (resource_of command) es)) got reads fits)

-- ---- what was read is whole
whole_read : (is_open : Bool) (s : Stat) (bytes : List ℕ) → length bytes ≡ s.size → IsWholeEntry (if is_open then Reverted s else Opened s) bytes
whole_read true s bytes is = is
whole_read false s bytes is = is

whole_found : (conflict : Bool) (s : Stat) → IsWholeEntry (if conflict then Modified s else Checked (Some s)) []
whole_found true s = tt
whole_found false s = tt

whole_stage : (spent done : Bool) (stage : Stage) (v : ℕ) → IsWholeEntry (if spent then Spent else if done then StageOk stage v else StageFault stage v) []
whole_stage true done stage v = tt
whole_stage false true stage v = tt
whole_stage false false stage v = tt

-- the work's answer
whole_work : (r : Option Backup) (guarded spent : Bool) (ds : List Deed) (work : Work) (got : Got) → FitsWork work got → IsWholeEntry (work_of r guarded spent ds work got) (got_content got)
whole_work r guarded spent ds (ReadFile c) Failed fits = tt
whole_work r guarded spent ds (ReadFile c) (Found x) fits = tt
whole_work r guarded spent ds (ReadFile c) (Big s) fits = tt
whole_work r guarded spent ds (ReadFile c) (Read s bytes) fits = whole_read (registered r ds) s bytes fits.0
whole_work r guarded spent ds (ReadFile c) Nothing fits = absurd fits
whole_work r guarded spent ds (ReadFile c) Done fits = absurd fits
whole_work r guarded spent ds (ReadFile c) GotSpent fits = absurd fits
whole_work r guarded spent ds OutsideWrite Failed fits = tt
whole_work r guarded spent ds OutsideWrite Done fits = tt
whole_work r guarded spent ds OutsideWrite Nothing fits = absurd fits
whole_work r guarded spent ds OutsideWrite GotSpent fits = absurd fits
whole_work r guarded spent ds OutsideWrite (Found x) fits = absurd fits
whole_work r guarded spent ds OutsideWrite (Big s) fits = absurd fits
whole_work r guarded spent ds OutsideWrite (Read s bytes) fits = absurd fits
whole_work r guarded spent ds (Check c) Failed fits = tt
whole_work r guarded spent ds (Check c) (Found None) fits = tt
whole_work r guarded spent ds (Check c) (Found (Some s)) fits = whole_found (finds_conflict (is_over (running (save_steps r ds))) (kept_now r ds) (Some s)) s
whole_work r guarded spent ds (Check c) Nothing fits = absurd fits
whole_work r guarded spent ds (Check c) Done fits = absurd fits
whole_work r guarded spent ds (Check c) GotSpent fits = absurd fits
whole_work r guarded spent ds (Check c) (Big s) fits = absurd fits
whole_work r guarded spent ds (Check c) (Read s bytes) fits = absurd fits
whole_work r guarded spent ds (Write c) Failed fits = tt
whole_work r guarded spent ds (Write c) (Found x) fits = tt
whole_work r guarded spent ds (Write c) Nothing fits = absurd fits
whole_work r guarded spent ds (Write c) Done fits = absurd fits
whole_work r guarded spent ds (Write c) GotSpent fits = absurd fits
whole_work r guarded spent ds (Write c) (Big s) fits = absurd fits
whole_work r guarded spent ds (Write c) (Read s bytes) fits = absurd fits
whole_work r guarded spent ds (VaultStage c stage) Failed fits = whole_stage (same_stage stage Prepare && (spent || false)) false stage (version_due (due_vault r guarded ds))
whole_work r guarded spent ds (VaultStage c stage) Done fits = whole_stage (same_stage stage Prepare && (spent || false)) true stage (version_due (due_vault r guarded ds))
whole_work r guarded spent ds (VaultStage c stage) GotSpent fits = whole_stage (same_stage stage Prepare && (spent || true)) false stage (version_due (due_vault r guarded ds))
whole_work r guarded spent ds (VaultStage c stage) Nothing fits = tt_of c stage fits
  where
    tt_of : (c : ℕ) (stage : Stage) → FitsWork (VaultStage c stage) Nothing → IsWholeEntry (stage_outcome spent stage (version_due (due_vault r guarded ds)) Nothing) []
    tt_of c Prepare fits = absurd fits
    tt_of c Body fits = absurd fits
    tt_of c OpenGate fits = absurd fits
    tt_of c Fade fits = absurd fits
    tt_of c Drop fits = absurd fits
whole_work r guarded spent ds (VaultStage c stage) (Found x) fits = absurd (none_of c stage fits)
  where
    none_of : (c : ℕ) (stage : Stage) → FitsWork (VaultStage c stage) (Found x) → ⊥
    none_of c Prepare fits = fits
    none_of c Body fits = fits
    none_of c OpenGate fits = fits
    none_of c Fade fits = fits
    none_of c Drop fits = fits
whole_work r guarded spent ds (VaultStage c stage) (Big s) fits = absurd (none_of c stage fits)
  where
    none_of : (c : ℕ) (stage : Stage) → FitsWork (VaultStage c stage) (Big s) → ⊥
    none_of c Prepare fits = fits
    none_of c Body fits = fits
    none_of c OpenGate fits = fits
    none_of c Fade fits = fits
    none_of c Drop fits = fits
whole_work r guarded spent ds (VaultStage c stage) (Read s bytes) fits = absurd (none_of c stage fits)
  where
    none_of : (c : ℕ) (stage : Stage) → FitsWork (VaultStage c stage) (Read s bytes) → ⊥
    none_of c Prepare fits = fits
    none_of c Body fits = fits
    none_of c OpenGate fits = fits
    none_of c Fade fits = fits
    none_of c Drop fits = fits

whole_asked : (r : Option Backup) (guarded spent : Bool) (ds : List Deed) (event : Event) (asked : Asked) (got : Got) → IsMildAsked event asked → FitsAsked asked got → IsWholeEntry (given_of r guarded spent ds asked got) (got_content got)
whole_asked r guarded spent ds event (Settled outcome) Nothing mild fits = mild.whole
whole_asked r guarded spent ds event (Settled outcome) Failed mild fits = absurd fits
whole_asked r guarded spent ds event (Settled outcome) Done mild fits = absurd fits
whole_asked r guarded spent ds event (Settled outcome) GotSpent mild fits = absurd fits
whole_asked r guarded spent ds event (Settled outcome) (Found x) mild fits = absurd fits
whole_asked r guarded spent ds event (Settled outcome) (Big s) mild fits = absurd fits
whole_asked r guarded spent ds event (Settled outcome) (Read s bytes) mild fits = absurd fits
whole_asked r guarded spent ds event (Device work) got mild fits = whole_work r guarded spent ds work got fits

quit_whole : (lowest : Option ℕ) (got : Got) → FitsAsked (Settled (quit_outcome lowest)) got → IsWholeEntry (quit_outcome lowest) (got_content got)
quit_whole None got fits = tt
quit_whole (Some c) got fits = tt

-- What an event read is as long as its stat says.
pub given_is_whole : (o : Opening) (es : List Entry) (event : Event) (got : Got) → FitsAsked (asks_at o es event) got → IsWholeEntry (outcome_at o es event got) (got_content got)
given_is_whole o es (Act command) got fits = whole_asked (restored_at o (resource_of command)) o.guarded (was_spent es) (own (resource_of command) es) (Act command) (asks_at o es (Act command)) got (asked_is_mild o es (Act command)) fits
given_is_whole o es (Vault c) got fits = whole_asked (restored_at o c) o.guarded (was_spent es) (own c es) (Vault c) (asks_at o es (Vault c)) got (asked_is_mild o es (Vault c)) fits
given_is_whole o es (Flush c) got fits = whole_asked (restored_at o c) o.guarded (was_spent es) (own c es) (Flush c) (asks_at o es (Flush c)) got (asked_is_mild o es (Flush c)) fits
given_is_whole o es Quit got fits = quit_whole (lowest o (is_unsafe o es)) got fits
