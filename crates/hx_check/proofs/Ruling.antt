-- What a sketch allows is what the rules allow.
use Rattle.std.specs.Prelude.{◌≡◌, ℕ, ◌+◌, ◌-◌, ◌==◌, ◌<◌, ◌≤◌, ◌^◌, nat_lt, not, Bool, true, false, ◌&&◌, ◌||◌, List, length, if◌then◌else◌, Option, Some, None, option_map, refl}
use Rattle.std.proofs.Common.{ap, sym, ◌∙◌, arith, lit<}
use Rattle.std.proofs.lemmas.Bool.Decides.{nat_tests}
use Rattle.hx_events.specs.declared.backup.TheConstants.{CONTENT_MAX}
use Rattle.hx_events.specs.declared.backup.Backup.{Backup}
use Rattle.hx_events.specs.declared.event.Command.TheVariants.{Open, Create, Edit, Undo, Redo, Save, Revert, Close, Outside}
use Rattle.hx_events.specs.declared.event.Event.{Event}
use Rattle.hx_events.specs.declared.event.Event.TheVariants.{Act, Vault, Flush, Quit}
use Rattle.hx_events.specs.declared.event.Stage.TheVariants.{Prepare, Body, Open as OpenGate, Fade, Drop}
use Rattle.hx_events.specs.declared.life.Entry.{Entry}
use Rattle.hx_events.specs.declared.outcome.Outcome.{Outcome}
use Rattle.hx_events.specs.declared.outcome.Outcome.TheVariants.{Edited}
use Rattle.hx_rules.specs.declared.saves.Running.{Running}
use Rattle.hx_rules.specs.Entries.{Deed, own}
use Rattle.hx_rules.specs.Versions.{last_version, versions}
use Rattle.hx_rules.specs.Copies.{registered, dirty, kept, is_number}
use Rattle.hx_rules.specs.Saves.{running, save_steps}
use Rattle.hx_rules.specs.Backups.{Begun, Snapshot, begun, blocks_of, done, opened, halted, faded, safe}
use Rattle.hx_rules.specs.Due.{Check, Write, vault_work, first_of, work_if, next_work, due_vault, due_save, save_work, running_version}
use Rattle.hx_rules.specs.Legal.{Opening, restored_at, is_row, open_row, create_row, edit_row, vault_row, flush_row, is_over, lacks_pair, was_spent, deletes_past, grows_past, vault_due}
use Rattle.hx_report.specs.Outlines.{named}
use Rattle.hx_report.specs.Tails.{version_of}
use Rattle.hx_check.specs.Sizes.{sizes_of, size_at}
use Rattle.hx_check.specs.Sketches.{FitsSize, backing_work, due_in, edited_size, row_in, save_due_in, short, sketch}
use Rattle.hx_check.specs.Judging.{takes_pair}
use Rattle.hx_check.proofs.Sizing.{last_size}

-- ---- due stages
left_is : (n m : ℕ) → nat_lt 0 (n - m) ≡ nat_lt m n
left_is n m = grind (arith, nat_tests)

begun_work : (b : Option Begun) → backing_work (option_map short b) ≡ next_work b
begun_work None = refl
begun_work (Some b) = ap (λ t. Some (vault_work (if t then Body else OpenGate) b.snapshot.version)) (left_is (blocks_of b.size) b.blocks)

pub backed_is : (n : ℕ) (s : Option Snapshot) → is_number n (version_of s) ≡ (elim s [ None ↦ false | Some b ↦ b.version == n ])
backed_is n None = refl
backed_is n (Some b) = refl

or_false : (b : Bool) → (b || false) ≡ b
or_false true = refl
or_false false = refl

and_true : (b : Bool) → (b && true) ≡ b
and_true true = refl
and_true false = refl

due_is : (r : Option Backup) (ds : List Deed) → due_in (sketch r ds) ≡ due_vault r false ds
due_is r ds = λ j.
    if halted ds then None else
    first_of (begun_work (begun r false ds) j)
    (first_of (work_if (dirty r ds && not (backed_is (last_version r ds) (done r ds) j)) (vault_work Prepare (last_version r ds)))
    (work_if (discard (dirty r ds) (opened r ds) j) (vault_work (if faded ds then Drop else Fade) 0)))
  where
    discard : (d o : Bool) → (not d && o) ≡ (not (d || false) && o && true)
    discard true o = refl
    discard false true = refl
    discard false false = refl

flush_is : (r : Option Backup) (ds : List Deed) (is_safe is_halted : Bool) (run : Option Running) → save_due_in run ≡ save_work false is_safe is_halted run
flush_is r ds is_safe is_halted None = refl
flush_is r ds is_safe is_halted (Some run) = step run.checked
  where
    step : (b : Bool) → (if b then Some (Write run.version) else Some Check) ≡ (if not b then Some Check else Some (Write run.version))
    step true = refl
    step false = refl

-- ---- rows
lacks_is : (b l : Bool) → b ≡ true → (b && l) ≡ l
lacks_is true l h = refl
lacks_is false l h = absurd cc

-- the row of an event of the resource c
pub row_is : (o : Opening) (es : List Entry) (event : Event) (outcome : Outcome) (c : ℕ) → o.guarded ≡ false → named event ≡ Some c
    → row_in (takes_pair event && lacks_pair o es c) (was_spent es) (sketch (restored_at o c) (own c es)) event outcome ≡ is_row o es event outcome
row_is o es (Act (Open k)) outcome c plain h = let e : k ≡ c = cc in ap (λ i. open_row (registered (restored_at o i) (own i es)) (lacks_pair o es i) outcome) (sym e)
row_is o es (Act (Create k)) outcome c plain h = let e : k ≡ c = cc in ap (λ i. create_row (registered (restored_at o i) (own i es)) (lacks_pair o es i) (last_version (restored_at o i) (own i es)) outcome) (sym e)
row_is o es (Act (Edit k off del text)) outcome c plain h =
    let e : k ≡ c = cc in
    ap (λ s. edit_row (registered (restored_at o c) (own c es)) s off del (length text) (last_version (restored_at o c) (own c es)) outcome) (sym (last_size (restored_at o c) (own c es)))
    ∙ ap (λ i. is_row o es (Act (Edit i off del text)) outcome) (sym e)
row_is o es (Act (Undo k)) outcome c plain h = let e : k ≡ c = cc in ap (λ i. is_row o es (Act (Undo i)) outcome) (sym e)
row_is o es (Act (Redo k)) outcome c plain h = let e : k ≡ c = cc in ap (λ i. is_row o es (Act (Redo i)) outcome) (sym e)
row_is o es (Act (Save k force over)) outcome c plain h = let e : k ≡ c = cc in ap (λ i. is_row o es (Act (Save i force over)) outcome) (sym e)
row_is o es (Act (Revert k)) outcome c plain h = let e : k ≡ c = cc in ap (λ i. is_row o es (Act (Revert i)) outcome) (sym e)
row_is o es (Act (Close k)) outcome c plain h = let e : k ≡ c = cc in ap (λ i. is_row o es (Act (Close i)) outcome) (sym e)
row_is o es (Act (Outside k mtime text)) outcome c plain h = refl
row_is o es (Vault k) outcome c plain h =
    let e : k ≡ c = cc in
    ap (λ due. vault_row (was_spent es) due outcome) (due_is (restored_at o c) (own c es) ∙ ap (λ g. due_vault (restored_at o c) g (own c es)) (sym plain))
    ∙ ap (λ i. vault_row (was_spent es) (vault_due o es i) outcome) (sym e)
row_is o es (Flush k) outcome c plain h =
    let e : k ≡ c = cc in
    let r = restored_at o c in
    let ds = own c es in
    ap (λ due. flush_row due (is_over (running (save_steps r ds))) (kept r ds) outcome)
    (flush_is r ds (safe (running_version r false ds) ds) (halted ds) (running (save_steps r ds)) ∙ ap (λ g. due_save r g ds) (sym plain))
    ∙ ap (λ i. is_row o es (Flush i) outcome) (sym e)
row_is o es Quit outcome c plain h = absurd cc

-- ---- sizes that fit
max_fits : CONTENT_MAX < 2 ^ 64
max_fits = lit< tt

fits : (b d g x : Bool) (n : ℕ) → (b && not d && not g && x) ≡ true → g ≡ nat_lt CONTENT_MAX n → n < 2 ^ 64
fits true false false x n row is = let le : n ≤ CONTENT_MAX = grind (arith, nat_tests) in omega (arith, le, max_fits)
fits true true g x n row is = absurd cc
fits true false true x n row is = absurd cc
fits false d g x n row is = absurd cc

-- an allowed edit makes no content too long
pub allowed_fits : (r : Option Backup) (ds : List Deed) (lacks spent : Bool) (event : Event) (outcome : Outcome) → row_in lacks spent (sketch r ds) event outcome ≡ true → FitsSize event outcome (sketch r ds)
allowed_fits r ds lacks spent (Act (Edit c off del text)) (Edited n) row =
    let size = size_at (last_version r ds) (sizes_of (versions r ds)) in
    fits (registered r ds) (deletes_past size off del) (grows_past size del (length text)) (n == last_version r ds + 1) (edited_size (Act (Edit c off del text)) size) row refl
allowed_fits r ds lacks spent (Act _) (Edited n) row = absurd cc
allowed_fits r ds lacks spent (Vault c) (Edited n) row = absurd cc
allowed_fits r ds lacks spent (Flush c) (Edited n) row = absurd cc
allowed_fits r ds lacks spent Quit (Edited n) row = absurd cc
allowed_fits r ds lacks spent event outcome row = tt
