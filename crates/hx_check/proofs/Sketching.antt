-- A sketch goes with the deeds of its resource.
use Rattle.std.specs.Prelude.{◌≡◌, ℕ, ◌+◌, ◌-◌, Bool, true, false, ◌||◌, List, [], ◌∷◌, if◌then◌else◌, Option, Some, None, option_map, refl}
use Rattle.std.proofs.Common.{ap, sym, ◌∙◌, arith}
use Rattle.hx_events.specs.declared.backup.Backup.{Backup}
use Rattle.hx_events.specs.declared.event.Command.TheVariants.{Save}
use Rattle.hx_events.specs.declared.event.Event.{Event}
use Rattle.hx_events.specs.declared.event.Event.TheVariants.{Act}
use Rattle.hx_events.specs.declared.event.Stage.TheVariants.{Prepare, Body, Open as OpenGate}
use Rattle.hx_events.specs.declared.outcome.Outcome.{Outcome}
use Rattle.hx_events.specs.declared.outcome.Outcome.TheVariants.{Joined, Clean, Queued, Started, StageOk, StageFault}
use Rattle.hx_rules.specs.declared.saves.Asked.TheVariants.{Joined as SaidJoined, Clean as SaidClean, Queued as SaidQueued, Started as SaidStarted}
use Rattle.hx_rules.specs.Entries.{Deed, deed}
use Rattle.hx_rules.specs.Versions.{version_at, versions, last_version}
use Rattle.hx_rules.specs.Copies.{kept, dirty}
use Rattle.hx_rules.specs.Saves.{SaveStep, running, queued, asks, steps_after, save_steps}
use Rattle.hx_rules.specs.Backups.{Begun, begun, begun_after, prepared, blocks_of, opened, halted, faded, one_block_more}
use Rattle.hx_report.specs.Outlines.{outline}
use Rattle.hx_report.proofs.Outlining.{outline_step}
use Rattle.hx_check.specs.Sizes.{sizes_of, size_at}
use Rattle.hx_check.specs.Sketches.{backing, backing_after, first_sketch, one_block_less, run_after, short, sketch, sketch_of, sketch_after, sketch_with}
use Rattle.hx_check.proofs.Sizing.{size_is, sizes_step}

-- ---- the running save
asks_joined : (event : Event) (place last : ℕ) (before : Bool) (steps : List SaveStep) → running (asks event place last before SaidJoined steps) ≡ running steps
asks_joined (Act (Save c force over)) place last before steps = refl
asks_joined (Act _) place last before steps = refl
asks_joined _ place last before steps = refl

asks_clean : (event : Event) (place last : ℕ) (before : Bool) (steps : List SaveStep) → running (asks event place last before SaidClean steps) ≡ running steps
asks_clean (Act (Save c force over)) place last before steps = refl
asks_clean (Act _) place last before steps = refl
asks_clean _ place last before steps = refl

asks_queued : (event : Event) (place last : ℕ) (before : Bool) (steps : List SaveStep) → running (asks event place last before SaidQueued steps) ≡ running steps
asks_queued (Act (Save c force over)) place last before steps = refl
asks_queued (Act _) place last before steps = refl
asks_queued _ place last before steps = refl

asks_started : (event : Event) (v place last : ℕ) (before after : Bool) (steps : List SaveStep) → running (asks event place last before SaidStarted steps) ≡ run_after (Started v) event last after (queued steps) (running steps)
asks_started (Act (Save c force over)) v place last before after steps = refl
asks_started (Act _) v place last before after steps = refl
asks_started _ v place last before after steps = refl

run_step : (outcome : Outcome) (event : Event) (place last : ℕ) (before after : Bool) (steps : List SaveStep) → running (steps_after outcome event place last before after steps) ≡ run_after outcome event last after (queued steps) (running steps)
run_step Joined event place last before after steps = asks_joined event place last before steps
run_step Clean event place last before after steps = asks_clean event place last before steps
run_step Queued event place last before after steps = asks_queued event place last before steps
run_step (Started v) event place last before after steps = asks_started event v place last before after steps
run_step _ event place last before after steps = refl

-- ---- the begun backup
or_false : (b : Bool) → (b || false) ≡ b
or_false true = refl
or_false false = refl

shortened : (b : Bool) (was : Option Begun) → option_map short (if b then was else None) ≡ (if b then option_map short was else None)
shortened true was = refl
shortened false was = refl

one_less : (was : Option Begun) → option_map short (one_block_more was) ≡ one_block_less (option_map short was)
one_less None = refl
one_less (Some b) = let e : blocks_of b.size - (b.blocks + 1) ≡ blocks_of b.size - b.blocks - 1 = omega arith in ap (λ n. Some (backing b.snapshot.version n)) e

prepared_is : (r : Option Backup) (v : ℕ) (ds : List Deed) → short (prepared r v ds) ≡ backing v (blocks_of (size_at v (sizes_of (versions r ds))))
prepared_is r v ds =
    let e : (n : ℕ) → n - 0 ≡ n = λ n. omega arith in
    ap (backing v) (e (blocks_of (version_at v (versions r ds)).size) ∙ ap blocks_of (size_is v (versions r ds)))

backing_step : (r : Option Backup) (outcome : Outcome) (is_dirty : Bool) (ds : List Deed) (was : Option Begun)
    → option_map short (begun_after outcome (is_dirty || false) (λ v. prepared r v ds) was) ≡ backing_after outcome is_dirty (sizes_of (versions r ds)) (option_map short was)
backing_step r (StageOk Prepare v) is_dirty ds was = ap Some (prepared_is r v ds)
backing_step r (StageOk OpenGate v) is_dirty ds was = refl
backing_step r (StageOk Body v) is_dirty ds was =
    ap (λ b. option_map short (if b then one_block_more was else None)) (or_false is_dirty) ∙ (shortened is_dirty (one_block_more was) ∙ ap (λ x. if is_dirty then x else None) (one_less was))
backing_step r (StageFault s v) is_dirty ds was = refl
backing_step r (StageOk s v) is_dirty ds was = ap (λ b. option_map short (if b then was else None)) (or_false is_dirty) ∙ shortened is_dirty was
backing_step r _ is_dirty ds was = ap (λ b. option_map short (if b then was else None)) (or_false is_dirty) ∙ shortened is_dirty was

-- ---- the whole
pub sketch_first : (r : Option Backup) → first_sketch r ≡ sketch r []
sketch_first None = refl
sketch_first (Some b) = refl

pub sketch_step : (r : Option Backup) (place : ℕ) (event : Event) (outcome : Outcome) (content : List ℕ) (ds : List Deed) → sketch_after event outcome (sketch r ds) ≡ sketch r (deed place event outcome content ∷ ds)
sketch_step r place event outcome content ds =
    let d : Deed = deed place event outcome content in
    ap (λ next. sketch_with event outcome next (sketch r ds)) (outline_step r place event outcome content ds)
    ∙ (λ j. sketch_of (outline r (d ∷ ds)) (kept r (d ∷ ds))
    (sym (sizes_step r place event outcome content ds) j)
    (sym (run_step outcome event place (last_version r ds) (dirty r ds) (dirty r (d ∷ ds)) (save_steps r ds)) j)
    (sym (backing_step r outcome (dirty r (d ∷ ds)) ds (begun r false ds)) j)
    (opened r (d ∷ ds)) (halted (d ∷ ds)) (faded (d ∷ ds)))
