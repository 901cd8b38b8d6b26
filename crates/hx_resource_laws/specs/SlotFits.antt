-- What is kept of a resource fits its deeds after each outcome.
use Rattle.std.specs.Prelude.{ℕ, ◌≡◌, ◌⊎◌, ◌+◌, ◌==◌, nat_le, Bool, true, false, ◌||◌, List, [], ◌∷◌, length, Option, Some, None, is_some, option_map, IfSome, refl}
use Rattle.std.proofs.Common.{arith, ap, sym, ◌∙◌, cond, inl, inr}
use Rattle.std.proofs.lemmas.Bool.Decides.{nat_tests}
use Rattle.hx_events.specs.declared.backup.Backup.{Backup}
use Rattle.hx_events.specs.declared.event.Command.TheVariants.{Save}
use Rattle.hx_events.specs.declared.event.Event.{Event}
use Rattle.hx_events.specs.declared.event.Event.TheVariants.{Act}
use Rattle.hx_events.specs.declared.event.Stage.TheVariants.{Prepare, Body, Open, Drop}
use Rattle.hx_events.specs.declared.outcome.Outcome.{Outcome}
use Rattle.hx_events.specs.declared.outcome.Outcome.TheVariants.{Joined, Clean, Queued, Started, StageOk, StageFault, Checked, Modified, CheckFault, Saved, WriteFault, Unguarded}
use Rattle.hx_rules.specs.declared.saves.Asked.{Asked}
use Rattle.hx_rules.specs.declared.saves.Running.{Running}
use Rattle.hx_rules.specs.Entries.{Deed}
use Rattle.hx_rules.specs.Versions.{Version, version, version_at, last_version, versions}
use Rattle.hx_rules.specs.Copies.{kept}
use Rattle.hx_rules.specs.Saves.{SaveStep, steps_after, asks, run_checked}
use Rattle.hx_rules.specs.Due.{run_version}
use Rattle.hx_rules.specs.Backups.{Snapshot, begun_of, snapshot, begun_after, begun, prepared, done_after, taken, safe_after}
use Rattle.hx_rules_laws.specs.TrailLaws.{last_version_counts}
use Rattle.hx_seq.specs.Keeps.{Seq, Keeps, stand_in}
use Rattle.hx_seq.specs.Keeping.{keeps_asked, keeps_finished}
use Rattle.hx_copy.specs.Copies.{Copy}
use Rattle.hx_resource.specs.Kept.{Kept, seq_after, asks_seq, content_in, base_in, begins, content_at, done_version_after, safe_to_after, is_safe_to, later}
use Rattle.hx_resource_laws.specs.Fits.{whole, IsVersion, FitsCopy, Fits}

-- the sequencer goes with the steps
asks_keep : (event : Event) (place last : ℕ) (before : Bool) (asked : Asked) (steps : List SaveStep) (s : Seq) → Keeps steps s → stand_in place s.tickets ≡ None → Keeps (asks event place last before asked steps) (asks_seq event place last asked s)
asks_keep (Act (Save c force over)) place last before asked steps s keeps new = keeps_asked steps s _ place last before force over asked keeps new refl refl refl
asks_keep (Act _) place last before asked steps s keeps new = keeps
asks_keep _ place last before asked steps s keeps new = keeps

pub steps_keep : (outcome : Outcome) (event : Event) (place last : ℕ) (before after : Bool) (steps : List SaveStep) (s : Seq) → Keeps steps s → stand_in place s.tickets ≡ None → Keeps (steps_after outcome event place last before after steps) (seq_after outcome event place last after s)
steps_keep Joined event place last before after steps s keeps new = asks_keep event place last before _ steps s keeps new
steps_keep Clean event place last before after steps s keeps new = asks_keep event place last before _ steps s keeps new
steps_keep Queued event place last before after steps s keeps new = asks_keep event place last before _ steps s keeps new
steps_keep (Started v) event place last before after steps s keeps new = asks_keep event place last before _ steps s keeps new
steps_keep (Checked x) event place last before after steps s keeps new = record { run = ap run_checked keeps.run; queue = keeps.queue; tickets = keeps.tickets }
steps_keep CheckFault event place last before after steps s keeps new = keeps_finished steps s _ last after _ keeps refl refl refl
steps_keep (Modified x) event place last before after steps s keeps new = keeps_finished steps s _ last after _ keeps refl refl refl
steps_keep (WriteFault v) event place last before after steps s keeps new = keeps_finished steps s _ last after _ keeps refl refl refl
steps_keep (Unguarded v) event place last before after steps s keeps new = keeps_finished steps s _ last after _ keeps refl refl refl
steps_keep (Saved v x) event place last before after steps s keeps new = keeps_finished steps s _ last after _ keeps refl refl refl
steps_keep _ event place last before after steps s keeps new = keeps

-- the last version is the newest content
newest_at : (last : ℕ) (vs : List Version) → length vs ≡ last → version_at last vs ≡ (elim vs [ [] ↦ version [] 0 | v ∷ rest ↦ v ])
newest_at last [] is = refl
newest_at last (v ∷ vs) is = ap (λ b. cond b v (version_at last vs)) (same (length vs) last (omega (arith, is)))
  where
    same : (n i : ℕ) → i ≡ n + 1 → (n + 1 == i) ≡ true
    same n i e = grind (arith, nat_tests)

pub newest_is : (r : Option Backup) (ds : List Deed) (copy : Option Copy) → is_some copy ≡ true → IfSome copy (FitsCopy r ds) → version_at (last_version r ds) (versions r ds) ≡ whole (content_in copy)
newest_is r ds None there fits = absurd cc
newest_is r ds (Some c) there fits = newest_at (last_version r ds) (versions r ds) (last_version_counts r ds) ∙ fits.now

-- what a Prepare of the version v begins is what the deeds say
pub record KnowsVersion (v : ℕ) (s : Kept) : Type 0 where
  pub there : is_some s.copy ≡ true
  pub which : (v ≡ s.last) ⊎ ((is_some s.seq.run ≡ true) × (v ≡ run_version s.seq.run))

base_is : (r : Option Backup) (ds : List Deed) (copy : Option Copy) → is_some copy ≡ true → IfSome copy (FitsCopy r ds) → base_in copy ≡ kept r ds
base_is r ds None there fits = absurd cc
base_is r ds (Some c) there fits = fits.base

saving_is : (r : Option Backup) (ds : List Deed) (v last : ℕ) (run : Option Running) (there : Bool) (saving : List ℕ) → is_some run ≡ true → v ≡ run_version run → IfSome run (λ x. (there ≡ true) × IsVersion last (versions r ds) (record { id = x.version; content = saving })) → version_at v (versions r ds) ≡ whole saving
saving_is r ds v last None there saving some is fits = absurd cc
saving_is r ds v last (Some x) there saving some is fits = ap (λ n. version_at n (versions r ds)) is ∙ fits.1.content

content_is : (r : Option Backup) (guarded : Bool) (ds : List Deed) (v : ℕ) (s : Kept) → KnowsVersion v s → Fits r guarded ds s → version_at v (versions r ds) ≡ whole (content_at v s)
content_is r guarded ds v s knows fits = step (v == s.last) refl knows.which
  where
    last_one : v ≡ s.last → version_at v (versions r ds) ≡ whole (content_in s.copy)
    last_one is = ap (λ n. version_at n (versions r ds)) (is ∙ fits.last) ∙ newest_is r ds s.copy knows.there fits.copy

    same : (b : Bool) → (v == s.last) ≡ b → b ≡ true → v ≡ s.last
    same b h is = grind (arith, nat_tests)

    other : (b : Bool) → (v == s.last) ≡ b → b ≡ false → v ≡ s.last → ⊥
    other b h is e = grind (arith, nat_tests)

    step : (b : Bool) → (v == s.last) ≡ b → (v ≡ s.last) ⊎ ((is_some s.seq.run ≡ true) × (v ≡ run_version s.seq.run)) → version_at v (versions r ds) ≡ whole (cond b (content_in s.copy) s.saving)
    step true h which = last_one (same true h refl)
    step false h (inl e) = absurd (other false h refl e)
    step false h (inr e) = saving_is r ds v (last_version r ds) s.seq.run (is_some s.copy) s.saving e.0 e.1 fits.run

begins_is : (r : Option Backup) (guarded : Bool) (ds : List Deed) (v : ℕ) (s : Kept) → KnowsVersion v s → Fits r guarded ds s → begins v s ≡ prepared r v ds
begins_is r guarded ds v s knows fits =
    ap (λ b. begun_of (snapshot v b (content_at v s)) (length (content_at v s)) 0) (base_is r ds s.copy knows.there fits.copy)
    ∙ ap (λ x. begun_of (snapshot v (kept r ds) x.content) x.size 0) (sym (content_is r guarded ds v s knows fits))

abbrev pub FitsPrepare : Outcome → Kept → Type 0
FitsPrepare (StageOk Prepare v) s = KnowsVersion v s
FitsPrepare _ s = Unit {0}

pub begun_same : (r : Option Backup) (guarded : Bool) (ds : List Deed) (outcome : Outcome) (s : Kept) (is_wanted : Bool) → FitsPrepare outcome s → Fits r guarded ds s → begun_after outcome is_wanted (λ v. begins v s) s.begun ≡ begun_after outcome is_wanted (λ v. prepared r v ds) (begun r guarded ds)
begun_same r guarded ds (StageOk Prepare v) s is_wanted knows fits = ap (λ b. Some b) (begins_is r guarded ds v s knows fits)
begun_same r guarded ds (StageOk Body v) s is_wanted knows fits = ap (begun_after (StageOk Body v) is_wanted (λ v. prepared r v ds)) fits.begun
begun_same r guarded ds (StageOk Open v) s is_wanted knows fits = refl
begun_same r guarded ds (StageOk stage v) s is_wanted knows fits = ap (begun_after (StageOk stage v) is_wanted (λ v. prepared r v ds)) fits.begun
begun_same r guarded ds (StageFault stage v) s is_wanted knows fits = refl
begun_same r guarded ds outcome s is_wanted knows fits = ap (begun_after outcome is_wanted (λ v. prepared r v ds)) fits.begun

pub done_same : (r : Option Backup) (ds : List Deed) (outcome : Outcome) (was : Option Snapshot) → done_version_after outcome (option_map (λ b. b.version) was) ≡ option_map (λ b. b.version) (done_after outcome (λ v. taken r v ds) was)
done_same r ds (StageOk Open v) was = refl
done_same r ds (StageOk Drop v) was = refl
done_same r ds _ was = refl

later_safe : (v w : ℕ) (was : Option ℕ) → nat_le v (later w was) ≡ (nat_le v w || is_safe_to v was)
later_safe v w None = step (nat_le v w)
  where
    step : (b : Bool) → b ≡ (b || false)
    step true = refl
    step false = refl
later_safe v w (Some m) = grind (arith, nat_tests)

pub safe_same : (v : ℕ) (outcome : Outcome) (was : Option ℕ) → is_safe_to v (safe_to_after outcome was) ≡ safe_after v outcome (is_safe_to v was)
safe_same v (StageOk Open w) was = later_safe v w was
safe_same v (StageOk Drop w) was = refl
safe_same v (StageFault Drop w) was = refl
safe_same v _ was = refl
