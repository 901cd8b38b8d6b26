-- How the marks of a resource's backups go together, whatever its history is.
use Rattle.std.specs.Prelude.{◌≡◌, ℕ, Bool, true, false, List, [], ◌∷◌, if◌then◌else◌, Option, Some, None, is_some, refl}
use Rattle.hx_events.specs.declared.backup.Backup.{Backup}
use Rattle.hx_events.specs.declared.event.Stage.TheVariants.{Prepare, Body, Open, Fade, Drop}
use Rattle.hx_events.specs.declared.outcome.Outcome.{Outcome}
use Rattle.hx_events.specs.declared.outcome.Outcome.TheVariants.{StageOk, StageFault, Spent}
use Rattle.hx_rules.specs.Entries.{Deed}
use Rattle.hx_rules.specs.Backups.{Snapshot, Begun, taken, done, done_after, tried, tried_after, opened, opened_after, faded, faded_after, begun, begun_after, prepared, wanted, one_block_more}

-- A begun backup has taken the failed one's place: none may come back.
abbrev pub BegunEndsTried : Type 0
BegunEndsTried = (restored : Option Backup) (guarded : Bool) (ds : List Deed) → is_some (begun restored guarded ds) ≡ true → tried restored ds ≡ None

-- After a completed Fade no failed backup may come back.
abbrev pub FadedEndsTried : Type 0
FadedEndsTried = (restored : Option Backup) (ds : List Deed) → faded ds ≡ true → tried restored ds ≡ None

-- Where a backup is completed, a gate was opened since the last completed Drop.
abbrev pub DoneIsOpened : Type 0
DoneIsOpened = (restored : Option Backup) (ds : List Deed) → is_some (done restored ds) ≡ true → opened restored ds ≡ true

ends : (w : Bool) (b : Option Begun) (t : Option Snapshot) → (is_some b ≡ true → t ≡ None) → is_some (if w then b else None) ≡ true → t ≡ None
ends true b t ih h = ih h
ends false b t ih h = absurd cc

more : (b : Option Begun) → is_some (one_block_more b) ≡ true → is_some b ≡ true
more None h = h
more (Some b) h = refl

begun_tried : (o : Outcome) (w : Bool) (prepares : ℕ → Begun) (opens : ℕ → Snapshot) (b : Option Begun) (t : Option Snapshot) → (is_some b ≡ true → t ≡ None) → is_some (begun_after o w prepares b) ≡ true → tried_after o opens t ≡ None
begun_tried (StageOk Prepare v) w prepares opens b t ih h = refl
begun_tried (StageOk Open v) w prepares opens b t ih h = refl
begun_tried (StageOk Fade v) w prepares opens b t ih h = refl
begun_tried (StageOk Body v) w prepares opens b t ih h = ends w (one_block_more b) t (λ m. ih (more b m)) h
begun_tried (StageFault s v) w prepares opens b t ih h = absurd cc
begun_tried _ w prepares opens b t ih h = ends w b t ih h

pub begun_ends_tried : BegunEndsTried
begun_ends_tried restored guarded [] h = refl
begun_ends_tried restored guarded (d ∷ ds) h =
    begun_tried d.outcome (wanted restored guarded (d ∷ ds)) (λ v. prepared restored v ds) (λ v. taken restored v ds) (begun restored guarded ds) (tried restored ds) (begun_ends_tried restored guarded ds) h

faded_tried : (o : Outcome) (opens : ℕ → Snapshot) (f : Bool) (t : Option Snapshot) → (f ≡ true → t ≡ None) → faded_after o f ≡ true → tried_after o opens t ≡ None
faded_tried (StageOk Prepare v) opens f t ih h = refl
faded_tried (StageOk Open v) opens f t ih h = refl
faded_tried (StageOk Fade v) opens f t ih h = refl
faded_tried (StageOk Body v) opens f t ih h = absurd cc
faded_tried (StageOk Drop v) opens f t ih h = absurd cc
faded_tried (StageFault s v) opens f t ih h = absurd cc
faded_tried Spent opens f t ih h = absurd cc
faded_tried _ opens f t ih h = ih h

pub faded_ends_tried : FadedEndsTried
faded_ends_tried restored [] h = absurd cc
faded_ends_tried restored (d ∷ ds) h = faded_tried d.outcome (λ v. taken restored v ds) (faded ds) (tried restored ds) (faded_ends_tried restored ds) h

done_opened : (o : Outcome) (opens : ℕ → Snapshot) (b : Option Snapshot) (was : Bool) → (is_some b ≡ true → was ≡ true) → is_some (done_after o opens b) ≡ true → opened_after o was ≡ true
done_opened (StageOk Open v) opens b was ih h = refl
done_opened (StageFault Open v) opens b was ih h = refl
done_opened (StageOk Drop v) opens b was ih h = absurd cc
done_opened _ opens b was ih h = ih h

restored_opened : (restored : Option Backup) → is_some (done restored []) ≡ true → is_some restored ≡ true
restored_opened None h = h
restored_opened (Some b) h = refl

pub done_is_opened : DoneIsOpened
done_is_opened restored [] h = restored_opened restored h
done_is_opened restored (d ∷ ds) h = done_opened d.outcome (λ v. taken restored v ds) (done restored ds) (opened restored ds) (done_is_opened restored ds) h
