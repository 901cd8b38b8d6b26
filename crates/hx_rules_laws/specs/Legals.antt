-- What holds after every legal history.
use Rattle.std.specs.Prelude.{◌≡◌, ℕ, ◌+◌, Bool, true, false, List, [], ◌∷◌, ◌++◌, length, if◌then◌else◌, Option, Some, None, is_some, refl}
use Rattle.std.proofs.Common.{subst, sym, inl, inr}
use Rattle.hx_events.specs.declared.event.Event.{Event}
use Rattle.hx_events.specs.declared.event.Stage.TheVariants.{Prepare, Body, Open, Fade, Drop}
use Rattle.hx_events.specs.declared.life.Entry.{Entry}
use Rattle.hx_events.specs.declared.outcome.Outcome.{Outcome}
use Rattle.hx_events.specs.declared.outcome.Outcome.TheVariants.{StageOk, StageFault, Spent}
use Rattle.hx_rules.specs.Entries.{Deed, deed, own, is_of}
use Rattle.hx_rules.specs.Backups.{Snapshot, Begun, taken, done, tried, undone, opened, halted, is_change, begun, wanted, one_block_more}
use Rattle.hx_rules.specs.Allowed.{allowed, allowed_of, IsAmong, failed, failed_outcome}
use Rattle.hx_rules.specs.Legal.{Opening, restored_at, is_legal, is_row}
use Rattle.hx_rules_laws.specs.Frames.{adds_deed, leaves_others}
use Rattle.hx_rules_laws.specs.Backups.{begun_ends_tried, faded_ends_tried}
use Rattle.hx_rules_laws.specs.Rows.{row_holds, past_legal, ok_was_due, fault_was_due, spent_was_due, drop_due, open_due, prepare_due, prepare_work_due}

-- Where a backup's Open failed and it may still come back, or a Drop failed, a gate was opened since the last completed
-- Drop: the resource still holds its pair.
abbrev pub TriedIsOpened : Type 0
TriedIsOpened = (o : Opening) (es : List Entry) (c : ℕ) → is_legal o es ≡ true → is_some (tried (restored_at o c) (own c es)) ≡ true → opened (restored_at o c) (own c es) ≡ true

abbrev pub UndoneIsOpened : Type 0
UndoneIsOpened = (o : Opening) (es : List Entry) (c : ℕ) → is_legal o es ≡ true → undone (own c es) ≡ true → opened (restored_at o c) (own c es) ≡ true

-- A begun backup is wanted, and its copy isn't halted.
abbrev pub BegunIsWanted : Type 0
BegunIsWanted = (o : Opening) (es : List Entry) (c : ℕ) → is_legal o es ≡ true → is_some (begun (restored_at o c) o.guarded (own c es)) ≡ true → wanted (restored_at o c) o.guarded (own c es) ≡ true

abbrev pub BegunIsNotHalted : Type 0
BegunIsNotHalted = (o : Opening) (es : List Entry) (c : ℕ) → is_legal o es ≡ true → is_some (begun (restored_at o c) o.guarded (own c es)) ≡ true → halted (own c es) ≡ false

-- each of the first is one of the second
abbrev pub IsWithin : List (Option Snapshot) → List (Option Snapshot) → Type 0
IsWithin xs ys = (s : Option Snapshot) → IsAmong s xs → IsAmong s ys

-- While an event is under way, what a crash could bring back before it, it can still bring back: that is allowed also
-- where the stage in hand fails.
abbrev pub StillAllowedInHand : Type 0
StillAllowedInHand = (o : Opening) (e : Entry) (es : List Entry) (c : ℕ) → is_legal o (e ∷ es) ≡ true → IsWithin (allowed (restored_at o c) (own c es)) (allowed (restored_at o c) (own c (failed e ∷ es)))

-- said of a resource's deeds, it holds at every history where each legal entry of the resource keeps it
pub keeps : (o : Opening) (c : ℕ) (P : List Deed → Type 0) → P []
    → ((es : List Entry) (place : ℕ) (event : Event) (outcome : Outcome) (content : List ℕ) → is_of c event ≡ true → is_row o es event outcome ≡ true → P (own c es) → P (deed place event outcome content ∷ own c es))
    → (es : List Entry) → is_legal o es ≡ true → P (own c es)
keeps o c P first step [] legal = first
keeps o c P first step (e ∷ es) legal = go (is_of c e.event) (adds_deed c e es) (leaves_others c e es) (λ is. step es (length es + 1) e.event e.outcome e.content is (row_holds o e es legal) (keeps o c P first step es (past_legal o e es legal))) (keeps o c P first step es (past_legal o e es legal))
  where
    go : (b : Bool) → (b ≡ true → own c (e ∷ es) ≡ deed (length es + 1) e.event e.outcome e.content ∷ own c es) → (b ≡ false → own c (e ∷ es) ≡ own c es) → (b ≡ true → P (deed (length es + 1) e.event e.outcome e.content ∷ own c es)) → P (own c es) → P (own c (e ∷ es))
    go true here other mine rest = subst P (sym (here refl)) (mine refl)
    go false here other mine rest = subst P (sym (other refl)) rest

none_is_not : {A : Type 0} (x : Option A) → x ≡ None → is_some x ≡ true → ⊥
none_is_not x is there = absurd cc

tried_step : (o : Opening) (c : ℕ) (es : List Entry) (place : ℕ) (event : Event) (outcome : Outcome) (content : List ℕ) → is_of c event ≡ true → is_row o es event outcome ≡ true
    → (is_some (tried (restored_at o c) (own c es)) ≡ true → opened (restored_at o c) (own c es) ≡ true)
    → is_some (tried (restored_at o c) (deed place event outcome content ∷ own c es)) ≡ true → opened (restored_at o c) (deed place event outcome content ∷ own c es) ≡ true
tried_step o c es place event (StageOk Prepare v) content is row ih h = absurd cc
tried_step o c es place event (StageOk Open v) content is row ih h = refl
tried_step o c es place event (StageOk Fade v) content is row ih h = absurd cc
tried_step o c es place event (StageOk Drop v) content is row ih h =
    absurd (none_is_not (tried (restored_at o c) (own c es)) (faded_ends_tried (restored_at o c) (own c es) (drop_due (restored_at o c) o.guarded (own c es) v (ok_was_due o es event Drop v c is row)).0) h)
tried_step o c es place event (StageFault Open v) content is row ih h = refl
tried_step o c es place event _ content is row ih h = ih h

pub tried_is_opened : TriedIsOpened
tried_is_opened o es c legal = keeps o c (λ ds. is_some (tried (restored_at o c) ds) ≡ true → opened (restored_at o c) ds ≡ true) (λ h. absurd cc) (tried_step o c) es legal

undone_step : (o : Opening) (c : ℕ) (es : List Entry) (place : ℕ) (event : Event) (outcome : Outcome) (content : List ℕ) → is_of c event ≡ true → is_row o es event outcome ≡ true
    → (undone (own c es) ≡ true → opened (restored_at o c) (own c es) ≡ true)
    → undone (deed place event outcome content ∷ own c es) ≡ true → opened (restored_at o c) (deed place event outcome content ∷ own c es) ≡ true
undone_step o c es place event (StageOk Open v) content is row ih h = refl
undone_step o c es place event (StageOk Drop v) content is row ih h = absurd cc
undone_step o c es place event (StageFault Open v) content is row ih h = refl
undone_step o c es place event (StageFault Drop v) content is row ih h = (drop_due (restored_at o c) o.guarded (own c es) v (fault_was_due o es event Drop v c is row)).1
undone_step o c es place event _ content is row ih h = ih h

pub undone_is_opened : UndoneIsOpened
undone_is_opened o es c legal = keeps o c (λ ds. undone ds ≡ true → opened (restored_at o c) ds ≡ true) (λ h. absurd cc) (undone_step o c) es legal

still_wanted : (w : Bool) (b : Option Begun) → is_some (if w then b else None) ≡ true → w ≡ true
still_wanted true b h = refl
still_wanted false b h = absurd cc

still_begun : (w : Bool) (b : Option Begun) → is_some (if w then b else None) ≡ true → is_some b ≡ true
still_begun true b h = h
still_begun false b h = absurd cc

more_begun : (b : Option Begun) → is_some (one_block_more b) ≡ true → is_some b ≡ true
more_begun None h = h
more_begun (Some b) h = refl

begun_wanted_step : (o : Opening) (c : ℕ) (es : List Entry) (place : ℕ) (event : Event) (outcome : Outcome) (content : List ℕ) → is_of c event ≡ true → is_row o es event outcome ≡ true
    → (is_some (begun (restored_at o c) o.guarded (own c es)) ≡ true → wanted (restored_at o c) o.guarded (own c es) ≡ true)
    → is_some (begun (restored_at o c) o.guarded (deed place event outcome content ∷ own c es)) ≡ true → wanted (restored_at o c) o.guarded (deed place event outcome content ∷ own c es) ≡ true
begun_wanted_step o c es place event (StageOk Prepare v) content is row ih h =
    (prepare_due (restored_at o c) o.guarded (own c es) (prepare_work_due (restored_at o c) o.guarded (own c es) v (ok_was_due o es event Prepare v c is row))).2
begun_wanted_step o c es place event (StageOk Open v) content is row ih h = absurd cc
begun_wanted_step o c es place event (StageFault s v) content is row ih h = absurd cc
begun_wanted_step o c es place event (StageOk Body v) content is row ih h =
    still_wanted (wanted (restored_at o c) o.guarded (deed place event (StageOk Body v) content ∷ own c es)) (one_block_more (begun (restored_at o c) o.guarded (own c es))) h
begun_wanted_step o c es place event outcome content is row ih h =
    still_wanted (wanted (restored_at o c) o.guarded (deed place event outcome content ∷ own c es)) (begun (restored_at o c) o.guarded (own c es)) h

pub begun_is_wanted : BegunIsWanted
begun_is_wanted o es c legal = keeps o c (λ ds. is_some (begun (restored_at o c) o.guarded ds) ≡ true → wanted (restored_at o c) o.guarded ds ≡ true) (λ h. absurd cc) (begun_wanted_step o c) es legal

ends_halt : (b w : Bool) → w ≡ false → (if b then false else w) ≡ false
ends_halt true w h = refl
ends_halt false w h = h

begun_halted_step : (o : Opening) (c : ℕ) (es : List Entry) (place : ℕ) (event : Event) (outcome : Outcome) (content : List ℕ) → is_of c event ≡ true → is_row o es event outcome ≡ true
    → (is_some (begun (restored_at o c) o.guarded (own c es)) ≡ true → halted (own c es) ≡ false)
    → is_some (begun (restored_at o c) o.guarded (deed place event outcome content ∷ own c es)) ≡ true → halted (deed place event outcome content ∷ own c es) ≡ false
begun_halted_step o c es place event (StageOk Prepare v) content is row ih h =
    (prepare_due (restored_at o c) o.guarded (own c es) (prepare_work_due (restored_at o c) o.guarded (own c es) v (ok_was_due o es event Prepare v c is row))).0
begun_halted_step o c es place event (StageOk Open v) content is row ih h = absurd cc
begun_halted_step o c es place event (StageFault s v) content is row ih h = absurd cc
begun_halted_step o c es place event Spent content is row ih h =
    absurd (none_is_not (begun (restored_at o c) o.guarded (own c es)) (prepare_due (restored_at o c) o.guarded (own c es) (spent_was_due o es event c is row)).1 (still_begun (wanted (restored_at o c) o.guarded (deed place event Spent content ∷ own c es)) (begun (restored_at o c) o.guarded (own c es)) h))
begun_halted_step o c es place event (StageOk Body v) content is row ih h =
    ih (more_begun (begun (restored_at o c) o.guarded (own c es)) (still_begun (wanted (restored_at o c) o.guarded (deed place event (StageOk Body v) content ∷ own c es)) (one_block_more (begun (restored_at o c) o.guarded (own c es))) h))
begun_halted_step o c es place event outcome content is row ih h =
    ends_halt (is_change outcome) (halted (own c es)) (ih (still_begun (wanted (restored_at o c) o.guarded (deed place event outcome content ∷ own c es)) (begun (restored_at o c) o.guarded (own c es)) h))

pub begun_is_not_halted : BegunIsNotHalted
begun_is_not_halted o es c legal = keeps o c (λ ds. is_some (begun (restored_at o c) o.guarded ds) ≡ true → halted ds ≡ false) (λ h. absurd cc) (begun_halted_step o c) es legal

among_left : (s : Option Snapshot) (xs ys : List (Option Snapshot)) → IsAmong s xs → IsAmong s (xs ++ ys)
among_left s (x ∷ xs) ys (inl h) = inl h
among_left s (x ∷ xs) ys (inr h) = inr (among_left s xs ys h)
among_left s [] ys h = absurd h

with_tried : (d : Option Snapshot) (t : Snapshot) (u : Bool) → IsWithin (allowed_of d None u) (allowed_of d (Some t) u)
with_tried d t u s (inl h) = inl h
with_tried d t u s (inr h) = inr (inr h)

with_undone : (d t : Option Snapshot) (u : Bool) → IsWithin (allowed_of d t u) (allowed_of d t true)
with_undone d t true s h = h
with_undone d None false s (inl h) = inl h
with_undone d None false s (inr h) = absurd h
with_undone d (Some t) false s (inl h) = inl h
with_undone d (Some t) false s (inr (inl h)) = inr (inl h)
with_undone d (Some t) false s (inr (inr h)) = absurd h

open_in_hand : (o : Opening) (c : ℕ) (es : List Entry) (v : ℕ) → is_some (begun (restored_at o c) o.guarded (own c es)) ≡ true
    → IsWithin (allowed (restored_at o c) (own c es)) (allowed_of (done (restored_at o c) (own c es)) (Some (taken (restored_at o c) v (own c es))) (undone (own c es)))
open_in_hand o c es v is_begun s among =
    let none : tried (restored_at o c) (own c es) ≡ None = begun_ends_tried (restored_at o c) o.guarded (own c es) is_begun in
    with_tried (done (restored_at o c) (own c es)) (taken (restored_at o c) v (own c es)) (undone (own c es)) s
    (subst (λ (t : Option Snapshot). IsAmong s (allowed_of (done (restored_at o c) (own c es)) t (undone (own c es)))) none among)

in_hand : (o : Opening) (c : ℕ) (es : List Entry) (place : ℕ) (event : Event) (outcome : Outcome) (content : List ℕ) → is_of c event ≡ true → is_row o es event outcome ≡ true
    → IsWithin (allowed (restored_at o c) (own c es)) (allowed (restored_at o c) (deed place event (failed_outcome outcome) content ∷ own c es))
in_hand o c es place event (StageOk Open v) content is row = open_in_hand o c es v (open_due (restored_at o c) o.guarded (own c es) v (ok_was_due o es event Open v c is row))
in_hand o c es place event (StageFault Open v) content is row = open_in_hand o c es v (open_due (restored_at o c) o.guarded (own c es) v (fault_was_due o es event Open v c is row))
in_hand o c es place event (StageOk Drop v) content is row = with_undone (done (restored_at o c) (own c es)) (tried (restored_at o c) (own c es)) (undone (own c es))
in_hand o c es place event (StageFault Drop v) content is row = with_undone (done (restored_at o c) (own c es)) (tried (restored_at o c) (own c es)) (undone (own c es))
in_hand o c es place event _ content is row = λ s among. among

pub still_allowed_in_hand : StillAllowedInHand
still_allowed_in_hand o e es c legal = go (is_of c e.event) (adds_deed c (failed e) es) (leaves_others c (failed e) es) (λ is. in_hand o c es (length es + 1) e.event e.outcome e.content is (row_holds o e es legal))
  where
    go : (b : Bool) → (b ≡ true → own c (failed e ∷ es) ≡ deed (length es + 1) e.event (failed_outcome e.outcome) e.content ∷ own c es) → (b ≡ false → own c (failed e ∷ es) ≡ own c es)
        → (b ≡ true → IsWithin (allowed (restored_at o c) (own c es)) (allowed (restored_at o c) (deed (length es + 1) e.event (failed_outcome e.outcome) e.content ∷ own c es)))
        → IsWithin (allowed (restored_at o c) (own c es)) (allowed (restored_at o c) (own c (failed e ∷ es)))
    go true here other mine = subst (λ (ds : List Deed). IsWithin (allowed (restored_at o c) (own c es)) (allowed (restored_at o c) ds)) (sym (here refl)) (mine refl)
    go false here other mine = subst (λ (ds : List Deed). IsWithin (allowed (restored_at o c) (own c es)) (allowed (restored_at o c) ds)) (sym (other refl)) (λ s among. among)
