-- What the calls of a hub do to a pass. All of this is the project's own. Passes know histories with the oldest entry first;
-- the rules of a history read them newest first.
use Rattle.std.specs.Prelude.{◌≡◌, ◌<◌, ◌≤◌, ℕ, suc, true, false, List, length, Some, None}
use mathlib.Core.List.{IsPrefix}
use Rattle.hx_events.specs.declared.event.Event.{Event}
use Rattle.hx_events.specs.declared.life.Entry.{Entry}
use Rattle.hx_events.specs.declared.outcome.Outcome.{Outcome}
use Rattle.hx_passes.specs.declared.rule.Finding.TheVariants.{NothingDue}
use Rattle.hx_passes.specs.declared.rule.Kind.{Kind}
use Rattle.hx_passes.specs.declared.rule.Known.{Known}
use Rattle.hx_passes.specs.Views.{with_call, with_leave, with_note}
use Rattle.hx_rules.specs.Entries.{past}
use Rattle.hx_rules.specs.Interleavings.{is_idle}
use Rattle.hx_rules.specs.Legal.{Opening, is_row}
use Rattle.hx_hub.specs.declared.hub.Staged.{Staged}
use Rattle.hx_hub.specs.declared.hub.Staged.TheVariants.{Did, Rest, Over}
use Rattle.hx_hub.specs.Shared.{lowest_due, stage_on}

-- The pass made one entry, right behind a history that begins with all that it had seen, and has then seen the entry. The
-- entry is by the pass's actor and of this event, has this place, and came to this outcome, which the rules allow there.
pub record Makes (o : Opening) (event : Event) (place : ℕ) (outcome : Outcome) (old new : Known) : Type 0 where
  pub before : List Entry
  pub entry : Entry
  pub by_actor : entry.actor ≡ old.actor
  pub of_event : entry.event ≡ event
  pub came_to : entry.outcome ≡ outcome
  pub row : is_row o (past before) event outcome ≡ true
  pub seen : IsPrefix old.seen before
  pub at : place ≡ suc (length before)
  pub made : new ≡ with_call entry before old

-- The pass made an entry of a stage of this kind, on the lowest resource for which one was due before it. The stage isn't idle.
pub record DoesStage (o : Opening) (kind : Kind) (place : ℕ) (outcome : Outcome) (old new : Known) : Type 0 where
  pub res : ℕ
  pub makes : Makes o (stage_on kind res) place outcome old new
  pub lowest : lowest_due kind o (past makes.before) ≡ Some res
  pub busy : is_idle outcome ≡ false

-- The pass noted of the whole history, which begins with all that it had seen and which it has then seen, that no stage of
-- this kind was due, and that so many windows had left.
pub record NotesRest (o : Opening) (kind : Kind) (left : ℕ) (old new : Known) : Type 0 where
  pub upto : List Entry
  pub seen : IsPrefix old.seen upto
  pub none : lowest_due kind o (past upto) ≡ None
  pub noted : new ≡ with_note (NothingDue kind) left upto old

-- The pass left, at the whole history, which begins with all that it had seen and which it has then seen.
pub record Leaves (old new : Known) : Type 0 where
  pub upto : List Entry
  pub seen : IsPrefix old.seen upto
  pub left : new ≡ with_leave upto old

-- What asking for a stage of this kind came to, where so many windows are to leave: the stage that was due; or none was due,
-- and some window hadn't left; or none was due, and all had left.
abbrev pub StagedAs : Opening → ℕ → Kind → Staged → Known → Known → Type 0
StagedAs o windows kind (Did acted) old new = DoesStage o kind acted.place acted.outcome old new
StagedAs o windows kind Rest old new = (left : ℕ) × (left < windows) × NotesRest o kind left old new
StagedAs o windows kind Over old new = (left : ℕ) × (windows ≤ left) × NotesRest o kind left old new
