-- What a judge keeps of a life.
use Rattle.std.specs.Prelude.{◌≡◌, ℕ, ◌≤◌, not, Bool, true, false, ◌&&◌, List, length, Option, Some, None, slice_get}
use Rattle.hx_events.specs.declared.event.Command.TheVariants.{Open, Create}
use Rattle.hx_events.specs.declared.event.Event.{Event}
use Rattle.hx_events.specs.declared.event.Event.TheVariants.{Act}
use Rattle.hx_events.specs.declared.life.Entry.{Entry}
use Rattle.hx_rules.specs.Entries.{own}
use Rattle.hx_rules.specs.Due.{VaultWork, vault_work}
use Rattle.hx_rules.specs.Legal.{Opening, restored_at, was_spent}
use Rattle.hx_check.specs.declared.sketch.Sketch.{Sketch}
use Rattle.hx_check.specs.declared.rows.Due.{Due}
use Rattle.hx_check.specs.declared.judge.Judge.{Judge}
use Rattle.hx_check.specs.Sketches.{sketch, is_dirty_in, is_backed, holds_in}

-- the work that a value of the code is
abbrev pub work_of : Option Due → Option VaultWork
work_of None = None
work_of (Some due) = Some (vault_work due.stage due.version)

-- no more versions than this
abbrev pub AreUpTo : ℕ → List Sketch → Type 0
AreUpTo n xs = (k : ℕ) (x : Sketch) → slice_get xs k ≡ Some x → x.outline.last ≤ n

-- What a judge keeps is what these entries, newest first, leave.
pub record IsJudged (o : Opening) (es : List Entry) (j : Judge) : Type 0 where
  pub plain : o.guarded ≡ false
  pub barred : j.barred ≡ o.barred
  pub count : length j.sketches.items ≡ length o.restored
  pub each : (k : ℕ) (x : Sketch) → slice_get j.sketches.items k ≡ Some x → x ≡ sketch (restored_at o k) (own k es)
  pub spent : j.spent ≡ was_spent es

-- does the resource with this number hold a pair, and is its copy dirty and not backed up?
abbrev pub holds_of : List Sketch → ℕ → Bool
holds_of xs c = elim (slice_get xs c) [ None ↦ false | Some x ↦ holds_in x ]

abbrev pub unsafe_in : Sketch → Bool
unsafe_in x = is_dirty_in x.outline && not (is_backed x.outline)

abbrev pub unsafe_of : List Sketch → ℕ → Bool
unsafe_of xs c = elim (slice_get xs c) [ None ↦ false | Some x ↦ unsafe_in x ]

-- an open and a create take a pair
abbrev pub takes_pair : Event → Bool
takes_pair (Act (Open c)) = true
takes_pair (Act (Create c)) = true
takes_pair _ = false
