-- What is known of the passes of windows, writers and savers when their work ends, and what a history is that they made.
-- Calls and notes stand newest first, and so do events. All of this is the project's own.
use Rattle.std.specs.Prelude.{◌≡◌, ℕ, suc, ◌<◌, ◌≤◌, Bool, true, false, List, [], ◌∷◌, ◌++◌, length, slice_index_or}
use Rattle.hx_events.specs.declared.event.Actor.{Actor}
use Rattle.hx_events.specs.declared.event.Actor.TheVariants.{Writer, Saver}
use Rattle.hx_events.specs.declared.event.Command.{Command}
use Rattle.hx_events.specs.declared.event.Event.{Event}
use Rattle.hx_events.specs.declared.life.Entry.{Entry}
use Rattle.hx_passes.specs.declared.rule.Call.{Call}
use Rattle.hx_passes.specs.declared.rule.Finding.TheVariants.{NothingDue}
use Rattle.hx_passes.specs.declared.rule.Kind.{Kind}
use Rattle.hx_passes.specs.declared.rule.Kind.TheVariants.{Vault, Save}
use Rattle.hx_passes.specs.declared.rule.Known.{Known}
use Rattle.hx_passes.specs.declared.rule.Note.{Note}
use Rattle.hx_passes.specs.Rules.{Each, total, one_if}
use Rattle.hx_rules.specs.Interleavings.{is_window, is_some_window, events_of, script_of, may_stand, all_may_stand}

-- these are the first events of the script
pub record IsBegun (script made : List Event) : Type 0 where
  pub later : List Event
  pub whole : script ≡ later ++ made

-- The work of all but the Closer where memory ran out: each window has made the first of its commands, in their order, each
-- once, and all other entries are of the kinds that may stand beside them.
pub record IsPartOf (watched : Bool) (scripts : List (List Command)) (es : List Entry) : Type 0 where
  pub windows : (k : ℕ) → IsBegun (script_of k scripts) (events_of k es)
  pub others : all_may_stand watched es ≡ true

-- has the script commands?
abbrev pub is_full : List Command → Bool
is_full [] = false
is_full (c ∷ cs) = true

-- how many of these scripts have commands
abbrev pub fulls : List (List Command) → ℕ
fulls scripts = total (λ s. one_if (is_full s)) scripts

abbrev pub events : List Call → List Event
events [] = []
events (c ∷ cs) = c.entry.event ∷ events cs

-- the places of these calls fall from below n
abbrev pub Falls : ℕ → List Call → Type 0
Falls n [] = Unit {0}
Falls n (c ∷ cs) = (c.place < n) × Falls c.place cs

-- the call's entry may stand beside those of others
abbrev pub MayStand : Call → Type 0
MayStand c = may_stand false c.entry.actor c.entry.event c.entry.outcome ≡ true

-- the pass has left once, after all its calls
abbrev pub HasLeft : List ℕ → List Call → Type 0
HasLeft (n ∷ []) cs = Falls (suc n) cs
HasLeft _ cs = ⊥

-- the last note says that no stage of this kind was due and that so many passes had left
abbrev pub EndsOver : ℕ → Kind → List Note → Type 0
EndsOver windows kind [] = ⊥
EndsOver windows kind (m ∷ ms) = (m.finding ≡ NothingDue kind) × (windows ≤ m.left)

-- a writer's last note says so of vault stages, and a saver's of save stages
abbrev pub IsOver : ℕ → Actor → List Note → Type 0
IsOver windows (Writer k) ms = EndsOver windows Vault ms
IsOver windows (Saver k) ms = EndsOver windows Save ms
IsOver windows _ ms = Unit {0}

-- the pass's calls have falling places, in what it has seen, and may stand beside those of others
pub record IsInOrder (p : Known) : Type 0 where
  pub falls : Falls (suc (length p.seen)) p.calls
  pub stand : Each MayStand p.calls

-- What holds of a pass at any time: its calls are in order, and a window's are the first of its script.
pub record IsSound (scripts : List (List Command)) (p : Known) : Type 0 where
  pub order : IsInOrder p
  pub begun : (k : ℕ) → is_window k p.actor ≡ true → IsBegun (script_of k scripts) (events p.calls)

-- And once its work has ended with nothing left to do: a window has made its script and has left, and no other has left; a
-- worker has found nothing to do behind all windows.
pub record IsThrough (windows : ℕ) (scripts : List (List Command)) (p : Known) : Type 0 where
  pub made : (k : ℕ) → is_window k p.actor ≡ true → events p.calls ≡ script_of k scripts
  pub left : is_some_window p.actor ≡ true → HasLeft p.leaves p.calls
  pub stays : is_some_window p.actor ≡ false → p.leaves ≡ []
  pub over : IsOver windows p.actor p.notes

abbrev pub is_writer : Actor → Bool
is_writer (Writer k) = true
is_writer _ = false

abbrev pub is_saver : Actor → Bool
is_saver (Saver k) = true
is_saver _ = false

-- how many passes are of such an actor
abbrev pub count_of : (Actor → Bool) → List Known → ℕ
count_of is ps = total (λ p. one_if (is p.actor)) ps

-- each window with commands has one pass, and no other window has one
abbrev pub IsManned : List (List Command) → List Known → Type 0
IsManned scripts ps = (k : ℕ) → count_of (is_window k) ps ≡ one_if (is_full (slice_index_or scripts k []))
