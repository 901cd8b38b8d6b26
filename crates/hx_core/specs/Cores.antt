-- A core as plain data, and what it keeps.
use Rattle.std.specs.Prelude.{ℕ, ◌≡◌, ◌<◌, ◌≤◌, nat_lt, Bool, true, false, ◌&&◌, List, [], length, Option, Some, None, is_some, slice_get}
use Rattle.hx_events.specs.declared.event.Command.TheVariants.{Open, Create}
use Rattle.hx_events.specs.declared.event.Event.{Event}
use Rattle.hx_events.specs.declared.event.Event.TheVariants.{Act, Vault, Flush, Quit}
use Rattle.hx_events.specs.declared.life.Entry.{Entry}
use Rattle.hx_events.specs.declared.outcome.Outcome.{Outcome}
use Rattle.hx_events.specs.declared.outcome.Outcome.TheVariants.{Quit as MayQuit, Vetoed, StageOk}
use Rattle.hx_events.specs.declared.event.Stage.TheVariants.{Open as OpenGate}
use Rattle.hx_events.specs.Texts.{resource_of}
use Rattle.hx_backups.specs.Backups.{BackupsState}
use Rattle.hx_rules.specs.Entries.{own, past}
use Rattle.hx_rules.specs.Legal.{Opening, restored_at, is_legal, was_spent, vault_due, save_due, lacks_pair, lowest, is_unsafe}
use Rattle.hx_tracker.specs.Index.{has_number}
use Rattle.hx_resource.specs.declared.asks.Asked.{Asked}
use Rattle.hx_resource.specs.declared.asks.Asked.TheVariants.{Settled}
use Rattle.hx_resource.specs.declared.asks.Got.{Got}
use Rattle.hx_resource.specs.Rooms.{HasRoom}
use Rattle.hx_resource.specs.Kept.{ResourceState}
use Rattle.hx_resource_laws.specs.Fits.{Fits}
use Rattle.hx_resource_laws.specs.AskFits.{asks_of, outcome_of}
use Rattle.hx_core.specs.Listed.{listed, ListsDone}

-- the resource that the event is of, if it is of one
abbrev pub named : Event → Option ℕ
named (Act command) = Some (resource_of command)
named (Vault c) = Some c
named (Flush c) = Some c
named Quit = None

-- the event is of none but the first resources, of which there are so many
abbrev pub IsEventOf : ℕ → Event → Type 0
IsEventOf count (Act command) = resource_of command < count
IsEventOf count (Vault c) = c < count
IsEventOf count (Flush c) = c < count
IsEventOf count Quit = Unit {0}

-- what the question whether the program may end is answered, by the lowest resource that vetoes it
abbrev pub quit_outcome : Option ℕ → Outcome
quit_outcome None = MayQuit
quit_outcome (Some c) = Vetoed c

-- Who answers the event after these entries.
abbrev pub asks_at : Opening → List Entry → Event → Asked
asks_at o es (Act command) = asks_of (restored_at o (resource_of command)) o.guarded (lacks_pair o es (resource_of command)) (own (resource_of command) es) (Act command)
asks_at o es (Vault c) = asks_of (restored_at o c) o.guarded (lacks_pair o es c) (own c es) (Vault c)
asks_at o es (Flush c) = asks_of (restored_at o c) o.guarded (lacks_pair o es c) (own c es) (Flush c)
asks_at o es Quit = Settled (quit_outcome (lowest o (is_unsafe o es)))

-- The outcome of the event after these entries: the one that is settled, or the one that the device's answer gives.
abbrev pub outcome_at : Opening → List Entry → Event → Got → Outcome
outcome_at o es (Act command) got = outcome_of (restored_at o (resource_of command)) o.guarded (lacks_pair o es (resource_of command)) (was_spent es) (own (resource_of command) es) (Act command) got
outcome_at o es (Vault c) got = outcome_of (restored_at o c) o.guarded (lacks_pair o es c) (was_spent es) (own c es) (Vault c) got
outcome_at o es (Flush c) got = outcome_of (restored_at o c) o.guarded (lacks_pair o es c) (was_spent es) (own c es) (Flush c) got
outcome_at o es Quit got = quit_outcome (lowest o (is_unsafe o es))

-- A core: what its life begins with, with the resources that have a backup then in the order of their pairs; its history;
-- and what it keeps beside it, so that no event has to look at the history.
pub record CoreState : Type 0 where
  pub names : List (List ℕ)
  pub opening : Opening
  pub first : List (ℕ × ℕ)
  pub history : List Entry
  pub resources : List ResourceState
  pub backups : BackupsState
  -- a Prepare was answered Spent
  pub spent : Bool
  -- the resources for which a vault stage is due, and those for which a save stage is
  pub vault : List Bool
  pub save : List Bool
  -- for how many more entries there is room
  pub room : ℕ

-- an index of the resources for which something is due: `due` says whether it is for one of them
abbrev pub Indexes : ℕ → (ℕ → Bool) → (ℕ → Bool) → Type 0
Indexes count due index = (k : ℕ) → index k ≡ (nat_lt k count && due k)

-- These entries, the newest first, are legal, and all that is kept agrees with them.
pub record KeptOver (o : Opening) (first : List (ℕ × ℕ)) (resources : List ResourceState) (pairs : List (ℕ × ℕ)) (es : List Entry) (spent_now : Bool) (vault_index save_index : ℕ → Bool) : Type 0 where
  pub legal : is_legal o es ≡ true
  pub count : length resources ≡ length o.restored
  pub fits : (k : ℕ) (s : ResourceState) → slice_get resources k ≡ Some s → Fits (restored_at o k) o.guarded (own k es) s.kept
  pub backups : pairs ≡ listed first es
  pub spent : spent_now ≡ was_spent es
  pub vault : Indexes (length resources) (λ k. is_some (vault_due o es k)) vault_index
  pub save : Indexes (length resources) (λ k. is_some (save_due o es k)) save_index

-- What the core's type keeps.
pub record IsCore (o : Opening) (first : List (ℕ × ℕ)) (resources : List ResourceState) (pairs : List (ℕ × ℕ)) (history : List Entry) (spent_now : Bool) (vault_set save_set : List Bool) : Type 0 where
  pub kept : KeptOver o first resources pairs (past history) spent_now (has_number vault_set) (has_number save_set)
  -- the list of completed backups begins with those that the resources were restored with
  pub starts : ListsDone o [] first
  pub few : length resources ≤ 256
  pub barred : o.barred ≤ 64
  pub vault : length vault_set ≡ 256
  pub save : length save_set ≡ 256

-- a vault stage may complete a backup, which then comes into the list
abbrev pub BackupsRoom : Event → ℕ → Type 0
BackupsRoom (Vault c) room = 0 < room
BackupsRoom event room = Unit {0}

-- There is room for a step of the resource's event that reads so many bytes of a file.
abbrev pub ResourceRoom : Event → ℕ → CoreState → Type 0
ResourceRoom event read s = (c : ℕ) (r : ResourceState) → named event ≡ Some c → slice_get s.resources c ≡ Some r → HasRoom s.opening.guarded event read r

pub record StepRoom (event : Event) (read : ℕ) (s : CoreState) : Type 0 where
  pub entry : 0 < s.room
  pub backups : BackupsRoom event s.backups.room
  pub resource : ResourceRoom event read s

-- an open and a create take a pair
abbrev pub takes_pair : Event → Bool
takes_pair (Act (Open c)) = true
takes_pair (Act (Create c)) = true
takes_pair _ = false

-- a completed backup needs room in the list
abbrev pub ListRoom : Outcome → ℕ → Type 0
ListRoom (StageOk OpenGate v) room = 0 < room
ListRoom _ room = Unit {0}
