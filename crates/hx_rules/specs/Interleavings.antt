-- How the entries of windows, writers, savers and the Closer may stand in one history. Whole histories are read newest
-- first, as everywhere. These rules are this project's own.
use Rattle.std.specs.Prelude.{◌≡◌, ℕ, ◌==◌, nat_le, not, Bool, true, false, ◌&&◌, ◌||◌, List, [], ◌∷◌, ◌++◌, map, reverse, if◌then◌else◌, Option, None, is_none, slice_index_or}
use Rattle.hx_events.specs.declared.event.Actor.{Actor}
use Rattle.hx_events.specs.declared.event.Actor.TheVariants.{Window, Writer, Saver, Closer, Watcher}
use Rattle.hx_events.specs.declared.event.Command.{Command}
use Rattle.hx_events.specs.declared.event.Command.TheVariants.{Revert}
use Rattle.hx_events.specs.declared.event.Event.{Event}
use Rattle.hx_events.specs.declared.event.Event.TheVariants.{Act, Vault, Flush, Quit}
use Rattle.hx_events.specs.declared.life.Entry.{Entry}
use Rattle.hx_events.specs.declared.outcome.Outcome.{Outcome}
use Rattle.hx_events.specs.declared.outcome.Outcome.TheVariants.{Idle}
use Rattle.hx_rules.specs.Legal.{Opening, save_due, lowest_vault_due, lowest_save_due}

-- is the actor this window, or any window?
abbrev pub is_window : ℕ → Actor → Bool
is_window k (Window n) = n == k
is_window k _ = false

abbrev pub is_some_window : Actor → Bool
is_some_window (Window n) = true
is_some_window _ = false

abbrev pub is_closer : Actor → Bool
is_closer Closer = true
is_closer _ = false

abbrev pub is_idle : Outcome → Bool
is_idle Idle = true
is_idle _ = false

-- the events of window k, the newest first
abbrev pub events_of : ℕ → List Entry → List Event
events_of k [] = []
events_of k (e ∷ es) = if is_window k e.actor then e.event ∷ events_of k es else events_of k es

-- the commands of window k's script as events, the newest first
abbrev pub script_of : ℕ → List (List Command) → List Event
script_of k scripts = reverse (map Act (slice_index_or scripts k []))

-- An entry beside the Closer's: any of a window; a vault stage of a writer and a save stage of a saver, neither Idle; and,
-- where the files are watched, a revert of the Watcher.
abbrev pub may_stand : Bool → Actor → Event → Outcome → Bool
may_stand watched (Window k) event outcome = true
may_stand watched (Writer k) (Vault c) outcome = not (is_idle outcome)
may_stand watched (Saver k) (Flush c) outcome = not (is_idle outcome)
may_stand watched Watcher (Act (Revert c)) outcome = watched
may_stand watched _ event outcome = false

abbrev pub all_may_stand : Bool → List Entry → Bool
all_may_stand watched [] = true
all_may_stand watched (e ∷ es) = may_stand watched e.actor e.event e.outcome && all_may_stand watched es

abbrev pub has_window : List Entry → Bool
has_window [] = false
has_window (e ∷ es) = is_some_window e.actor || has_window es

-- After some of these entries, behind which no window has one, nothing of a kind was due.
pub record IsWorkedOff (lowest_due : List Entry → Option ℕ) (es : List Entry) : Type 0 where
  pub later : List Entry
  pub before : List Entry
  pub whole : es ≡ later ++ before
  pub windows_are_done : has_window later ≡ false
  pub nothing_due : lowest_due before ≡ None

-- The work of all but the Closer: each window has made exactly its commands, in their order, each once; all other entries
-- are of the kinds that may stand beside them; and the writers, and likewise the savers, have once left nothing to do after
-- the last command.
pub record IsWorkOf (o : Opening) (watched : Bool) (scripts : List (List Command)) (es : List Entry) : Type 0 where
  pub windows : (k : ℕ) → events_of k es ≡ script_of k scripts
  pub others : all_may_stand watched es ≡ true
  pub vault : IsWorkedOff (lowest_vault_due o) es
  pub saves : IsWorkedOff (lowest_save_due o) es

abbrev pub is_quit : Event → Bool
is_quit Quit = true
is_quit _ = false

abbrev pub ends_in_quit : List Entry → Bool
ends_in_quit [] = false
ends_in_quit (e ∷ es) = is_quit e.event

-- the lowest resource that the Closer may still work on
abbrev pub stage_resource : List Entry → ℕ
stage_resource [] = 0
stage_resource (e ∷ es) = elim e.event [ Act command ↦ 0 | Vault c ↦ c | Flush c ↦ c | Quit ↦ 0 ]

-- A stage that the Closer may do after its stages `so_far`, before which the entries `before` stand: of no resource below
-- the last one's, and a vault stage only where no save stage of that resource is due.
abbrev pub is_closing_stage : Opening → Event → List Entry → List Entry → Bool
is_closing_stage o (Vault c) so_far before = nat_le (stage_resource so_far) c && is_none (save_due o (so_far ++ before) c)
is_closing_stage o (Flush c) so_far before = nat_le (stage_resource so_far) c
is_closing_stage o _ so_far before = false

-- The stages of the Closer behind the entries `before`: none Idle, in the order of the resources' numbers.
abbrev pub are_closing : Opening → List Entry → List Entry → Bool
are_closing o [] before = true
are_closing o (e ∷ so_far) before = is_closer e.actor && not (is_idle e.outcome) && is_closing_stage o e.event so_far before && are_closing o so_far before

-- The end of a life behind the entries `before`: stages of the Closer, and one question whether the program may end, which
-- isn't asked anew where it was asked last.
abbrev pub is_end : Opening → List Entry → List Entry → Bool
is_end o [] before = ends_in_quit before
is_end o (e ∷ stages) before = is_closer e.actor && is_quit e.event && not (ends_in_quit (stages ++ before)) && are_closing o stages before

-- The history of windows with these scripts, of writers and savers, and of the Closer at the end.
pub record Interleaves (o : Opening) (watched : Bool) (scripts : List (List Command)) (es : List Entry) : Type 0 where
  pub end : List Entry
  pub work : List Entry
  pub whole : es ≡ end ++ work
  pub is_work : IsWorkOf o watched scripts work
  pub ends : is_end o end work ≡ true
