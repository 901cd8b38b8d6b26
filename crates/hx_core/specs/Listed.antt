-- The list of completed backups, in the order in which it is shown.
use Rattle.std.specs.Prelude.{ℕ, ◌≡◌, List, [], ◌∷◌, Option, None, nat_eq, option_map}
use Rattle.indexmap.specs.IndexMap.{insert_entry, shift_remove_entry}
use Rattle.hx_events.specs.declared.event.Event.{Event}
use Rattle.hx_events.specs.declared.event.Event.TheVariants.{Act, Vault, Flush, Quit}
use Rattle.hx_events.specs.declared.event.Stage.TheVariants.{Open, Drop}
use Rattle.hx_events.specs.declared.life.Entry.{Entry}
use Rattle.hx_events.specs.declared.outcome.Outcome.{Outcome}
use Rattle.hx_events.specs.declared.outcome.Outcome.TheVariants.{StageOk}
use Rattle.hx_events.specs.Texts.{resource_of}
use Rattle.hx_backups.specs.Backups.{version_of}
use Rattle.hx_rules.specs.Entries.{own}
use Rattle.hx_rules.specs.Backups.{done}
use Rattle.hx_rules.specs.Legal.{Opening, restored_at}

-- the number of the event's resource; the question whether the program may end has none, and changes no backup
abbrev pub res_of : Event → ℕ
res_of (Act command) = resource_of command
res_of (Vault c) = c
res_of (Flush c) = c
res_of Quit = 0

-- What an outcome of the resource c makes of the list: a completed backup keeps its place, or comes last, and a discarded
-- one is taken out.
abbrev pub listed_after : Outcome → ℕ → List (ℕ × ℕ) → List (ℕ × ℕ)
listed_after (StageOk Open v) c was = insert_entry nat_eq was c v
listed_after (StageOk Drop v) c was = shift_remove_entry (nat_eq c) was
listed_after _ c was = was

-- The resources that have a completed backup, each with its version, after these entries: it begins with the restored
-- resources in the order of their pairs, each with version 1.
abbrev pub listed : List (ℕ × ℕ) → List Entry → List (ℕ × ℕ)
listed first [] = first
listed first (e ∷ es) = listed_after e.outcome (res_of e.event) (listed first es)

-- no resource stands in the list twice
abbrev pub StandsOnce : List (ℕ × ℕ) → Type 0
StandsOnce [] = Unit {0}
StandsOnce (p ∷ pairs) = (version_of p.0 pairs ≡ None) × StandsOnce pairs

-- the version of the resource's completed backup after these entries, if it has one
abbrev pub version_done : Opening → List Entry → ℕ → Option ℕ
version_done o es c = option_map (λ b. b.version) (done (restored_at o c) (own c es))

-- The list says which backups are completed: a resource stands there exactly where it has a completed backup, once, and
-- with that backup's version.
pub record ListsDone (o : Opening) (es : List Entry) (pairs : List (ℕ × ℕ)) : Type 0 where
  pub once : StandsOnce pairs
  pub versions : (c : ℕ) → version_of c pairs ≡ version_done o es c
