-- A life that goes on.
use Rattle.std.specs.Prelude.{◌≡◌, ◌<◌, ℕ, Bool, true, List, [], ◌∷◌, ◌++◌, length, slice_index_or, option_map, Option, Some, None, IfSome, refl}
use Rattle.std.proofs.Common.{sym, ◌∙◌, ap, subst}
use Rattle.hx_events.specs.declared.backup.PairFound.{PairFound}
use Rattle.hx_events.specs.declared.event.Actor.{Actor}
use Rattle.hx_events.specs.declared.event.Event.{Event}
use Rattle.hx_events.specs.declared.life.Entry.{Entry}
use Rattle.hx_events.specs.declared.outcome.Outcome.{Outcome}
use Rattle.hx_core.specs.Cores.{CoreState}
use Rattle.hx_rules.specs.Backups.{Begun}
use Rattle.hx_rules.specs.Entries.{past}
use Rattle.hx_events.specs.Resources.{is_resource}
use Rattle.hx_rules.specs.Legal.{is_row, restored_at}
use Rattle.hx_rules_laws.specs.Frames.{newest_first}
use Rattle.hx_rules_laws.specs.Sizes.{AreWhole, IsWholeEntry}
use Rattle.hx_lives.specs.Calls.{AddsEntry}
use Rattle.hx_lives.specs.Course.{Course, opening, with_entry}
use Rattle.hx_rules_laws.specs.Limits.{IsShortBackup}

-- a life so far, and the core that keeps it
pub record OpenLifeState : Type 0 where
  pub course : Course
  pub core : CoreState

-- What the type of a life that goes on keeps: its core begins with what the life was opened with, each content that was
-- read is whole, and what is written of a backup reads back: each name is that of a resource, and no restored content is too long.
pub record IsOpenLife (course : Course) (core : CoreState) : Type 0 where
  pub begins : core.opening ≡ opening course
  pub count : length core.resources ≡ length course.names
  pub whole : AreWhole course.entries
  pub named : (c : ℕ) → c < length course.names → is_resource (slice_index_or course.names c []) ≡ true
  pub short : (c : ℕ) → IsShortBackup (restored_at (opening course) c)

-- an entry, with the disk's moment and count of faults after its event
abbrev pub entry_by : ℕ → ℕ → Actor → Event → Outcome → List ℕ → Entry
entry_by moment faults actor event outcome content = record { moment = moment; faults = faults; actor = actor; event = event; outcome = outcome; content = content }

pub adds_entry : (c new : Course) (moment faults : ℕ) (actor : Actor) (event : Event) (o : Outcome) (content : List ℕ) → new ≡ with_entry c (entry_by moment faults actor event o content) → is_row (opening c) c.entries event o ≡ true → AddsEntry actor event o c new
adds_entry c new moment faults actor event o content grew row = record { entry = entry_by moment faults actor event o content; by_actor = refl; of_event = refl; came_to = refl; row = row; grown = grew }

-- the course that a core with one entry more keeps
abbrev pub course_by : List (List ℕ) → List PairFound → Bool → ℕ → ℕ → List Entry → Course
course_by names base guarded moment faults entries = record { names = names; base = base; guarded = guarded; moment = moment; faults = faults; entries = entries }

pub grown_by : (c : Course) (names more : List (List ℕ)) (base : List PairFound) (guarded : Bool) (moment faults : ℕ) (h h2 : List Entry) (e : Entry) → c ≡ course_by names base guarded moment faults (past h) → more ≡ names → h2 ≡ h ++ e ∷ []
    → course_by more base guarded moment faults (past h2) ≡ with_entry c e
grown_by c names more base guarded moment faults h h2 e is same grew =
    ap (λ (ns : List (List ℕ)). course_by ns base guarded moment faults (past h2)) same
    ∙ ap (course_by names base guarded moment faults) (ap past grew ∙ newest_first h e)
    ∙ ap (λ (k : Course). with_entry k e) (sym is)

-- one entry more, whose content is whole
pub goes_on : (c new : Course) (core more : CoreState) (e : Entry) → IsOpenLife c core → new ≡ with_entry c e → more.opening ≡ core.opening → length more.resources ≡ length core.resources → IsWholeEntry e.outcome e.content → IsOpenLife new more
goes_on c new core more e was grew same count whole = subst (λ (k : Course). IsOpenLife k more) (sym grew) (record { begins = same ∙ was.begins; count = count ∙ was.count; whole = (whole, was.whole); named = was.named; short = was.short })

-- what holds of the backup that is begun, however it is seen
pub each_begun : {X : Type 0} (view : X → Begun) (found : Option X) (b : Option Begun) (P : Begun → Type 0) → option_map view found ≡ b → ((x : Begun) → b ≡ Some x → P x) → IfSome found (λ x. P (view x))
each_begun view None b P is each = tt
each_begun view (Some x) b P is each = each (view x) (sym is)
