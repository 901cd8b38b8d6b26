-- The views of seats, and what each kind of step makes of them. All of this is the project's own. Histories have their
-- oldest entry first, calls and notes the newest.
use Rattle.std.specs.Prelude.{ℕ, suc, ◌+◌, ◌-◌, Bool, true, false, List, [], ◌∷◌, ◌++◌, length, if◌then◌else◌}
use Rattle.atomic_table.specs.Seated.{TableId}
use Rattle.hx_events.specs.declared.life.Entry.{Entry}
use Rattle.hx_events.specs.declared.event.Actor.{Actor}
use Rattle.hx_events.specs.declared.event.Actor.TheVariants.{Closer}
use Rattle.hx_events.specs.declared.event.Event.TheVariants.{Quit}
use Rattle.hx_events.specs.declared.outcome.Outcome.TheVariants.{Idle}
use Rattle.hx_passes.specs.declared.rule.Call.{Call}
use Rattle.hx_passes.specs.declared.rule.Finding.{Finding}
use Rattle.hx_passes.specs.declared.rule.Known.{Known}
use Rattle.hx_passes.specs.declared.rule.Note.{Note}
use Rattle.hx_passes.specs.declared.rule.View.{View}

abbrev pub view_of : List Entry → List Entry → List Call → List Note → List ℕ → ℕ → Bool → View
view_of seen told calls notes leaves parts right = record { seen = seen; told = told; calls = calls; notes = notes; leaves = leaves; parts = parts; right = right }

abbrev pub call_at : ℕ → Entry → Call
call_at place entry = record { place = place; entry = entry }

abbrev pub note_of : Finding → List Entry → ℕ → Note
note_of finding upto left = record { finding = finding; upto = upto; left = left }

-- the first seat has all parts and may add
abbrev pub first_view : List Entry → ℕ → View
first_view before parts = view_of before [] [] [] [] parts true

-- a seat keeps all but the parts that it hands over
abbrev pub parts_left : ℕ → View → View
parts_left n v = view_of v.seen v.told v.calls v.notes v.leaves (v.parts - n) v.right

-- a new seat has seen what the other has, and has these parts and nothing else
abbrev pub parts_moved : ℕ → View → View
parts_moved n v = view_of v.seen [] [] [] [] n false

abbrev pub without_right : View → View
without_right v = view_of v.seen v.told v.calls v.notes v.leaves v.parts false

-- what carries the right from one seat to another
abbrev pub slip : View → View
slip v = view_of v.seen [] [] [] [] 0 v.right

-- Two views in one, with the calls, notes, leaves and parts of both. The right comes with what its view has seen, and
-- what the other has seen was told.
abbrev pub both : View → View → View
both v w = view_of (if w.right then w.seen else v.seen) (if w.right then v.seen else w.seen) (w.calls ++ v.calls) (w.notes ++ v.notes) (w.leaves ++ v.leaves) (v.parts + w.parts) (if w.right then true else v.right)

-- what is left of a seat that was taken in
abbrev pub spent : View
spent = view_of [] [] [] [] [] 0 false

-- what the clerk knows: the whole history. It may add, and has nothing of its own
abbrev pub clerk_of : List Entry → View
clerk_of h = view_of h [] [] [] [] 0 true

-- a view in the lock: it has seen the whole history, and may add
abbrev pub in_lock : List Entry → View → View
in_lock h v = view_of h [] v.calls v.notes v.leaves v.parts true

-- the view with one entry more, as its own
abbrev pub grown : View → Entry → View
grown v e = view_of (v.seen ++ e ∷ []) v.told (call_at (suc (length v.seen)) e ∷ v.calls) v.notes v.leaves v.parts v.right

-- the view with one leave more, at the history's length
abbrev pub departed : View → View
departed v = view_of v.seen v.told v.calls v.notes (length v.seen ∷ v.leaves) v.parts v.right

-- the view with one note more, of the whole history and of how many had left
abbrev pub noting : Finding → ℕ → View → View
noting finding left v = view_of v.seen v.told v.calls (note_of finding v.seen left ∷ v.notes) v.leaves v.parts v.right

-- some entry, which stands for none
abbrev pub no_entry : Entry
no_entry = record { moment = 0; faults = 0; actor = Closer; event = Quit; outcome = Idle; content = [] }

abbrev pub known_of : Actor → List Entry → List Call → List Note → List ℕ → ℕ → Known
known_of actor seen calls notes leaves parts = record { actor = actor; seen = seen; calls = calls; notes = notes; leaves = leaves; parts = parts }

-- what contracts see of a pass
abbrev pub known : Actor → View → Known
known actor v = known_of actor v.seen v.calls v.notes v.leaves v.parts

-- a pass that has been split off
abbrev pub fresh : Actor → List Entry → ℕ → Known
fresh actor seen parts = known_of actor seen [] [] [] parts

-- the pass after it has handed over parts
abbrev pub gives : ℕ → Known → Known
gives n p = known_of p.actor p.seen p.calls p.notes p.leaves (p.parts - n)

-- the pass after it has seen this history, and nothing else
abbrev pub sees : List Entry → Known → Known
sees h p = known_of p.actor h p.calls p.notes p.leaves p.parts

-- the pass after its entry was added to this history, which it has then seen
abbrev pub with_call : Entry → List Entry → Known → Known
with_call e h p = known_of p.actor (h ++ e ∷ []) (call_at (suc (length h)) e ∷ p.calls) p.notes p.leaves p.parts

-- the pass after it noted what was found of this history, which it has then seen, and how many had left
abbrev pub with_note : Finding → ℕ → List Entry → Known → Known
with_note finding left h p = known_of p.actor h p.calls (note_of finding h left ∷ p.notes) p.leaves p.parts

-- the pass after it left, at this history, which it has then seen
abbrev pub with_leave : List Entry → Known → Known
with_leave h p = known_of p.actor h p.calls p.notes (length h ∷ p.leaves) p.parts

-- The words before they have a name: the table, the history that is there, the parts, and how many windows are to leave.
pub record Founding : Type 0 where
  pub table : TableId
  pub before : List Entry
  pub parts : ℕ
  pub windows : ℕ
