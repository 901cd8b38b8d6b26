-- Which bytes are a trace. The forms, the limits and the order of the reasons are this project's own.
use Rattle.std.specs.Prelude.{◌≡◌, ◌≤◌, ℕ, ◌+◌, ◌==◌, nat_le, nat_lt, not, Bool, true, false, ◌&&◌, ◌||◌, List, [], ◌∷◌, ◌++◌, length, All, replicate, slice_set, codes, bytes_eq, if◌then◌else◌, Option, Some, None, is_some, Result, Ok, Err}
use Rattle.hx_etag.specs.declared.stat.Stat.{Stat}
use Rattle.hx_events.specs.declared.backup.PairFound.{PairFound}
use Rattle.hx_events.specs.declared.backup.PairFound.TheVariants.{Empty, Found, Damaged, Twin}
use Rattle.hx_events.specs.declared.backup.Side.TheVariants.{A as SideA}
use Rattle.hx_events.specs.declared.event.Actor.{Actor}
use Rattle.hx_events.specs.declared.event.Event.{Event}
use Rattle.hx_events.specs.declared.life.Ended.{Ended}
use Rattle.hx_events.specs.declared.life.Ended.TheVariants.{Script, Restart, Crash}
use Rattle.hx_events.specs.declared.life.Entry.{Entry}
use Rattle.hx_events.specs.declared.outcome.Outcome.{Outcome}
use Rattle.hx_events.specs.Places.{place_of}
use Rattle.hx_events.specs.Resources.{is_resource}
use Rattle.hx_events.specs.Texts.{IsEntryOf}
use Rattle.hx_events.specs.Fields.{fields_of}
use Rattle.hx_script.specs.declared.trace.TraceLife.{TraceLife}
use Rattle.hx_script.specs.declared.trace.Trace.{Trace}
use Rattle.hx_script.specs.declared.trace.Part.{Part}
use Rattle.hx_script.specs.declared.trace.Part.TheVariants.{Before, Names, Pairs, Entries, Copies, Tickets}
use Rattle.hx_script.specs.declared.trace.TraceKind.{TraceKind}
use Rattle.hx_script.specs.declared.trace.TraceKind.TheVariants.{Life as LifeLine, Name as NameLine, Pair as PairLine, Entry as EntryLine, End as EndLine, Copy as CopyLine, Ticket as TicketLine}
use Rattle.hx_script.specs.declared.why.Why.{Why}
use Rattle.hx_script.specs.declared.why.Why.TheVariants.{TooLong, Form, Number}
use Rattle.hx_script.specs.Readings.{Reading, Reads, Refused, and_then, both, ranked}
use Rattle.hx_script.specs.Values.{number_in, at_most, resource_in, text_in}
use Rattle.hx_script.specs.Events.{move_in}
use Rattle.hx_script.specs.Outcomes.{stat_of, outcome_in}
use Rattle.hx_script.specs.Scripts.{name_in}
use Rattle.hx_script.specs.Lines.{cut_at, first_field, other_fields, behind_header, lines_behind}

-- the kind of a line, by its first field: an event's line begins with an actor
abbrev pub trace_kind : List ℕ → TraceKind
trace_kind field =
    if bytes_eq field (codes "life") then LifeLine
    else if bytes_eq field (codes "name") then NameLine
    else if bytes_eq field (codes "pair") then PairLine
    else if bytes_eq field (codes "end") then EndLine
    else if bytes_eq field (codes "copy") then CopyLine
    else if bytes_eq field (codes "ticket") then TicketLine
    else EntryLine

-- the number of a life, which is the next
abbrev pub number_is : ℕ → Result ℕ Why → Result ℕ Why
number_is wanted (Ok number) = if number == wanted then Ok number else Err Number
number_is wanted (Err why) = Err why

abbrev pub life_in : ℕ → List (List ℕ) → Result ℕ Why
life_in begun (number ∷ []) = number_is (begun + 1) (number_in number)
life_in begun fields = Err Form

-- The backup of a restored pair: its resource, the stat that it was made from, if it is known, and its content.
abbrev pub backup_of : List (List ℕ) → (name : List ℕ) → Result (Option Stat) Why → (text : List ℕ) → Result PairFound Why
backup_of names name base text =
    and_then (resource_in names name) (λ c. and_then base (λ stat. and_then (text_in text) (λ content. Ok (Found (record { resource = name; base = stat; content = content }) SideA))))

abbrev pub some_stat : (mtime size : List ℕ) → Result (Option Stat) Why
some_stat mtime size = and_then (stat_of mtime size) (λ stat. Ok (Some stat))

abbrev pub restored_in : List (List ℕ) → List (List ℕ) → Result PairFound Why
restored_in names (name ∷ base ∷ text ∷ []) = if bytes_eq base (codes "none") then backup_of names name (Ok None) text else Err Form
restored_in names (name ∷ mtime ∷ size ∷ text ∷ []) = backup_of names name (some_stat mtime size) text
restored_in names fields = Err Form

abbrev pub damaged_in : List (List ℕ) → Result PairFound Why
damaged_in [] = Ok Damaged
damaged_in fields = Err Form

abbrev pub twin_in : List (List ℕ) → Result PairFound Why
twin_in (pair ∷ []) = and_then (at_most 63 (number_in pair)) (λ p. Ok (Twin p))
twin_in fields = Err Form

-- what a pair was found to hold, by the word behind its number
abbrev pub found_in : List (List ℕ) → List ℕ → List (List ℕ) → Result PairFound Why
found_in names word fields =
    if bytes_eq word (codes "restored") then restored_in names fields
    else if bytes_eq word (codes "damaged") then damaged_in fields
    else if bytes_eq word (codes "twin") then twin_in fields
    else Err Form

-- a pair's number and what it holds
abbrev pub pair_of : List (List ℕ) → List ℕ → List (List ℕ) → Result (ℕ × PairFound) Why
pair_of names number [] = Err Form
pair_of names number (word ∷ fields) = both (at_most 63 (number_in number)) (found_in names word fields)

unfoldable pub pair_in : List (List ℕ) → List (List ℕ) → Result (ℕ × PairFound) Why
pair_in names [] = Err Form
pair_in names (number ∷ fields) = pair_of names number fields

-- an entry: its event, one tab, and its outcome
abbrev pub entry_of : List (List ℕ) → Option (List ℕ × List ℕ) → Result ((Actor × Event) × Outcome) Why
entry_of names None = Err Form
entry_of names (Some parts) = both (move_in names (fields_of parts.0)) (outcome_in names (fields_of parts.1))

unfoldable pub entry_in : List (List ℕ) → List ℕ → Result ((Actor × Event) × Outcome) Why
entry_in names line = entry_of names (cut_at 9 line)

-- how a life ended
abbrev pub ended_in : List (List ℕ) → Result Ended Why
ended_in (word ∷ []) = if bytes_eq word (codes "script") then Ok Script else if bytes_eq word (codes "restart") then Ok Restart else Err Form
ended_in (word ∷ pick ∷ []) = if bytes_eq word (codes "crash") then and_then (number_in pick) (λ p. Ok (Crash p)) else Err Form
ended_in fields = Err Form

-- a version id or `none`
abbrev pub number_or_none : List ℕ → Result Unit Why
number_or_none field = if bytes_eq field (codes "none") then Ok tt else and_then (number_in field) (λ v. Ok tt)

abbrev pub copy_of : List (List ℕ) → (name version backup : List ℕ) → Result Unit Why
copy_of names name version backup = and_then (resource_in names name) (λ c. and_then (number_in version) (λ v. number_or_none backup))

abbrev pub is_state : List ℕ → Bool
is_state word = bytes_eq word (codes "dirty") || bytes_eq word (codes "clean")

abbrev pub copy_words : List (List ℕ) → (name first version state second backup : List ℕ) → Result Unit Why
copy_words names name first version state second backup =
    if bytes_eq first (codes "version") && is_state state && bytes_eq second (codes "backup") then copy_of names name version backup else Err Form

-- the state of a copy at the end: its version, whether it is dirty, and the version that is backed up
abbrev pub copy_in : List (List ℕ) → List (List ℕ) → Result Unit Why
copy_in names (name ∷ first ∷ version ∷ state ∷ second ∷ backup ∷ []) = copy_words names name first version state second backup
copy_in names fields = Err Form

abbrev pub is_answer : List ℕ → Bool
is_answer word = bytes_eq word (codes "clean") || bytes_eq word (codes "modified") || bytes_eq word (codes "fault") || bytes_eq word (codes "none")

-- the answer to a save: the place of its entry, and what it was answered
abbrev pub ticket_in : List (List ℕ) → Result Unit Why
ticket_in (place ∷ word ∷ []) = if is_answer word then and_then (number_in place) (λ p. Ok tt) else Err Form
ticket_in (place ∷ word ∷ version ∷ []) = if bytes_eq word (codes "saved") then and_then (number_in place) (λ p. and_then (number_in version) (λ v. Ok tt)) else Err Form
ticket_in fields = Err Form

-- A trace as far as it was read: the lives that are over, and the one in hand with the part that stood last.
pub record TraceState : Type 0 where
  pub lives : List TraceLife
  pub part : Part
  pub life : TraceLife

-- no pair holds anything
unfoldable pub no_pairs : List PairFound
no_pairs = replicate 64 Empty

-- a life by what its lines tell: no line tells a moment or a count of faults
abbrev pub drafted : (names : List (List ℕ)) (base : List PairFound) (history : List Entry) (ended : Ended) (first : ℕ) (tail : List (List ℕ)) (tail_line : ℕ) → TraceLife
drafted names base history ended first tail tail_line = record {
  life = record { names = names; base = base; moment = 0; faults = 0; history = history; ended = ended; guarded = false };
  first = first;
  tail = tail;
  tail_line = tail_line;
}

-- A life as it begins. Until its `end` line it counts as one that ended with its script.
abbrev pub new_life : TraceLife
new_life = drafted [] no_pairs [] Script 0 [] 0

abbrev pub no_trace : TraceState
no_trace = record { lives = []; part = Before; life = new_life }

-- where a life may begin: before all, and behind a life's `end` line
abbrev pub is_between : Part → Bool
is_between Before = true
is_between Copies = true
is_between Tickets = true
is_between part = false

-- where entries and the `end` line may stand
abbrev pub is_inside : Part → Bool
is_inside Names = true
is_inside (Pairs last) = true
is_inside Entries = true
is_inside part = false

abbrev pub is_naming : Part → Bool
is_naming Names = true
is_naming part = false

-- where copies stand, and where tickets do
abbrev pub is_copying : Part → Bool
is_copying Copies = true
is_copying part = false

abbrev pub is_behind_end : Part → Bool
is_behind_end Copies = true
is_behind_end Tickets = true
is_behind_end part = false

-- A pair's number is above that of the pair before it. What is no number isn't compared.
abbrev pub is_not_above : ℕ → Result ℕ Why → Bool
is_not_above last (Ok number) = nat_le number last
is_not_above last (Err why) = false

unfoldable pub is_out_of_order : Part → List (List ℕ) → Bool
is_out_of_order Names fields = false
is_out_of_order (Pairs last) fields = is_not_above last (number_in (first_field fields))
is_out_of_order part fields = true

-- a trace has at most 200,000 lines and 32 lives, and a life 256 names
abbrev pub is_past : ℕ → Bool
is_past number = nat_lt 200000 number

abbrev pub is_begun : Part → Bool
is_begun Before = false
is_begun part = true

abbrev pub begun_lives : TraceState → ℕ
begun_lives state = if is_begun state.part then length state.lives + 1 else 0

abbrev pub has_all_lives : TraceState → Bool
has_all_lives state = nat_le 32 (begun_lives state)

abbrev pub names_everything : TraceState → Bool
names_everything state = nat_le 256 (length state.life.life.names)

-- the lives that are over once another begins
abbrev pub lives_over : TraceState → List TraceLife
lives_over state = if is_begun state.part then state.lives ++ state.life ∷ [] else state.lives

abbrev pub with_new_life : TraceState → TraceState
with_new_life state = record { lives = lives_over state; part = Names; life = new_life }

abbrev pub named_life : TraceLife → List ℕ → TraceLife
named_life t name = drafted (t.life.names ++ name ∷ []) t.life.base t.life.history t.life.ended t.first t.tail t.tail_line

abbrev pub paired_life : TraceLife → ℕ → PairFound → TraceLife
paired_life t pair found = drafted t.life.names (slice_set t.life.base pair found) t.life.history t.life.ended t.first t.tail t.tail_line

-- an entry as a trace tells it
abbrev pub told_entry : (Actor × Event) × Outcome → Entry
told_entry e = record { moment = 0; faults = 0; actor = e.0.0; event = e.0.1; outcome = e.1; content = [] }

abbrev pub longer_life : TraceLife → Entry → ℕ → TraceLife
longer_life t entry first = drafted t.life.names t.life.base (t.life.history ++ entry ∷ []) t.life.ended first t.tail t.tail_line

abbrev pub ended_life : TraceLife → Ended → (first tail_line : ℕ) → TraceLife
ended_life t ended first tail_line = drafted t.life.names t.life.base t.life.history ended first t.tail tail_line

abbrev pub tailed_life : TraceLife → List ℕ → TraceLife
tailed_life t line = drafted t.life.names t.life.base t.life.history t.life.ended t.first (t.tail ++ line ∷ []) t.tail_line

abbrev pub has_entries : Part → Bool
has_entries Entries = true
has_entries part = false

-- the line of the first entry, this one where none stands before it
abbrev pub first_line : ℕ → TraceState → ℕ
first_line number state = if has_entries state.part then state.life.first else number

abbrev pub with_life : TraceState → Part → TraceLife → TraceState
with_life state part life = record { lives = state.lives; part = part; life = life }

-- What each kind of line makes of the trace so far.
abbrev pub life_line : ℕ → TraceState → List (List ℕ) → Result TraceState Why
life_line number state fields = and_then (ranked (life_in (begun_lives state) fields) (not (is_between state.part)) (is_past number || has_all_lives state)) (λ k. Ok (with_new_life state))

abbrev pub name_line : ℕ → TraceState → List (List ℕ) → Result TraceState Why
name_line number state fields = and_then (ranked (name_in state.life.life.names fields) (not (is_naming state.part)) (is_past number || names_everything state)) (λ name. Ok (with_life state Names (named_life state.life name)))

abbrev pub pair_line : ℕ → TraceState → List (List ℕ) → Result TraceState Why
pair_line number state fields = and_then (ranked (pair_in state.life.life.names fields) (is_out_of_order state.part fields) (is_past number)) (λ p. Ok (with_life state (Pairs p.0) (paired_life state.life p.0 p.1)))

abbrev pub entry_line : ℕ → TraceState → List ℕ → Result TraceState Why
entry_line number state line = and_then (ranked (entry_in state.life.life.names line) (not (is_inside state.part)) (is_past number)) (λ e. Ok (with_life state Entries (longer_life state.life (told_entry e) (first_line number state))))

abbrev pub end_line : ℕ → TraceState → List (List ℕ) → Result TraceState Why
end_line number state fields = and_then (ranked (ended_in fields) (not (is_inside state.part)) (is_past number)) (λ ended. Ok (with_life state Copies (ended_life state.life ended (first_line number state) (number + 1))))

abbrev pub copy_line : ℕ → TraceState → List ℕ → List (List ℕ) → Result TraceState Why
copy_line number state line fields = and_then (ranked (copy_in state.life.life.names fields) (not (is_copying state.part)) (is_past number)) (λ done. Ok (with_life state Copies (tailed_life state.life line)))

abbrev pub ticket_line : ℕ → TraceState → List ℕ → List (List ℕ) → Result TraceState Why
ticket_line number state line fields = and_then (ranked (ticket_in fields) (not (is_behind_end state.part)) (is_past number)) (λ done. Ok (with_life state Tickets (tailed_life state.life line)))

abbrev pub trace_line_of : TraceKind → ℕ → TraceState → List ℕ → List (List ℕ) → Result TraceState Why
trace_line_of LifeLine number state line fields = life_line number state fields
trace_line_of NameLine number state line fields = name_line number state fields
trace_line_of PairLine number state line fields = pair_line number state fields
trace_line_of EntryLine number state line fields = entry_line number state line
trace_line_of EndLine number state line fields = end_line number state fields
trace_line_of CopyLine number state line fields = copy_line number state line fields
trace_line_of TicketLine number state line fields = ticket_line number state line fields

-- what the line with this number makes of the trace that the lines before it are
abbrev pub trace_line : ℕ → TraceState → List ℕ → Result TraceState Why
trace_line number state line = trace_line_of (trace_kind (first_field (fields_of line))) number state line (other_fields (fields_of line))

-- A trace ends behind a life's `end` line: what is missing is missed at the line behind the last.
abbrev pub trace_at_end : ℕ → TraceState → Reading Trace
trace_at_end number state = if is_behind_end state.part then Reads (record { lives = state.lives ++ state.life ∷ [] }) else Refused number Form

-- What bytes read as: a trace, or the first bad line with its first reason.
unfoldable pub trace_in : List ℕ → Reading Trace
trace_in bytes =
    if nat_lt 67108864 (length bytes) then Refused 0 TooLong
    else lines_behind trace_line trace_at_end no_trace (behind_header (codes "hotexit trace 1") bytes)

-- a restored pair's resource is among the names
abbrev pub IsFoundOf : List (List ℕ) → PairFound → Type 0
IsFoundOf names (Found backup side) = is_some (place_of backup.resource names) ≡ true
IsFoundOf names found = Unit {0}

-- What holds of each life of a trace: it is of its own names, has 64 pairs, isn't guarded, and its lines are numbered within
-- the limit.
pub record IsWellRead (t : TraceLife) : Type 0 where
  pub few : length t.life.names ≤ 256
  pub resources : All (λ name. is_resource name ≡ true) t.life.names
  pub pairs : length t.life.base ≡ 64
  pub base : All (IsFoundOf t.life.names) t.life.base
  pub history : All (IsEntryOf t.life.names) t.life.history
  pub plain : t.life.guarded ≡ false
  pub first : t.first ≤ 200001
  pub tail_line : t.tail_line ≤ 200001

-- While a life names, it has neither pairs nor entries.
abbrev pub NamesFirst : Part → TraceLife → Type 0
NamesFirst Names t = (t.life.base ≡ no_pairs) × (t.life.history ≡ [])
NamesFirst part t = Unit {0}

-- what holds of a trace as far as it was read
pub record IsTraceState (state : TraceState) : Type 0 where
  pub few : length state.lives ≤ 31
  pub over : All IsWellRead state.lives
  pub names_first : NamesFirst state.part state.life
