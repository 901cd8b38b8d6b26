-- What is said of a trace: it is legal, or it isn't at this line. Each life stands for itself and is judged by the rules of a
-- life that isn't guarded; what the device answered is taken as given where the rules leave it to the device.
use Rattle.std.specs.Prelude.{◌≡◌, ℕ, ◌+◌, ◌≤◌, Bool, true, false, List, [], ◌∷◌, ◌++◌, length, drop, take, bytes_eq, if◌then◌else◌, Option, Some, None}
use Rattle.hx_events.specs.declared.life.Entry.{Entry}
use Rattle.hx_events.specs.declared.life.Life.{Life}
use Rattle.hx_rules.specs.Entries.{past}
use Rattle.hx_rules.specs.Legal.{Opening, opening_of, is_row, is_legal}
use Rattle.hx_report.specs.Traces.{IsWhole}
use Rattle.hx_report.specs.Tails.{tail_text}
use Rattle.hx_script.specs.declared.trace.Trace.{Trace}
use Rattle.hx_script.specs.declared.trace.TraceLife.{TraceLife}
use Rattle.hx_check.specs.declared.verdict.Verdict.{Verdict}
use Rattle.hx_check.specs.declared.verdict.Verdict.TheVariants.{Legal, NotAt}

-- the opening of a life that isn't guarded
abbrev pub plain_opening : Life → Opening
plain_opening life = opening_of life.names life.base false

module _ (o : Opening) where
  -- The line of the first of these entries whose outcome isn't one that its event may have after those before it, which are
  -- given newest first. The first of these entries stands in this line.
  abbrev pub bad_entry : List Entry → ℕ → List Entry → Option ℕ
  bad_entry before line [] = None
  bad_entry before line (e ∷ es) = if is_row o before e.event e.outcome then bad_entry (e ∷ before) (line + 1) es else Some line

-- does the text go on with this line and its line feed?
abbrev pub goes_on : List ℕ → List ℕ → Bool
goes_on line text = bytes_eq (take (length line + 1) text) (line ++ 10 ∷ [])

-- The number of the first of these lines that differs from the text, where the first has this number. A line that is missing
-- is that behind the last.
abbrev pub bad_line : ℕ → List (List ℕ) → List ℕ → Option ℕ
bad_line number [] [] = None
bad_line number [] (byte ∷ text) = Some number
bad_line number (line ∷ lines) text = if goes_on line text then bad_line (number + 1) lines (drop (length line + 1) text) else Some number

abbrev pub first_bad : Option ℕ → Option ℕ → Option ℕ
first_bad None other = other
first_bad (Some number) other = Some number

-- The first line of a life that isn't right: an entry that the rules don't allow, or a line of the tail that differs from the one
-- that such a life prints.
abbrev pub bad_in_life : TraceLife → Option ℕ
bad_in_life l = first_bad (bad_entry (plain_opening l.life) [] l.first l.life.history) (bad_line l.tail_line l.tail (tail_text l.life))

abbrev pub bad_in_lives : List TraceLife → Option ℕ
bad_in_lives [] = None
bad_in_lives (l ∷ lives) = first_bad (bad_in_life l) (bad_in_lives lives)

abbrev pub verdict_by : Option ℕ → Verdict
verdict_by None = Legal
verdict_by (Some number) = NotAt number

-- The verdict on a trace.
unfoldable pub verdict_on : Trace → Verdict
verdict_on trace = verdict_by (bad_in_lives trace.lives)

-- The life's entries name its own resources, and no line has a greater number than a trace's lines and the one behind them.
pub record IsReadLife (l : TraceLife) : Type 0 where
  pub whole : IsWhole l.life
  pub first : l.first ≤ 200001
  pub tail : l.tail_line ≤ 200001

abbrev pub AreRead : List TraceLife → Type 0
AreRead [] = Unit {0}
AreRead (l ∷ lives) = IsReadLife l × AreRead lives

-- the lines, each with its line feed
abbrev pub joined : List (List ℕ) → List ℕ
joined [] = []
joined (line ∷ lines) = line ++ 10 ∷ joined lines

-- Each life's history is legal, and its lines behind the end are those of its tail.
abbrev pub AreLegal : List TraceLife → Type 0
AreLegal [] = Unit {0}
AreLegal (l ∷ lives) = (is_legal (plain_opening l.life) (past l.life.history) ≡ true) × (joined l.tail ≡ tail_text l.life) × AreLegal lives
