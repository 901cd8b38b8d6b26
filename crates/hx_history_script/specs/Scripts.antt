-- Which bytes are the script of a local history. The form, the limits and the order of the reasons are this project's own.
use Rattle.std.specs.Prelude.{ℕ, nat_le, nat_lt, Bool, true, false, ◌||◌, List, [], ◌∷◌, ◌++◌, length, count_by, codes, bytes_eq, if◌then◌else◌, Result, Ok, Err}
use Rattle.hx_events.specs.Fields.{fields_of}
use Rattle.hx_history_script.specs.declared.script.HistoryLine.{HistoryLine}
use Rattle.hx_history_script.specs.declared.script.HistoryLine.TheVariants.{Saved, Crash}
use Rattle.hx_script.specs.declared.why.Why.{Why}
use Rattle.hx_script.specs.declared.why.Why.TheVariants.{TooLong, Form}
use Rattle.hx_script.specs.Readings.{Reading, Reads, Refused, and_then, ranked}
use Rattle.hx_script.specs.Values.{number_in, text_in}
use Rattle.hx_script.specs.Lines.{behind_header, lines_behind}

abbrev pub saved_of : (moment text : List ℕ) → Result HistoryLine Why
saved_of moment text = and_then (number_in moment) (λ m. and_then (text_in text) (λ content. Ok (Saved m content)))

-- the moment of a save, and its content
abbrev pub saved_in : List (List ℕ) → Result HistoryLine Why
saved_in (moment ∷ text ∷ []) = saved_of moment text
saved_in fields = Err Form

-- the pick of a crash
abbrev pub crash_in : List (List ℕ) → Result HistoryLine Why
crash_in (pick ∷ []) = and_then (number_in pick) (λ p. Ok (Crash p))
crash_in fields = Err Form

abbrev pub is_crash : HistoryLine → Bool
is_crash (Saved moment content) = false
is_crash (Crash pick) = true

-- a script has at most 10,000 lines, and 31 crashes
abbrev pub is_beyond : ℕ → Bool
is_beyond number = nat_lt 10000 number

abbrev pub has_all_crashes : List HistoryLine → Bool
has_all_crashes lines = nat_le 31 (count_by is_crash lines)

abbrev pub with_line : List HistoryLine → HistoryLine → List HistoryLine
with_line lines line = lines ++ line ∷ []

abbrev pub saved_line : ℕ → List HistoryLine → List (List ℕ) → Result (List HistoryLine) Why
saved_line number lines fields = and_then (ranked (saved_in fields) false (is_beyond number)) (λ line. Ok (with_line lines line))

abbrev pub crash_line : ℕ → List HistoryLine → List (List ℕ) → Result (List HistoryLine) Why
crash_line number lines fields = and_then (ranked (crash_in fields) false (is_beyond number || has_all_crashes lines)) (λ line. Ok (with_line lines line))

-- what the line with this number, of these fields, makes of the lines before it
abbrev pub fields_in : ℕ → List HistoryLine → List (List ℕ) → Result (List HistoryLine) Why
fields_in number lines [] = Err Form
fields_in number lines (first ∷ fields) =
    if bytes_eq first (codes "saved") then saved_line number lines fields
    else if bytes_eq first (codes "crash") then crash_line number lines fields
    else Err Form

abbrev pub line_in : ℕ → List HistoryLine → List ℕ → Result (List HistoryLine) Why
line_in number lines line = fields_in number lines (fields_of line)

abbrev pub lines_at_end : ℕ → List HistoryLine → Reading (List HistoryLine)
lines_at_end number lines = Reads lines

-- What bytes read as: the lines of a script, or the first bad line with its first reason.
unfoldable pub history_script_in : List ℕ → Reading (List HistoryLine)
history_script_in bytes =
    if nat_lt 4194304 (length bytes) then Refused 0 TooLong
    else lines_behind line_in lines_at_end [] (behind_header (codes "hotexit history 1") bytes)
