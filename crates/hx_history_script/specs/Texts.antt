-- The printed text of a local history, line by line. It is this project's own.
use Rattle.std.specs.Prelude.{ℕ, List, [], ◌∷◌, ◌++◌, codes, decimal}
use Rattle.hx_events.specs.Texts.{spaced, text_field}
use Rattle.hx_history_laws.specs.declared.entry.HistoryEntry.{HistoryEntry}
use Rattle.hx_history_script.specs.declared.answer.Answer.{Answer}
use Rattle.hx_history_script.specs.declared.answer.Answer.TheVariants.{Kept, Merged, TooLarge, Spent, FaultIn, FaultOut, Crashed}

-- what came of a line
abbrev pub answer_text : Answer → List ℕ
answer_text (Kept number) = codes "kept" ++ spaced (decimal number ∷ [])
answer_text (Merged number) = codes "merged" ++ spaced (decimal number ∷ [])
answer_text TooLarge = codes "toolarge"
answer_text Spent = codes "spent"
answer_text FaultIn = codes "fault in"
answer_text FaultOut = codes "fault out"
answer_text Crashed = codes "crashed"

-- a line for each line of the script
abbrev pub answer_lines : List Answer → List ℕ
answer_lines [] = []
answer_lines (answer ∷ answers) = answer_text answer ++ codes "\n" ++ answer_lines answers

-- an entry that is kept: its number, its moment and its content
abbrev pub entry_line : HistoryEntry → List ℕ
entry_line e = codes "entry" ++ spaced (decimal e.number ∷ decimal e.moment ∷ text_field e.content ∷ []) ++ codes "\n"

abbrev pub entry_lines : List HistoryEntry → List ℕ
entry_lines [] = []
entry_lines (e ∷ es) = entry_line e ++ entry_lines es

-- What is printed: what came of the lines, in order, and then the entries.
unfoldable pub history_text : List Answer → List HistoryEntry → List ℕ
history_text answers entries = answer_lines answers ++ entry_lines entries
