-- The printed text of lives, line by line. It is this project's own.
use Rattle.std.specs.Prelude.{ℕ, ◌+◌, List, [], ◌∷◌, ◌++◌, codes, decimal}
use Rattle.hx_events.specs.declared.backup.PairFound.{PairFound}
use Rattle.hx_events.specs.declared.backup.PairFound.TheVariants.{Empty, Found, Damaged, Twin}
use Rattle.hx_events.specs.declared.life.Ended.{Ended}
use Rattle.hx_events.specs.declared.life.Ended.TheVariants.{Script, Restart, Crash, Cut}
use Rattle.hx_events.specs.declared.life.Entry.{Entry}
use Rattle.hx_events.specs.declared.life.Life.{Life}
use Rattle.hx_events.specs.Texts.{spaced, text_field, found_fields, line_text, outcome_line, IsEntryOf}
use Rattle.hx_report.specs.Tails.{tail_text}

-- The resources that these entries name are among these names.
abbrev pub AreEntriesOf : List (List ℕ) → List Entry → Type 0
AreEntriesOf names [] = Unit {0}
AreEntriesOf names (e ∷ es) = IsEntryOf names e × AreEntriesOf names es

-- a life whose entries name only resources of its own
abbrev pub IsWhole : Life → Type 0
IsWhole life = AreEntriesOf life.names life.history

abbrev pub AreWhole : List Life → Type 0
AreWhole [] = Unit {0}
AreWhole (life ∷ lives) = IsWhole life × AreWhole lives

-- a line for each resource, in the order of their numbers
abbrev pub name_lines : List (List ℕ) → List ℕ
name_lines [] = []
name_lines (name ∷ names) = codes "name " ++ name ++ codes "\n" ++ name_lines names

-- What the pair with this number was found to hold. An empty one has no line.
abbrev pub pair_line : ℕ → PairFound → List ℕ
pair_line p Empty = []
pair_line p (Found b side) = codes "pair" ++ spaced (decimal p ∷ codes "restored" ∷ b.resource ∷ found_fields b.base ++ text_field b.content ∷ []) ++ codes "\n"
pair_line p Damaged = codes "pair" ++ spaced (decimal p ∷ codes "damaged" ∷ []) ++ codes "\n"
pair_line p (Twin earlier) = codes "pair" ++ spaced (decimal p ∷ codes "twin" ∷ decimal earlier ∷ []) ++ codes "\n"

-- a line for each pair that isn't empty; the first of these has the number p
abbrev pub pair_lines : ℕ → List PairFound → List ℕ
pair_lines p [] = []
pair_lines p (pair ∷ pairs) = pair_line p pair ++ pair_lines (p + 1) pairs

-- an entry: the line of its event, a tab, the text of its outcome
abbrev pub entry_line : List (List ℕ) → Entry → List ℕ
entry_line names e = line_text names e.actor e.event ++ codes "\t" ++ outcome_line names e.outcome ++ codes "\n"

abbrev pub entry_lines : List (List ℕ) → List Entry → List ℕ
entry_lines names [] = []
entry_lines names (e ∷ es) = entry_line names e ++ entry_lines names es

-- how a life ended; one that was cut has no line
abbrev pub end_line : Ended → List ℕ
end_line Script = codes "end script\n"
end_line Restart = codes "end restart\n"
end_line (Crash pick) = codes "end crash " ++ decimal pick ++ codes "\n"
end_line Cut = []

-- the lines of a life with this number
abbrev pub whole_life : ℕ → Life → List ℕ
whole_life k life =
    codes "life " ++ decimal k ++ codes "\n" ++ name_lines life.names ++ pair_lines 0 life.base
    ++ entry_lines life.names life.history ++ end_line life.ended ++ tail_text life

-- A life that was cut for want of memory is never printed.
abbrev pub life_unless_cut : Ended → List ℕ → List ℕ
life_unless_cut Cut text = []
life_unless_cut _ text = text

unfoldable pub life_text : ℕ → Life → List ℕ
life_text k life = life_unless_cut life.ended (whole_life k life)

-- the lives, of which the first has the number k
abbrev pub life_texts : ℕ → List Life → List ℕ
life_texts k [] = []
life_texts k (life ∷ lives) = life_text k life ++ life_texts (k + 1) lives

-- The trace of these lives: a header, and the lives numbered from 1.
unfoldable pub trace_text : List Life → List ℕ
trace_text lives = codes "hotexit trace 1\n" ++ life_texts 1 lives
