-- What lives came to, counted. The counts and their order are this project's own.
use Rattle.std.specs.Prelude.{ℕ, ◌+◌, Bool, true, false, List, [], ◌∷◌, ◌++◌, length, codes, decimal, count_by}
use Rattle.hx_events.specs.declared.backup.PairFound.{PairFound}
use Rattle.hx_events.specs.declared.backup.PairFound.TheVariants.{Found}
use Rattle.hx_events.specs.declared.event.Stage.TheVariants.{Open, Drop}
use Rattle.hx_events.specs.declared.life.Entry.{Entry}
use Rattle.hx_events.specs.declared.life.Life.{Life}
use Rattle.hx_events.specs.declared.outcome.Outcome.{Outcome}
use Rattle.hx_events.specs.declared.outcome.Outcome.TheVariants.{Edited, StageOk, StageFault, Saved, Modified, Idle, Fault, CheckFault, WriteFault}
use Rattle.hx_rules.specs.Entries.{own, past}
use Rattle.hx_rules.specs.Copies.{dirty}
use Rattle.hx_rules.specs.Legal.{restored_at, count_below}
use Rattle.hx_report.specs.Tails.{opening}

abbrev pub is_edited : Outcome → Bool
is_edited (Edited n) = true
is_edited _ = false

-- a completed backup
abbrev pub is_backed_up : Outcome → Bool
is_backed_up (StageOk Open v) = true
is_backed_up _ = false

-- a completed discard
abbrev pub is_dropped : Outcome → Bool
is_dropped (StageOk Drop v) = true
is_dropped _ = false

abbrev pub is_saved : Outcome → Bool
is_saved (Saved v x) = true
is_saved _ = false

abbrev pub is_modified : Outcome → Bool
is_modified (Modified s) = true
is_modified _ = false

abbrev pub is_idle : Outcome → Bool
is_idle Idle = true
is_idle _ = false

-- a failed device call
abbrev pub is_fault : Outcome → Bool
is_fault Fault = true
is_fault (StageFault s v) = true
is_fault CheckFault = true
is_fault (WriteFault v) = true
is_fault _ = false

abbrev pub is_found : PairFound → Bool
is_found (Found b side) = true
is_found _ = false

-- how many of the entries have such an outcome
abbrev pub count_in : (Outcome → Bool) → List Entry → ℕ
count_in test es = count_by (λ e. test e.outcome) es

-- the same over all lives
abbrev pub count_all : (Outcome → Bool) → List Life → ℕ
count_all test [] = 0
count_all test (life ∷ lives) = count_in test life.history + count_all test lives

abbrev pub entries_in : List Life → ℕ
entries_in [] = 0
entries_in (life ∷ lives) = length life.history + entries_in lives

-- the pairs in which these lives found a backup
abbrev pub found_in : List Life → ℕ
found_in [] = 0
found_in (life ∷ lives) = count_by is_found life.base + found_in lives

-- what was restored: the backups that the lives behind the first found
abbrev pub restored_in : List Life → ℕ
restored_in [] = 0
restored_in (first ∷ lives) = found_in lives

-- the copies of a life that are dirty at its end
abbrev pub dirty_copies : Life → ℕ
dirty_copies life = count_below (λ c. dirty (restored_at (opening life) c) (own c (past life.history))) (length life.names)

-- the same of the last life
abbrev pub dirty_at_last : List Life → ℕ
dirty_at_last [] = 0
dirty_at_last (life ∷ []) = dirty_copies life
dirty_at_last (life ∷ next ∷ lives) = dirty_at_last (next ∷ lives)

-- a word and a count
abbrev pub count_line : List ℕ → ℕ → List ℕ
count_line word n = word ++ 32 ∷ decimal n ++ codes "\n"

-- The summary of lives that `made n` led to.
unfoldable pub summary_text : ℕ → List Life → List ℕ
summary_text n lives =
    count_line (codes "made") n
    ++ count_line (codes "entries") (entries_in lives)
    ++ count_line (codes "edits") (count_all is_edited lives)
    ++ count_line (codes "backups") (count_all is_backed_up lives)
    ++ count_line (codes "drops") (count_all is_dropped lives)
    ++ count_line (codes "saved") (count_all is_saved lives)
    ++ count_line (codes "modified") (count_all is_modified lives)
    ++ count_line (codes "idle") (count_all is_idle lives)
    ++ count_line (codes "faults") (count_all is_fault lives)
    ++ count_line (codes "restored") (restored_in lives)
    ++ count_line (codes "dirty") (dirty_at_last lives)
