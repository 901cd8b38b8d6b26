-- What is counted while histories are read once.
use Rattle.std.specs.Prelude.{ℕ, ◌+◌, ◌≤◌, Bool, List, [], ◌∷◌, ◌++◌, codes, if◌then◌else◌}
use Rattle.hx_events.specs.declared.life.Entry.{Entry}
use Rattle.hx_events.specs.declared.life.Life.{Life}
use Rattle.hx_events.specs.declared.outcome.Outcome.{Outcome}
use Rattle.hx_report.specs.declared.counts.Counts.{Counts}
use Rattle.hx_report.specs.Summaries.{is_edited, is_backed_up, is_dropped, is_saved, is_modified, is_idle, is_fault, count_line}

abbrev pub no_counts : Counts
no_counts = record { entries = 0; edits = 0; backups = 0; drops = 0; saved = 0; modified = 0; idle = 0; faults = 0 }

abbrev pub one_if : Bool → ℕ → ℕ
one_if b n = if b then n + 1 else n

-- one more entry with this outcome
abbrev pub counts_after : Outcome → Counts → Counts
counts_after outcome c = record {
  entries = c.entries + 1;
  edits = one_if (is_edited outcome) c.edits;
  backups = one_if (is_backed_up outcome) c.backups;
  drops = one_if (is_dropped outcome) c.drops;
  saved = one_if (is_saved outcome) c.saved;
  modified = one_if (is_modified outcome) c.modified;
  idle = one_if (is_idle outcome) c.idle;
  faults = one_if (is_fault outcome) c.faults;
}

-- the entries counted, the first one first
abbrev pub counted : List Entry → Counts → Counts
counted [] c = c
counted (e ∷ es) c = counted es (counts_after e.outcome c)

abbrev pub counted_all : List Life → Counts → Counts
counted_all [] c = c
counted_all (life ∷ lives) c = counted_all lives (counted life.history c)

-- no count is above that of the entries
pub record IsWithin (c : Counts) : Type 0 where
  pub edits : c.edits ≤ c.entries
  pub backups : c.backups ≤ c.entries
  pub drops : c.drops ≤ c.entries
  pub saved : c.saved ≤ c.entries
  pub modified : c.modified ≤ c.entries
  pub idle : c.idle ≤ c.entries
  pub faults : c.faults ≤ c.entries

abbrev pub count_lines : Counts → List ℕ
count_lines c =
    count_line (codes "entries") c.entries
    ++ count_line (codes "edits") c.edits
    ++ count_line (codes "backups") c.backups
    ++ count_line (codes "drops") c.drops
    ++ count_line (codes "saved") c.saved
    ++ count_line (codes "modified") c.modified
    ++ count_line (codes "idle") c.idle
    ++ count_line (codes "faults") c.faults
