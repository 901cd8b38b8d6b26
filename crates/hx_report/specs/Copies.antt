-- How the copies of a life stand at its end, as an exit asks of them.
use Rattle.std.specs.Prelude.{ℕ, zero, suc, Bool, List, [], ◌∷◌, ◌++◌, length, if◌then◌else◌, Option, Some, None, slice_get}
use Rattle.hx_events.specs.declared.copies.CopyFact.{CopyFact}
use Rattle.hx_events.specs.declared.life.Entry.{Entry}
use Rattle.hx_events.specs.declared.life.Life.{Life}
use Rattle.hx_rules.specs.Backups.{backed}
use Rattle.hx_rules.specs.Copies.{dirty, is_number, registered}
use Rattle.hx_rules.specs.Entries.{own, past}
use Rattle.hx_rules.specs.Legal.{Opening, restored_at}
use Rattle.hx_report.specs.declared.outline.Outline.{Outline}
use Rattle.hx_report.specs.Outlines.{is_dirty_by}
use Rattle.hx_report.specs.Tails.{opening}

abbrev pub copy_fact : ℕ → (is_dirty is_backed : Bool) → CopyFact
copy_fact c is_dirty is_backed = record { res = c; dirty = is_dirty; backed = is_backed }

abbrev pub fact_if : Bool → CopyFact → List CopyFact
fact_if is_registered fact = if is_registered then fact ∷ [] else []

module _ (o : Opening) (es : List Entry) where
  -- what an exit asks of the copy of the resource c after these entries: whether it is dirty, and whether its completed backup is
  -- of its last version
  abbrev pub fact_at : ℕ → CopyFact
  fact_at c = copy_fact c (dirty (restored_at o c) (own c es)) (backed (restored_at o c) (own c es))

  -- of the first n resources the registered copies, in the order of their numbers
  abbrev pub copies_below : ℕ → List CopyFact
  copies_below zero = []
  copies_below (suc c) = copies_below c ++ fact_if (registered (restored_at o c) (own c es)) (fact_at c)

-- The registered copies at the end of a life, in the order of their numbers.
abbrev pub copies_at_end : Life → List CopyFact
copies_at_end life = copies_below (opening life) (past life.history) (length life.names)

-- the same by what is kept of each resource
abbrev pub fact_of_outline : ℕ → Outline → List CopyFact
fact_of_outline c x = fact_if x.registered (copy_fact c (is_dirty_by x.registered x.trail x.mark) (is_number x.last x.done))

abbrev pub fact_of_some : ℕ → Option Outline → List CopyFact
fact_of_some c None = []
fact_of_some c (Some x) = fact_of_outline c x

abbrev pub facts_of_outlines : List Outline → ℕ → List CopyFact
facts_of_outlines xs zero = []
facts_of_outlines xs (suc c) = facts_of_outlines xs c ++ fact_of_some c (slice_get xs c)
