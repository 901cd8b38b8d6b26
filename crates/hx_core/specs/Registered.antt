-- The registered copies, as an exit asks of them.
use Rattle.std.specs.Prelude.{ℕ, zero, suc, ◌+◌, Bool, List, [], ◌∷◌, length, if◌then◌else◌}
use Rattle.hx_events.specs.declared.copies.CopyFact.{CopyFact}
use Rattle.hx_events.specs.declared.life.Entry.{Entry}
use Rattle.hx_rules.specs.Entries.{own}
use Rattle.hx_rules.specs.Copies.{registered, dirty}
use Rattle.hx_rules.specs.Backups.{backed}
use Rattle.hx_rules.specs.Legal.{Opening, restored_at}

-- the copy of the resource c is registered after these entries
abbrev pub registered_at : Opening → List Entry → ℕ → Bool
registered_at o es c = registered (restored_at o c) (own c es)

-- what an exit asks of it: whether it is dirty, and whether its completed backup is of its last version
abbrev pub fact_at : Opening → List Entry → ℕ → CopyFact
fact_at o es c = record { res = c; dirty = dirty (restored_at o c) (own c es); backed = backed (restored_at o c) (own c es) }

-- the registered ones of the n resources from i on, in the order of their numbers
abbrev pub copies_from : Opening → List Entry → ℕ → ℕ → List CopyFact
copies_from o es i zero = []
copies_from o es i (suc n) = if registered_at o es i then fact_at o es i ∷ copies_from o es (i + 1) n else copies_from o es (i + 1) n

-- The registered copies of a life after these entries, in the order of their resources.
abbrev pub copies_of : Opening → List Entry → List CopyFact
copies_of o es = copies_from o es 0 (length o.restored)
