-- Copies and situations for worked values.
use Rattle.std.specs.Prelude.{Bool, true, false, List, [], ◌∷◌}
use Rattle.hx_events.specs.declared.copies.CopyFact.{CopyFact}
use Rattle.hx_exit.specs.declared.exit.Situation.{Situation}

abbrev pub situation : (last folder mac : Bool) → Situation
situation last folder mac = record { last = last; folder = folder; mac = mac }

-- one copy that is dirty, and backed up or not
abbrev pub backed_up : List CopyFact
backed_up = record { res = 0; dirty = true; backed = true } ∷ []

abbrev pub not_backed_up : List CopyFact
not_backed_up = record { res = 0; dirty = true; backed = false } ∷ []

-- one copy as it was created
abbrev pub clean : List CopyFact
clean = record { res = 0; dirty = false; backed = false } ∷ []
