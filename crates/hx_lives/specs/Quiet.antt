-- The last question of a life.
use Rattle.std.specs.Prelude.{Bool, false, ◌&&◌, List, [], ◌∷◌}
use Rattle.hx_events.specs.declared.life.Entry.{Entry}
use Rattle.hx_rules.specs.Interleavings.{is_quit}
use Rattle.hx_rules.specs.Legal.{Opening, is_quiet}

-- the last entry is the question whether the program may end, and nothing was due before it
abbrev pub is_quiet_before_quit : Opening → List Entry → Bool
is_quiet_before_quit o [] = false
is_quiet_before_quit o (e ∷ es) = is_quit e.event && is_quiet o es
