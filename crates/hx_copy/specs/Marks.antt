-- Steps as they are kept: their marks, the nearest first, and the bytes of all of them, those of the nearest last.
use Rattle.std.specs.Prelude.{ℕ, ◌+◌, ◌-◌, nat_le, Bool, true, ◌&&◌, List, [], ◌∷◌, take, drop, length}
use Rattle.hx_copy.specs.declared.trail.Mark.{Mark}
use Rattle.hx_copy.specs.Steps.{Step, step}

-- how many bytes come before those of this step, where there are so many
abbrev pub start_of : Mark → ℕ → ℕ
start_of m count = count - (m.here + m.there)

-- the steps that marks and bytes are
abbrev pub steps_of : List Mark → List ℕ → List Step
steps_of [] bytes = []
steps_of (m ∷ marks) bytes =
    step m.id m.off (take m.here (drop (start_of m (length bytes)) bytes)) (drop m.here (drop (start_of m (length bytes)) bytes))
    ∷ steps_of marks (take (start_of m (length bytes)) bytes)

-- so many bytes are enough for the steps with these marks
abbrev pub are_stacked : List Mark → ℕ → Bool
are_stacked [] count = true
are_stacked (m ∷ marks) count = nat_le (m.here + m.there) count && are_stacked marks (start_of m count)
