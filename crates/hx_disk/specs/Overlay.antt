-- A list with other bytes written over it at a place, and its bytes place by place.
use Rattle.std.specs.Prelude.{◌≡◌, ◌<◌, ◌≤◌, ℕ, ◌+◌, ◌-◌, min, List, [], ◌∷◌, ◌++◌, length, take, drop, get_or}
use Rattle.std.proofs.Common.{◌∙◌, ap, arith, length-append, length-drop}
use Rattle.std.proofs.lemmas.List.{get_or_append_left, get_or-append_right, get_or-take, get_or-drop, length-take, append-nil, take-append-drop}

-- the old bytes with these ones at the place, longer where they reach past the end
abbrev pub overlaid : List ℕ → ℕ → List ℕ → List ℕ
overlaid old at bytes = take at old ++ bytes ++ drop (at + length bytes) old

pub length-overlaid : (old : List ℕ) (at : ℕ) (bytes : List ℕ) → length (overlaid old at bytes) ≡ min at (length old) + length bytes + (length old - (at + length bytes))
length-overlaid old at bytes =
    length-append (take at old ++ bytes) (drop (at + length bytes) old)
    ∙ ap (λ n. n + length (drop (at + length bytes) old)) (length-append (take at old) bytes ∙ ap (λ n. n + length bytes) (length-take at old))
    ∙ ap (λ n. min at (length old) + length bytes + n) (length-drop (at + length bytes) old)

-- a place before the range has the old byte
pub overlaid_before : (old : List ℕ) (at : ℕ) (bytes : List ℕ) (i : ℕ) → i < length old → i < at → get_or (overlaid old at bytes) i 0 ≡ get_or old i 0
overlaid_before old at bytes i here before =
    let front : i < length (take at old) = omega (arith, length-take at old) in
    get_or_append_left (take at old ++ bytes) (drop (at + length bytes) old) 0 i (omega (arith, front, length-append (take at old) bytes))
    ∙ get_or_append_left (take at old) bytes 0 i front
    ∙ get_or-take at old i 0 before

-- a place in the range has the new byte
pub overlaid_within : (old : List ℕ) (at : ℕ) (bytes : List ℕ) (i : ℕ) → at ≤ length old → at ≤ i → i < at + length bytes → get_or (overlaid old at bytes) i 0 ≡ get_or bytes (i - at) 0
overlaid_within old at bytes i whole from to =
    let front : length (take at old) ≡ at = omega (arith, length-take at old) in
    get_or_append_left (take at old ++ bytes) (drop (at + length bytes) old) 0 i (omega (arith, front, length-append (take at old) bytes))
    ∙ get_or-append_right (take at old) bytes at i 0 front from

-- a place behind the range has the old byte
pub overlaid_behind : (old : List ℕ) (at : ℕ) (bytes : List ℕ) (i : ℕ) → i < length old → at + length bytes ≤ i → get_or (overlaid old at bytes) i 0 ≡ get_or old i 0
overlaid_behind old at bytes i here behind =
    let front : length (take at old ++ bytes) ≡ at + length bytes = length-append (take at old) bytes ∙ omega (arith, length-take at old) in
    get_or-append_right (take at old ++ bytes) (drop (at + length bytes) old) (at + length bytes) i 0 front behind
    ∙ get_or-drop (at + length bytes) old (i - (at + length bytes)) 0
    ∙ ap (λ n. get_or old n 0) (omega arith)

-- no bytes change nothing
pub overlaid-nil : (old : List ℕ) (at : ℕ) (bytes : List ℕ) → length bytes ≡ 0 → overlaid old at bytes ≡ old
overlaid-nil old at [] none = ap (λ n. take at old ++ [] ++ drop n old) (omega arith) ∙ ap (λ (l : List ℕ). l ++ drop at old) (append-nil (take at old)) ∙ take-append-drop at old
overlaid-nil old at (b ∷ bytes) none = absurd (omega arith)
