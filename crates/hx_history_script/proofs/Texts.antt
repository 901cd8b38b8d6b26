-- Lines that are put in parts.
use Rattle.std.proofs.Common.{◌≡◌, ℕ, List, [], ◌∷◌, ◌++◌, ◌∙◌, ap, codes, append_assoc, append-nil}
use Rattle.hx_events.specs.Texts.{spaced}

-- six texts, one behind the other
chain : (out word a b c end : List ℕ) → ((((out ++ word) ++ a) ++ b) ++ c) ++ end ≡ out ++ ((word ++ (a ++ (b ++ c))) ++ end)
chain out word a b c end = simp append_assoc

single : (field : List ℕ) → spaced (field ∷ []) ≡ 32 ∷ field
single field = ap (λ rest. 32 ∷ rest) (append-nil field)

-- the line of an entry, put in parts
pub entry_put : (out number moment text : List ℕ)
    → ((((out ++ codes "entry") ++ spaced (number ∷ [])) ++ spaced (moment ∷ [])) ++ spaced (text ∷ [])) ++ 10 ∷ []
    ≡ out ++ (codes "entry" ++ spaced (number ∷ moment ∷ text ∷ []) ++ codes "\n")
entry_put out number moment text =
    (λ j. ((((out ++ codes "entry") ++ single number j) ++ single moment j) ++ spaced (text ∷ [])) ++ 10 ∷ [])
    ∙ chain out (codes "entry") (32 ∷ number) (32 ∷ moment) (spaced (text ∷ [])) (10 ∷ [])
