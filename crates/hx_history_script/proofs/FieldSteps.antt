-- What a script's reader knows of fields.
use Rattle.std.proofs.Common.{◌≡◌, ℕ, List, [], ◌∷◌, take, refl}
use Rattle.hx_history_script.specs.declared.script.HistoryLine.{HistoryLine}
use Rattle.hx_history_script.specs.Scripts.{fields_in}

-- four fields say what all do
pub enough : (n : ℕ) (lines : List HistoryLine) (fields : List (List ℕ)) → fields_in n lines (take 4 fields) ≡ fields_in n lines fields
enough n lines [] = refl
enough n lines (a ∷ []) = refl
enough n lines (a ∷ b ∷ []) = refl
enough n lines (a ∷ b ∷ c ∷ []) = refl
enough n lines (a ∷ b ∷ c ∷ d ∷ more) = refl
