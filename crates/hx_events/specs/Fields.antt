-- A text of fields, each parted from the next by one blank. No field has a blank, so the fields can be read back.
use Rattle.std.specs.Prelude.{ℕ, ◌==◌, not, Bool, true, ◌&&◌, List, [], ◌∷◌, if◌then◌else◌}

-- no blank stands in it
abbrev pub is_word : List ℕ → Bool
is_word [] = true
is_word (byte ∷ bytes) = not (byte == 32) && is_word bytes

abbrev pub are_words : List (List ℕ) → Bool
are_words [] = true
are_words (field ∷ fields) = is_word field && are_words fields

abbrev pub onto_first : ℕ → List (List ℕ) → List (List ℕ)
onto_first byte [] = (byte ∷ []) ∷ []
onto_first byte (field ∷ fields) = (byte ∷ field) ∷ fields

-- the fields of a text, parted at each blank
abbrev pub fields_of : List ℕ → List (List ℕ)
fields_of [] = [] ∷ []
fields_of (byte ∷ bytes) = if byte == 32 then [] ∷ fields_of bytes else onto_first byte (fields_of bytes)
