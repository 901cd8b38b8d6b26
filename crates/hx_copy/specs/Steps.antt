-- The steps of a trail. Each keeps the bytes that stand in the content and those that stand there at the next place.
use Rattle.std.specs.Prelude.{ℕ, ◌≡◌, ◌+◌, ◌≤◌, Bool, true, false, List, [], ◌∷◌, ◌++◌, take, drop, length}
use Rattle.hx_rules.specs.Versions.{replaced}

-- From the content to the place with this id: at the offset the bytes `here` are replaced by the bytes `there`.
pub record Step : Type 0 where
  pub id : ℕ
  pub off : ℕ
  pub here : List ℕ
  pub there : List ℕ

abbrev pub step : ℕ → ℕ → List ℕ → List ℕ → Step
step id off here there = record { id = id; off = off; here = here; there = there }

-- the step back from where it leads, to the place with this id
abbrev pub turned : ℕ → Step → Step
turned id s = step id s.off s.there s.here

-- the steps of one side, the nearest first, and for how many more steps and bytes there is room
pub record StepsState : Type 0 where
  pub steps : List Step
  pub places : ℕ
  pub bytes : ℕ

-- the nearest step; without one, a step that changes nothing
abbrev pub first_step : List Step → Step
first_step [] = step 0 0 [] []
first_step (s ∷ ss) = s

abbrev pub has_steps : List Step → Bool
has_steps [] = false
has_steps (s ∷ ss) = true

-- The content has these bytes at the offset.
pub record HasAt (off : ℕ) (bytes content : List ℕ) : Type 0 where
  pub within : off + length bytes ≤ length content
  pub is : content ≡ take off content ++ bytes ++ drop (off + length bytes) content

-- the content that a step leads to
abbrev pub stepped : Step → List ℕ → List ℕ
stepped s content = replaced s.off (length s.here) s.there content

-- each step begins at the content that those before it lead to
abbrev pub IsChain : List ℕ → List Step → Type 0
IsChain content [] = Unit {0}
IsChain content (s ∷ ss) = HasAt s.off s.here content × IsChain (stepped s content) ss
