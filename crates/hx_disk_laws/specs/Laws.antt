-- The laws of the disk model, as statements.
use Rattle.std.specs.Prelude.{◌≡◌, ◌≢◌, ◌≤◌, ◌⊎◌, ℕ, Bool, IsTrue, List, length}
use Rattle.hx_disk.specs.Disk.{Elapses, Left, Through, ThroughAll}
use Rattle.hx_disk.specs.File.{FileState, IsImage, IsSound, IsSettled, IsAtRest, Tried, TriedCut, SameContent}
use Rattle.hx_disk.specs.Images.{IsTorn, IsTornCut}

-- At rest, the reading is the only image.
abbrev pub RestSettles : Type 0
RestSettles = (file : FileState) → IsAtRest file → IsSettled file

-- Whether the write succeeded or not, a crash leaves what it could have left before it, with the range torn.
abbrev pub WritesTear : Type 0
WritesTear = (at n : ℕ) (old new : FileState) → IsSound old → at ≤ length old.reading → Tried at n old new → (image : List ℕ) → IsImage new image → (before : List ℕ) × IsImage old before × IsTorn at n before image

-- And so for a cut, with what lies behind the new end torn.
abbrev pub CutsTear : Type 0
CutsTear = (len : ℕ) (old new : FileState) → IsSound old → TriedCut len old new → (image : List ℕ) → IsImage new image → (before : List ℕ) × IsImage old before × IsTornCut len before image

-- A change of the stat alone changes no image.
abbrev pub SameImages : Type 0
SameImages = (old new : FileState) → SameContent old new → (image : List ℕ) → IsImage new image → IsImage old image

-- What might be left from a to c, might be left from a to b or from b to c.
abbrev pub LeftSplits : Type 0
LeftSplits = (past : ℕ → ℕ → FileState) (a b c : ℕ) (image : ℕ → List ℕ) → Left past a c image → Left past a b image ⊎ Left past b c image

-- What might have been left by a moment is so still where the moments up to it are as they were.
abbrev pub LeftStays : Type 0
LeftStays = (old new : ℕ → ℕ → FileState) (now a b : ℕ) (image : ℕ → List ℕ) → b ≤ now → ((t f : ℕ) → t ≤ now → new t f ≡ old t f) → Left new a b image → Left old a b image

-- A call that changes anything raises the moment.
abbrev pub StillIsSame : {D : Type 0} → (D → ℕ) → (D → ℕ → ℕ → FileState) → (D → ℕ → FileState) → Type 0
StillIsSame {D = D} moment past now = (old new : D) → Elapses moment past old new → moment new ≡ moment old → (f : ℕ) → now new f ≡ now old f

-- Where each file passes a test at each moment of a run, and after one call more, a crash too, it does so at each moment of the longer run.
abbrev pub RunGoesOn : {D : Type 0} → (D → ℕ) → (D → ℕ → ℕ → FileState) → (D → ℕ → FileState) → Type 0
RunGoesOn {D = D} moment past now = (passes : ℕ → FileState → Bool) (old mid new : D) → ThroughAll moment past (λ f s. IsTrue (passes f s)) old mid → Elapses moment past mid new → ((f : ℕ) → IsTrue (passes f (now new f)))
    → ThroughAll moment past (λ f s. IsTrue (passes f s)) old new

-- Where each file passes a test at each moment of two runs in turn, on whichever files, it does so at each moment of both.
abbrev pub RunsJoin : {D : Type 0} → (D → ℕ) → (D → ℕ → ℕ → FileState) → Type 0
RunsJoin {D = D} moment past = (passes : ℕ → FileState → Bool) (old mid new : D) → ThroughAll moment past (λ f s. IsTrue (passes f s)) old mid → ThroughAll moment past (λ f s. IsTrue (passes f s)) mid new
    → ThroughAll moment past (λ f s. IsTrue (passes f s)) old new

-- A run on one file leaves every other one.
abbrev pub OthersStay : {D : Type 0} → (D → ℕ) → (D → ℕ → ℕ → FileState) → (D → ℕ → FileState) → Type 0
OthersStay {D = D} moment past now = (file : ℕ) (passes : FileState → Bool) (old new : D) → Through moment past file (λ s. IsTrue (passes s)) old new → (f : ℕ) → f ≢ file → now new f ≡ now old f

-- Where each image of a file that passes one test passes another, so does each file of a disk that a crash in the run might have left.
abbrev pub LeftPasses : {D : Type 0} → (D → ℕ) → (D → ℕ → ℕ → FileState) → Type 0
LeftPasses {D = D} moment past = (passes : ℕ → FileState → Bool) (holds : ℕ → List ℕ → Bool) (old new : D) → ThroughAll moment past (λ f s. IsTrue (passes f s)) old new
    → ((f : ℕ) (s : FileState) (image : List ℕ) → IsTrue (passes f s) → IsImage s image → IsTrue (holds f image))
    → (image : ℕ → List ℕ) → Left (past new) (moment old) (moment new) image → (f : ℕ) → IsTrue (holds f (image f))
