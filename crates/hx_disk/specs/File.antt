-- One file at one moment, what a crash may leave of it, and what each call of a disk makes of it.
-- The model is this project's own. It knows no order between writes: until a sync has succeeded, any part of them may be lost.
use Rattle.std.specs.Prelude.{◌≡◌, ◌⊎◌, ◌<◌, ◌≤◌, ℕ, ◌+◌, min, max, List, [], ◌∷◌, length, take, slice_index, Option, Some, MatchOption, IsSome}
use Rattle.hx_etag.specs.declared.stat.Stat.{Stat}
use Rattle.hx_disk.specs.Overlay.{overlaid}

-- What is known of a file at one moment, and all that bounds what a crash at that moment may leave of it.
pub record FileState : Type 0 where
  -- the bytes that a read returns, none where the file doesn't exist
  pub reading : List ℕ
  -- nothing where the file doesn't exist
  pub stat : Option Stat
  -- the reading at the last sync that succeeded, or at the last crash
  pub stable : List ℕ
  -- the ranges that writes were handed since then, by place and length, those of failed writes too
  pub written : List (ℕ × ℕ)
  -- the least and the greatest length that the file could have had since then, a failed call counting with either length
  pub least : ℕ
  pub greatest : ℕ

-- the place lies in none of the ranges
abbrev pub IsOutside : List (ℕ × ℕ) → ℕ → Type 0
IsOutside [] i = Unit {0}
IsOutside (range ∷ ranges) i = ((i < range.0) ⊎ (range.0 + range.1 ≤ i)) × IsOutside ranges i

-- No call since the last sync has touched the place, so a crash leaves the stable byte there.
-- Touched are the ranges of the writes, and what lies at or past the stable end or the end of a cut. Those ends are at or past the least length.
pub record IsUntouched (file : FileState) (i : ℕ) : Type 0 where
  pub below : i < file.least
  pub outside : IsOutside file.written i

-- A crash may leave these bytes: the stable ones wherever nothing was touched, any others elsewhere, in any length that the file could have had.
pub record IsImage (file : FileState) (image : List ℕ) : Type 0 where
  pub no_shorter : file.least ≤ length image
  pub no_longer : length image ≤ file.greatest
  pub untouched : (i : ℕ) → IsUntouched file i → slice_index image i ≡ slice_index file.stable i

-- Of each file at each moment: what is read and what was stable may both be left, and the stat has the size of what is read.
pub record IsSound (file : FileState) : Type 0 where
  pub stable : IsImage file file.stable
  pub reading : IsImage file file.reading
  -- what lies past the stable end is touched
  pub least : file.least ≤ length file.stable
  pub stat : MatchOption file.stat (file.reading ≡ []) (λ s. s.size ≡ length file.reading)

-- A crash leaves what is read and nothing else.
abbrev pub IsSettled : FileState → Type 0
IsSettled file = (image : List ℕ) → IsImage file image → image ≡ file.reading

-- All that is read is stable, and nothing was touched since: the state after a sync that succeeded, and after a crash.
pub record IsAtRest (file : FileState) : Type 0 where
  pub stable : file.stable ≡ file.reading
  pub written : file.written ≡ []
  pub least : file.least ≡ length file.reading
  pub greatest : file.greatest ≡ length file.reading

-- After a write of n bytes at this place that may have failed: the range is touched. Nothing is said of the reading but that it is an image.
pub record Tried (at n : ℕ) (old new : FileState) : Type 0 where
  pub stable : new.stable ≡ old.stable
  pub written : new.written ≡ (at, n) ∷ old.written
  pub least : new.least ≡ old.least
  pub greatest : new.greatest ≡ max old.greatest (at + n)

-- After a write that succeeded: the bytes are read at this place, and the rest is as before.
pub record Wrote (at : ℕ) (bytes : List ℕ) (old new : FileState) : Type 0 where
  pub tried : Tried at (length bytes) old new
  pub reading : new.reading ≡ overlaid old.reading at bytes
  pub exists : IsSome new.stat

-- After a cut to this length that may have failed: what lies at or past the new end is touched.
pub record TriedCut (len : ℕ) (old new : FileState) : Type 0 where
  pub stable : new.stable ≡ old.stable
  pub written : new.written ≡ old.written
  pub least : new.least ≡ min old.least len
  pub greatest : new.greatest ≡ old.greatest

-- After a cut that succeeded: the first bytes are read, so many.
pub record WasCut (len : ℕ) (old new : FileState) : Type 0 where
  pub tried : TriedCut len old new
  pub reading : new.reading ≡ take len old.reading
  pub exists : IsSome new.stat

-- After a sync that succeeded: what was read is stable, and nothing is touched any more. The stat stays.
pub record Synced (old new : FileState) : Type 0 where
  pub reading : new.reading ≡ old.reading
  pub stat : new.stat ≡ old.stat
  pub rest : IsAtRest new

-- Only the stat may have changed: the reading and all images are as before.
pub record SameContent (old new : FileState) : Type 0 where
  pub reading : new.reading ≡ old.reading
  pub stable : new.stable ≡ old.stable
  pub written : new.written ≡ old.written
  pub least : new.least ≡ old.least
  pub greatest : new.greatest ≡ old.greatest

-- the stat that a new modification time is to give
abbrev pub asked_stat : ℕ → FileState → Option Stat
asked_stat mtime old = Some record { mtime = mtime; size = length old.reading }

-- After a crash that left this image: it is read, and it is stable.
pub record Crashed (image : List ℕ) (new : FileState) : Type 0 where
  pub reading : new.reading ≡ image
  pub rest : IsAtRest new
