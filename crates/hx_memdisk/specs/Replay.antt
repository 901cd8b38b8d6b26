-- What each recorded call makes of a file, and so what all of them have made of it.
use Rattle.std.specs.Prelude.{◌≡◌, ℕ, ◌+◌, ◌/◌, ◌%◌, min, max, Bool, ◌==◌, if◌then◌else◌, List, [], ◌∷◌, ◌++◌, length, take, map, slice_index_or, Option, Some, None, refl}
use Rattle.std.specs.List.{enumerate_from}
use Rattle.hx_etag.specs.declared.stat.Stat.{Stat}
use Rattle.hx_disk.specs.Overlay.{overlaid}
use Rattle.hx_disk.specs.File.{FileState}
use Rattle.hx_memdisk.specs.Event.{Event, Writes, Cuts, Syncs, SetsMtime, Crashes}

-- a file that was never written
abbrev pub no_file : FileState
no_file = record { reading = []; stat = None; stable = []; written = []; least = 0; greatest = 0 }

-- A failed write has written its first half.
abbrev pub part_of : List ℕ → Bool → List ℕ
part_of bytes ok = if ok then bytes else take (length bytes / 2) bytes

abbrev pub mtime_of : Option Stat → ℕ
mtime_of None = 0
mtime_of (Some s) = s.mtime

-- A failed write makes the file exist only where it has written a byte, and sets no modification time.
abbrev pub written_stat : Bool → ℕ → ℕ → Option Stat → ℕ → Option Stat
written_stat ok part mtime old size =
    if ok then Some (record { mtime = mtime; size = size }) else (if part == 0 then old else Some (record { mtime = mtime_of old; size = size }))

abbrev pub resized : Option Stat → ℕ → Option Stat
resized None size = None
resized (Some s) size = Some (record { mtime = s.mtime; size = size })

abbrev pub write_after : ℕ → List ℕ → Bool → ℕ → FileState → FileState
write_after at bytes ok mtime s =
    let reading = overlaid s.reading at (part_of bytes ok) in
    record s {
      reading = reading;
      stat = written_stat ok (length (part_of bytes ok)) mtime s.stat (length reading);
      written = (at, length bytes) ∷ s.written;
      greatest = max s.greatest (at + length bytes);
    }

-- A failed cut has changed nothing, but what lies behind its end is touched.
abbrev pub cut_after : ℕ → Bool → ℕ → FileState → FileState
cut_after len ok mtime s =
    let reading = if ok then take len s.reading else s.reading in
    record s { reading = reading; stat = if ok then Some (record { mtime = mtime; size = length reading }) else s.stat; least = min s.least len }

abbrev pub sync_after : Bool → FileState → FileState
sync_after ok s = if ok then record s { stable = s.reading; written = []; least = length s.reading; greatest = length s.reading } else s

abbrev pub mtime_after : ℕ → Bool → FileState → FileState
mtime_after mtime ok s = if ok then record s { stat = Some (record { mtime = mtime; size = length s.reading }) } else s

-- the byte that was read or the stable one, by turns, and 1 past the stable end
abbrev pub mixed_byte : ℕ → List ℕ → ℕ → ℕ → ℕ
mixed_byte pick stable i byte = if (i + pick) % 2 == 0 then byte else slice_index_or stable i 1

abbrev pub mixed : ℕ → List ℕ → List ℕ → List ℕ
mixed pick reading stable = map (λ x. mixed_byte pick stable x.0 x.1) (enumerate_from 0 reading)

-- The pick 0 leaves what was stable, 1 what was read, and each other one a mixture as long as what was read.
abbrev pub pick_of_bytes : ℕ → List ℕ → List ℕ → List ℕ
pick_of_bytes pick reading stable = if pick == 0 then stable else (if pick == 1 then reading else mixed pick reading stable)

abbrev pub pick_of : ℕ → FileState → List ℕ
pick_of pick s = pick_of_bytes pick s.reading s.stable

-- A crash leaves a file existing or not as it was, with its modification time.
abbrev pub crash_after : ℕ → FileState → FileState
crash_after pick s =
    let image = pick_of pick s in
    record { reading = image; stat = resized s.stat (length image); stable = image; written = []; least = length image; greatest = length image }

-- what a call makes of this file
unfoldable pub after : ℕ → Event → FileState → FileState
after f (Writes file at bytes ok mtime) s = if f == file then write_after at bytes ok mtime s else s
after f (Cuts file len ok mtime) s = if f == file then cut_after len ok mtime s else s
after f (Syncs file ok) s = if f == file then sync_after ok s else s
after f (SetsMtime file mtime ok) s = if f == file then mtime_after mtime ok s else s
after f (Crashes pick) s = crash_after pick s

-- the state after these calls, of which the first is the oldest
pub replayed : ℕ → FileState → List Event → FileState
replayed f s [] = s
replayed f s (call ∷ calls) = replayed f (after f call s) calls

pub replayed-nil : (f : ℕ) (s : FileState) → replayed f s [] ≡ s
unfolding replayed
replayed-nil f s = refl

pub replayed-push : (f : ℕ) (s : FileState) (calls : List Event) (call : Event) → replayed f s (calls ++ call ∷ []) ≡ after f call (replayed f s calls)
unfolding replayed
replayed-push f s [] call = refl
replayed-push f s (first ∷ calls) call = replayed-push f (after f first s) calls call

pub replayed-cons : (f : ℕ) (s : FileState) (call : Event) (calls : List Event) → replayed f s (call ∷ calls) ≡ replayed f (after f call s) calls
unfolding replayed
replayed-cons f s call calls = refl

-- the file after these calls on a new disk
abbrev pub file_after : List Event → ℕ → FileState
file_after calls f = replayed f no_file calls
