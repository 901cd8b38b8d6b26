-- A file of a disk in memory, and what it shows of the file's state.
use Rattle.std.specs.Prelude.{◌≡◌, ◌≤◌, ℕ, List, length, take, drop, if◌then◌else◌, Option, Some, None, vec_capacity}
use Rattle.hx_etag.specs.declared.stat.Stat.{Stat}
use Rattle.hx_memdisk.specs.Event.{Event}
use Rattle.hx_memdisk.specs.Replay.{file_after, pick_of_bytes, resized}
use Rattle.hx_memdisk.specs.declared.kept.Kept.{Kept}

abbrev pub stat_of : Kept → Option Stat
stat_of file = if file.exists then Some (record { mtime = file.mtime; size = length file.bytes.items }) else None

-- It is the file of this number after these calls.
pub record IsAfter (calls : List Event) (number : ℕ) (file : Kept) : Type 0 where
  pub reading : file.bytes.items ≡ (file_after calls number).reading
  pub stat : stat_of file ≡ (file_after calls number).stat
  pub stable : file.stable.items ≡ (file_after calls number).stable

-- Writes up to this end take no more memory, nor does the sync behind them.
pub record Takes (end : ℕ) (file : Kept) : Type 0 where
  pub bytes : end ≤ vec_capacity file.bytes
  pub stable : end ≤ vec_capacity file.stable

-- What a crash with this pick has left of a file.
pub record HasLeft (pick : ℕ) (old new : Kept) : Type 0 where
  pub bytes : new.bytes.items ≡ pick_of_bytes pick old.bytes.items old.stable.items
  pub stable : new.stable.items ≡ new.bytes.items
  pub stat : stat_of new ≡ resized (stat_of old) (length new.bytes.items)
