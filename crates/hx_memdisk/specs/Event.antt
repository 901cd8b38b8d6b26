-- The record of a disk in memory, which only clauses read: each call with its bytes.
use Rattle.std.specs.Prelude.{ℕ, Bool, List}
use Rattle.hx_memdisk.specs.declared.call.Call.{Call}
use Rattle.hx_memdisk.specs.declared.call.Call.TheVariants.{Write, Cut, Sync, SetMtime, Crash}

-- A call that was recorded: what it was handed, whether it succeeded, and the modification time that it set where it did.
pub data Event : Type 0 where
  Writes : (file at : ℕ) (bytes : List ℕ) (ok : Bool) (mtime : ℕ) → Event
  Cuts : (file len : ℕ) (ok : Bool) (mtime : ℕ) → Event
  Syncs : (file : ℕ) (ok : Bool) → Event
  SetsMtime : (file mtime : ℕ) (ok : Bool) → Event
  Crashes : (pick : ℕ) → Event

abbrev pub event_of : Call → Event
event_of (Write file at bytes ok mtime) = Writes file at bytes.now ok mtime
event_of (Cut file len ok mtime) = Cuts file len ok mtime
event_of (Sync file ok) = Syncs file ok
event_of (SetMtime file mtime ok) = SetsMtime file mtime ok
event_of (Crash pick) = Crashes pick
