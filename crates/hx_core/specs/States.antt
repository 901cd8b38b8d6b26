-- What a copy is in.
use Rattle.std.specs.Prelude.{not, Bool, List, if◌then◌else◌, Option, is_some}
use Rattle.hx_events.specs.declared.backup.Backup.{Backup}
use Rattle.hx_rules.specs.Entries.{Deed}
use Rattle.hx_rules.specs.Copies.{registered, dirty}
use Rattle.hx_rules.specs.Saves.{running, save_steps}
use Rattle.hx_events.specs.declared.copies.CopyState.{CopyState}
use Rattle.hx_events.specs.declared.copies.CopyState.TheVariants.{NotOpen, Saving, Dirty, Clean}

abbrev pub state_by : Bool → Bool → Bool → CopyState
state_by is_open runs is_dirty = if not is_open then NotOpen else if runs then Saving else if is_dirty then Dirty else Clean

-- A copy after these deeds: not open, or being saved, or dirty, or clean; the first of these that holds.
abbrev pub state_of : Option Backup → List Deed → CopyState
state_of r ds = state_by (registered r ds) (is_some (running (save_steps r ds))) (dirty r ds)
