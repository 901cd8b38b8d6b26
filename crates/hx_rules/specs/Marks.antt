-- All that is kept of a resource's backups, side by side.
use Rattle.std.specs.Prelude.{◌≡◌, Bool, false, List, Option, None}
use Rattle.hx_events.specs.declared.backup.Backup.{Backup}
use Rattle.hx_rules.specs.Entries.{Deed}
use Rattle.hx_rules.specs.Backups.{Snapshot, Begun, done, tried, undone, opened, faded, halted, begun}

-- The marks of a resource's backups: what is completed, tried and begun, and how its discards and stages stand.
pub record Marks : Type 0 where
  pub done : Option Snapshot
  pub tried : Option Snapshot
  pub undone : Bool
  pub opened : Bool
  pub begun : Option Begun
  pub faded : Bool
  pub halted : Bool

module _ (restored : Option Backup) (guarded : Bool) where
  -- the marks after these deeds
  abbrev pub marks : List Deed → Marks
  marks ds = record {
    done = done restored ds;
    tried = tried restored ds;
    undone = undone ds;
    opened = opened restored ds;
    begun = begun restored guarded ds;
    faded = faded ds;
    halted = halted ds;
  }

-- Nothing of the resource may come back, and nothing of it is under way.
pub record IsBare (m : Marks) : Type 0 where
  pub done : m.done ≡ None
  pub tried : m.tried ≡ None
  pub begun : m.begun ≡ None
  pub faded : m.faded ≡ false
