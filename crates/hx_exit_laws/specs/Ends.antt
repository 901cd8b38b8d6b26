-- What an exit leaves of a life at its end.
use Rattle.std.specs.Prelude.{◌≡◌, ◌<◌, ◌⊎◌, ◌↔◌, ℕ, Bool, not, ◌&&◌, IsTrue, IsFalse, List, length, Some}
use Rattle.hx_disk.specs.Disk.{Left}
use Rattle.hx_disk.specs.File.{FileState}
use Rattle.hx_events.specs.declared.life.Life.{Life}
use Rattle.hx_exit.specs.declared.exit.Decision.TheVariants.{Close, Confirm}
use Rattle.hx_exit.specs.Exits.{decision_by}
use Rattle.hx_lives.specs.Chained.{IsLived, end_of}
use Rattle.hx_lives.specs.Course.{Past, course_of, last_moment, start_of}
use Rattle.hx_lives.specs.CrashSafe.{HasNoTwin, name_at}
use Rattle.hx_report.specs.Copies.{copies_at_end}
use Rattle.hx_report.specs.Tails.{opening}
use Rattle.hx_restore.specs.Values.{shows}
use Rattle.hx_rules.specs.Backups.{Snapshot, backed, backup_of, done}
use Rattle.hx_rules.specs.Copies.{dirty}
use Rattle.hx_rules.specs.Entries.{own, past}
use Rattle.hx_rules.specs.Legal.{restored_at}
use Rattle.hx_rules.specs.Versions.{last_version, version_at, versions}

-- the copy of the resource c is dirty at the end of the life
abbrev pub dirty_at_end : Life → ℕ → Bool
dirty_at_end life c = dirty (restored_at (opening life) c) (own c (past life.history))

-- its completed backup is of its last version
abbrev pub backed_at_end : Life → ℕ → Bool
backed_at_end life c = backed (restored_at (opening life) c) (own c (past life.history))

-- At the end of the life the completed backup of each dirty copy is of its last version.
abbrev pub DirtyAreBackedUp : Life → Type 0
DirtyAreBackedUp life = (c : ℕ) → c < length life.names → IsTrue (dirty_at_end life c) → IsTrue (backed_at_end life c)

abbrev pub NoneIsDirty : Life → Type 0
NoneIsDirty life = (c : ℕ) → c < length life.names → IsFalse (dirty_at_end life c)

-- An exit closes exactly where it is a hot one and all that is dirty is backed up, or nothing is dirty.
abbrev pub ClosesWhereALifeLosesNothing : Type 0
ClosesWhereALifeLosesNothing = (hot : Bool) (life : Life) → (decision_by hot (copies_at_end life) ≡ Close) ↔ ((IsTrue hot × DirtyAreBackedUp life) ⊎ NoneIsDirty life)

-- the exit would lose the changes of the resource c: it is dirty, and the exit isn't a hot one or its last version isn't backed up
abbrev pub is_lost_at_end : (hot : Bool) → Life → ℕ → Bool
is_lost_at_end hot life c = dirty_at_end life c && not (hot && backed_at_end life c)

-- the exit would lose the changes of this resource, and of none with a lower number
pub record IsLowestLost (hot : Bool) (life : Life) (c : ℕ) : Type 0 where
  pub below : c < length life.names
  pub lost : IsTrue (is_lost_at_end hot life c)
  pub kept : (k : ℕ) → k < c → IsFalse (is_lost_at_end hot life k)

-- It asks about a copy exactly where that is the lowest whose changes it would lose.
abbrev pub AsksAboutTheLowestLost : Type 0
AsksAboutTheLowestLost = (hot : Bool) (life : Life) (c : ℕ) → (decision_by hot (copies_at_end life) ≡ Confirm c) ↔ IsLowestLost hot life c

-- The copy of the resource c comes back: its completed backup is of its last version, with its content, and that backup is what a
-- restart finds of it, whatever a crash leaves from the life's last entry to its end, which is at the moment b at the latest.
pub record ComesBack (files : Past) (b : ℕ) (life : Life) (c : ℕ) : Type 0 where
  pub backup : Snapshot
  pub completed : done (restored_at (opening life) c) (own c (past life.history)) ≡ Some backup
  pub newest : backup.version ≡ last_version (restored_at (opening life) c) (own c (past life.history))
  pub whole : backup.content ≡ (version_at backup.version (versions (restored_at (opening life) c) (own c (past life.history)))).content
  pub found : (image : ℕ → List ℕ) → Left files (last_moment (course_of life)) (end_of life.ended (last_moment (course_of life)) b) image
      → shows image (name_at (start_of (course_of life)) c) ≡ Some (backup_of (name_at (start_of (course_of life)) c) backup)

-- Each copy that is dirty at the life's end, of which its vault held no second pair, comes back.
abbrev pub AllComeBack : Past → ℕ → Life → Type 0
AllComeBack files b life = (c : ℕ) → c < length life.names → HasNoTwin life.base (name_at (start_of (course_of life)) c) → IsTrue (dirty_at_end life c) → ComesBack files b life c

-- After a close all that is dirty comes back, on a disk that tells, of a life that wasn't guarded.
abbrev pub CloseBringsAllBack : (ℕ → FileState → List ℕ) → Bool → Type 0
CloseBringsAllBack picked tells = (files : Past) (b : ℕ) (life : Life) (hot : Bool) → IsLived picked tells files b life → IsTrue tells → IsFalse life.guarded → decision_by hot (copies_at_end life) ≡ Close → AllComeBack files b life
