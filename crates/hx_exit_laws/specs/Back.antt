-- What comes back after an exit that closed.
use Rattle.std.specs.Prelude.{◌≡◌, ◌<◌, ◌⊎◌, ℕ, ◌==◌, Bool, true, false, IsTrue, List, [], ◌∷◌, length, Option, Some, None, option_map, refl}
use Rattle.std.proofs.Common.{ap, sym, ◌∙◌, inl, inr, subst}
use Rattle.hx_disk.specs.File.{FileState}
use Rattle.hx_events.specs.declared.backup.Backup.{Backup}
use Rattle.hx_events.specs.declared.life.Life.{Life}
use Rattle.hx_exit.specs.declared.exit.Decision.TheVariants.{Close}
use Rattle.hx_exit.specs.Exits.{decision_by}
use Rattle.hx_guarded_laws.specs.Contents.{IsVersion, hold_versions}
use Rattle.hx_lives.specs.Course.{course_of, start_of}
use Rattle.hx_lives.specs.CrashSafe.{name_at, safe_image}
use Rattle.hx_report.specs.Copies.{copies_at_end}
use Rattle.hx_report.specs.Tails.{opening}
use Rattle.hx_rules.specs.Allowed.{IsAllowed, IsAmong, allowed, allowed_of}
use Rattle.hx_rules.specs.Backups.{Snapshot, backup_of, done, tried, undone}
use Rattle.hx_rules.specs.Entries.{Deed, own, past}
use Rattle.hx_rules.specs.Legal.{restored_at}
use Rattle.hx_rules.specs.Versions.{last_version, version_at, versions}
use Rattle.hx_rules_laws.specs.Frames.{same_number}
use Rattle.hx_exit_laws.specs.Calm.{is_calm}
use Rattle.hx_exit_laws.specs.Decisions.{closes_where_a_life_loses_nothing}
use Rattle.hx_exit_laws.specs.Ends.{CloseBringsAllBack, DirtyAreBackedUp, NoneIsDirty, backed_at_end, dirty_at_end}

clash : {A : Type 0} (b : Bool) → b ≡ true → b ≡ false → A
clash b h i = absurd (let e : true ≡ false = sym h ∙ i in cc)

-- a dirty copy of a life over which the exit closed is backed up
backed_if_closed : (hot : Bool) (life : Life) (c : ℕ) → decision_by hot (copies_at_end life) ≡ Close → c < length life.names → dirty_at_end life c ≡ true → backed_at_end life c ≡ true
backed_if_closed hot life c closed below is = go ((closes_where_a_life_loses_nothing hot life).0 closed)
  where
    go : (IsTrue hot × DirtyAreBackedUp life) ⊎ NoneIsDirty life → backed_at_end life c ≡ true
    go (inl h) = h.1 c below is
    go (inr h) = clash (dirty_at_end life c) is (h c below)

-- the completed backup, which is of the last version
record IsLastBackup (restored : Option Backup) (ds : List Deed) (s : Option Snapshot) : Type 0 where
  backup : Snapshot
  completed : s ≡ Some backup
  newest : backup.version ≡ last_version restored ds
  whole : backup.content ≡ (version_at backup.version (versions restored ds)).content

last_backup : (restored : Option Backup) (ds : List Deed) (s : Option Snapshot) → IsVersion restored ds s → elim s [ None ↦ false | Some b ↦ b.version == last_version restored ds ] ≡ true → IsLastBackup restored ds s
last_backup restored ds None is h = absurd cc
last_backup restored ds (Some b) is h = record { backup = b; completed = refl; newest = same_number b.version (last_version restored ds) h; whole = is.1 }

-- where no other backup was tried since, and no discard, it alone is allowed
alone : (restored : Option Backup) (ds : List Deed) → tried restored ds ≡ None → undone ds ≡ false → allowed restored ds ≡ done restored ds ∷ []
alone restored ds none kept = ap (λ (t : Option Snapshot). allowed_of (done restored ds) t (undone ds)) none ∙ ap (λ u. allowed_of (done restored ds) None u) kept

found_is : (resource : List ℕ) (restored : Option Backup) (ds : List Deed) (backup : Snapshot) (found : Option Backup) → done restored ds ≡ Some backup → allowed restored ds ≡ done restored ds ∷ [] → IsAllowed resource restored ds found
    → found ≡ Some (backup_of resource backup)
found_is resource restored ds backup found completed only is = go (subst (IsAmong is.0) only is.1)
  where
    go : IsAmong is.0 (done restored ds ∷ []) → found ≡ Some (backup_of resource backup)
    go (inl same) = is.2 ∙ ap (option_map (backup_of resource)) (same ∙ completed)
    go (inr none) = absurd none

pub close_brings_all_back : (picked : ℕ → FileState → List ℕ) (tells : Bool) → CloseBringsAllBack picked tells
close_brings_all_back picked tells files b life hot lived is plain closed c below no_twin dirty_now =
    let restored = restored_at (opening life) c in
    let ds = own c (past life.history) in
    let holds = lived.holds in
    let backed_now = backed_if_closed hot life c closed below dirty_now in
    let calm = is_calm (opening life) (past life.history) c plain holds.legal in
    let last = last_backup restored ds (done restored ds) (hold_versions (opening life) (past life.history) c holds.legal).completed backed_now in
    record {
      backup = last.backup;
      completed = last.completed;
      newest = last.newest;
      whole = last.whole;
      found = λ image left.
          found_is (name_at (start_of (course_of life)) c) restored ds last.backup _ last.completed (alone restored ds (calm.tried dirty_now backed_now) (calm.undone dirty_now backed_now))
          ((safe_image (start_of (course_of life)) (course_of life).entries (files left.0) image ((holds.safe is).behind left.0 left.1 left.2) left.3).allowed c below no_twin);
    }
