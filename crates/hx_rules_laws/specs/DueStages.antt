-- What the stage that is due says of what is begun, and of an opened gate.
use Rattle.std.specs.Prelude.{◌≡◌, nat_lt, if◌then◌else◌, ℕ, Bool, true, false, ◌&&◌, not, List, Option, Some, None, refl}
use Rattle.std.proofs.Common.{◌∙◌, ap}
use Rattle.hx_events.specs.declared.backup.Backup.{Backup}
use Rattle.hx_events.specs.declared.event.Stage.{Stage}
use Rattle.hx_events.specs.declared.event.Stage.TheVariants.{Prepare, Body, Open, Fade, Drop}
use Rattle.hx_rules.specs.Entries.{Deed}
use Rattle.hx_rules.specs.Copies.{dirty}
use Rattle.hx_rules.specs.Versions.{last_version}
use Rattle.hx_rules.specs.Backups.{Begun, begun, halted, held, wanted, backed, opened, faded, safe, blocks_of}
use Rattle.hx_rules.specs.Due.{due_vault, next_stage, running_version, may_discard, stage_due, version_due}
use Rattle.hx_rules_laws.specs.Rows.{due_of}

-- An Open is due of a begun backup that has all its blocks, and it is of that backup's version.
pub record OpensBegun (b : Option Begun) (version : ℕ) : Type 0 where
  pub begun : Begun
  pub is : b ≡ Some begun
  pub next : next_stage begun ≡ Open
  pub version_is : version ≡ begun.snapshot.version

open_of : (halt : Bool) (b : Option Begun) (p q r f : Bool) (run last : ℕ) → stage_due (due_of halt b p q r f run last) ≡ Some Open → OpensBegun b (version_due (due_of halt b p q r f run last))
open_of true b p q r f run last h = absurd cc
open_of false (Some b) p q r f run last h = record { begun = b; is = refl; next = cc; version_is = refl }
open_of false None true q r f run last h = absurd cc
open_of false None false true r f run last h = absurd cc
open_of false None false false true true run last h = absurd cc
open_of false None false false true false run last h = absurd cc
open_of false None false false false f run last h = absurd cc

abbrev pub DueOpenHasBegun : Type 0
DueOpenHasBegun = (restored : Option Backup) (guarded : Bool) (ds : List Deed) → stage_due (due_vault restored guarded ds) ≡ Some Open → OpensBegun (begun restored guarded ds) (version_due (due_vault restored guarded ds))

pub open_begun : DueOpenHasBegun
open_begun restored guarded ds h = open_of (halted ds) (begun restored guarded ds) (held restored guarded ds && not (safe (running_version restored guarded ds) ds)) (dirty restored ds && not (backed restored ds)) (not (wanted restored guarded ds) && opened restored ds && may_discard restored guarded ds) (faded ds) (running_version restored guarded ds) (last_version restored ds) h

-- Nothing is begun where a Fade or a Drop is due, and a Drop comes after a completed Fade.
pub record Discards (b : Option Begun) (faded_now : Bool) (stage : Stage) : Type 0 where
  pub idle : b ≡ None
  pub faded : stage ≡ Drop → faded_now ≡ true

abbrev pub is_discard : Stage → Bool
is_discard Fade = true
is_discard Drop = true
is_discard _ = false

discard_of : (halt : Bool) (b : Option Begun) (p q r f : Bool) (run last : ℕ) (stage : Stage) → is_discard stage ≡ true → stage_due (due_of halt b p q r f run last) ≡ Some stage → Discards b f stage
discard_of true b p q r f run last stage d h = absurd cc
discard_of false (Some b) p q r f run last stage d h = absurd (go (nat_lt b.blocks (blocks_of b.size)) (let e : next_stage b ≡ stage = cc in e))
  where
    go : (t : Bool) → (if t then Body else Open) ≡ stage → ⊥
    go true e = let k : is_discard Body ≡ true = ap is_discard e ∙ d in cc
    go false e = let k : is_discard Open ≡ true = ap is_discard e ∙ d in cc
discard_of false None true q r f run last stage d h = absurd (let e : Prepare ≡ stage = cc in let k : is_discard Prepare ≡ true = ap is_discard e ∙ d in cc)
discard_of false None false true r f run last stage d h = absurd (let e : Prepare ≡ stage = cc in let k : is_discard Prepare ≡ true = ap is_discard e ∙ d in cc)
discard_of false None false false true true run last stage d h = record { idle = refl; faded = λ e. refl }
discard_of false None false false true false run last stage d h = record { idle = refl; faded = λ e. absurd (let k : Fade ≡ stage = cc in let n : Fade ≡ Drop = k ∙ e in cc) }
discard_of false None false false false f run last stage d h = absurd cc

abbrev pub DueDiscardHasNoneBegun : Type 0
DueDiscardHasNoneBegun = (restored : Option Backup) (guarded : Bool) (ds : List Deed) (stage : Stage) → is_discard stage ≡ true → stage_due (due_vault restored guarded ds) ≡ Some stage → Discards (begun restored guarded ds) (faded ds) stage

pub discard_due : DueDiscardHasNoneBegun
discard_due restored guarded ds stage d h = discard_of (halted ds) (begun restored guarded ds) (held restored guarded ds && not (safe (running_version restored guarded ds) ds)) (dirty restored ds && not (backed restored ds)) (not (wanted restored guarded ds) && opened restored ds && may_discard restored guarded ds) (faded ds) (running_version restored guarded ds) (last_version restored ds) stage d h

-- A Body is due of a begun backup that lacks blocks, and it is of that backup's version.
pub record WritesBegun (b : Option Begun) (version : ℕ) : Type 0 where
  pub begun : Begun
  pub is : b ≡ Some begun
  pub next : next_stage begun ≡ Body
  pub version_is : version ≡ begun.snapshot.version

body_of : (halt : Bool) (b : Option Begun) (p q r f : Bool) (run last : ℕ) → stage_due (due_of halt b p q r f run last) ≡ Some Body → WritesBegun b (version_due (due_of halt b p q r f run last))
body_of true b p q r f run last h = absurd cc
body_of false (Some b) p q r f run last h = record { begun = b; is = refl; next = cc; version_is = refl }
body_of false None true q r f run last h = absurd cc
body_of false None false true r f run last h = absurd cc
body_of false None false false true true run last h = absurd cc
body_of false None false false true false run last h = absurd cc
body_of false None false false false f run last h = absurd cc

abbrev pub DueBodyHasBegun : Type 0
DueBodyHasBegun = (restored : Option Backup) (guarded : Bool) (ds : List Deed) → stage_due (due_vault restored guarded ds) ≡ Some Body → WritesBegun (begun restored guarded ds) (version_due (due_vault restored guarded ds))

pub body_begun : DueBodyHasBegun
body_begun restored guarded ds h = body_of (halted ds) (begun restored guarded ds) (held restored guarded ds && not (safe (running_version restored guarded ds) ds)) (dirty restored ds && not (backed restored ds)) (not (wanted restored guarded ds) && opened restored ds && may_discard restored guarded ds) (faded ds) (running_version restored guarded ds) (last_version restored ds) h

opened_of : (halt : Bool) (b : Option Begun) (p q w o m f : Bool) (run last : ℕ) (stage : Stage) → is_discard stage ≡ true → stage_due (due_of halt b p q (w && o && m) f run last) ≡ Some stage → o ≡ true
opened_of true b p q w o m f run last stage d h = absurd cc
opened_of false (Some b) p q w o m f run last stage d h = absurd (go (nat_lt b.blocks (blocks_of b.size)) (let e : next_stage b ≡ stage = cc in e))
  where
    go : (t : Bool) → (if t then Body else Open) ≡ stage → ⊥
    go true e = let k : is_discard Body ≡ true = ap is_discard e ∙ d in cc
    go false e = let k : is_discard Open ≡ true = ap is_discard e ∙ d in cc
opened_of false None true q w o m f run last stage d h = absurd (let e : Prepare ≡ stage = cc in let k : is_discard Prepare ≡ true = ap is_discard e ∙ d in cc)
opened_of false None false true w o m f run last stage d h = absurd (let e : Prepare ≡ stage = cc in let k : is_discard Prepare ≡ true = ap is_discard e ∙ d in cc)
opened_of false None false false w true m f run last stage d h = refl
opened_of false None false false true false m f run last stage d h = absurd cc
opened_of false None false false false false m f run last stage d h = absurd cc

-- A discard is due only where a gate was opened.
abbrev pub DueDiscardIsOpened : Type 0
DueDiscardIsOpened = (restored : Option Backup) (guarded : Bool) (ds : List Deed) (stage : Stage) → is_discard stage ≡ true → stage_due (due_vault restored guarded ds) ≡ Some stage → opened restored ds ≡ true

pub discard_opened : DueDiscardIsOpened
discard_opened restored guarded ds stage d h = opened_of (halted ds) (begun restored guarded ds) (held restored guarded ds && not (safe (running_version restored guarded ds) ds)) (dirty restored ds && not (backed restored ds)) (not (wanted restored guarded ds)) (opened restored ds) (may_discard restored guarded ds) (faded ds) (running_version restored guarded ds) (last_version restored ds) stage d h
