-- What is kept of a resource at the opening fits no deeds.
use Rattle.std.specs.Prelude.{◌≡◌, Bool, true, false, [], Option, Some, None, refl}
use Rattle.std.proofs.Common.{arith}
use Rattle.hx_events.specs.declared.backup.Backup.{Backup}
use Rattle.hx_rules.specs.Due.{due_vault, due_save}
use Rattle.hx_resource.specs.Kept.{kept_at_first}
use Rattle.hx_resource_laws.specs.Fits.{Fits}

pub fits_at_first : (r : Option Backup) (guarded : Bool) → Fits r guarded [] (kept_at_first r)
fits_at_first None guarded = record { last = refl; there = refl; copy = tt; seq = record { run = refl; queue = refl; tickets = λ t. refl }; run = tt; begun = refl; done = refl; safe = λ v. refl; halted = refl; opened = refl; faded = refl; write_failed = refl }
fits_at_first (Some b) guarded = record {
  last = refl;
  there = refl;
  copy = record { version = refl; trail = refl; mark = refl; base = refl; now = refl; here = record { id = omega arith; content = refl }; back = tt; ahead = tt };
  seq = record { run = refl; queue = refl; tickets = λ t. refl };
  run = tt;
  begun = refl;
  done = refl;
  safe = λ v. refl;
  halted = refl;
  opened = refl;
  faded = refl;
  write_failed = refl;
}

-- Nothing is due at the opening: a restored copy is dirty, and its backup is of its last version.
pub no_vault_due : (r : Option Backup) (guarded : Bool) → due_vault r guarded [] ≡ None
no_vault_due None true = refl
no_vault_due None false = refl
no_vault_due (Some b) true = refl
no_vault_due (Some b) false = refl

pub no_save_due : (r : Option Backup) (guarded : Bool) → due_save r guarded [] ≡ None
no_save_due r guarded = refl
