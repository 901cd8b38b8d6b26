-- What each pair of an image holds is of the life.
use Rattle.std.specs.Prelude.{◌≡◌, ◌≢◌, ◌<◌, ℕ, true, List}
use Rattle.hx_events.specs.declared.backup.Backup.{Backup}
use Rattle.hx_events.specs.declared.backup.Side.{Side}
use Rattle.hx_events.specs.declared.backup.PairFound.TheVariants.{Damaged}
use Rattle.hx_restore.specs.declared.value.PairValue.TheVariants.{Held, Broken}
use Rattle.hx_restore.specs.Values.{pair_value, holds_for}
use Rattle.hx_lives.specs.Course.{Start}
use Rattle.hx_lives.specs.CrashSafe.{IsNamed, HasTwin, found_at}

-- No stranger is held, and no pair is newly damaged, or two hold a resource but where the base had a twin of it.
pub record HasOwnValues (b : Start) (image : ℕ → List ℕ) : Type 0 where
  pub names : (p : ℕ) (backup : Backup) (side : Side) → p < 64 → pair_value image p ≡ Held backup side → IsNamed b.names backup.resource
  pub broken : (p : ℕ) → p < 64 → pair_value image p ≡ Broken → found_at b.base p ≡ Damaged
  pub twins : (p q : ℕ) (resource : List ℕ) → p < 64 → q < 64 → p ≢ q → holds_for resource (pair_value image p) ≡ true → holds_for resource (pair_value image q) ≡ true → HasTwin b.base resource
