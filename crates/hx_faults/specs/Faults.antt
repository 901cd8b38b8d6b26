-- When a failure may be answered: this project's own rule for all that stands for the outside.
use Rattle.std.specs.Prelude.{◌≡◌, ◌≤◌, ℕ, ◌+◌, ◌-◌, ◌^◌, min, Result, OnOk, OnErr}

-- the count of faults rose, or stands at the greatest number of 64 bits
abbrev pub Rose : ℕ → ℕ → Type 0
Rose before now = min (before + 1) (2 ^ 64 - 1) ≤ now

-- A call's count of faults doesn't fall; the call fails only where the count rose, and a success leaves it as it was. So no
-- fault is passed over, and a call that failed inside can't be made again in secret.
pub record HasCause {T E : Type 0} (before now : ℕ) (result : Result T E) : Type 0 where
  pub later : before ≤ now
  pub failed : OnErr result (Rose before now)
  pub kept : OnOk result (now ≡ before)
