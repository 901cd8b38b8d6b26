-- The Closer at work on one resource.
use Rattle.std.specs.Prelude.{◌≡◌, ◌<◌, ◌≤◌, ℕ, ◌+◌, Bool, true, false, length, Option, Some, None, is_some, refl}
use Rattle.std.proofs.Common.{ap, sym, ◌∙◌, subst, arith}
use Rattle.hx_events.specs.declared.event.Actor.TheVariants.{Closer}
use Rattle.hx_events.specs.declared.event.Event.TheVariants.{Vault, Flush}
use Rattle.hx_events.specs.declared.outcome.Outcome.{Outcome}
use Rattle.hx_rules.specs.Legal.{save_due, vault_due}
use Rattle.hx_lives.specs.Course.{Course, opening}
use Rattle.hx_lives.specs.Calls.{AddsEntry}
use Rattle.hx_closing_laws.specs.Left.{left_at}
use Rattle.hx_closing_laws.specs.Nearer.{save_brings_nearer, vault_brings_nearer, few_are_left}
use Rattle.hx_closing_laws.specs.Order.{ClosesOne, closes_none, closes_save, closes_vault}
use Rattle.hx_closing_laws.specs.Settling.{IsDone, SettlesOne}
use Rattle.hx_closing_laws.specs.Within.{IsWithinLimits}

-- Stages of the resource c were done, and each of them has brought the end nearer.
pub record IsClosing (c : ℕ) (old new : Course) : Type 0 where
  pub stages : ClosesOne c old new
  pub nearer : length new.entries + left_at new c ≤ length old.entries + left_at old c
  pub named : c < length new.names

-- What readers say of a resource: whether a save stage of it is due, and whether a vault stage is.
abbrev pub SaysSave : Course → ℕ → Bool → Type 0
SaysSave course c said = said ≡ is_some (save_due (opening course) course.entries c)

abbrev pub SaysVault : Course → ℕ → Bool → Type 0
SaysVault course c said = said ≡ is_some (vault_due (opening course) course.entries c)

none_due : {A : Type 0} (w : Option A) (said : Bool) → said ≡ is_some w → said ≡ false → w ≡ None
none_due None said says is = refl
none_due (Some x) said says is = absurd (let odd : true ≡ false = sym says ∙ is in cc)

-- where neither is due, the resource is done
pub says_done : (course : Course) (c : ℕ) (saves vaults : Bool) → SaysSave course c saves → saves ≡ false → SaysVault course c vaults → vaults ≡ false → IsDone (opening course) course.entries c
says_done course c saves vaults save no_save vault no_vault = (none_due (save_due (opening course) course.entries c) saves save no_save, none_due (vault_due (opening course) course.entries c) vaults vault no_vault)

-- ---- each stage
pub closing_starts : (c : ℕ) (old : Course) → c < length old.names → IsClosing c old old
closing_starts c old named = record { stages = closes_none c old; nearer = omega arith; named = named }

nearer_yet : (a b c x y z : ℕ) → b + y ≤ a + x → c ≡ b + 1 → z < y → c + z ≤ a + x
nearer_yet a b c x y z so_far one less = omega (arith, so_far, one, less)

pub save_leaves_fewer : (c : ℕ) (mid new : Course) (outcome : Outcome) (saves : Bool) → AddsEntry Closer (Flush c) outcome mid new → SaysSave mid c saves → saves ≡ true → left_at new c < left_at mid c
save_leaves_fewer c mid new outcome saves adds save due = save_brings_nearer c mid new outcome adds (sym save ∙ due)

pub vault_leaves_fewer : (c : ℕ) (mid new : Course) (outcome : Outcome) (saves vaults : Bool) → IsWithinLimits mid → AddsEntry Closer (Vault c) outcome mid new → SaysSave mid c saves → saves ≡ false → SaysVault mid c vaults → vaults ≡ true
    → left_at new c < left_at mid c
vault_leaves_fewer c mid new outcome saves vaults within adds save no_save vault due =
    vault_brings_nearer c mid new outcome within adds (none_due (save_due (opening mid) mid.entries c) saves save no_save) (sym vault ∙ due)

pub closing_save : (c : ℕ) (old mid new : Course) (outcome : Outcome) (saves : Bool) → IsClosing c old mid → AddsEntry Closer (Flush c) outcome mid new → SaysSave mid c saves → saves ≡ true → IsClosing c old new
closing_save c old mid new outcome saves so_far adds save due = record {
  stages = closes_save c old mid new outcome so_far.stages adds (sym save ∙ due);
  nearer = nearer_yet (length old.entries) (length mid.entries) (length new.entries) (left_at old c) (left_at mid c) (left_at new c) so_far.nearer
      (ap (λ (n : Course). length n.entries) adds.grown ∙ omega arith) (save_leaves_fewer c mid new outcome saves adds save due);
  named = subst (λ (n : Course). c < length n.names) (sym adds.grown) so_far.named;
}

pub closing_vault : (c : ℕ) (old mid new : Course) (outcome : Outcome) (saves vaults : Bool) → IsClosing c old mid → IsWithinLimits mid → AddsEntry Closer (Vault c) outcome mid new → SaysSave mid c saves → saves ≡ false → SaysVault mid c vaults → vaults ≡ true
    → IsClosing c old new
closing_vault c old mid new outcome saves vaults so_far within adds save no_save vault due = record {
  stages = closes_vault c old mid new outcome so_far.stages adds (none_due (save_due (opening mid) mid.entries c) saves save no_save) (sym vault ∙ due);
  nearer = nearer_yet (length old.entries) (length mid.entries) (length new.entries) (left_at old c) (left_at mid c) (left_at new c) so_far.nearer
      (ap (λ (n : Course). length n.entries) adds.grown ∙ omega arith) (vault_leaves_fewer c mid new outcome saves vaults within adds save no_save vault due);
  named = subst (λ (n : Course). c < length n.names) (sym adds.grown) so_far.named;
}

pub closing_ends : (c : ℕ) (old new : Course) → IsWithinLimits old → IsClosing c old new → SettlesOne c old new
closing_ends c old new within closing = record { stages = closing.stages; few = few (length old.entries) (length new.entries) (left_at old c) (left_at new c) _ closing.nearer (few_are_left c old within) }
  where
    few : (a b x y most : ℕ) → b + y ≤ a + x → x ≤ most → b ≤ a + most
    few a b x y most nearer small = omega (arith, nearer, small)
