-- A disk that goes on and on.
use Rattle.std.specs.Prelude.{◌≡◌, ℕ, refl}
use Rattle.std.proofs.Common.{◌∙◌, sym, subst, arith}
use Rattle.hx_lives.specs.Course.{Past}
use Rattle.hx_lives.specs.Calls.{HasGoneOn}

module _ {D : Type 0} (time : D → ℕ) (past : D → Past) (failures : D → ℕ) where
  pub gone_on_still : (old new : D) → new ≡ old → HasGoneOn time past failures old new
  gone_on_still old new same = subst (λ (d : D). HasGoneOn time past failures old d) (sym same) (record { later = omega arith; kept = λ t f le. refl; no_fewer = omega arith })

  pub gone_on_joined : (old mid new : D) → HasGoneOn time past failures old mid → HasGoneOn time past failures mid new → HasGoneOn time past failures old new
  gone_on_joined old mid new first second = record {
    later = omega (arith, first.later, second.later);
    kept = λ t f le. second.kept t f (omega (arith, le, first.later)) ∙ first.kept t f le;
    no_fewer = omega (arith, first.no_fewer, second.no_fewer);
  }

  pub gone_on_same : (old mid new : D) → HasGoneOn time past failures old mid → new ≡ mid → HasGoneOn time past failures old new
  gone_on_same old mid new first same = subst (λ (d : D). HasGoneOn time past failures old d) (sym same) first
