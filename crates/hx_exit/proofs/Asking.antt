-- The copy that a loop has come to.
use Rattle.std.proofs.Common.{◌≡◌, ◌<◌, ◌∷◌, ℕ, suc, Bool, true, List, if◌then◌else◌, length, drop, get_or, ap, sym, ◌∙◌}
use Rattle.std.proofs.Math.Seq.{drop-cons}
use Rattle.hx_events.specs.declared.copies.CopyFact.{CopyFact}
use Rattle.hx_exit.specs.declared.exit.Decision.TheVariants.{Confirm}
use Rattle.hx_exit.specs.Exits.{decision_by, is_lost}

pub first_asked : (hot : Bool) (copies : List CopyFact) (i : ℕ) (copy : CopyFact) → i < length copies → copy ≡ get_or copies i copy → is_lost hot copy ≡ true → decision_by hot (drop i copies) ≡ decision_by hot copies
    → Confirm copy.res ≡ decision_by hot copies
first_asked hot copies i copy lt at lost none_before =
    sym (sym none_before
    ∙ (ap (decision_by hot) (drop-cons copies i copy lt ∙ ap (λ x. x ∷ drop (suc i) copies) (sym at))
    ∙ ap (λ b. if b then Confirm copy.res else decision_by hot (drop (suc i) copies)) lost))
