use Rattle.std.specs.List.{position}
use Rattle.std.proofs.Common.{ℕ, List, sym, ◌∙◌, ap}
use Rattle.hx_restore.specs.Choices.{is_found_of, twin_in}
use Rattle.hx_restore.proofs.restoring.twin_of.Goals as goal

pub returns-in-Held : goal.returns-in-Held
returns-in-Held c =
    c.pair_with.ensures ∙ ap (λ (r : List ℕ). position (is_found_of r) c.args.earlier.now) c.as_slice.ensures
    ∙ sym (ap (twin_in c.args.earlier.now) c.in-Held.is)
