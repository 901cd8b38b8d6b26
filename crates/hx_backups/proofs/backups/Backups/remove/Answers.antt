use Rattle.std.proofs.Common.{◌∙◌, ap}
use Rattle.std.specs.Map.{keys_of}
use Rattle.hx_backups.specs.Backups.{are_numbers}
use Rattle.hx_backups.proofs.Numbers.{numbers_remove}
use Rattle.hx_backups.proofs.backups.Backups.remove.Goals as goal

pub invariant_of-self : goal.invariant_of-self
invariant_of-self c =
    ap (λ pairs. are_numbers (keys_of pairs)) c.shift_remove.ensures.entries
    ∙ numbers_remove c.self.inside.versions.entries c.number.result c.self.invariant
