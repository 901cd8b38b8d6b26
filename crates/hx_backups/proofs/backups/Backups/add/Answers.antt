use Rattle.std.proofs.Common.{◌∙◌, ap}
use Rattle.std.specs.Map.{keys_of}
use Rattle.hx_backups.specs.Backups.{are_numbers}
use Rattle.hx_backups.proofs.Numbers.{numbers_insert}
use Rattle.hx_backups.proofs.backups.Backups.add.Goals as goal

pub invariant_of-self-2 : goal.invariant_of-self-2
invariant_of-self-2 c =
    ap (λ pairs. are_numbers (keys_of pairs)) c.in_ok-insert.ensures.entries
    ∙ numbers_insert c.self.inside.versions.entries c.number.result c.args.version c.number.ensures.known c.self.invariant
