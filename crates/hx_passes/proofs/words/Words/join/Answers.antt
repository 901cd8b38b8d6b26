use Rattle.std.proofs.Common.{sym, ◌∙◌, arith}
use Rattle.hx_passes.proofs.Steps.{joins}
use Rattle.hx_passes.proofs.words.Words.join.Goals as goal

pub join_seat-requires : goal.join_seat-requires
join_seat-requires g c =
    let table = sym c.args.self.now.table_is in
    (c.requires.to.0 ∙ table, c.requires.from.0 ∙ table, c.requires.from.1, omega (arith, c.args.self.now.words), joins _ _ _ _ _ _)
