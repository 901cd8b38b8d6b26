use Rattle.std.proofs.Common.{sym, ◌∙◌, arith, ap}
use Rattle.hx_passes.proofs.Steps.{hands_over, joins}
use Rattle.hx_passes.proofs.words.Words.hand_over.Goals as goal

pub split_seat-slip-requires : goal.split_seat-slip-requires
split_seat-slip-requires g c = (c.requires.from.0 ∙ sym c.args.self.now.table_is, omega (arith, c.args.self.now.words), hands_over _ _ _ _)

pub join_seat-requires : goal.join_seat-requires
join_seat-requires g c =
    let n = c.split_seat-slip.ensures in
    let table = sym c.args.self.now.table_is in
    (c.requires.to.0 ∙ table, n.3 ∙ (c.requires.from.0 ∙ table), ap (λ m. m.1) n.4, omega (arith, c.args.self.now.words), joins _ _ _ _ _ _)
