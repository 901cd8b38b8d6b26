use Rattle.std.proofs.Common.{sym, ◌∙◌, arith}
use Rattle.hx_passes.proofs.Steps.{cuts}
use Rattle.hx_passes.proofs.words.Words.cut.Goals as goal

pub split_seat-requires : goal.split_seat-requires
split_seat-requires g c =
    let r = c.requires in
    (r.table.0 ∙ sym c.args.self.now.table_is, omega (arith, c.args.self.now.words), cuts _ _ _ g.C.Counting.parts _ (omega (arith, r.fewer, r.named)) r.left)
