use Rattle.std.proofs.Common.{sym, ◌∙◌, arith}
use Rattle.hx_passes.proofs.Steps.{notes}
use Rattle.hx_passes.proofs.words.Words.note.Goals as goal

pub load-requires : goal.load-requires
load-requires g c =
    let r = c.requires in
    (r.table.0 ∙ sym c.args.self.now.table_is, omega (arith, c.args.self.now.words), notes _ _ _ _ _ g.F.Finds.finding r.right)
