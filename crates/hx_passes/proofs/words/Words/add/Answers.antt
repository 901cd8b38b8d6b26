use Rattle.std.proofs.Common.{sym, ◌∙◌, arith}
use Rattle.hx_passes.proofs.Steps.{adds}
use Rattle.hx_passes.proofs.words.Words.add.Goals as goal

pub fetch_add-requires : goal.fetch_add-requires
fetch_add-requires g c =
    let r = c.requires in
    (r.table.0 ∙ sym c.args.self.now.table_is, omega (arith, c.args.self.now.words), adds _ _ _ _ _ g.E.Saying.entry r.right r.part r.room)
