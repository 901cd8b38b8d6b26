use Rattle.std.proofs.Common.{sym, ◌∙◌, arith}
use mathlib.Core.Option.{none}
use Rattle.atomic_table.specs.Table.{step}
use Rattle.hx_passes.proofs.Steps.{departs}
use Rattle.hx_passes.proofs.words.Words.depart.Goals as goal

pub fetch_add-requires : goal.fetch_add-requires
fetch_add-requires g c =
    let r = c.requires in
    let w = c.args.self.now in
    (r.table.0 ∙ sym w.table_is, omega (arith, w.words), departs _ _ _ _ _ (step 0 0 0 0 none) r.right r.room (omega (arith, w.parts, w.few)))
