use Rattle.std.proofs.Common.{sym, ◌∙◌, arith}
use mathlib.Core.Option.{none}
use Rattle.atomic_table.specs.Table.{step}
use Rattle.hx_passes.proofs.Steps.{looks}
use Rattle.hx_passes.proofs.words.Words.look.Goals as goal

pub load-requires : goal.load-requires
load-requires g c = (c.requires.0 ∙ sym c.args.self.now.table_is, omega (arith, c.args.self.now.words), looks _ _ _ _ _ (step 0 0 0 0 none))
