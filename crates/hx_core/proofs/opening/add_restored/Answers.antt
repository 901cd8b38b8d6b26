use Rattle.std.proofs.Common.{◌∷◌, suc, drop, ap, sym, ◌∙◌}
use Rattle.std.proofs.Math.Seq.{drop-cons}
use Rattle.hx_core.specs.Starting.{name_fits}
use Rattle.hx_core.proofs.opening.add_restored.Goals as goal

pub add_name-requires : goal.add_name-requires
add_name-requires c =
    let base = c.args.base.now in
    let i = c.loop-pair.pair-index in
    record { few = name_fits c.args.names c.loop-pair.all base (drop (suc i) base) i 256 c.in-Found.backup c.in-Found.field-1 c.as_slice.result.now c.as_slice.ensures (drop-cons base i c.pair-item.result c.loop-pair-test.true ∙ ap (λ x. x ∷ drop (suc i) base) (sym c.pair-item.is ∙ c.in-Found.is)) c.loop-pair.invariant c.requires.few }
