use Rattle.std.proofs.Common.{◌≡◌, length, ap, ◌∙◌, arith}
use Rattle.hx_script.proofs.MadeSteps.{fresh, count_names}
use Rattle.hx_script.proofs.generator.made_names.Goals as goal

pub add-requires-clause-new : goal.add-requires-clause-new
add-requires-clause-new c = fresh c.loop-number.number _ c.loop-number.names c.in_ok-made_name.ensures c.loop-number.invariant

pub add-requires-clause-room : goal.add-requires-clause-room
add-requires-clause-room c =
    let count : length c.loop-number.names ≡ c.loop-number.number = ap length c.loop-number.invariant ∙ count_names c.loop-number.number in
    omega (arith, count)
