use Rattle.std.proofs.Common.{◌∙◌, ap, sym, if◌then◌else◌}
use Rattle.std.specs.Int.{w64}
use Rattle.std.proofs.lemmas.Nat.Bits.{bit_at_set_same, bit_at_set_other, bit_at_clear_same, bit_at_clear_other}
use Rattle.hx_tracker.proofs.index.with_bit.Goals as goal

pub returns-then-on-clause-same : goal.returns-then-on-clause-same
returns-then-on-clause-same c =
    bit_at_set_same w64 c.args.word c.args.bit c.requires ∙ ap (λ b. if b then 1 else 0) (sym c.if-on.true)

pub returns-then-on-clause-others : goal.returns-then-on-clause-others
returns-then-on-clause-others c = λ i less other. bit_at_set_other w64 c.args.word c.args.bit c.requires i other

pub returns-else-on-clause-same : goal.returns-else-on-clause-same
returns-else-on-clause-same c =
    bit_at_clear_same w64 c.args.word c.args.bit c.requires ∙ ap (λ b. if b then 1 else 0) (sym c.if-on.false)

pub returns-else-on-clause-others : goal.returns-else-on-clause-others
returns-else-on-clause-others c =
    λ i less other. bit_at_clear_other w64 c.args.word c.args.bit c.requires i less other
