use Rattle.std.proofs.Common.{◌∙◌, sym}
use Rattle.std.proofs.lemmas.List.{take_rest}
use Rattle.hx_slots.proofs.FrameSteps.{shown_is, none_shown}
use Rattle.hx_slots.proofs.frames.shown.Goals as goal

pub returns-then-is_open-clause-value : goal.returns-then-is_open-clause-value
returns-then-is_open-clause-value c =
    let bytes = c.args.bytes.now in
    shown_is bytes _ c.shown_behind.result (sym c.is_open.ensures.gate ∙ c.if-is_open.true) (take_rest bytes 1) c.shown_behind.ensures.value c.shown_behind.ensures.place

pub returns-else-is_open-clause-value : goal.returns-else-is_open-clause-value
returns-else-is_open-clause-value c = none_shown c.args.bytes.now (sym c.is_open.ensures.gate ∙ c.if-is_open.false)
