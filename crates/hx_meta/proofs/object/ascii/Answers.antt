use Rattle.hx_meta.proofs.Lines.{printable_is_utf8}
use Rattle.hx_meta.proofs.object.ascii.Goals as goal

pub unreachable-requires : goal.unreachable-requires
unreachable-requires c = c.in_default.ensures.cases.0 (printable_is_utf8 c.args.bytes.now c.requires)
