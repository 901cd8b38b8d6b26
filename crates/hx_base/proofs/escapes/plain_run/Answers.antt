use Rattle.std.proofs.Common.{not, rules, tests}
use Rattle.std.proofs.lemmas.List.Sums.{prefix_len-le-length}
use Rattle.std.proofs.lemmas.Iterator.{YieldsList-from_slice}
use Rattle.std.proofs.lemmas.Iterator.Search.{position_from_yields_List}
use Rattle.hx_base.specs.Escapes.{is_plain}
use Rattle.hx_base.proofs.EscapeSteps.{unwrapped}
use Rattle.hx_base.proofs.escapes.plain_run.Goals as goal

pub returns-clause-value : goal.returns-clause-value
returns-clause-value c =
    unwrapped c.args.bytes.now c.position.result c.unwrap_or.result
    (position_from_yields_List (λ byte. not (is_plain byte)) _ _ c.position.result c.position.ensures.ran (YieldsList-from_slice _ c.iter.ensures.rest) (λ x b q k. search (rules, tests)))
    c.unwrap_or.ensures (prefix_len-le-length (λ byte. not (not (is_plain byte))) c.args.bytes.now)
