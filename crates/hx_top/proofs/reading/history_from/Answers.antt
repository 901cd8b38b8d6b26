use Rattle.std.proofs.Common.{rules, ◌≡◌, ◌∙◌, sym, arith}
use Rattle.hx_io.specs.Streams.{added}
use Rattle.hx_top.specs.declared.whole.End.TheVariants.{BadScript}
use Rattle.hx_top.proofs.TooLong.{history_too_long, same_refusal}
use Rattle.hx_top.proofs.reading.history_from.Goals as goal

pub returns-in-Err-TooLong-clause-refused : goal.returns-in-Err-TooLong-clause-refused
returns-in-Err-TooLong-clause-refused g c = λ line why is.
    let same : c.refused.result ≡ BadScript line why = cc in
    same_refusal (history_too_long (added (g.S.Source.given c.args.source.now) (g.S.Source.given c.read_all.new.source)) (omega (arith, c.read_all.ensures.too_long (search rules)))) line why (sym c.refused.ensures ∙ same)

pub returns-in-Err-TooLong-clause-told_refused : goal.returns-in-Err-TooLong-clause-told_refused
returns-in-Err-TooLong-clause-told_refused g c = λ tells line why is.
    let same : c.refused.result ≡ BadScript line why = cc in
    same_refusal (history_too_long (g.S.Source.left c.args.source.now) (c.read_all.ensures.more_left tells (search rules))) line why (sym c.refused.ensures ∙ same)
