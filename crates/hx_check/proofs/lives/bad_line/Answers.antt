use Rattle.std.proofs.Common.{◌≡◌, ◌+◌, ℕ, List, [], Some, sym, ap, ◌∙◌, drop, length, arith}
use Rattle.std.proofs.lemmas.List.{at_drop_all}
use Rattle.hx_check.proofs.Tails.{text_left}
use Rattle.hx_check.proofs.lives.bad_line.Goals as goal

pub returns-then-at-text : goal.returns-then-at-text
returns-then-at-text c =
    let lines = c.args.lines.now in
    let i = c.loop-index.index in
    let none : drop i lines ≡ [] = at_drop_all (λ (xs : List (List ℕ)). xs) lines i c.loop-index-test.false in
    let e : c.args.number + length lines ≡ c.args.number + i = omega (arith, c.loop-index-test.false, c.loop-index.auto.index-end) in
    ap Some e ∙ (sym (text_left (c.args.number + i) c.loop-index.at (drop i lines) c.args.text.now none c.if-at-text.true) ∙ c.loop-index.invariant.rest)
