use Rattle.std.proofs.Common.{◌++◌, List, ℕ, length, ap, ◌∙◌, append_assoc}
use Rattle.std.proofs.lemmas.Result.{on_ok_weaker}
use Rattle.hx_report.specs.Outlines.{outline_lines, tickets_text}
use Rattle.hx_report.proofs.Tallying.{tail_is}
use Rattle.hx_report.proofs.tail_lines.put_tail.Goals as goal

pub returns : goal.returns
returns c =
    let life = c.args.life.now in
    let t = c.in_ok-tally.tally in
    let old = c.args.out.now.items in
    let copies = c.in_ok-put_copies.ensures ∙ ap (λ xs. old ++ outline_lines life.names xs (length life.names)) c.as_slice.ensures.value in
    on_ok_weaker c.put_tickets.result (λ is.
    is ∙ ((λ j. copies j ++ tickets_text (c.as_slice-3.ensures.value j) (c.as_slice-2.ensures.value j))
    ∙ (append_assoc old (outline_lines life.names t.outlines.items (length life.names)) (tickets_text t.outlines.items t.tickets.items)
    ∙ ap (λ (text : List ℕ). old ++ text) (tail_is life t c.in_ok-tally.ensures.count c.in_ok-tally.ensures.tallied)))) c.put_tickets.ensures
