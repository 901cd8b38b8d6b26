use Rattle.std.proofs.Common.{◌≡◌, ◌-◌, ℕ, List, IfOk, length, ap, sym, ◌∙◌, subst}
use Rattle.hx_exit.specs.Exits.{decision_by, triggers}
use Rattle.hx_report.specs.Copies.{copies_at_end}
use Rattle.hx_top.specs.Asking.{decision_text}
use Rattle.hx_top.proofs.LastLife.{asks_at_end, last_count, last_read, last_text, whole_at}
use Rattle.hx_top.proofs.asking.exit_text.Goals as goal

pub facts-requires : goal.facts-requires
facts-requires c = whole_at c.args.lives.now (length c.args.lives.now - 1) c.index-lives-count.result c.requires (last_read c.args.lives.now c.index-lives-count.result c.if-count-eq0.false c.index-lives-count.is)

pub decision_text-requires : goal.decision_text-requires
decision_text-requires c = λ n asked.
    let life = c.index-lives-count.result in
    let hot = triggers c.args.order.setting c.args.order.ending c.args.order.situation in
    let copies : c.deref.result.now ≡ copies_at_end life = c.deref.ensures.value ∙ c.in_ok-copies.ensures in
    asks_at_end hot life n (ap (decision_by hot) (sym copies) ∙ sym c.decide-decision.ensures ∙ asked)

pub returns : goal.returns
returns c =
    let life = c.index-lives-count.result in
    let lives = c.args.lives.now in
    let hot = triggers c.args.order.setting c.args.order.ending c.args.order.situation in
    let copies : c.deref.result.now ≡ copies_at_end life = c.deref.ensures.value ∙ c.in_ok-copies.ensures in
    let last = last_text c.args.order lives (length lives - 1) life (last_count lives c.if-count-eq0.false) (last_read lives life c.if-count-eq0.false c.index-lives-count.is) in
    subst (λ (t : List ℕ). IfOk c.decision_text.result (λ text. text.items ≡ t)) (ap (decision_text life.names) (c.decide-decision.ensures ∙ ap (decision_by hot) copies) ∙ sym last) c.decision_text.ensures
