use Rattle.std.proofs.Common.{◌≡◌, ◌<◌, ◌+◌, List, true, get_or, take, drop, length, refl, sym, ap, ◌∙◌, subst, rules, arith}
use Rattle.hx_events.specs.declared.life.Entry.{Entry}
use Rattle.hx_rules.specs.Entries.{past}
use Rattle.hx_rules.specs.Legal.{is_row}
use Rattle.hx_report.proofs.Walking.{past_more, drop_next, known_next}
use Rattle.hx_check.specs.Verdicts.{bad_entry, plain_opening}
use Rattle.hx_check.specs.Judging.{IsJudged}
use Rattle.hx_check.proofs.Judgements.{fits_of}
use Rattle.hx_check.proofs.Tails.{entry_next}
use Rattle.hx_check.proofs.lives.bad_entry.Goals as goal

pub note-requires-clause-fits : goal.note-requires-clause-fits
note-requires-clause-fits c =
    let o = plain_opening c.args.life.now in
    let es = past (take c.loop-index.index c.args.life.now.history) in
    let e = c.entry-item.result in
    let judged = c.loop-index.invariant.judged in
    let allowed : c.may_have.result ≡ true = search rules in
    fits_of o es c.loop-index.judge judged e.event e.outcome (sym (c.may_have.ensures o es judged) ∙ allowed)

pub loop-index-preserved : goal.loop-index-preserved
loop-index-preserved c =
    let life = c.args.life.now in
    let o = plain_opening life in
    let h = life.history in
    let i = c.loop-index.index in
    let es : List Entry = past (take i h) in
    let e = c.entry-item.result in
    let inv = c.loop-index.invariant in
    let lent = c.as_slice-entry-items.ensures in
    let within : i < length h = subst (λ (xs : List Entry). i < length xs) lent c.loop-index-test.true in
    let at : e ≡ get_or h i e = subst (λ (xs : List Entry). e ≡ get_or xs i e) lent c.entry-item.is in
    let allowed : c.may_have.result ≡ true = search rules in
    let row : is_row o es e.event e.outcome ≡ true = sym (c.may_have.ensures o es inv.judged) ∙ allowed in
    let more = past_more h i e within at in
    let next : c.args.first + (i + 1) ≡ c.args.first + i + 1 = omega arith in
    record {
      judged = subst (λ (all : List Entry). IsJudged o all c.note.new.self) (sym more) (c.in_ok-note.ensures.judged o e es refl refl inv.judged);
      rest =
          ap (λ (all : List Entry). bad_entry o all (c.args.first + (i + 1)) (drop (i + 1) h)) more
          ∙ (entry_next o es (c.args.first + i) (c.args.first + (i + 1)) e (drop (i + 1) h) (drop i h) (drop_next h i e within at) row next ∙ inv.rest);
      known = (known_next life.names h i e within at inv.known).1;
      count = c.in_ok-note.ensures.count ∙ inv.count;
      early = c.in_ok-note.ensures.later;
    }
