use Rattle.std.proofs.Common.{◌∙◌, ap, sym, arith, length, Bool, List, Some}
use Rattle.hx_rules.specs.Legal.{lowest_from}
use Rattle.hx_tracker.specs.Index.{has_number, numbers_in}
use Rattle.hx_tracker.proofs.Numbers.{lowest_in_word, lowest_of_none, length_numbers}
use Rattle.hx_tracker.proofs.index.DueIndex.lowest.Goals as goal

pub returns-in-Some : goal.returns-in-Some
returns-in-Some c =
    let words = c.self.inside.words in
    ap (λ r. Some r) c.new.ensures
    ∙ (sym (lowest_in_word words c.loop-i.i c.in-Some.bit c.loop-i-test.true c.in-Some.ensures.known c.loop-i.invariant c.in-Some.ensures.set c.in-Some.ensures.below)
    ∙ (ap (lowest_from (has_number (numbers_in words)) 0) (sym (length_numbers words))
    ∙ ap (λ (s : List Bool). lowest_from (has_number s) 0 (length s)) c.self.view_is))

pub returns : goal.returns
returns c =
    let words = c.self.inside.words in
    sym (lowest_of_none words (λ k less. c.loop-i.invariant k (omega (arith, less, c.loop-i-test.false))))
    ∙ (ap (lowest_from (has_number (numbers_in words)) 0) (sym (length_numbers words))
    ∙ ap (λ (s : List Bool). lowest_from (has_number s) 0 (length s)) c.self.view_is)
