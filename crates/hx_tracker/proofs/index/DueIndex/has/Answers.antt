use Rattle.std.proofs.Common.{◌∙◌, ap, sym, nat_eq, slice_index_or, ◌/◌, ◌%◌, Bool, List}
use Rattle.std.proofs.lemmas.Nat.Bits.{shr_and_one}
use Rattle.hx_tracker.specs.Index.{has_number}
use Rattle.hx_tracker.proofs.Numbers.{in_numbers}
use Rattle.hx_tracker.proofs.index.DueIndex.has.Goals as goal

pub returns : goal.returns
returns c =
    let n = c.number-number.result in
    ap (λ x. nat_eq x 1) (shr_and_one (slice_index_or c.self.inside.words (n / 64) 0) (n % 64))
    ∙ (sym (in_numbers c.self.inside.words n c.number-number.ensures.known)
    ∙ (ap (λ (s : List Bool). has_number s n) c.self.view_is ∙ ap (has_number c.args.self.now) c.number-number.ensures.value))
