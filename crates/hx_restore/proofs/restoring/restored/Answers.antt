use Rattle.std.specs.Prelude.{◌≡◌, ◌+◌, [], length}
use Rattle.std.proofs.Common.{List, ◌∙◌, ap, arith}
use Rattle.std.proofs.lemmas.List.{get_or_read, length_push}
use Rattle.hx_events.specs.declared.backup.PairFound.{PairFound}
use Rattle.hx_slots.specs.declared.pair.RawPair.{RawPair}
use Rattle.hx_restore.specs.Choices.{twin_in}
use Rattle.hx_restore.specs.Twins.{one_more, restored_of_image}
use Rattle.hx_slots.specs.Raws.{raw_at}
use Rattle.hx_restore.specs.Values.{found_by, found_from, values_in, value_by_bytes, restored_pairs}
use Rattle.hx_restore.proofs.restoring.restored.Goals as goal

pub loop-pair-preserved : goal.loop-pair-preserved
loop-pair-preserved c =
    let pairs = c.args.pairs.now in
    let n = c.loop-pair.pair-index in
    let value = c.in_ok-value.value in
    let item : c.pair-item.result ≡ raw_at pairs n = get_or_read pairs n _ c.loop-pair-test.true c.pair-item.is (record { a = []; b = [] }) in
    let next = ap (found_by value) (c.twin_of-twin.ensures ∙ ap (λ (l : List PairFound). twin_in l value) c.deref.ensures.value) in (
      c.in_ok-push.ensures.items
          ∙ one_more (values_in pairs) n c.loop-pair.found.items value c.found_as.result c.loop-pair.invariant.0
          (c.in_ok-value.ensures ∙ ap (λ (r : RawPair). value_by_bytes r.a r.b) item)
          (c.found_as.ensures ∙ next),
      ap length c.in_ok-push.ensures.items ∙ length_push c.loop-pair.found.items c.found_as.result ∙ ap (λ k. k + 1) c.loop-pair.invariant.1,
    )

pub returns-clause-value : goal.returns-clause-value
unfolding restored_pairs
returns-clause-value c =
    c.loop-pair.invariant.0 ∙ ap (found_from (values_in c.args.pairs.now) 0) (let e : c.loop-pair.pair-index ≡ length c.args.pairs.now = omega arith in e)

pub returns-clause-image : goal.returns-clause-image
unfolding restored_pairs
returns-clause-image c = λ image read.
    c.loop-pair.invariant.0 ∙ ap (found_from (values_in c.args.pairs.now) 0) (let e : c.loop-pair.pair-index ≡ length c.args.pairs.now = omega arith in e)
    ∙ restored_of_image image c.args.pairs.now read
