use Rattle.std.proofs.Common.{◌≡◌, ◌<◌, ℕ, Some, slice_get, length, refl, subst, arith}
use Rattle.std.proofs.lemmas.Option.{slice_get_read}
use Rattle.hx_report.proofs.Tallying.{copies_next}
use Rattle.hx_report.proofs.Walking.{name_is}
use Rattle.hx_report.proofs.tail_lines.put_copies.Goals as goal

pub loop-place-preserved : goal.loop-place-preserved
loop-place-preserved c =
    let names = c.args.names.now in
    let xs = c.args.outlines.now in
    let i = c.loop-place.place in
    let x = c.index-outlines-place.result in
    let named : slice_get names i ≡ Some c.text.result.now = subst (λ (k : ℕ). slice_get names k ≡ Some c.text.result.now) c.new.ensures c.text.ensures.text in
    let within : i < length xs = omega (arith, c.loop-place-test.true, c.len-place-end.ensures, c.requires) in
    copies_next names xs i c.text.result.now x c.args.out.now.items c.loop-place.out.items c.put_outline.new.out.items
    (name_is names i c.text.result.now named) (slice_get_read xs _ i x refl within c.index-outlines-place.is) c.loop-place.invariant c.in_ok-put_outline.ensures
