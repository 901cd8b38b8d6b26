use Rattle.std.proofs.Common.{◌≡◌, ◌+◌, ◌++◌, ℕ, List, [], ◌∷◌, Some, length, drop, sym, ◌∙◌, ap, subst, arith}
use Rattle.std.proofs.lemmas.List.{length-drop}
use Rattle.hx_vault.specs.Sides.{IsFrame}
use Rattle.hx_vault.specs.Vaults.{pair_at, place_of, put_length}
use Rattle.hx_history_laws.specs.declared.entry.HistoryEntry.{HistoryEntry}
use Rattle.hx_history_laws.specs.Blocks.{is_begun}
use Rattle.hx_history_laws.specs.Entries.{resource_at, taken_of}
use Rattle.hx_history_laws.specs.PairRuns.{run_joined}
use Rattle.hx_history_laws.specs.PairStages.{IsPairFine}
use Rattle.hx_history_laws.specs.Stages.{owns_beside, run_sooner, run_none}
use Rattle.hx_history_laws.specs.Stamps.{frame_numbered}
use Rattle.hx_history.proofs.backing.back_up.Goals as goal

pub returns-in_err-first-clause-run : goal.returns-in_err-first-clause-run
returns-in_err-first-clause-run g c = λ told was owns.
    let e : HistoryEntry = record { number = c.args.number; moment = c.args.moment; content = c.args.content.now } in
    let r : List ℕ = resource_at c.args.number in
    run_none g.D.Disk.time g.D.Disk.past g.D.Disk.now g.met.D.Disk.present (IsPairFine r (was ∷ Some (taken_of e) ∷ []) c.args.pair) c.args.pair c.args.disk.now
    (owns_beside r was (taken_of e) c.args.vault.now c.args.pair (g.D.Disk.now c.args.disk.now) owns)

pub returns-in_err-close_away-clause-run : goal.returns-in_err-close_away-clause-run
returns-in_err-close_away-clause-run g c = λ told was owns.
    let e : HistoryEntry = record { number = c.args.number; moment = c.args.moment; content = c.args.content.now } in
    let r : List ℕ = resource_at c.args.number in
    run_sooner g.D.Disk.time g.D.Disk.past g.D.Disk.now g.met.D.Disk.present r was (taken_of e) c.args.pair c.args.disk.now c.close_away.new.disk (c.in_err-close_away.ensures.run told r was owns)

pub put_block-requires-clause-begun : goal.put_block-requires-clause-begun
put_block-requires-clause-begun g c = is_begun (pair_at c.close_away.new.vault c.args.pair).put 0 c.in_ok-close_away.ensures.begun

pub put_block-requires-clause-small : goal.put_block-requires-clause-small
put_block-requires-clause-small g c =
    let at : place_of (pair_at c.close_away.new.vault c.args.pair) ≡ 0 = ap put_length c.in_ok-close_away.ensures.begun in
    let long : length c.deref.result.now ≡ length c.in_ok-first.first.items = ap (λ (l : List ℕ). length l) c.deref.ensures.value in
    omega (arith, at, long, c.in_ok-first.ensures.short)

pub put_block-requires-clause-side : goal.put_block-requires-clause-side
put_block-requires-clause-side g c = λ told.
    let h = c.requires.held told in
    (resource_at c.args.number, h.0, [], c.in_ok-close_away.ensures.ready told (resource_at c.args.number) h.0 h.1)

pub returns-in_err-put_block-clause-run : goal.returns-in_err-put_block-clause-run
returns-in_err-put_block-clause-run g c = λ told was owns.
    let e : HistoryEntry = record { number = c.args.number; moment = c.args.moment; content = c.args.content.now } in
    let r : List ℕ = resource_at c.args.number in
    let begun = c.in_ok-close_away.ensures.ready told r was owns in
    run_sooner g.D.Disk.time g.D.Disk.past g.D.Disk.now g.met.D.Disk.present r was (taken_of e) c.args.pair c.args.disk.now c.put_block.new.disk
    (run_joined g.D.Disk.time g.D.Disk.past g.D.Disk.now g.met.D.Disk.present c.args.pair _ c.args.disk.now c.close_away.new.disk c.put_block.new.disk
    (c.in_ok-close_away.ensures.run told r was owns) (c.in_err-put_block.ensures.run told r was [] begun))

pub returns-in_err-put_block-clause-kept : goal.returns-in_err-put_block-clause-kept
returns-in_err-put_block-clause-kept g c = λ told was owns want.
    let r : List ℕ = resource_at c.args.number in
    c.in_err-put_block.ensures.kept told r was [] (c.in_ok-close_away.ensures.ready told r was owns)

pub put_blocks-requires-clause-begun : goal.put_blocks-requires-clause-begun
put_blocks-requires-clause-begun g c = is_begun (pair_at c.put_block.new.vault c.args.pair).put _ c.in_ok-put_block.ensures.placed

pub put_blocks-requires-clause-small : goal.put_blocks-requires-clause-small
put_blocks-requires-clause-small g c =
    let first : place_of (pair_at c.close_away.new.vault c.args.pair) ≡ 0 = ap put_length c.in_ok-close_away.ensures.begun in
    let at : place_of (pair_at c.put_block.new.vault c.args.pair) ≡ place_of (pair_at c.close_away.new.vault c.args.pair) + length c.deref.result.now = ap put_length c.in_ok-put_block.ensures.placed in
    let long : length c.deref.result.now ≡ length c.in_ok-first.first.items = ap (λ (l : List ℕ). length l) c.deref.ensures.value in
    let rest : c.behind_first.result.now ≡ drop 4096 c.args.content.now = c.behind_first.ensures in
    let less : length c.behind_first.result.now ≡ length (drop 4096 c.args.content.now) = ap (λ (l : List ℕ). length l) {y = drop 4096 c.args.content.now} rest in
    omega (arith, first, at, long, less, length-drop 4096 c.args.content.now, c.in_ok-first.ensures.short, c.requires.small)

pub put_blocks-requires-clause-side : goal.put_blocks-requires-clause-side
put_blocks-requires-clause-side g c = λ told.
    let r : List ℕ = resource_at c.args.number in
    let h = c.requires.held told in
    (r, h.0, c.deref.result.now, c.in_ok-put_block.ensures.ready told r h.0 [] (c.in_ok-close_away.ensures.ready told r h.0 h.1))

pub returns-in_err-put_blocks-clause-run : goal.returns-in_err-put_blocks-clause-run
returns-in_err-put_blocks-clause-run g c = λ told was owns.
    let e : HistoryEntry = record { number = c.args.number; moment = c.args.moment; content = c.args.content.now } in
    let r : List ℕ = resource_at c.args.number in
    let begun = c.in_ok-close_away.ensures.ready told r was owns in
    run_sooner g.D.Disk.time g.D.Disk.past g.D.Disk.now g.met.D.Disk.present r was (taken_of e) c.args.pair c.args.disk.now c.put_blocks.new.disk
    (run_joined g.D.Disk.time g.D.Disk.past g.D.Disk.now g.met.D.Disk.present c.args.pair _ c.args.disk.now c.put_block.new.disk c.put_blocks.new.disk
    (run_joined g.D.Disk.time g.D.Disk.past g.D.Disk.now g.met.D.Disk.present c.args.pair _ c.args.disk.now c.close_away.new.disk c.put_block.new.disk
    (c.in_ok-close_away.ensures.run told r was owns) (c.in_ok-put_block.ensures.run told r was [] begun))
    (c.in_err-put_blocks.ensures.run told r was c.deref.result.now (c.in_ok-put_block.ensures.ready told r was [] begun)))

pub returns-in_err-put_blocks-clause-kept : goal.returns-in_err-put_blocks-clause-kept
returns-in_err-put_blocks-clause-kept g c = λ told was owns want.
    let r : List ℕ = resource_at c.args.number in
    c.in_err-put_blocks.ensures.kept told r was c.deref.result.now (c.in_ok-put_block.ensures.ready told r was [] (c.in_ok-close_away.ensures.ready told r was owns))

pub returns-clause-run : goal.returns-clause-run
returns-clause-run g c = λ told was owns.
    let e : HistoryEntry = record { number = c.args.number; moment = c.args.moment; content = c.args.content.now } in
    let r : List ℕ = resource_at c.args.number in
    let begun = c.in_ok-close_away.ensures.ready told r was owns in
    let first = c.in_ok-put_block.ensures.ready told r was [] begun in
    let put = c.in_ok-put_blocks.ensures.ready told r was c.deref.result.now first in
    let f = c.in_ok-first.ensures.frame in
    let rest : c.behind_first.result.now ≡ drop 4096 c.args.content.now = c.behind_first.ensures in
    let whole : c.deref.result.now ++ c.behind_first.result.now ≡ c.in_ok-first.first.items ++ drop 4096 c.args.content.now =
    ap (λ (l : List ℕ). l ++ c.behind_first.result.now) c.deref.ensures.value ∙ ap (λ (l : List ℕ). c.in_ok-first.first.items ++ l) {y = drop 4096 c.args.content.now} rest in
    run_joined g.D.Disk.time g.D.Disk.past g.D.Disk.now g.met.D.Disk.present c.args.pair (IsPairFine r (was ∷ Some (taken_of e) ∷ []) c.args.pair) c.args.disk.now c.put_blocks.new.disk c.open_away.new.disk
    (run_sooner g.D.Disk.time g.D.Disk.past g.D.Disk.now g.met.D.Disk.present r was (taken_of e) c.args.pair c.args.disk.now c.put_blocks.new.disk
    (run_joined g.D.Disk.time g.D.Disk.past g.D.Disk.now g.met.D.Disk.present c.args.pair _ c.args.disk.now c.put_block.new.disk c.put_blocks.new.disk
    (run_joined g.D.Disk.time g.D.Disk.past g.D.Disk.now g.met.D.Disk.present c.args.pair _ c.args.disk.now c.close_away.new.disk c.put_block.new.disk
    (c.in_ok-close_away.ensures.run told r was owns) (c.in_ok-put_block.ensures.run told r was [] begun))
    (c.in_ok-put_blocks.ensures.run told r was c.deref.result.now first)))
    (c.open_away.ensures.run told r was _ f.frame (taken_of e) put (subst (λ (l : List ℕ). IsFrame l f.frame) (sym whole) f.whole) f.reads)

pub returns-clause-done : goal.returns-clause-done
returns-clause-done g c = λ told was owns.
    let e : HistoryEntry = record { number = c.args.number; moment = c.args.moment; content = c.args.content.now } in
    let r : List ℕ = resource_at c.args.number in
    let first = c.in_ok-put_block.ensures.ready told r was [] (c.in_ok-close_away.ensures.ready told r was owns) in
    let put = c.in_ok-put_blocks.ensures.ready told r was c.deref.result.now first in
    let f = c.in_ok-first.ensures.frame in
    let rest : c.behind_first.result.now ≡ drop 4096 c.args.content.now = c.behind_first.ensures in
    let whole : c.deref.result.now ++ c.behind_first.result.now ≡ c.in_ok-first.first.items ++ drop 4096 c.args.content.now =
    ap (λ (l : List ℕ). l ++ c.behind_first.result.now) c.deref.ensures.value ∙ ap (λ (l : List ℕ). c.in_ok-first.first.items ++ l) {y = drop 4096 c.args.content.now} rest in
    c.open_away.ensures.done told r was _ f.frame (taken_of e) put (subst (λ (l : List ℕ). IsFrame l f.frame) (sym whole) f.whole) f.reads
    (f.stamped ∙ ap (λ n. n + 1) c.stamp.ensures ∙ sym c.in_ok-close_away.ensures.stamped ∙ sym c.put_block.ensures.stamp ∙ sym c.put_blocks.ensures.stamp)

pub returns-clause-kept : goal.returns-clause-kept
returns-clause-kept g c = λ told was owns want.
    let r : List ℕ = resource_at c.args.number in
    let first = c.in_ok-put_block.ensures.ready told r was [] (c.in_ok-close_away.ensures.ready told r was owns) in
    c.open_away.ensures.kept told r was _ (c.in_ok-put_blocks.ensures.ready told r was c.deref.result.now first) want

pub returns-in_err-put_block-clause-stamps : goal.returns-in_err-put_block-clause-stamps
returns-in_err-put_block-clause-stamps g c = λ told own stamped. c.put_block.ensures.stamps told own (c.close_away.ensures.stamps told own stamped)

pub returns-in_err-put_blocks-clause-stamps : goal.returns-in_err-put_blocks-clause-stamps
returns-in_err-put_blocks-clause-stamps g c = λ told own stamped. c.put_blocks.ensures.stamps told own (c.put_block.ensures.stamps told own (c.close_away.ensures.stamps told own stamped))

pub returns-clause-stamps : goal.returns-clause-stamps
returns-clause-stamps g c = λ told own stamped.
    let e : HistoryEntry = record { number = c.args.number; moment = c.args.moment; content = c.args.content.now } in
    let r : List ℕ = resource_at c.args.number in
    let h = c.requires.held told in
    let first = c.in_ok-put_block.ensures.ready told r h.0 [] (c.in_ok-close_away.ensures.ready told r h.0 h.1) in
    let put = c.in_ok-put_blocks.ensures.ready told r h.0 c.deref.result.now first in
    let f = c.in_ok-first.ensures.frame in
    let rest : c.behind_first.result.now ≡ drop 4096 c.args.content.now = c.behind_first.ensures in
    let whole : c.deref.result.now ++ c.behind_first.result.now ≡ c.in_ok-first.first.items ++ drop 4096 c.args.content.now =
    ap (λ (l : List ℕ). l ++ c.behind_first.result.now) c.deref.ensures.value ∙ ap (λ (l : List ℕ). c.in_ok-first.first.items ++ l) {y = drop 4096 c.args.content.now} rest in
    let given : f.frame.stamp ≡ c.args.vault.now.stamp + 1 = f.stamped ∙ ap (λ n. n + 1) c.stamp.ensures in
    let counter : f.frame.stamp ≡ c.put_blocks.new.vault.stamp = given ∙ sym c.in_ok-close_away.ensures.stamped ∙ sym c.put_block.ensures.stamp ∙ sym c.put_blocks.ensures.stamp in
    c.open_away.ensures.stamps told own r h.0 _ f.frame put (subst (λ (l : List ℕ). IsFrame l f.frame) (sym whole) f.whole) (omega (arith, counter))
    (λ is_own. frame_numbered f.frame e (omega arith) (omega (arith, given, c.requires.within)) f.reads)
    (c.put_blocks.ensures.stamps told own (c.put_block.ensures.stamps told own (c.close_away.ensures.stamps told own stamped)))
