use Rattle.std.proofs.Common.{◌≡◌, ◌+◌, ◌++◌, ℕ, List, None, Some, false, length, sym, ◌∙◌, ap, arith}
use Rattle.std.proofs.lemmas.List.{length-append}
use Rattle.hx_rules.specs.Allowed.{allowed_of}
use Rattle.hx_vault.specs.Vaults.{VaultState, place_of, pair_at, put_length, with_pair, with_put}
use Rattle.hx_history_laws.specs.PairRuns.{run_joined, run_still}
use Rattle.hx_history_laws.specs.PairStages.{IsPairFine}
use Rattle.hx_history_laws.specs.Keeping.{owns_fine}
use Rattle.hx_history_laws.specs.Stages.{put_rested, putting_run, putting_done, putting_failed, put_owns}
use Rattle.hx_disk.specs.Runs.{through_now}
use Rattle.hx_vault.specs.Sides.{IsSide, Shut}
use Rattle.hx_vault.specs.Vaults.{away_file, away_of}
use Rattle.std.proofs.Common.{[]}
use Rattle.hx_history_laws.specs.Stamps.{putting_stamped, rested_stamped}
use Rattle.hx_history.proofs.stages.put_block.Goals as goal

pub returns-in_err-reserve-clause-run : goal.returns-in_err-reserve-clause-run
returns-in_err-reserve-clause-run g c = λ told resource was put is_put.
    run_still g.D.Disk.time g.D.Disk.past g.D.Disk.now g.met.D.Disk.present c.args.pair (IsPairFine resource (allowed_of was None false) c.args.pair) c.args.disk.now c.reserve.new.disk c.reserve.ensures.unchanged
    (owns_fine resource was None false c.args.vault.now c.args.pair (g.D.Disk.now c.args.disk.now) (put_owns resource was put c.args.vault.now c.args.pair (g.D.Disk.now c.args.disk.now) is_put))

pub returns-in_err-reserve-clause-kept : goal.returns-in_err-reserve-clause-kept
returns-in_err-reserve-clause-kept g c = λ told resource was put is_put.
    let v : VaultState = c.reserve.new.self in
    put_owns resource was put v c.args.pair (g.D.Disk.now c.reserve.new.disk)
    (put_rested g.D.Disk.time g.D.Disk.past g.D.Disk.now g.met.D.Disk.present resource was put c.args.vault.now v c.args.pair c.args.disk.now c.reserve.new.disk c.reserve.ensures.unchanged c.reserve.ensures.same is_put)

pub body-requires-clause-side : goal.body-requires-clause-side
body-requires-clause-side g c = λ told.
    let h = c.requires.side told in
    let v : VaultState = c.reserve.new.self in
    let here = put_rested g.D.Disk.time g.D.Disk.past g.D.Disk.now g.met.D.Disk.present h.0 h.1 h.2 c.args.vault.now v c.args.pair c.args.disk.now c.reserve.new.disk c.reserve.ensures.unchanged c.reserve.ensures.same h.3 in
    (h.2, sym (ap put_length here.known_put), here.is_away)

pub returns-in_err-body-clause-run : goal.returns-in_err-body-clause-run
returns-in_err-body-clause-run g c = λ told resource was put is_put.
    let v : VaultState = c.reserve.new.self in
    let same : v ≡ c.args.vault.now = c.reserve.ensures.same in
    let here = put_rested g.D.Disk.time g.D.Disk.past g.D.Disk.now g.met.D.Disk.present resource was put c.args.vault.now v c.args.pair c.args.disk.now c.reserve.new.disk c.reserve.ensures.unchanged same is_put in
    run_joined g.D.Disk.time g.D.Disk.past g.D.Disk.now g.met.D.Disk.present c.args.pair (IsPairFine resource (allowed_of was None false) c.args.pair) c.args.disk.now c.reserve.new.disk c.body.new.disk
    (run_still g.D.Disk.time g.D.Disk.past g.D.Disk.now g.met.D.Disk.present c.args.pair (IsPairFine resource (allowed_of was None false) c.args.pair) c.args.disk.now c.reserve.new.disk c.reserve.ensures.unchanged
    (owns_fine resource was None false c.args.vault.now c.args.pair (g.D.Disk.now c.args.disk.now) (put_owns resource was put c.args.vault.now c.args.pair (g.D.Disk.now c.args.disk.now) is_put)))
    (putting_run g.D.Disk.time g.D.Disk.past g.D.Disk.now g.met.D.Disk.present resource was false v c.args.pair c.reserve.new.disk c.body.new.disk (ap (λ (k : VaultState). length k.pairs) same ∙ c.requires.count) (omega arith) put here (c.in_err-body.ensures.each told))

pub returns-clause-run : goal.returns-clause-run
returns-clause-run g c = λ told resource was put is_put.
    let v : VaultState = c.reserve.new.self in
    let same : v ≡ c.args.vault.now = c.reserve.ensures.same in
    let here = put_rested g.D.Disk.time g.D.Disk.past g.D.Disk.now g.met.D.Disk.present resource was put c.args.vault.now v c.args.pair c.args.disk.now c.reserve.new.disk c.reserve.ensures.unchanged same is_put in
    run_joined g.D.Disk.time g.D.Disk.past g.D.Disk.now g.met.D.Disk.present c.args.pair (IsPairFine resource (allowed_of was None false) c.args.pair) c.args.disk.now c.reserve.new.disk c.body.new.disk
    (run_still g.D.Disk.time g.D.Disk.past g.D.Disk.now g.met.D.Disk.present c.args.pair (IsPairFine resource (allowed_of was None false) c.args.pair) c.args.disk.now c.reserve.new.disk c.reserve.ensures.unchanged
    (owns_fine resource was None false c.args.vault.now c.args.pair (g.D.Disk.now c.args.disk.now) (put_owns resource was put c.args.vault.now c.args.pair (g.D.Disk.now c.args.disk.now) is_put)))
    (putting_run g.D.Disk.time g.D.Disk.past g.D.Disk.now g.met.D.Disk.present resource was false v c.args.pair c.reserve.new.disk c.body.new.disk (ap (λ (k : VaultState). length k.pairs) same ∙ c.requires.count) (omega arith) put here (c.in_ok-body.ensures.each told))

pub returns-in_err-body-clause-kept : goal.returns-in_err-body-clause-kept
returns-in_err-body-clause-kept g c = λ told resource was put is_put.
    let v : VaultState = c.reserve.new.self in
    let same : v ≡ c.args.vault.now = c.reserve.ensures.same in
    let here = put_rested g.D.Disk.time g.D.Disk.past g.D.Disk.now g.met.D.Disk.present resource was put c.args.vault.now v c.args.pair c.args.disk.now c.reserve.new.disk c.reserve.ensures.unchanged same is_put in
    putting_failed g.D.Disk.time g.D.Disk.past g.D.Disk.now g.met.D.Disk.present resource was false v c.args.pair c.reserve.new.disk c.body.new.disk (ap (λ (k : VaultState). length k.pairs) same ∙ c.requires.count) (omega arith) put here c.body.new.self c.in_err-body.ensures.err (c.in_err-body.ensures.each told)

pub returns-clause-ready : goal.returns-clause-ready
returns-clause-ready g c = λ told resource was put is_put.
    let v : VaultState = c.reserve.new.self in
    let same : v ≡ c.args.vault.now = c.reserve.ensures.same in
    let here = put_rested g.D.Disk.time g.D.Disk.past g.D.Disk.now g.met.D.Disk.present resource was put c.args.vault.now v c.args.pair c.args.disk.now c.reserve.new.disk c.reserve.ensures.unchanged same is_put in
    let at : place_of (pair_at v c.args.pair) ≡ length put = ap put_length here.known_put in
    let more : List ℕ = put ++ c.args.block.now in
    let long : place_of (pair_at v c.args.pair) + length c.args.block.now ≡ length more = (let l = length-append put c.args.block.now in omega (arith, at, l)) in
    putting_done g.D.Disk.time g.D.Disk.past g.D.Disk.now g.met.D.Disk.present resource was false v c.args.pair c.reserve.new.disk c.body.new.disk (ap (λ (k : VaultState). length k.pairs) same ∙ c.requires.count) (omega arith) put here c.body.new.self more
    (c.in_ok-body.ensures.ok ∙ ap (λ n. with_pair v c.args.pair (with_put (pair_at v c.args.pair) (Some n))) long)
    (c.in_ok-body.ensures.each told) (c.in_ok-body.ensures.done told put (sym at) here.is_away)

pub returns-clause-kept : goal.returns-clause-kept
returns-clause-kept g c = λ told resource was put is_put.
    let v : VaultState = c.reserve.new.self in
    let same : v ≡ c.args.vault.now = c.reserve.ensures.same in
    let here = put_rested g.D.Disk.time g.D.Disk.past g.D.Disk.now g.met.D.Disk.present resource was put c.args.vault.now v c.args.pair c.args.disk.now c.reserve.new.disk c.reserve.ensures.unchanged same is_put in
    let at : place_of (pair_at v c.args.pair) ≡ length put = ap put_length here.known_put in
    let more : List ℕ = put ++ c.args.block.now in
    let long : place_of (pair_at v c.args.pair) + length c.args.block.now ≡ length more = (let l = length-append put c.args.block.now in omega (arith, at, l)) in
    put_owns resource was more c.body.new.self c.args.pair (g.D.Disk.now c.body.new.disk)
    (putting_done g.D.Disk.time g.D.Disk.past g.D.Disk.now g.met.D.Disk.present resource was false v c.args.pair c.reserve.new.disk c.body.new.disk (ap (λ (k : VaultState). length k.pairs) same ∙ c.requires.count) (omega arith) put here c.body.new.self more
    (c.in_ok-body.ensures.ok ∙ ap (λ n. with_pair v c.args.pair (with_put (pair_at v c.args.pair) (Some n))) long)
    (c.in_ok-body.ensures.each told) (c.in_ok-body.ensures.done told put (sym at) here.is_away))

pub returns-in_err-reserve-clause-stamps : goal.returns-in_err-reserve-clause-stamps
returns-in_err-reserve-clause-stamps g c = λ told own stamped.
    rested_stamped g.D.Disk.time g.D.Disk.past g.D.Disk.now g.met.D.Disk.present own c.args.vault.now c.reserve.new.self c.args.disk.now c.reserve.new.disk c.reserve.ensures.unchanged c.reserve.ensures.same stamped

pub returns-in_err-body-clause-stamps : goal.returns-in_err-body-clause-stamps
returns-in_err-body-clause-stamps g c = λ told own stamped.
    let v : VaultState = c.reserve.new.self in
    let same : v ≡ c.args.vault.now = c.reserve.ensures.same in
    let h = c.requires.side told in
    let here = put_rested g.D.Disk.time g.D.Disk.past g.D.Disk.now g.met.D.Disk.present h.0 h.1 h.2 c.args.vault.now v c.args.pair c.args.disk.now c.reserve.new.disk c.reserve.ensures.unchanged same h.3 in
    let through = c.in_err-body.ensures.each told in
    putting_stamped g.D.Disk.time g.D.Disk.past g.D.Disk.now g.met.D.Disk.present own v c.body.new.self c.args.pair (away_of (pair_at v c.args.pair)) c.reserve.new.disk c.body.new.disk (ap (λ (k : VaultState). length k.pairs) same ∙ c.requires.count) (omega arith) (rested_stamped g.D.Disk.time g.D.Disk.past g.D.Disk.now g.met.D.Disk.present own c.args.vault.now v c.args.disk.now c.reserve.new.disk c.reserve.ensures.unchanged same stamped) None [] c.in_err-body.ensures.err here.known_away through (through_now g.D.Disk.time g.D.Disk.past g.D.Disk.now g.met.D.Disk.present (away_file v c.args.pair) (IsSide (Shut [])) c.reserve.new.disk c.body.new.disk through)

pub returns-clause-stamps : goal.returns-clause-stamps
returns-clause-stamps g c = λ told own stamped.
    let v : VaultState = c.reserve.new.self in
    let same : v ≡ c.args.vault.now = c.reserve.ensures.same in
    let h = c.requires.side told in
    let here = put_rested g.D.Disk.time g.D.Disk.past g.D.Disk.now g.met.D.Disk.present h.0 h.1 h.2 c.args.vault.now v c.args.pair c.args.disk.now c.reserve.new.disk c.reserve.ensures.unchanged same h.3 in
    let at : place_of (pair_at v c.args.pair) ≡ length h.2 = ap put_length here.known_put in
    putting_stamped g.D.Disk.time g.D.Disk.past g.D.Disk.now g.met.D.Disk.present own v c.body.new.self c.args.pair (away_of (pair_at v c.args.pair)) c.reserve.new.disk c.body.new.disk (ap (λ (k : VaultState). length k.pairs) same ∙ c.requires.count) (omega arith) (rested_stamped g.D.Disk.time g.D.Disk.past g.D.Disk.now g.met.D.Disk.present own c.args.vault.now v c.args.disk.now c.reserve.new.disk c.reserve.ensures.unchanged same stamped) _ (h.2 ++ c.args.block.now) c.in_ok-body.ensures.ok here.known_away (c.in_ok-body.ensures.each told) (c.in_ok-body.ensures.done told h.2 (sym at) here.is_away)
