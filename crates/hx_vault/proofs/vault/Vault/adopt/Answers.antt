use Rattle.std.specs.Prelude.{slice_index_or}
use Rattle.std.proofs.Common.{◌≡◌, ℕ, ◌<◌, length, set, sym, ◌∙◌, ap, arith}
use Rattle.std.proofs.lemmas.List.{get_or_read, length-set}
use Rattle.hx_events.specs.declared.backup.PairFound.{PairFound}
use Rattle.hx_events.specs.declared.backup.PairFound.TheVariants.{Empty}
use Rattle.hx_vault.specs.Vaults.{VaultState, pair_at, with_pair, adopted}
use Rattle.hx_vault.proofs.Adopting.{one_adopted}
use Rattle.hx_vault.proofs.vault.Vault.adopt.Goals as goal

pub loop-number-preserved : goal.loop-number-preserved
loop-number-preserved c =
    let v = c.loop-number.self in
    let old = c.args.self.now in
    let n = c.loop-number.number in
    let inv = c.loop-number.invariant in
    let found = c.args.found.now in
    let at : c.new-pair.result ≡ n = c.new-pair.ensures in
    let is : c.set_pair.new.self ≡ with_pair v n c.adopted_as.result = c.set_pair.ensures ∙ ap (λ p. with_pair v p c.adopted_as.result) at in
    let item = get_or_read found n _ (omega (arith, c.loop-number-test.true, c.requires)) c.index-found-number.is Empty in
    let value = c.adopted_as.ensures ∙ ap (λ (f : PairFound). adopted f c.pair-old.result) item ∙ ap (adopted (slice_index_or found n Empty)) (c.pair-old.ensures.value ∙ ap (pair_at v) at ∙ inv.3 n (omega arith)) in
    let more = one_adopted v old c.set_pair.new.self found n c.adopted_as.result (omega (arith, c.loop-number-test.true, c.pair-old.ensures.count)) is value inv.2 inv.3 in (
      ap (λ (w : VaultState). length w.pairs) is ∙ length-set v.pairs n c.adopted_as.result ∙ inv.0,
      ap (λ (w : VaultState). w.stamp) is ∙ inv.1,
      more.0,
      more.1,
    )
