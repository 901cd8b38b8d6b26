use Rattle.std.proofs.Common.{◌≡◌, List, length, sym, ◌∙◌, ap}
use Rattle.hx_slots.specs.declared.pair.RawPair.{RawPair}
use Rattle.hx_slots.specs.Raws.{raw_at, greatest_shown}
use Rattle.hx_vault.specs.Scans.{greatest_read}
use Rattle.hx_vault.specs.Vaults.{VaultState}
use Rattle.hx_vault.proofs.scanning.scan.Goals as goal

pub returns-clause-stamp : goal.returns-clause-stamp
returns-clause-stamp g c = λ told.
    ap (λ (v : VaultState). v.stamp) c.known-vault.ensures
    ∙ c.greatest.ensures
    ∙ ap (λ (raws : List RawPair). greatest_shown (λ p. (raw_at raws p).a) (λ p. (raw_at raws p).b) (length raws)) c.deref-2.ensures.value
    ∙ greatest_read (λ f. (g.D.Disk.now c.args.disk.now f).reading) c.in_ok-raws.raws.items (c.in_ok-raws.ensures.read told)
