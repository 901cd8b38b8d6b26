-- The calls one behind the other.
use Rattle.std.specs.Prelude.{◌≡◌, ◌<◌, ℕ, List, length}
use Rattle.std.proofs.Common.{ap, subst, ◌∙◌}
use Rattle.hx_events.specs.declared.backup.PairFound.{PairFound}
use Rattle.hx_vault.specs.Vaults.{pair_at, adopted}
use Rattle.hx_lives.specs.CrashSafe.{found_at}
use Rattle.hx_restore.specs.Values.{restored, restored_pairs}
use Rattle.hx_slots.specs.Raws.{AreReadOf}
use Rattle.hx_slots.specs.declared.pair.RawPair.{RawPair}
use Rattle.hx_opening_laws.specs.Findings.{found_count}
use Rattle.hx_opening_laws.specs.Opening.{handed_opened, vault_opened}
use Rattle.hx_registry.proofs.begin.open_vault.Goals as goal

pub returns-in_err-found-clause-quiet : goal.returns-in_err-found-clause-quiet
returns-in_err-found-clause-quiet g c = handed_opened g.D.Disk.tells g.D.Disk.time g.D.Disk.past g.D.Disk.now g.D.Disk.failures g.met.D.Disk.present
    c.args.disk.now c.reserve.new.self c.barrier.new.disk c.scan.new.disk c.reserve.ensures.unchanged c.reserve.ensures.faults c.barrier.ensures.runs c.barrier.ensures.each c.barrier.ensures.cause.later c.scan.ensures.unchanged c.scan.ensures.later

pub adopt-requires : goal.adopt-requires
adopt-requires g c = ap length c.deref-2.ensures.value ∙ found_count c.in_ok-found.found.items (record { raws = c.in_ok-vault.raws.items; count = c.in_ok-vault.ensures.count; found_so = c.in_ok-found.ensures.value ∙ ap restored_pairs c.deref.ensures.value })

pub returns-clause-quiet : goal.returns-clause-quiet
returns-clause-quiet g c = handed_opened g.D.Disk.tells g.D.Disk.time g.D.Disk.past g.D.Disk.now g.D.Disk.failures g.met.D.Disk.present
    c.args.disk.now c.reserve.new.self c.barrier.new.disk c.scan.new.disk c.reserve.ensures.unchanged c.reserve.ensures.faults c.barrier.ensures.runs c.barrier.ensures.each c.barrier.ensures.cause.later c.scan.ensures.unchanged c.scan.ensures.later

pub returns-clause-opened : goal.returns-clause-opened
returns-clause-opened g c = vault_opened g.D.Disk.tells g.D.Disk.time g.D.Disk.past g.D.Disk.now g.D.Disk.failures g.met.D.Disk.present
    c.in_ok-vault.raws.items c.in_ok-found.found.items c.in_ok-vault.vault c.adopt.new.self c.barrier.new.disk c.scan.new.disk
    c.in_ok-vault.ensures.count c.in_ok-vault.ensures.known (c.in_ok-found.ensures.value ∙ ap restored_pairs c.deref.ensures.value)
    (subst (λ (raws : List RawPair). (image : ℕ → List ℕ) → AreReadOf image raws → c.in_ok-found.found.items ≡ restored image) c.deref.ensures.value c.in_ok-found.ensures.image) c.in_ok-vault.ensures.stamp
    c.adopt.ensures.count
    (subst (λ (found : List PairFound). (p : ℕ) → p < 64 → pair_at c.adopt.new.self p ≡ adopted (found_at found p) (pair_at c.in_ok-vault.vault p)) c.deref-2.ensures.value c.adopt.ensures.pairs)
    c.adopt.ensures.stamp c.in_ok-barrier.ensures.rest c.in_ok-vault.ensures.read c.scan.ensures.unchanged.same
