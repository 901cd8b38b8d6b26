use Rattle.std.proofs.Common.{◌≡◌, ◌+◌, subst, sym, ◌∙◌, arith}
use Rattle.hx_disk.specs.Disk.{ChangesOnly}
use Rattle.hx_disk.specs.File.{Synced}
use Rattle.hx_vault.proofs.SyncSteps.{all_wider, one_synced, one_failed}
use Rattle.hx_vault.proofs.syncs.barrier.Goals as goal

pub returns-in_err-sync-clause-each : goal.returns-in_err-sync-clause-each
returns-in_err-sync-clause-each g c = λ told.
    let mid = c.loop-number.disk in
    let new = c.sync.new.self in
    let n = c.loop-number.number in
    let only = subst (λ f. ChangesOnly g.D.Disk.time g.D.Disk.past g.D.Disk.now f mid new) c.new.ensures c.in_err-sync.ensures.only in
    all_wider g.D.Disk.tells g.D.Disk.time g.D.Disk.past g.D.Disk.now g.D.Disk.room g.met.D.Disk.present g.met.D.Disk.sound (n + 1) 128 c.args.disk.now new (omega (arith, c.loop-number-test.true))
    ((one_failed g.D.Disk.tells g.D.Disk.time g.D.Disk.past g.D.Disk.now g.D.Disk.room g.met.D.Disk.present g.met.D.Disk.sound n c.args.disk.now mid new c.loop-number.invariant.0 only c.in_err-sync.ensures.room
    (λ is. subst (λ f. g.D.Disk.now new f ≡ g.D.Disk.now mid f) c.new.ensures (c.in_err-sync.ensures.err is))).3 told)

pub loop-number-preserved : goal.loop-number-preserved
loop-number-preserved g c =
    let mid = c.loop-number.disk in
    let new = c.sync.new.self in
    let n = c.loop-number.number in
    let only = subst (λ f. ChangesOnly g.D.Disk.time g.D.Disk.past g.D.Disk.now f mid new) c.new.ensures c.in_ok-sync.ensures.only in (
      one_synced g.D.Disk.tells g.D.Disk.time g.D.Disk.past g.D.Disk.now g.D.Disk.room g.met.D.Disk.present g.met.D.Disk.sound n c.args.disk.now mid new c.loop-number.invariant.0 only c.in_ok-sync.ensures.room
          (λ is. subst (λ f. Synced (g.D.Disk.now mid f) (g.D.Disk.now new f)) c.new.ensures (c.in_ok-sync.ensures.ok is)),
      c.in_ok-sync.ensures.cause.kept ∙ c.loop-number.invariant.1,
    )
