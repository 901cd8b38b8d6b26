use Rattle.std.proofs.Common.{rules, ◌≡◌, ℕ, Bool, true, false, None, [], ◌∷◌, sym, ◌∙◌, ap, subst}
use Rattle.hx_disk.specs.File.{IsSound}
use Rattle.hx_disk.specs.Disk.{Through}
use Rattle.hx_vault.specs.declared.pair.Pair.{Pair}
use Rattle.hx_vault.specs.Vaults.{is_shut}
use Rattle.hx_vault.specs.Sides.{SideState, IsSide, is_closed, loosened, shut_nothing, shut_side}
use Rattle.hx_slots.specs.Files.{file_of}
use Rattle.hx_slots.specs.Gate.{Shows}
use Rattle.hx_vault.proofs.Closes.{no_close, close_run}
use Rattle.hx_vault.proofs.vault.Vault.close.Goals as goal
use Rattle.hx_vault.proofs.vault.Vault.close.Goals.{then-not-knows_shut+in-Ok, else-not-knows_shut}

pub returns-clause-each : goal.returns-clause-each
returns-clause-each g c = λ told s known side.
    let old = c.args.disk.now in
    let file = file_of c.args.pair c.args.side in
    let known_here : is_closed s ≡ c.knows_shut.result = known ∙ ap (λ (p : Pair). is_shut p c.args.side) (sym c.pair-old.ensures.value) ∙ sym c.knows_shut.ensures in
    elim c.if-not-knows_shut.branch [
      | then-not-knows_shut+in-Ok w ↦
          let at : w.slot_file.result ≡ file = w.slot_file.ensures.value in
          let sound : IsSound (g.D.Disk.now old file) = subst IsSound (g.met.D.Disk.present old file) (g.met.D.Disk.sound old (g.D.Disk.time old) file told) in
          let loose : c.knows_shut.result ≡ false = w.if-not-knows_shut.true in
          subst (λ d. Through g.D.Disk.time g.D.Disk.past file (IsSide (loosened s)) old d) (sym w.disk-is)
          (close_run g.D.Disk.time g.D.Disk.past g.D.Disk.now g.met.D.Disk.present s w.slot_file.result file old w.close_gate.new.disk at (known_here ∙ loose) sound side (w.close_gate.ensures.each told))
      | else-not-knows_shut w ↦
          subst (λ d. Through g.D.Disk.time g.D.Disk.past file (IsSide (loosened s)) old d) (sym w.disk-is)
          (no_close g.D.Disk.time g.D.Disk.past g.D.Disk.now g.met.D.Disk.present s file old side)
    ]

pub returns-clause-nothing : goal.returns-clause-nothing
returns-clause-nothing g c = λ told s known side.
    let old = c.args.disk.now in
    let file = file_of c.args.pair c.args.side in
    let known_here : is_closed s ≡ c.knows_shut.result = known ∙ ap (λ (p : Pair). is_shut p c.args.side) (sym c.pair-old.ensures.value) ∙ sym c.knows_shut.ensures in
    elim c.if-not-knows_shut.branch [
      | then-not-knows_shut+in-Ok w ↦
          subst (λ d. Shows None (g.D.Disk.now d file)) (sym w.disk-is)
          (subst (λ f. Shows None (g.D.Disk.now w.close_gate.new.disk f)) w.slot_file.ensures.value (w.in-Ok.ensures.nothing told))
      | else-not-knows_shut w ↦
          subst (λ d. Shows None (g.D.Disk.now d file)) (sym w.disk-is)
          (shut_nothing [] (g.D.Disk.now old file) (shut_side s (g.D.Disk.now old file) (known_here ∙ w.if-not-knows_shut.false) side))
    ]
