use Rattle.std.proofs.Common.{◌≡◌, ℕ, Some, [], ◌∷◌, sym, ◌∙◌, ap, subst}
use Rattle.hx_disk.specs.File.{IsSound}
use Rattle.hx_events.specs.declared.backup.Side.{Side}
use Rattle.hx_slots.specs.Files.{file_of}
use Rattle.hx_slots.specs.Gate.{IsWritten, on_ok_weaker}
use Rattle.hx_vault.specs.declared.pair.Pair.{Pair}
use Rattle.hx_vault.specs.Vaults.{away_file, away_of}
use Rattle.hx_vault.specs.Sides.{SideState, Shut, Still, IsSide, opened_now}
use Rattle.hx_vault.proofs.Closes.{open_run}
use Rattle.hx_vault.proofs.vault.Vault.open_gate.Goals as goal

pub returns-in-Ok-clause-opened : goal.returns-in-Ok-clause-opened
returns-in-Ok-clause-opened g c = λ told put frame side whole.
    let old = c.args.disk.now in
    let new = c.open_gate.new.disk in
    let at : c.slot_file.result ≡ away_file c.args.self.now c.args.pair = c.slot_file.ensures.value ∙ ap (λ (s : Side). file_of c.args.pair s) (c.away-side.ensures ∙ ap (λ (p : Pair). away_of p) c.pair-old.ensures.value) in
    let sound : IsSound (g.D.Disk.now old (away_file c.args.self.now c.args.pair)) = subst IsSound (g.met.D.Disk.present old (away_file c.args.self.now c.args.pair)) (g.met.D.Disk.sound old (g.D.Disk.time old) (away_file c.args.self.now c.args.pair) told) in
    opened_now put frame (g.D.Disk.now old (away_file c.args.self.now c.args.pair)) (g.D.Disk.now new (away_file c.args.self.now c.args.pair)) sound side whole
    (subst (λ f. IsWritten 0 (1 ∷ []) (g.D.Disk.now old f) (g.D.Disk.now new f)) at (c.in-Ok.ensures.ok told))

pub returns-in-Ok-clause-shows : goal.returns-in-Ok-clause-shows
returns-in-Ok-clause-shows g c = λ told put frame side whole.
    let old = c.args.disk.now in
    let new = c.open_gate.new.disk in
    let at : c.slot_file.result ≡ away_file c.args.self.now c.args.pair = c.slot_file.ensures.value ∙ ap (λ (s : Side). file_of c.args.pair s) (c.away-side.ensures ∙ ap (λ (p : Pair). away_of p) c.pair-old.ensures.value) in
    let sound : IsSound (g.D.Disk.now old (away_file c.args.self.now c.args.pair)) = subst IsSound (g.met.D.Disk.present old (away_file c.args.self.now c.args.pair)) (g.met.D.Disk.sound old (g.D.Disk.time old) (away_file c.args.self.now c.args.pair) told) in
    (opened_now put frame (g.D.Disk.now old (away_file c.args.self.now c.args.pair)) (g.D.Disk.now new (away_file c.args.self.now c.args.pair)) sound side whole
    (subst (λ f. IsWritten 0 (1 ∷ []) (g.D.Disk.now old f) (g.D.Disk.now new f)) at (c.in-Ok.ensures.ok told))).1

pub returns-in-Ok-clause-each : goal.returns-in-Ok-clause-each
returns-in-Ok-clause-each g c = λ told put frame side whole.
    let old = c.args.disk.now in
    let at : c.slot_file.result ≡ away_file c.args.self.now c.args.pair = c.slot_file.ensures.value ∙ ap (λ (s : Side). file_of c.args.pair s) (c.away-side.ensures ∙ ap (λ (p : Pair). away_of p) c.pair-old.ensures.value) in
    let sound : IsSound (g.D.Disk.now old (away_file c.args.self.now c.args.pair)) = subst IsSound (g.met.D.Disk.present old (away_file c.args.self.now c.args.pair)) (g.met.D.Disk.sound old (g.D.Disk.time old) (away_file c.args.self.now c.args.pair) told) in
    open_run g.D.Disk.time g.D.Disk.past g.D.Disk.now g.met.D.Disk.present put frame c.slot_file.result (away_file c.args.self.now c.args.pair) old c.open_gate.new.disk at sound side whole (c.open_gate.ensures.each told)

pub returns-in-Err-clause-each : goal.returns-in-Err-clause-each
returns-in-Err-clause-each g c = λ told put frame side whole.
    let old = c.args.disk.now in
    let at : c.slot_file.result ≡ away_file c.args.self.now c.args.pair = c.slot_file.ensures.value ∙ ap (λ (s : Side). file_of c.args.pair s) (c.away-side.ensures ∙ ap (λ (p : Pair). away_of p) c.pair-old.ensures.value) in
    let sound : IsSound (g.D.Disk.now old (away_file c.args.self.now c.args.pair)) = subst IsSound (g.met.D.Disk.present old (away_file c.args.self.now c.args.pair)) (g.met.D.Disk.sound old (g.D.Disk.time old) (away_file c.args.self.now c.args.pair) told) in
    open_run g.D.Disk.time g.D.Disk.past g.D.Disk.now g.met.D.Disk.present put frame c.slot_file.result (away_file c.args.self.now c.args.pair) old c.open_gate.new.disk at sound side whole (c.open_gate.ensures.each told)
