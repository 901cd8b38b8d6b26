use Rattle.std.proofs.Common.{◌≡◌, true, subst, sym}
use Rattle.hx_rules.specs.Entries.{past}
use Rattle.hx_rules.specs.Legal.{Opening, quit_row, lowest, is_unsafe}
use Rattle.hx_core.specs.Cores.{CoreState}
use Rattle.hx_core.specs.Keeping.{quit_step, unnamed_quit}
use Rattle.hx_core.proofs.machine.Core.answer_quit.Goals as goal

pub invariant_of-self : goal.invariant_of-self
invariant_of-self c =
    let inside = c.self.inside in
    let o : Opening = record { restored = inside.restored.items; barred = inside.barred; guarded = inside.guarded } in
    quit_step o inside.first.items inside.resources.items inside.backups.pairs inside.history.items c.push_reserved.new.self.items inside.spent inside.vault inside.save
    (record { moment = c.args.moment; faults = c.args.faults; actor = c.args.actor; event = c.args.event; outcome = c.quit_outcome-outcome.result; content = c.content_of.result })
    (unnamed_quit c.args.event c.requires.quit) c.self.invariant
    (subst (λ (s : CoreState). quit_row (lowest s.opening (is_unsafe s.opening (past s.history))) c.quit_outcome-outcome.result ≡ true) (sym c.self.view_is) c.quit_outcome-outcome.ensures.row)
    c.push_reserved.ensures.items
