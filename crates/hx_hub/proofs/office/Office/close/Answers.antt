use Rattle.std.proofs.Common.{◌∷◌, List, sym, subst}
use Rattle.hx_events.specs.declared.life.Entry.{Entry}
use Rattle.hx_lives.specs.Course.{start_of}
use Rattle.hx_passes.specs.Closing.{IsClosed}
use Rattle.hx_rules.specs.Entries.{past}
use Rattle.hx_hub.specs.Shared.{says_of}
use Rattle.hx_hub.proofs.Stages.{other_end}
use Rattle.hx_hub.proofs.office.Office.close.Goals as goal

pub returns-clause-closed : goal.returns-clause-closed
returns-clause-closed g c =
    subst (λ (h : List Entry). IsClosed (past g.J.Naming.life.entries) g.J.Naming.windows (says_of (start_of g.J.Naming.life)) h (c.args.first ∷ c.args.others.items))
    (sym (other_end c.self.inside.clerk c.self.inside.registry.course.entries c.self.invariant.0)) c.close.ensures
