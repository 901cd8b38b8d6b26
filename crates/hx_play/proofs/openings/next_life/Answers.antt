use Rattle.std.proofs.Common.{◌∙◌, ◌≤◌, ℕ, List, length, ap, sym, subst, Err}
use Rattle.hx_play.proofs.LifeSteps.{names_stay, begun, stays_between}
use Rattle.hx_play.proofs.openings.next_life.Goals as goal

pub returns-in-Ok-begin-clause-named : goal.returns-in-Ok-begin-clause-named
returns-in-Ok-begin-clause-named g c =
    subst (λ (names : List (List ℕ)). length c.args.names.now ≤ length names) (sym c.in-Ok-begin.ensures.begins.named) (names_stay c.args.names.now c.in-Ok-begin.registry.course.base)

pub returns-in-Ok-begin-clause-begins : goal.returns-in-Ok-begin-clause-begins
returns-in-Ok-begin-clause-begins g c = λ moment faults taken between.
    begun g.D.Disk.picked g.D.Disk.tells g.D.Disk.time g.D.Disk.past g.D.Disk.failures c.args.guarded c.args.names.now moment faults taken c.args.lives.now.lives c.args.disk c.in-Ok-begin.registry between
    c.in-Ok-begin.ensures.begins c.in-Ok-begin.ensures.runs c.in-Ok-begin.ensures.syncs

pub returns-in-Err-OpenFault-clause-stops : goal.returns-in-Err-OpenFault-clause-stops
returns-in-Err-OpenFault-clause-stops g c = λ moment faults taken between.
    stays_between g.D.Disk.picked g.D.Disk.tells g.D.Disk.time g.D.Disk.past g.D.Disk.failures c.args.guarded c.args.names.now moment faults taken c.args.lives.now.lives c.args.disk c.in-Err-OpenFault.disk between
    (c.begin.ensures.open_fault c.in-Err-OpenFault.disk (c.in-Err-OpenFault.is ∙ ap Err c.in-Err-OpenFault.field-0-is))

pub returns-in-Err-OpenFault-clause-runs_err : goal.returns-in-Err-OpenFault-clause-runs_err
returns-in-Err-OpenFault-clause-runs_err g c = (c.begin.ensures.open_fault c.in-Err-OpenFault.disk (c.in-Err-OpenFault.is ∙ ap Err c.in-Err-OpenFault.field-0-is)).runs

pub returns-in-Err-NoMemory-clause-stops : goal.returns-in-Err-NoMemory-clause-stops
returns-in-Err-NoMemory-clause-stops g c = λ moment faults taken between.
    stays_between g.D.Disk.picked g.D.Disk.tells g.D.Disk.time g.D.Disk.past g.D.Disk.failures c.args.guarded c.args.names.now moment faults taken c.args.lives.now.lives c.args.disk c.in-Err-NoMemory.disk between
    (c.begin.ensures.no_memory c.in-Err-NoMemory.disk (c.in-Err-NoMemory.is ∙ ap Err c.in-Err-NoMemory.field-0-is))

pub returns-in-Err-NoMemory-clause-runs_err : goal.returns-in-Err-NoMemory-clause-runs_err
returns-in-Err-NoMemory-clause-runs_err g c = (c.begin.ensures.no_memory c.in-Err-NoMemory.disk (c.in-Err-NoMemory.is ∙ ap Err c.in-Err-NoMemory.field-0-is)).runs
