use Rattle.std.proofs.Common.{◌≡◌, ◌⊎◌, true, false, List, ◌∷◌, Result, sym, subst, inl, inr, refl, IfOk, IfErr}
use Rattle.std.specs.declared.alloc.AllocError.{AllocError}
use Rattle.hx_events.specs.declared.life.Ended.TheVariants.{Crash as ByCrash, Cut, Restart as AtRestart}
use Rattle.hx_events.specs.declared.life.Life.{Life}
use Rattle.hx_faults.specs.Faults.{Rose}
use Rattle.hx_lives.specs.Calls.{crash_end}
use Rattle.hx_lives.specs.Chained.{faults_of}
use Rattle.hx_lives.specs.State.{RegistryState}
use Rattle.hx_script.specs.declared.script.Step.{Step}
use Rattle.hx_script.specs.declared.script.Step.TheVariants.{Crash, Restart}
use Rattle.hx_play.specs.declared.playing.Halt.TheVariants.{NoMemory, OpenFault}
use Rattle.hx_play.specs.declared.endings.Stopped.{Stopped}
use Rattle.hx_play.specs.Over.{EndsLife}
use Rattle.hx_play.specs.Running.{IsRunning, IsBetween, IsCutShort, is_restart}
use Rattle.hx_play.proofs.LifeSteps.{run_on, cutting, cutting_end, cut_short, crashed_over, restarted, rose_behind, if_err}
use Rattle.hx_play.proofs.steps.take_step.Goals as goal

-- an event
pub returns-in-Ok-clause-running : goal.returns-in-Ok-clause-running
returns-in-Ok-clause-running g c = λ moment faults taken running.
    subst (λ (s : Step). IsRunning g.D.Disk.picked g.D.Disk.tells g.D.Disk.time g.D.Disk.past c.args.guarded c.args.names.now moment faults (s ∷ taken) c.args.lives.now.lives c.take.new.registry) (sym c.in-Do.is)
    (run_on g.D.Disk.picked g.D.Disk.tells g.D.Disk.time g.D.Disk.past g.D.Disk.failures c.args.guarded c.args.names.now moment faults c.in-Do.actor c.in-Do.event c.in-Ok.field-0 taken c.args.lives.now.lives c.args.registry c.take.new.registry running
    c.in-Ok.ensures.entry c.take.ensures.runs)

pub returns-in-Err-clause-stopped : goal.returns-in-Err-clause-stopped
returns-in-Err-clause-stopped g c = λ moment faults taken running.
    inr (
      c.cut_off.ensures.halt,
      subst (λ (s : Step). IsCutShort g.D.Disk.picked g.D.Disk.tells g.D.Disk.time g.D.Disk.past g.D.Disk.failures c.args.guarded c.args.names.now moment faults (is_restart s) taken c.cut_off.new.lives.lives c.cut_off.result.disk) (sym c.in-Do.is)
          (cut_short g.D.Disk.picked g.D.Disk.tells g.D.Disk.time g.D.Disk.past g.D.Disk.failures c.args.guarded c.args.names.now moment faults false taken c.args.lives.now.lives c.cut_off.new.lives.lives c.take.new.registry c.cut_off.result.disk
          (cutting g.D.Disk.picked g.D.Disk.tells g.D.Disk.time g.D.Disk.past g.D.Disk.failures c.args.guarded c.args.names.now moment faults taken c.args.lives.now.lives c.args.registry c.take.new.registry running c.in-Err.ensures.err c.take.ensures.runs)
          c.cut_off.ensures.disk c.cut_off.ensures.ends),
    )

-- a crash
pub returns-in-Ok-crashed-clause-running : goal.returns-in-Ok-crashed-clause-running
returns-in-Ok-crashed-clause-running g c = λ moment faults taken running.
    let ends : EndsLife g.D.Disk.picked g.D.Disk.tells g.D.Disk.time g.D.Disk.past g.D.Disk.failures c.args.registry.course (ByCrash c.in-Crash.pick) c.args.lives.now.lives c.crash_life-disk.new.lives.lives c.crash_life-disk.result.0 =
    subst (λ (r : Result Unit AllocError). EndsLife g.D.Disk.picked g.D.Disk.tells g.D.Disk.time g.D.Disk.past g.D.Disk.failures c.args.registry.course (crash_end c.in-Crash.pick r) c.args.lives.now.lives c.crash_life-disk.new.lives.lives c.crash_life-disk.result.0) c.in-Ok-crashed.is c.crash_life-disk.ensures.ends in
    let between : IsBetween g.D.Disk.picked g.D.Disk.tells g.D.Disk.time g.D.Disk.past g.D.Disk.failures c.args.guarded c.args.names.now moment faults (Crash c.in-Crash.pick ∷ taken) c.crash_life-disk.new.lives.lives c.crash_life-disk.result.0 =
    crashed_over g.D.Disk.picked g.D.Disk.tells g.D.Disk.time g.D.Disk.past g.D.Disk.failures c.args.guarded c.args.names.now moment faults c.in-Crash.pick taken c.args.lives.now.lives c.crash_life-disk.new.lives.lives c.args.registry c.crash_life-disk.result.0 running c.crash_life-disk.ensures.runs ends in
    subst (λ (s : Step). IfOk c.next_life.result (λ r. IsRunning g.D.Disk.picked g.D.Disk.tells g.D.Disk.time g.D.Disk.past c.args.guarded c.args.names.now moment faults (s ∷ taken) c.next_life.new.lives.lives r)) (sym c.in-Crash.is)
    (subst (λ (ls : List Life). IfOk c.next_life.result (λ r. IsRunning g.D.Disk.picked g.D.Disk.tells g.D.Disk.time g.D.Disk.past c.args.guarded c.args.names.now moment faults (Crash c.in-Crash.pick ∷ taken) ls r)) (sym c.next_life.ensures.lives)
    (c.next_life.ensures.begins moment faults (Crash c.in-Crash.pick ∷ taken) between))

pub returns-in-Ok-crashed-clause-stopped : goal.returns-in-Ok-crashed-clause-stopped
returns-in-Ok-crashed-clause-stopped g c = λ moment faults taken running.
    let ends : EndsLife g.D.Disk.picked g.D.Disk.tells g.D.Disk.time g.D.Disk.past g.D.Disk.failures c.args.registry.course (ByCrash c.in-Crash.pick) c.args.lives.now.lives c.crash_life-disk.new.lives.lives c.crash_life-disk.result.0 =
    subst (λ (r : Result Unit AllocError). EndsLife g.D.Disk.picked g.D.Disk.tells g.D.Disk.time g.D.Disk.past g.D.Disk.failures c.args.registry.course (crash_end c.in-Crash.pick r) c.args.lives.now.lives c.crash_life-disk.new.lives.lives c.crash_life-disk.result.0) c.in-Ok-crashed.is c.crash_life-disk.ensures.ends in
    let between : IsBetween g.D.Disk.picked g.D.Disk.tells g.D.Disk.time g.D.Disk.past g.D.Disk.failures c.args.guarded c.args.names.now moment faults (Crash c.in-Crash.pick ∷ taken) c.crash_life-disk.new.lives.lives c.crash_life-disk.result.0 =
    crashed_over g.D.Disk.picked g.D.Disk.tells g.D.Disk.time g.D.Disk.past g.D.Disk.failures c.args.guarded c.args.names.now moment faults c.in-Crash.pick taken c.args.lives.now.lives c.crash_life-disk.new.lives.lives c.args.registry c.crash_life-disk.result.0 running c.crash_life-disk.ensures.runs ends in
    subst (λ (st : Step). IfErr c.next_life.result (λ (s : Stopped g.row.D.Denot). IsBetween g.D.Disk.picked g.D.Disk.tells g.D.Disk.time g.D.Disk.past g.D.Disk.failures c.args.guarded c.args.names.now moment faults (st ∷ taken) c.next_life.new.lives.lives s.disk ⊎ ((s.halt ≡ NoMemory) × IsCutShort g.D.Disk.picked g.D.Disk.tells g.D.Disk.time g.D.Disk.past g.D.Disk.failures c.args.guarded c.args.names.now moment faults (is_restart st) taken c.next_life.new.lives.lives s.disk))) (sym c.in-Crash.is)
    (subst (λ (ls : List Life). IfErr c.next_life.result (λ (s : Stopped g.row.D.Denot). IsBetween g.D.Disk.picked g.D.Disk.tells g.D.Disk.time g.D.Disk.past g.D.Disk.failures c.args.guarded c.args.names.now moment faults (Crash c.in-Crash.pick ∷ taken) ls s.disk ⊎ ((s.halt ≡ NoMemory) × IsCutShort g.D.Disk.picked g.D.Disk.tells g.D.Disk.time g.D.Disk.past g.D.Disk.failures c.args.guarded c.args.names.now moment faults (is_restart (Crash c.in-Crash.pick)) taken ls s.disk))) (sym c.next_life.ensures.lives)
    (if_err c.next_life.result _ _ (λ s is. inl is) (c.next_life.ensures.stops moment faults (Crash c.in-Crash.pick ∷ taken) between)))

pub returns-in-Ok-crashed-clause-cause : goal.returns-in-Ok-crashed-clause-cause
returns-in-Ok-crashed-clause-cause g c = λ faults.
    subst (λ (ls : List Life). IfErr c.next_life.result (λ (s : Stopped g.row.D.Denot). s.halt ≡ OpenFault → Rose (faults_of faults ls) (g.D.Disk.failures s.disk))) (sym c.next_life.ensures.lives)
    (if_err c.next_life.result _ _ (λ s rose is. rose_behind g.D.Disk.picked g.D.Disk.tells g.D.Disk.time g.D.Disk.past g.D.Disk.failures c.args.guarded c.args.names.now (g.D.Disk.time c.args.registry.disk) faults c.args.registry.course (crash_end c.in-Crash.pick c.crash_life-disk.result.1) c.args.lives.now.lives c.crash_life-disk.new.lives.lives c.crash_life-disk.result.0 (g.D.Disk.failures s.disk) c.crash_life-disk.ensures.ends (rose is)) c.next_life.ensures.cause)

pub returns-in-Err-crashed-clause-stopped : goal.returns-in-Err-crashed-clause-stopped
returns-in-Err-crashed-clause-stopped g c = λ moment faults taken running.
    let ends : EndsLife g.D.Disk.picked g.D.Disk.tells g.D.Disk.time g.D.Disk.past g.D.Disk.failures c.args.registry.course Cut c.args.lives.now.lives c.crash_life-disk.new.lives.lives c.crash_life-disk.result.0 =
    subst (λ (r : Result Unit AllocError). EndsLife g.D.Disk.picked g.D.Disk.tells g.D.Disk.time g.D.Disk.past g.D.Disk.failures c.args.registry.course (crash_end c.in-Crash.pick r) c.args.lives.now.lives c.crash_life-disk.new.lives.lives c.crash_life-disk.result.0) c.in-Err-crashed.is c.crash_life-disk.ensures.ends in
    let after : RegistryState g.row.D.Denot = record { course = c.args.registry.course; disk = c.crash_life-disk.result.0 } in
    inr (
      refl,
      subst (λ (s : Step). IsCutShort g.D.Disk.picked g.D.Disk.tells g.D.Disk.time g.D.Disk.past g.D.Disk.failures c.args.guarded c.args.names.now moment faults (is_restart s) taken c.crash_life-disk.new.lives.lives c.crash_life-disk.result.0) (sym c.in-Crash.is)
          (cut_short g.D.Disk.picked g.D.Disk.tells g.D.Disk.time g.D.Disk.past g.D.Disk.failures c.args.guarded c.args.names.now moment faults false taken c.args.lives.now.lives c.crash_life-disk.new.lives.lives after c.crash_life-disk.result.0
          (cutting g.D.Disk.picked g.D.Disk.tells g.D.Disk.time g.D.Disk.past g.D.Disk.failures c.args.guarded c.args.names.now moment faults taken c.args.lives.now.lives c.args.registry after running refl c.crash_life-disk.ensures.runs)
          refl ends),
    )

-- a restart
pub returns-in-Ok-quit-clause-running : goal.returns-in-Ok-quit-clause-running
returns-in-Ok-quit-clause-running g c = λ moment faults taken running.
    let between : IsBetween g.D.Disk.picked g.D.Disk.tells g.D.Disk.time g.D.Disk.past g.D.Disk.failures c.args.guarded c.args.names.now moment faults (Restart ∷ taken) c.end_life-disk.new.lives.lives c.end_life-disk.result =
    restarted g.D.Disk.picked g.D.Disk.tells g.D.Disk.time g.D.Disk.past g.D.Disk.failures c.args.guarded c.args.names.now moment faults taken c.args.lives.now.lives c.end_life-disk.new.lives.lives c.args.registry c.quit.new.self c.end_life-disk.result running
    c.in-Ok-quit.ensures.ended c.quit.ensures.runs c.end_life-disk.ensures.disk c.end_life-disk.ensures.ends in
    subst (λ (s : Step). IfOk c.next_life-in-Ok-quit.result (λ r. IsRunning g.D.Disk.picked g.D.Disk.tells g.D.Disk.time g.D.Disk.past c.args.guarded c.args.names.now moment faults (s ∷ taken) c.next_life-in-Ok-quit.new.lives.lives r)) (sym c.in-Restart.is)
    (subst (λ (ls : List Life). IfOk c.next_life-in-Ok-quit.result (λ r. IsRunning g.D.Disk.picked g.D.Disk.tells g.D.Disk.time g.D.Disk.past c.args.guarded c.args.names.now moment faults (Restart ∷ taken) ls r)) (sym c.next_life-in-Ok-quit.ensures.lives)
    (c.next_life-in-Ok-quit.ensures.begins moment faults (Restart ∷ taken) between))

pub returns-in-Ok-quit-clause-stopped : goal.returns-in-Ok-quit-clause-stopped
returns-in-Ok-quit-clause-stopped g c = λ moment faults taken running.
    let between : IsBetween g.D.Disk.picked g.D.Disk.tells g.D.Disk.time g.D.Disk.past g.D.Disk.failures c.args.guarded c.args.names.now moment faults (Restart ∷ taken) c.end_life-disk.new.lives.lives c.end_life-disk.result =
    restarted g.D.Disk.picked g.D.Disk.tells g.D.Disk.time g.D.Disk.past g.D.Disk.failures c.args.guarded c.args.names.now moment faults taken c.args.lives.now.lives c.end_life-disk.new.lives.lives c.args.registry c.quit.new.self c.end_life-disk.result running
    c.in-Ok-quit.ensures.ended c.quit.ensures.runs c.end_life-disk.ensures.disk c.end_life-disk.ensures.ends in
    subst (λ (st : Step). IfErr c.next_life-in-Ok-quit.result (λ (s : Stopped g.row.D.Denot). IsBetween g.D.Disk.picked g.D.Disk.tells g.D.Disk.time g.D.Disk.past g.D.Disk.failures c.args.guarded c.args.names.now moment faults (st ∷ taken) c.next_life-in-Ok-quit.new.lives.lives s.disk ⊎ ((s.halt ≡ NoMemory) × IsCutShort g.D.Disk.picked g.D.Disk.tells g.D.Disk.time g.D.Disk.past g.D.Disk.failures c.args.guarded c.args.names.now moment faults (is_restart st) taken c.next_life-in-Ok-quit.new.lives.lives s.disk))) (sym c.in-Restart.is)
    (subst (λ (ls : List Life). IfErr c.next_life-in-Ok-quit.result (λ (s : Stopped g.row.D.Denot). IsBetween g.D.Disk.picked g.D.Disk.tells g.D.Disk.time g.D.Disk.past g.D.Disk.failures c.args.guarded c.args.names.now moment faults (Restart ∷ taken) ls s.disk ⊎ ((s.halt ≡ NoMemory) × IsCutShort g.D.Disk.picked g.D.Disk.tells g.D.Disk.time g.D.Disk.past g.D.Disk.failures c.args.guarded c.args.names.now moment faults (is_restart (Restart)) taken ls s.disk))) (sym c.next_life-in-Ok-quit.ensures.lives)
    (if_err c.next_life-in-Ok-quit.result _ _ (λ s is. inl is) (c.next_life-in-Ok-quit.ensures.stops moment faults (Restart ∷ taken) between)))

pub returns-in-Ok-quit-clause-cause : goal.returns-in-Ok-quit-clause-cause
returns-in-Ok-quit-clause-cause g c = λ faults.
    subst (λ (ls : List Life). IfErr c.next_life-in-Ok-quit.result (λ (s : Stopped g.row.D.Denot). s.halt ≡ OpenFault → Rose (faults_of faults ls) (g.D.Disk.failures s.disk))) (sym c.next_life-in-Ok-quit.ensures.lives)
    (if_err c.next_life-in-Ok-quit.result _ _ (λ s rose is. rose_behind g.D.Disk.picked g.D.Disk.tells g.D.Disk.time g.D.Disk.past g.D.Disk.failures c.args.guarded c.args.names.now (g.D.Disk.time c.args.registry.disk) faults c.quit.new.self.course AtRestart c.args.lives.now.lives c.end_life-disk.new.lives.lives c.end_life-disk.result (g.D.Disk.failures s.disk) c.end_life-disk.ensures.ends (rose is)) c.next_life-in-Ok-quit.ensures.cause)

pub returns-in-Err-quit-clause-stopped : goal.returns-in-Err-quit-clause-stopped
returns-in-Err-quit-clause-stopped g c = λ moment faults taken running.
    inr (
      c.cut_off-in-Err-quit.ensures.halt,
      subst (λ (s : Step). IsCutShort g.D.Disk.picked g.D.Disk.tells g.D.Disk.time g.D.Disk.past g.D.Disk.failures c.args.guarded c.args.names.now moment faults (is_restart s) taken c.cut_off-in-Err-quit.new.lives.lives c.cut_off-in-Err-quit.result.disk) (sym c.in-Restart.is)
          (cut_short g.D.Disk.picked g.D.Disk.tells g.D.Disk.time g.D.Disk.past g.D.Disk.failures c.args.guarded c.args.names.now moment faults true taken c.args.lives.now.lives c.cut_off-in-Err-quit.new.lives.lives c.quit.new.self c.cut_off-in-Err-quit.result.disk
          (cutting_end g.D.Disk.picked g.D.Disk.tells g.D.Disk.time g.D.Disk.past g.D.Disk.failures c.args.guarded c.args.names.now moment faults taken c.args.lives.now.lives c.args.registry c.quit.new.self running c.in-Err-quit.ensures.err c.quit.ensures.runs)
          c.cut_off-in-Err-quit.ensures.disk c.cut_off-in-Err-quit.ensures.ends),
    )
