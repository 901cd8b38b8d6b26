use Rattle.std.specs.Prelude.{is_err}
use Rattle.std.proofs.Common.{◌≡◌, ◌∙◌, false, List, [], length, map, sym, subst}
use Rattle.hx_events.specs.declared.event.Command.{Command}
use Rattle.hx_events.specs.declared.life.Life.{Life}
use Rattle.hx_rules.specs.Interleavings.{IsWorkOf}
use Rattle.hx_lives.specs.Course.{Start, opening, opening_at}
use Rattle.hx_actors.specs.Work.{IsPartOf}
use Rattle.hx_play.specs.Over.{AreOver}
use Rattle.hx_play.specs.Running.{IsRunning}
use Rattle.hx_play.specs.Runs.{HaveRunInPart, scripts_of}
use Rattle.hx_play.proofs.Commands.{named_still, of_ok}
use Rattle.hx_play.proofs.Disks.{gone_on_joined, gone_on_same}
use Rattle.hx_play.proofs.LifeSteps.{started}
use Rattle.hx_play.proofs.RunSteps.{HasWorked, none_made, over_cut, over_cut_end, over_done, run_cut, run_cut_end, run_done, worked}
use Rattle.hx_play.proofs.runs.run.Goals as goal

-- the vault wasn't opened
pub returns-in-Err-clause-for_memory : goal.returns-in-Err-clause-for_memory
returns-in-Err-clause-for_memory g c = λ memory steps parted. subst (HaveRunInPart c.args.guarded c.args.names.now steps) (sym (c.in-Err.ensures.lives ∙ c.new-lives.ensures)) tt

pub returns-in-Err-clause-over : goal.returns-in-Err-clause-over
returns-in-Err-clause-over g c =
    subst (λ (ls : List Life). AreOver g.D.Disk.picked g.D.Disk.tells (g.D.Disk.past c.in-Err.field-0.disk) (g.D.Disk.time c.args.disk) (g.D.Disk.failures c.args.disk) (g.D.Disk.time c.in-Err.field-0.disk) (g.D.Disk.failures c.in-Err.field-0.disk) ls) (sym c.in-Err.ensures.lives)
    (c.in-Err.ensures.stops (g.D.Disk.time c.args.disk) (g.D.Disk.failures c.args.disk) [] (started g.D.Disk.picked g.D.Disk.tells g.D.Disk.time g.D.Disk.past g.D.Disk.failures c.args.guarded c.args.names.now c.new-lives.result.lives c.args.disk c.new-lives.ensures)).over

-- the work
pub work-registry-requires-clause-named : goal.work-registry-requires-clause-named
work-registry-requires-clause-named g c = λ κs after. named_still (length c.args.names.now) (length c.in-Ok.registry.course.names) (map (λ s. s.items) c.args.scripts.items) c.in-Ok.ensures.named c.requires.named

pub work-registry-requires-clause-empty : goal.work-registry-requires-clause-empty
work-registry-requires-clause-empty g c = λ κs after.
    let running : IsRunning g.D.Disk.picked g.D.Disk.tells g.D.Disk.time g.D.Disk.past c.args.guarded c.args.names.now (g.D.Disk.time c.args.disk) (g.D.Disk.failures c.args.disk) [] c.new-lives.result.lives c.in-Ok.registry =
    c.in-Ok.ensures.begins (g.D.Disk.time c.args.disk) (g.D.Disk.failures c.args.disk) [] (started g.D.Disk.picked g.D.Disk.tells g.D.Disk.time g.D.Disk.past g.D.Disk.failures c.args.guarded c.args.names.now c.new-lives.result.lives c.args.disk c.new-lives.ensures) in
    none_made c.in-Ok.registry.course.entries running.as_asked

pub returns-then-is_err-clause-for_memory : goal.returns-then-is_err-clause-for_memory
returns-then-is_err-clause-for_memory g c = λ memory steps parted.
    let running : IsRunning g.D.Disk.picked g.D.Disk.tells g.D.Disk.time g.D.Disk.past c.args.guarded c.args.names.now (g.D.Disk.time c.args.disk) (g.D.Disk.failures c.args.disk) [] c.new-lives.result.lives c.in-Ok.registry =
    c.in-Ok.ensures.begins (g.D.Disk.time c.args.disk) (g.D.Disk.failures c.args.disk) [] (started g.D.Disk.picked g.D.Disk.tells g.D.Disk.time g.D.Disk.past g.D.Disk.failures c.args.guarded c.args.names.now c.new-lives.result.lives c.args.disk c.new-lives.ensures) in
    let has : HasWorked g.D.Disk.picked g.D.Disk.tells g.D.Disk.time g.D.Disk.past g.D.Disk.failures c.args.guarded c.args.names.now (g.D.Disk.time c.args.disk) (g.D.Disk.failures c.args.disk) c.next_life.new.lives.lives c.work-registry.result.0 =
    subst (λ (ls : List Life). HasWorked g.D.Disk.picked g.D.Disk.tells g.D.Disk.time g.D.Disk.past g.D.Disk.failures c.args.guarded c.args.names.now (g.D.Disk.time c.args.disk) (g.D.Disk.failures c.args.disk) ls c.work-registry.result.0) (sym c.in-Ok.ensures.lives)
    (worked g.D.Disk.picked g.D.Disk.tells g.D.Disk.time g.D.Disk.past g.D.Disk.failures c.args.guarded c.args.names.now (g.D.Disk.time c.args.disk) (g.D.Disk.failures c.args.disk) c.new-lives.result.lives c.in-Ok.registry c.work-registry.result.0 running c.work-registry.ensures.start c.work-registry.ensures.runs) in
    let in_part : IsPartOf false (scripts_of steps) c.work-registry.result.0.course.entries = subst (λ (ss : List (List Command)). IsPartOf false ss c.work-registry.result.0.course.entries) parted c.work-registry.ensures.part in
    run_cut g.D.Disk.picked g.D.Disk.tells g.D.Disk.time g.D.Disk.past g.D.Disk.failures c.args.guarded c.args.names.now (g.D.Disk.time c.args.disk) (g.D.Disk.failures c.args.disk) steps c.next_life.new.lives.lives c.cut_off-halt.new.lives.lives c.work-registry.result.0 c.cut_off-halt.result.disk has in_part c.cut_off-halt.ensures.ends

pub returns-then-is_err-clause-over : goal.returns-then-is_err-clause-over
returns-then-is_err-clause-over g c =
    let running : IsRunning g.D.Disk.picked g.D.Disk.tells g.D.Disk.time g.D.Disk.past c.args.guarded c.args.names.now (g.D.Disk.time c.args.disk) (g.D.Disk.failures c.args.disk) [] c.new-lives.result.lives c.in-Ok.registry =
    c.in-Ok.ensures.begins (g.D.Disk.time c.args.disk) (g.D.Disk.failures c.args.disk) [] (started g.D.Disk.picked g.D.Disk.tells g.D.Disk.time g.D.Disk.past g.D.Disk.failures c.args.guarded c.args.names.now c.new-lives.result.lives c.args.disk c.new-lives.ensures) in
    let has : HasWorked g.D.Disk.picked g.D.Disk.tells g.D.Disk.time g.D.Disk.past g.D.Disk.failures c.args.guarded c.args.names.now (g.D.Disk.time c.args.disk) (g.D.Disk.failures c.args.disk) c.next_life.new.lives.lives c.work-registry.result.0 =
    subst (λ (ls : List Life). HasWorked g.D.Disk.picked g.D.Disk.tells g.D.Disk.time g.D.Disk.past g.D.Disk.failures c.args.guarded c.args.names.now (g.D.Disk.time c.args.disk) (g.D.Disk.failures c.args.disk) ls c.work-registry.result.0) (sym c.in-Ok.ensures.lives)
    (worked g.D.Disk.picked g.D.Disk.tells g.D.Disk.time g.D.Disk.past g.D.Disk.failures c.args.guarded c.args.names.now (g.D.Disk.time c.args.disk) (g.D.Disk.failures c.args.disk) c.new-lives.result.lives c.in-Ok.registry c.work-registry.result.0 running c.work-registry.ensures.start c.work-registry.ensures.runs) in
    over_cut g.D.Disk.picked g.D.Disk.tells g.D.Disk.time g.D.Disk.past g.D.Disk.failures c.args.guarded c.args.names.now (g.D.Disk.time c.args.disk) (g.D.Disk.failures c.args.disk) c.next_life.new.lives.lives c.cut_off-halt.new.lives.lives c.work-registry.result.0 c.cut_off-halt.result.disk has c.cut_off-halt.ensures.disk c.cut_off-halt.ensures.ends

pub returns-then-is_err-clause-runs : goal.returns-then-is_err-clause-runs
returns-then-is_err-clause-runs g c = gone_on_same g.D.Disk.time g.D.Disk.past g.D.Disk.failures c.args.disk c.work-registry.result.0.disk c.cut_off-halt.result.disk (gone_on_joined g.D.Disk.time g.D.Disk.past g.D.Disk.failures c.args.disk c.in-Ok.registry.disk c.work-registry.result.0.disk c.in-Ok.ensures.runs c.work-registry.ensures.runs) c.cut_off-halt.ensures.disk

-- the end
pub returns-in-Ok-quit-clause-runs : goal.returns-in-Ok-quit-clause-runs
returns-in-Ok-quit-clause-runs g c =
    gone_on_same g.D.Disk.time g.D.Disk.past g.D.Disk.failures c.args.disk c.quit.new.self.disk c.end_life.result
    (gone_on_joined g.D.Disk.time g.D.Disk.past g.D.Disk.failures c.args.disk c.work-registry.result.0.disk c.quit.new.self.disk (gone_on_joined g.D.Disk.time g.D.Disk.past g.D.Disk.failures c.args.disk c.in-Ok.registry.disk c.work-registry.result.0.disk c.in-Ok.ensures.runs c.work-registry.ensures.runs) c.quit.ensures.runs) c.end_life.ensures.disk

pub returns-in-Err-quit-clause-runs : goal.returns-in-Err-quit-clause-runs
returns-in-Err-quit-clause-runs g c =
    gone_on_same g.D.Disk.time g.D.Disk.past g.D.Disk.failures c.args.disk c.quit.new.self.disk c.cut_off-halt-in-Err-quit.result.disk
    (gone_on_joined g.D.Disk.time g.D.Disk.past g.D.Disk.failures c.args.disk c.work-registry.result.0.disk c.quit.new.self.disk (gone_on_joined g.D.Disk.time g.D.Disk.past g.D.Disk.failures c.args.disk c.in-Ok.registry.disk c.work-registry.result.0.disk c.in-Ok.ensures.runs c.work-registry.ensures.runs) c.quit.ensures.runs) c.cut_off-halt-in-Err-quit.ensures.disk

pub returns-in-Ok-quit-clause-done : goal.returns-in-Ok-quit-clause-done
returns-in-Ok-quit-clause-done g c = λ is steps parted.
    let running : IsRunning g.D.Disk.picked g.D.Disk.tells g.D.Disk.time g.D.Disk.past c.args.guarded c.args.names.now (g.D.Disk.time c.args.disk) (g.D.Disk.failures c.args.disk) [] c.new-lives.result.lives c.in-Ok.registry =
    c.in-Ok.ensures.begins (g.D.Disk.time c.args.disk) (g.D.Disk.failures c.args.disk) [] (started g.D.Disk.picked g.D.Disk.tells g.D.Disk.time g.D.Disk.past g.D.Disk.failures c.args.guarded c.args.names.now c.new-lives.result.lives c.args.disk c.new-lives.ensures) in
    let has : HasWorked g.D.Disk.picked g.D.Disk.tells g.D.Disk.time g.D.Disk.past g.D.Disk.failures c.args.guarded c.args.names.now (g.D.Disk.time c.args.disk) (g.D.Disk.failures c.args.disk) c.next_life.new.lives.lives c.work-registry.result.0 =
    subst (λ (ls : List Life). HasWorked g.D.Disk.picked g.D.Disk.tells g.D.Disk.time g.D.Disk.past g.D.Disk.failures c.args.guarded c.args.names.now (g.D.Disk.time c.args.disk) (g.D.Disk.failures c.args.disk) ls c.work-registry.result.0) (sym c.in-Ok.ensures.lives)
    (worked g.D.Disk.picked g.D.Disk.tells g.D.Disk.time g.D.Disk.past g.D.Disk.failures c.args.guarded c.args.names.now (g.D.Disk.time c.args.disk) (g.D.Disk.failures c.args.disk) c.new-lives.result.lives c.in-Ok.registry c.work-registry.result.0 running c.work-registry.ensures.start c.work-registry.ensures.runs) in
    let fine : is_err c.work-registry.result.1 ≡ false = sym c.is_err.ensures.value ∙ c.if-is_err.false in
    let work : IsWorkOf (opening c.in-Ok.registry.course) false (map (λ s. s.items) c.args.scripts.items) c.work-registry.result.0.course.entries =
    of_ok c.work-registry.result.1 _ fine c.work-registry.ensures.work in
    let is_work : IsWorkOf (opening c.work-registry.result.0.course) false (scripts_of steps) c.work-registry.result.0.course.entries =
    subst (λ (ss : List (List Command)). IsWorkOf (opening c.work-registry.result.0.course) false ss c.work-registry.result.0.course.entries) parted
    (subst (λ (s : Start). IsWorkOf (opening_at s) false (map (λ s. s.items) c.args.scripts.items) c.work-registry.result.0.course.entries) (sym c.work-registry.ensures.start) work) in
    run_done g.D.Disk.picked g.D.Disk.tells g.D.Disk.time g.D.Disk.past g.D.Disk.failures c.args.guarded c.args.names.now (g.D.Disk.time c.args.disk) (g.D.Disk.failures c.args.disk) steps c.next_life.new.lives.lives c.end_life.new.lives.lives c.work-registry.result.0 c.quit.new.self c.end_life.result has is_work c.in-Ok-quit.ensures.ended c.end_life.ensures.ends

pub returns-in-Ok-quit-clause-over : goal.returns-in-Ok-quit-clause-over
returns-in-Ok-quit-clause-over g c =
    let running : IsRunning g.D.Disk.picked g.D.Disk.tells g.D.Disk.time g.D.Disk.past c.args.guarded c.args.names.now (g.D.Disk.time c.args.disk) (g.D.Disk.failures c.args.disk) [] c.new-lives.result.lives c.in-Ok.registry =
    c.in-Ok.ensures.begins (g.D.Disk.time c.args.disk) (g.D.Disk.failures c.args.disk) [] (started g.D.Disk.picked g.D.Disk.tells g.D.Disk.time g.D.Disk.past g.D.Disk.failures c.args.guarded c.args.names.now c.new-lives.result.lives c.args.disk c.new-lives.ensures) in
    let has : HasWorked g.D.Disk.picked g.D.Disk.tells g.D.Disk.time g.D.Disk.past g.D.Disk.failures c.args.guarded c.args.names.now (g.D.Disk.time c.args.disk) (g.D.Disk.failures c.args.disk) c.next_life.new.lives.lives c.work-registry.result.0 =
    subst (λ (ls : List Life). HasWorked g.D.Disk.picked g.D.Disk.tells g.D.Disk.time g.D.Disk.past g.D.Disk.failures c.args.guarded c.args.names.now (g.D.Disk.time c.args.disk) (g.D.Disk.failures c.args.disk) ls c.work-registry.result.0) (sym c.in-Ok.ensures.lives)
    (worked g.D.Disk.picked g.D.Disk.tells g.D.Disk.time g.D.Disk.past g.D.Disk.failures c.args.guarded c.args.names.now (g.D.Disk.time c.args.disk) (g.D.Disk.failures c.args.disk) c.new-lives.result.lives c.in-Ok.registry c.work-registry.result.0 running c.work-registry.ensures.start c.work-registry.ensures.runs) in
    over_done g.D.Disk.picked g.D.Disk.tells g.D.Disk.time g.D.Disk.past g.D.Disk.failures c.args.guarded c.args.names.now (g.D.Disk.time c.args.disk) (g.D.Disk.failures c.args.disk) c.next_life.new.lives.lives c.end_life.new.lives.lives c.work-registry.result.0 c.quit.new.self c.end_life.result has c.in-Ok-quit.ensures.ended c.quit.ensures.runs c.end_life.ensures.disk c.end_life.ensures.ends

pub returns-in-Err-quit-clause-for_memory : goal.returns-in-Err-quit-clause-for_memory
returns-in-Err-quit-clause-for_memory g c = λ memory steps parted.
    let running : IsRunning g.D.Disk.picked g.D.Disk.tells g.D.Disk.time g.D.Disk.past c.args.guarded c.args.names.now (g.D.Disk.time c.args.disk) (g.D.Disk.failures c.args.disk) [] c.new-lives.result.lives c.in-Ok.registry =
    c.in-Ok.ensures.begins (g.D.Disk.time c.args.disk) (g.D.Disk.failures c.args.disk) [] (started g.D.Disk.picked g.D.Disk.tells g.D.Disk.time g.D.Disk.past g.D.Disk.failures c.args.guarded c.args.names.now c.new-lives.result.lives c.args.disk c.new-lives.ensures) in
    let has : HasWorked g.D.Disk.picked g.D.Disk.tells g.D.Disk.time g.D.Disk.past g.D.Disk.failures c.args.guarded c.args.names.now (g.D.Disk.time c.args.disk) (g.D.Disk.failures c.args.disk) c.next_life.new.lives.lives c.work-registry.result.0 =
    subst (λ (ls : List Life). HasWorked g.D.Disk.picked g.D.Disk.tells g.D.Disk.time g.D.Disk.past g.D.Disk.failures c.args.guarded c.args.names.now (g.D.Disk.time c.args.disk) (g.D.Disk.failures c.args.disk) ls c.work-registry.result.0) (sym c.in-Ok.ensures.lives)
    (worked g.D.Disk.picked g.D.Disk.tells g.D.Disk.time g.D.Disk.past g.D.Disk.failures c.args.guarded c.args.names.now (g.D.Disk.time c.args.disk) (g.D.Disk.failures c.args.disk) c.new-lives.result.lives c.in-Ok.registry c.work-registry.result.0 running c.work-registry.ensures.start c.work-registry.ensures.runs) in
    let in_part : IsPartOf false (scripts_of steps) c.work-registry.result.0.course.entries = subst (λ (ss : List (List Command)). IsPartOf false ss c.work-registry.result.0.course.entries) parted c.work-registry.ensures.part in
    let fine : is_err c.work-registry.result.1 ≡ false = sym c.is_err.ensures.value ∙ c.if-is_err.false in
    let work : IsWorkOf (opening c.in-Ok.registry.course) false (map (λ s. s.items) c.args.scripts.items) c.work-registry.result.0.course.entries =
    of_ok c.work-registry.result.1 _ fine c.work-registry.ensures.work in
    let is_work : IsWorkOf (opening c.work-registry.result.0.course) false (scripts_of steps) c.work-registry.result.0.course.entries =
    subst (λ (ss : List (List Command)). IsWorkOf (opening c.work-registry.result.0.course) false ss c.work-registry.result.0.course.entries) parted
    (subst (λ (s : Start). IsWorkOf (opening_at s) false (map (λ s. s.items) c.args.scripts.items) c.work-registry.result.0.course.entries) (sym c.work-registry.ensures.start) work) in
    run_cut_end g.D.Disk.picked g.D.Disk.tells g.D.Disk.time g.D.Disk.past g.D.Disk.failures c.args.guarded c.args.names.now (g.D.Disk.time c.args.disk) (g.D.Disk.failures c.args.disk) steps c.next_life.new.lives.lives c.cut_off-halt-in-Err-quit.new.lives.lives c.work-registry.result.0 c.quit.new.self c.cut_off-halt-in-Err-quit.result.disk has in_part is_work c.in-Err-quit.ensures.err c.cut_off-halt-in-Err-quit.ensures.ends

pub returns-in-Err-quit-clause-over : goal.returns-in-Err-quit-clause-over
returns-in-Err-quit-clause-over g c =
    let running : IsRunning g.D.Disk.picked g.D.Disk.tells g.D.Disk.time g.D.Disk.past c.args.guarded c.args.names.now (g.D.Disk.time c.args.disk) (g.D.Disk.failures c.args.disk) [] c.new-lives.result.lives c.in-Ok.registry =
    c.in-Ok.ensures.begins (g.D.Disk.time c.args.disk) (g.D.Disk.failures c.args.disk) [] (started g.D.Disk.picked g.D.Disk.tells g.D.Disk.time g.D.Disk.past g.D.Disk.failures c.args.guarded c.args.names.now c.new-lives.result.lives c.args.disk c.new-lives.ensures) in
    let has : HasWorked g.D.Disk.picked g.D.Disk.tells g.D.Disk.time g.D.Disk.past g.D.Disk.failures c.args.guarded c.args.names.now (g.D.Disk.time c.args.disk) (g.D.Disk.failures c.args.disk) c.next_life.new.lives.lives c.work-registry.result.0 =
    subst (λ (ls : List Life). HasWorked g.D.Disk.picked g.D.Disk.tells g.D.Disk.time g.D.Disk.past g.D.Disk.failures c.args.guarded c.args.names.now (g.D.Disk.time c.args.disk) (g.D.Disk.failures c.args.disk) ls c.work-registry.result.0) (sym c.in-Ok.ensures.lives)
    (worked g.D.Disk.picked g.D.Disk.tells g.D.Disk.time g.D.Disk.past g.D.Disk.failures c.args.guarded c.args.names.now (g.D.Disk.time c.args.disk) (g.D.Disk.failures c.args.disk) c.new-lives.result.lives c.in-Ok.registry c.work-registry.result.0 running c.work-registry.ensures.start c.work-registry.ensures.runs) in
    over_cut_end g.D.Disk.picked g.D.Disk.tells g.D.Disk.time g.D.Disk.past g.D.Disk.failures c.args.guarded c.args.names.now (g.D.Disk.time c.args.disk) (g.D.Disk.failures c.args.disk) c.next_life.new.lives.lives c.cut_off-halt-in-Err-quit.new.lives.lives c.work-registry.result.0 c.quit.new.self c.cut_off-halt-in-Err-quit.result.disk has c.in-Err-quit.ensures.err c.quit.ensures.runs c.cut_off-halt-in-Err-quit.ensures.disk c.cut_off-halt-in-Err-quit.ensures.ends
