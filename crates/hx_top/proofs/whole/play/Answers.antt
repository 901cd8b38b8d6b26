use Rattle.std.proofs.Common.{Bool, List, reverse, sym, subst}
use Rattle.hx_faults.specs.Faults.{Rose}
use Rattle.hx_events.specs.declared.life.Life.{Life}
use Rattle.hx_lives.specs.Chained.{faults_of}
use Rattle.hx_play.specs.Played.{ArePlayed}
use Rattle.hx_top.specs.Whole.{FollowTo, is_guarded}
use Rattle.hx_top.proofs.Closing.{played_closes}
use Rattle.hx_top.proofs.Guarded.{played_kept}
use Rattle.hx_top.proofs.Played.{followed, of_play, opening_failed}
use Rattle.hx_top.proofs.whole.play.Goals as goal

pub returns-clause-ends : goal.returns-clause-ends
returns-clause-ends g c = of_play c.play_script-played.result.halt c.print_played.result.end c.print_played.ensures.ends

pub returns-clause-follow : goal.returns-clause-follow
returns-clause-follow g c =
    subst (λ (ls : List Life). FollowTo c.print_played.result.end (is_guarded c.args.task) c.args.script.names c.args.script.steps ls) (sym c.print_played.ensures.lives)
    (subst (λ (guarded : Bool). FollowTo c.print_played.result.end guarded c.args.script.names c.args.script.steps c.play_script-played.result.lives.lives) c.is_guarded.ensures
    (followed c.play_script-played.result.halt c.print_played.result.end c.is_guarded.result c.args.script.names c.args.script.steps c.play_script-played.result.lives.lives c.print_played.ensures.ends c.play_script-played.ensures.done c.play_script-played.ensures.at_opening c.play_script-played.ensures.for_memory))

pub returns-clause-played : goal.returns-clause-played
returns-clause-played g c =
    subst (λ (ls : List Life). ArePlayed g.D.Disk.picked g.D.Disk.tells (g.D.Disk.past c.print_played.result.disk) (reverse c.args.script.slots) (g.D.Disk.time c.args.disk) (g.D.Disk.failures c.args.disk) (g.D.Disk.time c.print_played.result.disk) (g.D.Disk.failures c.print_played.result.disk) ls) (sym c.print_played.ensures.lives)
    (subst (λ disk. ArePlayed g.D.Disk.picked g.D.Disk.tells (g.D.Disk.past disk) (reverse c.args.script.slots) (g.D.Disk.time c.args.disk) (g.D.Disk.failures c.args.disk) (g.D.Disk.time disk) (g.D.Disk.failures disk) c.play_script-played.result.lives.lives) (sym c.print_played.ensures.disk) c.play_script-played.ensures.played)

pub returns-clause-open_fault : goal.returns-clause-open_fault
returns-clause-open_fault g c = λ is.
    subst (λ (ls : List Life). Rose (faults_of (g.D.Disk.failures c.args.disk) ls) (g.D.Disk.failures c.print_played.result.disk)) (sym c.print_played.ensures.lives)
    (subst (λ disk. Rose (faults_of (g.D.Disk.failures c.args.disk) c.play_script-played.result.lives.lives) (g.D.Disk.failures disk)) (sym c.print_played.ensures.disk)
    (c.play_script-played.ensures.cause (opening_failed c.play_script-played.result.halt c.print_played.result.end c.print_played.ensures.ends is)))

pub returns-clause-kept : goal.returns-clause-kept
returns-clause-kept g c =
    played_kept g.D.Disk.picked g.D.Disk.tells (g.D.Disk.past c.print_played.result.disk) (reverse c.args.script.slots) (g.D.Disk.time c.args.disk) (g.D.Disk.failures c.args.disk) (g.D.Disk.time c.print_played.result.disk) (g.D.Disk.failures c.print_played.result.disk) (reverse c.print_played.result.lives.items) (returns-clause-played g c)

pub returns-clause-closes : goal.returns-clause-closes
returns-clause-closes g c =
    λ order exit is done. played_closes g.D.Disk.picked g.D.Disk.tells (g.D.Disk.past c.print_played.result.disk) c.args.task order c.print_played.result.end c.args.script.names c.args.script.steps (reverse c.args.script.slots) (g.D.Disk.time c.args.disk) (g.D.Disk.failures c.args.disk) (g.D.Disk.time c.print_played.result.disk) (g.D.Disk.failures c.print_played.result.disk) (reverse c.print_played.result.lives.items) (returns-clause-follow g c) (returns-clause-played g c) exit is done
