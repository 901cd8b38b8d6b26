use Rattle.std.proofs.Common.{◌+◌, sym, ◌∙◌, ap, subst, arith}
use Rattle.std.proofs.lemmas.Bool.{false≢true}
use Rattle.hx_disk.specs.File.{FileState}
use Rattle.hx_events.specs.declared.event.Event.TheVariants.{Flush}
use Rattle.hx_lives.specs.Calls.{HasGoneOn}
use Rattle.hx_lives.specs.Course.{Course, opening}
use Rattle.hx_core.specs.Cores.{outcome_at}
use Rattle.hx_resource.specs.declared.asks.Got.{Got}
use Rattle.hx_resource.specs.declared.asks.Got.TheVariants.{Found}
use Rattle.hx_registry.specs.Given.{check_is_given}
use Rattle.hx_registry.specs.Users.{given_answered}
use Rattle.hx_registry.proofs.parts.Parts.check.Goals as goal

pub rest-requires-clause-answered : goal.rest-requires-clause-answered
rest-requires-clause-answered g c =
    let s = c.args.self.now in
    let course : Course = s.life.course in
    let got : Got = Found c.in-Ok.found in
    let none = c.stat.ensures.unchanged in
    given_answered g.D.Disk.tells g.D.Disk.time g.D.Disk.past g.D.Disk.now g.D.Disk.failures course s.vault s.held.items s.disk c.stat.new.self (Flush c.args.res) got (outcome_at (opening course) course.entries (Flush c.args.res) got)
    c.requires.kept c.stat.ensures.cause.later none (check_is_given (opening course) course.entries c.args.res c.requires.asked.0 got c.requires.asked.1 tt) (λ bad. absurd (false≢true bad))
    (λ told. ap (λ (x : FileState). x.stat) (none.same (128 + c.args.res)) ∙ sym (c.in-Ok.ensures.stat told ∙ ap (λ f. (g.D.Disk.now s.disk f).stat) c.user_file.ensures))

pub returns-in-Ok-clause-runs : goal.returns-in-Ok-clause-runs
returns-in-Ok-clause-runs g c =
    let none = c.stat.ensures.unchanged in
    subst (λ d. HasGoneOn g.D.Disk.time g.D.Disk.past g.D.Disk.failures c.args.self.now.disk d) (sym c.rest.ensures.disk)
    (record { later = omega (arith, none.still); kept = none.kept; no_fewer = c.stat.ensures.cause.later })
