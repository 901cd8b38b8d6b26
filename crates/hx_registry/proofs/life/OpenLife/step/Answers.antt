use Rattle.std.proofs.Common.{rules, ◌≡◌, true, refl, sym, subst}
use Rattle.hx_events.specs.declared.outcome.Outcome.{Outcome}
use Rattle.hx_core.specs.Cores.{asks_at}
use Rattle.hx_resource.specs.Asks.{FitsAsked}
use Rattle.hx_resource.specs.Rooms.{got_content}
use Rattle.hx_rules.specs.Entries.{past}
use Rattle.hx_rules.specs.Legal.{is_row}
use Rattle.hx_rules_laws.specs.Sizes.{IsWholeEntry}
use Rattle.hx_lives.specs.Course.{Course, opening}
use Rattle.hx_registry.specs.Given.{given_is_whole}
use Rattle.hx_registry.specs.OpenLives.{adds_entry, course_by, entry_by, goes_on, grown_by}
use Rattle.hx_registry.proofs.life.OpenLife.step.Goals as goal

pub returns-clause-entry : goal.returns-clause-entry
returns-clause-entry g c =
    let course = c.args.self.now.course in
    let inside = c.self.inside in
    let row : is_row (opening course) course.entries c.args.event c.step.result ≡ true = search rules in
    adds_entry course _ c.moment.result c.faults.result c.args.actor c.args.event c.step.result (got_content c.args.got)
    (grown_by course inside.core.names c.step.new.self.names inside.base inside.guarded inside.moment inside.faults inside.core.history c.step.new.self.history (entry_by c.moment.result c.faults.result c.args.actor c.args.event c.step.result (got_content c.args.got)) (search rules) c.step.ensures.names c.step.ensures.entry)
    row

pub invariant_of-self : goal.invariant_of-self
invariant_of-self g c =
    let inside = c.self.inside in
    let course : Course = course_by inside.core.names inside.base inside.guarded inside.moment inside.faults (past inside.core.history) in
    let fits : FitsAsked (asks_at inside.core.opening (past inside.core.history) c.args.event) c.args.got = search rules in
    goes_on course _ inside.core c.step.new.self (entry_by c.moment.result c.faults.result c.args.actor c.args.event c.step.result (got_content c.args.got)) c.self.invariant
    (grown_by course inside.core.names c.step.new.self.names inside.base inside.guarded inside.moment inside.faults inside.core.history c.step.new.self.history (entry_by c.moment.result c.faults.result c.args.actor c.args.event c.step.result (got_content c.args.got)) refl c.step.ensures.names c.step.ensures.entry)
    c.step.ensures.opening c.step.ensures.count
    (subst (λ (o : Outcome). IsWholeEntry o (got_content c.args.got)) (sym c.step.ensures.outcome) (given_is_whole inside.core.opening (past inside.core.history) c.args.event c.args.got fits))
