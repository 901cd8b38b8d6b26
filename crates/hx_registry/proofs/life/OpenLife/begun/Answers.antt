use Rattle.std.proofs.Common.{rules, ◌≡◌, ◌≤◌, length, option_map}
use Rattle.hx_events.specs.declared.backup.TheConstants.{CONTENT_MAX}
use Rattle.hx_rules.specs.Backups.{begun}
use Rattle.hx_rules.specs.Entries.{own}
use Rattle.hx_rules.specs.Legal.{restored_at}
use Rattle.hx_lives.specs.Course.{Course, opening}
use Rattle.hx_rules_laws.specs.Limits.{begun_is_short, begun_has_few}
use Rattle.hx_registry.specs.OpenLives.{each_begun}
use Rattle.hx_registry.proofs.life.OpenLife.begun.Goals as goal

pub returns-clause-short : goal.returns-clause-short
returns-clause-short c =
    let course : Course = c.args.self.now.course in
    let is : option_map (λ b. b.now) c.begun.result ≡ begun (restored_at (opening course) c.args.res) course.guarded (own c.args.res course.entries) = search rules in
    each_begun (λ b. b.now) c.begun.result _ (λ b. length b.snapshot.content ≤ CONTENT_MAX) is
    (λ b begins. begun_is_short (opening course) course.entries c.args.res b c.requires.legal (search rules) (search rules) begins)

pub returns-clause-sized : goal.returns-clause-sized
returns-clause-sized c =
    let course : Course = c.args.self.now.course in
    let is : option_map (λ b. b.now) c.begun.result ≡ begun (restored_at (opening course) c.args.res) course.guarded (own c.args.res course.entries) = search rules in
    each_begun (λ b. b.now) c.begun.result _ (λ b. b.size ≤ CONTENT_MAX) is
    (λ b begins. begun_has_few (opening course) course.entries c.args.res b c.requires.legal (search rules) (search rules) begins)
