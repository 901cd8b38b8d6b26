use Rattle.std.proofs.Common.{rules, ◌≡◌, ◌∙◌, ◌<◌, ◌≤◌, nat_le, true, false, None, sym, subst, arith}
use Rattle.std.proofs.lemmas.Bool.Decides.{nat_tests}
use Rattle.hx_lives.specs.Course.{opening}
use Rattle.hx_rules.specs.Entries.{past}
use Rattle.hx_hub.specs.Calls.{StagedAs}
use Rattle.hx_hub.specs.Shared.{lowest_due}
use Rattle.hx_hub.specs.declared.hub.Staged.{Staged}
use Rattle.hx_hub.specs.declared.hub.Staged.TheVariants.{Rest, Over}
use Rattle.hx_hub.proofs.office.Office.rest.Goals as goal
use Rattle.hx_hub.proofs.office.Office.rest.Goals.{then-note, else-note}

pub returns : goal.returns
returns g c =
    let o = opening g.J.Naming.life in
    let windows = g.J.Naming.windows in
    let noted = c.note.ensures.pass in
    let none : lowest_due c.args.kind o (past c.self.inside.clerk) ≡ None = search rules in
    elim c.if-note.branch [
      | then-note w ↦
          let is : c.if-note.result ≡ Over = w.result-is in
          let all : nat_le windows noted.0 ≡ true = sym noted.2 ∙ w.if-note.true in
          let many : windows ≤ noted.0 = grind (arith, nat_tests) in
          subst (λ (s : Staged). StagedAs o windows c.args.kind s c.args.pass.now c.note.new.pass) (sym is)
          (noted.0, many, record { upto = c.self.inside.clerk; seen = c.note.ensures.seen; none = none; noted = noted.1 })
      | else-note w ↦
          let is : c.if-note.result ≡ Rest = w.result-is in
          let not_all : nat_le windows noted.0 ≡ false = sym noted.2 ∙ w.if-note.false in
          let few : noted.0 < windows = grind (arith, nat_tests) in
          subst (λ (s : Staged). StagedAs o windows c.args.kind s c.args.pass.now c.note.new.pass) (sym is)
          (noted.0, few, record { upto = c.self.inside.clerk; seen = c.note.ensures.seen; none = none; noted = noted.1 })
    ]
