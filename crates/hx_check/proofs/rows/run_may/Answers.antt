use Rattle.std.proofs.Common.{Some, sym, ap, ◌∙◌, if◌then◌else◌}
use Rattle.hx_rules.specs.Due.{Check, Write}
use Rattle.hx_rules.specs.Legal.{flush_row}
use Rattle.hx_check.proofs.rows.run_may.Goals as goal

pub returns-then-run : goal.returns-then-run
returns-then-run c =
    c.write_may.ensures c.args.run.over c.args.kept
    ∙ ap (λ checked. flush_row (if checked then Some (Write c.args.run.version) else Some Check) c.args.run.over c.args.kept c.args.outcome.now) (sym c.if-run.true)
