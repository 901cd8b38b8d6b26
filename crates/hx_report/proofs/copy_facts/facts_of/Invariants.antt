-- The copies so far stand there.
use Rattle.std.proofs.Common.{◌≡◌}
use Rattle.hx_report.specs.Copies.{facts_of_outlines}
use Rattle.hx_report.proofs.copy_facts.facts_of.Given as goal

abbrev pub invariant-loop-place : goal.invariant-loop-place
invariant-loop-place l = l.facts.items ≡ facts_of_outlines l.outlines l.place
