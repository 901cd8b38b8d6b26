use Rattle.std.proofs.Common.{◌≡◌}
use Rattle.std.specs.Prelude.{replicate}
use Rattle.hx_events.specs.declared.backup.PairFound.TheVariants.{Empty}
use Rattle.hx_script.proofs.draft.no_pairs.Given as goal

abbrev pub invariant-loop-i : goal.invariant-loop-i
invariant-loop-i l = l.pairs.items ≡ replicate l._i Empty
