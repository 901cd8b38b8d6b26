-- None of the copies so far would lose its changes.
use Rattle.std.proofs.Common.{◌≡◌, drop}
use Rattle.hx_exit.specs.Exits.{decision_by}
use Rattle.hx_exit.proofs.exit.decide.Given as goal

abbrev pub invariant-loop-copy : goal.invariant-loop-copy
invariant-loop-copy l = decision_by l.hot (drop l.copy-index l.copies) ≡ decision_by l.hot l.copies
