use Rattle.std.proofs.Common.{◌≡◌, ◌≤◌}
use Rattle.hx_rules.specs.Entries.{past}
use Rattle.hx_rules.specs.Legal.{count_below, holds_at}
use Rattle.hx_core.proofs.machine.Core.holders.Given as goal

abbrev pub invariant-loop-i : goal.invariant-loop-i
invariant-loop-i l = (l.count ≡ count_below (holds_at l.self.opening (past l.self.history)) l.i) × (l.count ≤ l.i)
