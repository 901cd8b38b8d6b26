use Rattle.std.proofs.Common.{◌≡◌, ◌-◌, length}
use Rattle.hx_rules.specs.Entries.{past}
use Rattle.hx_rules.specs.Legal.{is_unsafe, lowest_from}
use Rattle.hx_core.proofs.machine.Core.lowest_unsafe.Given as goal

abbrev pub invariant-loop-i : goal.invariant-loop-i
invariant-loop-i l =
    lowest_from (is_unsafe l.self.opening (past l.self.history)) 0 (length l.self.resources) ≡ lowest_from (is_unsafe l.self.opening (past l.self.history)) l.i (length l.self.resources - l.i)
