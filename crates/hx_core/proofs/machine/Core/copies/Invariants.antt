use Rattle.std.proofs.Common.{◌≡◌, ◌-◌, ◌++◌, length}
use Rattle.hx_rules.specs.Entries.{past}
use Rattle.hx_core.specs.Registered.{copies_from}
use Rattle.hx_core.proofs.machine.Core.copies.Given as goal

abbrev pub invariant-loop-i : goal.invariant-loop-i
invariant-loop-i l =
    copies_from l.self.opening (past l.self.history) 0 (length l.self.resources) ≡ l.copies.items ++ copies_from l.self.opening (past l.self.history) l.i (length l.self.resources - l.i)
