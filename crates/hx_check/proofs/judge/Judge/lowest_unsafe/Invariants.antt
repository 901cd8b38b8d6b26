-- None of the copies so far is unsafe.
use Rattle.std.proofs.Common.{◌≡◌, ◌-◌, length}
use Rattle.hx_rules.specs.Legal.{lowest_from}
use Rattle.hx_check.specs.Judging.{unsafe_of}
use Rattle.hx_check.proofs.judge.Judge.lowest_unsafe.Given as goal

abbrev pub invariant-loop-number : goal.invariant-loop-number
invariant-loop-number l =
    lowest_from (unsafe_of l.self.sketches.items) l.number (length l.self.sketches.items - l.number) ≡ lowest_from (unsafe_of l.self.sketches.items) 0 (length l.self.sketches.items)
