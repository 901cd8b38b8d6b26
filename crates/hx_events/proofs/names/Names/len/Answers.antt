-- The list is kept short and without repetition.
use Rattle.std.proofs.Common.{subst}
use Rattle.std.specs.Prelude.{ℕ, List, ◌≤◌, length}
use Rattle.hx_events.specs.Places.{IsDistinct}
use Rattle.hx_events.proofs.names.Names.len.Goals as goal

pub returns-clause-at_most : goal.returns-clause-at_most
returns-clause-at_most c = subst (λ names. length names ≤ 256) c.self.view_is c.self.invariant.0

pub returns-clause-distinct : goal.returns-clause-distinct
returns-clause-distinct c = subst IsDistinct c.self.view_is c.self.invariant.1
