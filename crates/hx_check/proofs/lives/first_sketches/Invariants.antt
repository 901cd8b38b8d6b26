-- The names so far have their sketches.
use Rattle.std.proofs.Common.{◌≡◌, ℕ, length, Some, slice_get}
use Rattle.hx_events.specs.Texts.{name_of}
use Rattle.hx_rules.specs.Legal.{found_backup}
use Rattle.hx_check.specs.declared.sketch.Sketch.{Sketch}
use Rattle.hx_check.specs.Sketches.{first_sketch}
use Rattle.hx_check.proofs.lives.first_sketches.Given as goal

abbrev pub invariant-loop-place : goal.invariant-loop-place
invariant-loop-place l = record {
  count : length l.sketches.items ≡ l.place;
  each : (k : ℕ) (x : Sketch) → slice_get l.sketches.items k ≡ Some x → x ≡ first_sketch (found_backup (name_of l.names k) l.base);
}
