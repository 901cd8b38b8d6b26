-- The names so far have their outlines.
use Rattle.std.proofs.Common.{◌≡◌, ℕ, length, Some, is_some, slice_get}
use Rattle.hx_events.specs.Texts.{name_of}
use Rattle.hx_rules.specs.Legal.{found_backup}
use Rattle.hx_report.specs.declared.outline.Outline.{Outline}
use Rattle.hx_report.specs.Outlines.{first_outline}
use Rattle.hx_report.proofs.tally.first_outlines.Given as goal

abbrev pub invariant-loop-place : goal.invariant-loop-place
invariant-loop-place l = record {
  count : length l.outlines.items ≡ l.place;
  each : (k : ℕ) (x : Outline) → slice_get l.outlines.items k ≡ Some x → x ≡ first_outline (is_some (found_backup (name_of l.names k) l.base));
}
