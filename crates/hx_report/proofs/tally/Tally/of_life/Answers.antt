use Rattle.std.proofs.Common.{◌≡◌, ℕ, List, Some, is_some, slice_get, subst}
use Rattle.hx_events.specs.declared.backup.PairFound.{PairFound}
use Rattle.hx_events.specs.declared.life.Entry.{Entry}
use Rattle.hx_events.specs.Texts.{name_of}
use Rattle.hx_rules.specs.Entries.{past}
use Rattle.hx_rules.specs.Legal.{found_backup}
use Rattle.hx_report.specs.declared.outline.Outline.{Outline}
use Rattle.hx_report.specs.Outlines.{IsTallied, first_outline}
use Rattle.hx_report.specs.Tails.{opening}
use Rattle.hx_report.proofs.Tallying.{tallied_first}
use Rattle.hx_report.proofs.tally.Tally.of_life.Goals as goal

pub returns-clause-tallied : goal.returns-clause-tallied
returns-clause-tallied c =
    let life = c.args.life.now in
    let xs = c.in_ok-first_outlines.field-0.items in
    let first : (k : ℕ) (x : Outline) → slice_get xs k ≡ Some x → x ≡ first_outline (is_some (found_backup (name_of life.names k) life.base)) =
    subst (λ (base : List PairFound). (k : ℕ) (x : Outline) → slice_get xs k ≡ Some x → x ≡ first_outline (is_some (found_backup (name_of life.names k) base))) c.as_slice.ensures c.in_ok-first_outlines.ensures.each in
    subst (λ (es : List Entry). IsTallied (opening life) (past es) c.note_all.new.self) c.as_slice-2.ensures
    (c.in_ok-note_all.ensures.tallied (opening life)
    (tallied_first life.names life.base life.guarded _ c.in_ok-first_outlines.ensures.count first c.new.ensures.items))
