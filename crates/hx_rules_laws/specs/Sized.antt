-- The size of a begun backup, by which its blocks are counted.
use Rattle.std.specs.Prelude.{◌≡◌, ℕ, true, List, length, Some}
use Rattle.std.proofs.Common.{ap, sym, ◌∙◌}
use Rattle.hx_events.specs.declared.life.Entry.{Entry}
use Rattle.hx_rules.specs.Backups.{Snapshot, Begun, begun}
use Rattle.hx_rules.specs.Entries.{own}
use Rattle.hx_rules.specs.Legal.{Opening, restored_at, is_legal}
use Rattle.hx_rules.specs.Versions.{versions}
use Rattle.hx_rules_laws.specs.Sizes.{AreWhole, at_sized, sizes_are_lengths}
use Rattle.hx_rules_laws.specs.Taken.{begun_is_taken}

-- After a legal history that kept what was read, a begun backup's size is the length of its content.
abbrev pub BegunIsSized : Type 0
BegunIsSized = (o : Opening) (es : List Entry) (c : ℕ) → is_legal o es ≡ true → AreWhole es → (b : Begun) → begun (restored_at o c) o.guarded (own c es) ≡ Some b → b.size ≡ length b.snapshot.content

pub begun_is_sized : BegunIsSized
begun_is_sized o es c legal whole b is =
    let taken = begun_is_taken o es c legal b is in
    taken.size ∙ sym (at_sized b.snapshot.version (versions (restored_at o c) (own c es)) (sizes_are_lengths o es c legal whole)) ∙ ap (λ (s : Snapshot). length s.content) taken.same
