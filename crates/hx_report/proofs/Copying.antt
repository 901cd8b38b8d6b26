-- The copies at the end of a life, by the outlines that its entries leave.
use Rattle.std.specs.Prelude.{◌≡◌, ℕ, zero, suc, ◌+◌, ◌==◌, ◌≤◌, false, List, ◌++◌, length, Option, Some, None, slice_get, refl}
use Rattle.std.proofs.Common.{ap, sym, ◌∙◌, arith}
use Rattle.hx_events.specs.declared.backup.Backup.{Backup}
use Rattle.hx_events.specs.declared.copies.CopyFact.{CopyFact}
use Rattle.hx_events.specs.declared.life.Entry.{Entry}
use Rattle.hx_events.specs.declared.life.Life.{Life}
use Rattle.hx_rules.specs.Backups.{Snapshot, backed, done}
use Rattle.hx_rules.specs.Copies.{dirty, is_number, registered}
use Rattle.hx_rules.specs.Entries.{Deed, own, past}
use Rattle.hx_rules.specs.Legal.{Opening, restored_at}
use Rattle.hx_rules.specs.Versions.{last_version}
use Rattle.hx_report.specs.declared.outline.Outline.{Outline}
use Rattle.hx_report.specs.declared.tally.Tally.{Tally}
use Rattle.hx_report.specs.Copies.{copies_at_end, copies_below, copy_fact, fact_if, fact_of_outline, fact_of_some, facts_of_outlines}
use Rattle.hx_report.specs.Outlines.{IsTallied, outline}
use Rattle.hx_report.specs.Tails.{opening, version_of}
use Rattle.hx_report.proofs.Tallying.{item_at}

backed_by : (last : ℕ) (s : Option Snapshot) → is_number last (version_of s) ≡ elim s [ None ↦ false | Some b ↦ b.version == last ]
backed_by last None = refl
backed_by last (Some b) = refl

fact_is : (restored : Option Backup) (ds : List Deed) (c : ℕ) → fact_of_outline c (outline restored ds) ≡ fact_if (registered restored ds) (copy_fact c (dirty restored ds) (backed restored ds))
fact_is restored ds c = ap (λ b. fact_if (registered restored ds) (copy_fact c (dirty restored ds) b)) (backed_by (last_version restored ds) (done restored ds))

module _ (o : Opening) (whole : List Entry) (xs : List Outline) (each : (k : ℕ) (x : Outline) → slice_get xs k ≡ Some x → x ≡ outline (restored_at o k) (own k whole)) where
  facts_are : (n : ℕ) → n ≤ length xs → facts_of_outlines xs n ≡ copies_below o whole n
  facts_are zero le = refl
  facts_are (suc c) le =
      let here = item_at xs c (omega (arith, le)) in
      (λ j. facts_are c (omega (arith, le)) j ++ fact_of_some c (here.1 j))
      ∙ ap (λ (more : List CopyFact). copies_below o whole c ++ more) (ap (fact_of_outline c) (each c here.0 here.1) ∙ fact_is (restored_at o c) (own c whole) c)

pub copies_are : (life : Life) (t : Tally) → length t.outlines.items ≡ length life.names → IsTallied (opening life) (past life.history) t → facts_of_outlines t.outlines.items (length life.names) ≡ copies_at_end life
copies_are life t count was = facts_are (opening life) (past life.history) t.outlines.items was.each (length life.names) (omega (arith, count))

-- one copy more
pub facts_next : (xs : List Outline) (i : ℕ) (x : Outline) (out next : List CopyFact) → slice_get xs i ≡ Some x → out ≡ facts_of_outlines xs i → next ≡ out ++ fact_of_outline i x → next ≡ facts_of_outlines xs (i + 1)
facts_next xs i x out next at so_far put =
    let e : suc i ≡ i + 1 = omega arith in
    put ∙ ((λ j. so_far j ++ fact_of_some i (sym at j)) ∙ ap (facts_of_outlines xs) e)
