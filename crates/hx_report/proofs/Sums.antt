-- What is counted in one reading are the counts of each kind.
use Rattle.std.specs.Prelude.{◌≡◌, ℕ, zero, suc, ◌+◌, ◌-◌, Bool, true, false, List, [], ◌∷◌, ◌++◌, length, codes, Some, slice_get, refl}
use Rattle.std.proofs.Common.{ap, sym, ◌∙◌, subst, arith, cond, append_assoc}
use Rattle.std.proofs.lemmas.List.Sums.{sum_by-cons}
use Rattle.hx_events.specs.declared.life.Entry.{Entry}
use Rattle.hx_events.specs.declared.life.Life.{Life}
use Rattle.hx_events.specs.declared.outcome.Outcome.{Outcome}
use Rattle.hx_report.specs.declared.counts.Counts.{Counts}
use Rattle.hx_report.specs.Summaries.{count_in, count_all, entries_in, is_edited, is_backed_up, is_dropped, is_saved, is_modified, is_idle, is_fault, count_line, dirty_at_last, dirty_copies, restored_in, summary_text}
use Rattle.hx_report.specs.Traces.{AreWhole, IsWhole}
use Rattle.hx_report.specs.Counting.{count_lines, counted, counted_all, counts_after, no_counts, one_if}

-- one kind of entries is counted in this field
abbrev Counts_ : (Outcome → Bool) → (Counts → ℕ) → Type 0
Counts_ test field = (outcome : Outcome) (c : Counts) → field (counts_after outcome c) ≡ one_if (test outcome) (field c)

one_more : (b : Bool) (n k : ℕ) → one_if b n + k ≡ n + (cond b 1 0 + k)
one_more true n k = omega arith
one_more false n k = omega arith

counted_in : (test : Outcome → Bool) (field : Counts → ℕ) → Counts_ test field → (es : List Entry) (c : Counts) → field (counted es c) ≡ field c + count_in test es
counted_in test field step [] c = omega arith
counted_in test field step (e ∷ es) c =
    counted_in test field step es (counts_after e.outcome c)
    ∙ (ap (λ n. n + count_in test es) (step e.outcome c)
    ∙ (one_more (test e.outcome) (field c) (count_in test es)
    ∙ ap (λ n. field c + n) (sym (sum_by-cons (λ x. cond (test x.outcome) 1 0) e es))))

counted_over : (test : Outcome → Bool) (field : Counts → ℕ) → Counts_ test field → (lives : List Life) (c : Counts) → field (counted_all lives c) ≡ field c + count_all test lives
counted_over test field step [] c = omega arith
counted_over test field step (life ∷ lives) c =
    omega (arith, counted_over test field step lives (counted life.history c), counted_in test field step life.history c)

-- a field that is 0 at first
count_is : (test : Outcome → Bool) (field : Counts → ℕ) → Counts_ test field → field no_counts ≡ 0 → (lives : List Life) → field (counted_all lives no_counts) ≡ count_all test lives
count_is test field step none lives = omega (arith, counted_over test field step lives no_counts, none)

entries_counted : (es : List Entry) (c : Counts) → (counted es c).entries ≡ c.entries + length es
entries_counted [] c = omega arith
entries_counted (e ∷ es) c = omega (arith, entries_counted es (counts_after e.outcome c))

entries_over : (lives : List Life) (c : Counts) → (counted_all lives c).entries ≡ c.entries + entries_in lives
entries_over [] c = omega arith
entries_over (life ∷ lives) c = omega (arith, entries_over lives (counted life.history c), entries_counted life.history c)

entries_are : (lives : List Life) → (counted_all lives no_counts).entries ≡ entries_in lives
entries_are lives = omega (arith, entries_over lives no_counts)

-- the lines of what was counted
pub lines_are : (lives : List Life) → count_lines (counted_all lives no_counts) ≡ count_lines record {
  entries = entries_in lives;
  edits = count_all is_edited lives;
  backups = count_all is_backed_up lives;
  drops = count_all is_dropped lives;
  saved = count_all is_saved lives;
  modified = count_all is_modified lives;
  idle = count_all is_idle lives;
  faults = count_all is_fault lives;
}
lines_are lives =
    ap count_lines (λ j. record {
      entries = entries_are lives j;
      edits = count_is is_edited (λ c. c.edits) (λ o c. refl) refl lives j;
      backups = count_is is_backed_up (λ c. c.backups) (λ o c. refl) refl lives j;
      drops = count_is is_dropped (λ c. c.drops) (λ o c. refl) refl lives j;
      saved = count_is is_saved (λ c. c.saved) (λ o c. refl) refl lives j;
      modified = count_is is_modified (λ c. c.modified) (λ o c. refl) refl lives j;
      idle = count_is is_idle (λ c. c.idle) (λ o c. refl) refl lives j;
      faults = count_is is_fault (λ c. c.faults) (λ o c. refl) refl lives j;
    })

-- the last life
pub last_dirty : (lives : List Life) (life : Life) → Some life ≡ slice_get lives (length lives - 1) → dirty_at_last lives ≡ dirty_copies life
last_dirty [] life at = absurd cc
last_dirty (x ∷ []) life at = let e : life ≡ x = cc in ap dirty_copies (sym e)
last_dirty (x ∷ y ∷ lives) life at =
    let e : length (x ∷ y ∷ lives) - 1 ≡ suc (length (y ∷ lives) - 1) = omega arith in
    last_dirty (y ∷ lives) life (at ∙ ap (slice_get (x ∷ y ∷ lives)) e)

pub whole_at : (lives : List Life) (k : ℕ) (life : Life) → AreWhole lives → Some life ≡ slice_get lives k → IsWhole life
whole_at [] k life are at = absurd cc
whole_at (x ∷ lives) zero life are at = let e : life ≡ x = cc in subst IsWhole (sym e) are.0
whole_at (x ∷ lives) (suc k) life are at = whole_at lives k life are.1 at

-- the lines one behind the other
eight : (x a b c d e f g h y z : List ℕ) → ((x ++ (((((((a ++ b) ++ c) ++ d) ++ e) ++ f) ++ g) ++ h)) ++ y) ++ z ≡ (((((((((x ++ a) ++ b) ++ c) ++ d) ++ e) ++ f) ++ g) ++ h) ++ y) ++ z
eight x a b c d e f g h y z = simp append_assoc

pub summary_is : (n : ℕ) (lives : List Life) (text : List ℕ)
    → text ≡ ((count_line (codes "made") n ++ count_lines (counted_all lives no_counts)) ++ count_line (codes "restored") (restored_in lives)) ++ count_line (codes "dirty") (dirty_at_last lives)
    → text ≡ summary_text n lives
unfolding summary_text
summary_is n lives text is =
    is ∙ (ap (λ (counts : List ℕ). ((count_line (codes "made") n ++ counts) ++ count_line (codes "restored") (restored_in lives)) ++ count_line (codes "dirty") (dirty_at_last lives)) (lines_are lives)
    ∙ eight (count_line (codes "made") n) (count_line (codes "entries") (entries_in lives)) (count_line (codes "edits") (count_all is_edited lives))
    (count_line (codes "backups") (count_all is_backed_up lives)) (count_line (codes "drops") (count_all is_dropped lives)) (count_line (codes "saved") (count_all is_saved lives))
    (count_line (codes "modified") (count_all is_modified lives)) (count_line (codes "idle") (count_all is_idle lives)) (count_line (codes "faults") (count_all is_fault lives))
    (count_line (codes "restored") (restored_in lives)) (count_line (codes "dirty") (dirty_at_last lives)))
