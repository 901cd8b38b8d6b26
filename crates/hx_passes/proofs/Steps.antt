-- Each kind of step keeps the rule.
use Rattle.std.proofs.Common.{◌≡◌, ◌≢◌, ℕ, suc, ◌+◌, ◌≤◌, ◌<◌, ◌%◌, ◌^◌, nat_le, ◌==◌, Bool, true, false, cond, List, [], ◌∷◌, ◌++◌, length, slice_set, slice_index, refl, ap, sym, ◌∙◌, subst, ⊎_elim, arith, length-append}
use mathlib.Core.Option.{some}
use mathlib.Core.List.{IsPrefix}
use lib.ListN.{get_elem?, set}
use Rattle.atomic_table.specs.Table.{State, Me, Step, Allows, Splits, Joins, keeps}
use Rattle.atomic_table.proofs.Lists.{at_set, at_snoc, set_else}
use Rattle.hx_events.specs.declared.life.Entry.{Entry}
use Rattle.hx_passes.specs.declared.rule.Finding.{Finding}
use Rattle.hx_passes.specs.declared.rule.Note.{Note}
use Rattle.hx_passes.specs.declared.rule.View.{View}
use Rattle.hx_passes.specs.Views.{view_of, note_of, parts_left, parts_moved, without_right, slip, both, spent, grown, departed, noting}
use Rattle.hx_passes.specs.Rules.{Each, total, one_if, times, up_to, below, IsMade, Stands, Fits, Kept, Looks, Adds, Departs, NotesDown}
use Rattle.hx_passes.proofs.Lists.{prefix_self, prefix_more, prefix_length, get_last, each_map, each_append, place_more}
use Rattle.hx_passes.proofs.Totals.{total_set, total_same, total_push, total_two, total_most, total_less, times_append, up_to_append, below_append, one_more, is_none, up_to_all, below_most}

abbrev pub rule : List Entry → ℕ → State (Unit {0}) View → Type 0
rule before all s = Kept before all s.words s.views

-- a note stands where the counts of leaves are the same
stands_same : (views news : List View) (m : Note) → ((f : List ℕ → ℕ) → f [] ≡ 0 → ((ls ms : List ℕ) → f (ls ++ ms) ≡ f ls + f ms) → total (λ v. f v.leaves) news ≡ total (λ v. f v.leaves) views) → Stands views m → Stands news m
stands_same views news m same s =
    let n = length m.upto in
    record {
      least = omega (arith, s.least, same (up_to n) refl (up_to_append n));
      most = omega (arith, s.most, same (below n) refl (below_append n));
    }

-- a view changes what it has seen, was told or has noted, and nothing else
changed : (before : List Entry) (all : ℕ) (words : List ℕ) (views : List View) (id : ℕ) (v w : View) (kept : Kept before all words views) → get_elem? views id ≡ some v
    → w.right ≡ v.right → w.parts ≡ v.parts → w.calls ≡ v.calls → w.leaves ≡ v.leaves → Fits kept.log w → Each (Stands views) w.notes
    → Kept before all words (set views id w)
changed before all words views id v w kept at right parts calls leaves fits stand =
    let same : (f : View → ℕ) → f w ≡ f v → total f (set views id w) ≡ total f views = λ f e. total_same f views id v w at e in
    let notes : (ms : List Note) → Each (Stands views) ms → Each (Stands (set views id w)) ms =
    each_map (Stands views) (Stands (set views id w)) (λ m s. stands_same views (set views id w) m (λ f none add. same (λ v. f v.leaves) (ap f leaves)) s) in
    record {
      log = kept.log;
      word = kept.word ∙ ap (λ n. length kept.log ∷ n ∷ []) (sym (same (λ v. length v.leaves) (ap length leaves)));
      begins = kept.begins;
      fits = λ j u got. ⊎_elim (λ here. subst (Fits kept.log) here.1 fits) (λ else. kept.fits j u else.1) (at_set views id j w u got);
      rights = same (λ v. one_if v.right) (ap one_if right) ∙ kept.rights;
      parts = same (λ v. v.parts) parts ∙ kept.parts;
      once = λ p. omega (arith, same (λ v. times p v.calls) (ap (times p) calls), kept.once p);
      stand = λ j u got. ⊎_elim
          (λ here. subst (λ (u : View). Each (Stands (set views id w)) u.notes) here.1 (notes w.notes stand))
          (λ else. notes u.notes (kept.stand j u else.1))
          (at_set views id j w u got);
    }

pub looks : (before : List Entry) (all slots id : ℕ) (me : Me (Unit {0}) View) (f : Step (Unit {0})) → Allows (rule before all) slots id me 0 (λ n. n) (Looks f me)
looks before all slots id me f s kept homes at small =
    let v = me.0 in
    let old = kept.fits id v at in
    let w = view_of kept.log [] v.calls v.notes v.leaves v.parts v.right in
    let same : slice_set s.words 0 (slice_index s.words 0) ≡ s.words = subst (λ (ws : List ℕ). slice_set ws 0 (slice_index ws 0) ≡ ws) (sym kept.word) refl in
    let fits : Fits kept.log w = record { seen = prefix_self kept.log; told = (kept.log, refl); whole = λ r. refl; calls = old.calls; notes = old.notes; leaves = old.leaves; idle = old.idle; few = old.few } in (
      w,
      keeps,
      tt,
      subst (λ (ws : List ℕ). Kept before all ws (set s.views id w)) (sym same) (changed before all s.words s.views id v w kept at refl refl refl refl fits (kept.stand id v at)),
      ((old.seen, old.told, ap (λ ws. slice_index ws 0) (sym kept.word), refl, (λ r. sym (old.whole r))), refl),
    )

-- all leaves are up to the log's length
leaves_all : (before : List Entry) (all : ℕ) (words : List ℕ) (views : List View) (kept : Kept before all words views) → total (λ v. up_to (length kept.log) v.leaves) views ≡ total (λ v. length v.leaves) views
leaves_all before all words views kept =
    let n = length kept.log in
    let le = total_most (λ (v : View). up_to n v.leaves) (λ v. length v.leaves) views (λ id v at. omega (arith, up_to_all n v.leaves (kept.fits id v at).leaves)) in
    let ge = total_most (λ (v : View). length v.leaves) (λ v. up_to n v.leaves) views (λ id v at. omega (arith, up_to_all n v.leaves (kept.fits id v at).leaves)) in
    omega (arith, le, ge)

pub notes : (before : List Entry) (all slots id : ℕ) (me : Me (Unit {0}) View) (finding : Finding) → me.0.right ≡ true → Allows (rule before all) slots id me 1 (λ n. n) (NotesDown finding me)
notes before all slots id me finding right s kept homes at small =
    let v = me.0 in
    let found = slice_index s.words 1 in
    let w = noting finding found v in
    let old = kept.fits id v at in
    let whole : v.seen ≡ kept.log = old.whole right in
    let same : slice_set s.words 1 (slice_index s.words 1) ≡ s.words = subst (λ (ws : List ℕ). slice_set ws 1 (slice_index ws 1) ≡ ws) (sym kept.word) refl in
    let number : found ≡ total (λ v. length v.leaves) s.views = ap (λ ws. slice_index ws 1) kept.word in
    let n = length kept.log in
    let new : Stands s.views (note_of finding kept.log found) = record {
      least = omega (arith, number, leaves_all before all s.words s.views kept);
      most = omega (arith, number, total_most (λ (v : View). below n v.leaves) (λ v. length v.leaves) s.views (λ id v at. below_most n v.leaves));
    } in
    let fits : Fits kept.log w = record { seen = old.seen; told = old.told; whole = old.whole; calls = old.calls; notes = (old.seen, old.notes); leaves = old.leaves; idle = old.idle; few = old.few } in (
      w,
      keeps,
      tt,
      subst (λ (ws : List ℕ). Kept before all ws (set s.views id w)) (sym same)
          (changed before all s.words s.views id v w kept at refl refl refl refl fits (subst (λ (l : List Entry). Stands s.views (note_of finding l found)) (sym whole) new, kept.stand id v at)),
      refl,
    )

-- only one view has the right
alone : (views : List View) (i j : ℕ) (v u : View) → total (λ v. one_if v.right) views ≡ 1 → get_elem? views i ≡ some v → get_elem? views j ≡ some u → j ≢ i → v.right ≡ true → u.right ≡ true → ⊥
alone views i j v u rights at to apart one two =
    let two_there = total_two (λ (v : View). one_if v.right) views i j v u (λ e. apart (sym e)) at to in
    omega (arith, two_there, rights, ap one_if one, ap one_if two)

-- a view that may not add fits the longer log too
fits_more : (log : List Entry) (e : Entry) (u : View) → Fits log u → (u.right ≡ true → ⊥) → Fits (log ++ e ∷ []) u
fits_more log e u was not_right = record {
  seen = prefix_more u.seen log e was.seen;
  told = prefix_more u.told log e was.told;
  whole = λ r. absurd (not_right r);
  calls = each_map (IsMade log) (IsMade (log ++ e ∷ [])) (λ c at. place_more log c.place c.entry e at) u.calls was.calls;
  notes = each_map (λ (m : Note). IsPrefix m.upto log) (λ m. IsPrefix m.upto (log ++ e ∷ [])) (λ m at. prefix_more m.upto log e at) u.notes was.notes;
  leaves = each_map (λ n. n ≤ length log) (λ n. n ≤ length (log ++ e ∷ [])) (λ n le. omega (arith, le, length-append log (e ∷ []))) u.leaves was.leaves;
  idle = was.idle;
  few = was.few;
}

-- the view with the right adds an entry, as its call
added : (before : List Entry) (all : ℕ) (words : List ℕ) (views : List View) (id : ℕ) (v : View) (e : Entry) → Kept before all words views → get_elem? views id ≡ some v → v.right ≡ true → 0 < v.parts
    → Kept before all (length (v.seen ++ e ∷ []) ∷ total (λ v. length v.leaves) views ∷ []) (set views id (grown v e))
added before all words views id v e kept at right some_part =
    let w = grown v e in
    let old = kept.fits id v at in
    let whole = old.whole right in
    let log = v.seen ++ e ∷ [] in
    let more : kept.log ++ e ∷ [] ≡ log = ap (λ l. l ++ e ∷ []) (sym whole) in
    let size : length log ≡ suc (length v.seen) = omega (arith, length-append v.seen (e ∷ [])) in
    let same : (f : View → ℕ) → f w ≡ f v → total f (set views id w) ≡ total f views = λ f e. total_same f views id v w at e in
    let notes : (ms : List Note) → Each (Stands views) ms → Each (Stands (set views id w)) ms =
    each_map (Stands views) (Stands (set views id w)) (λ m s. stands_same views (set views id w) m (λ f none add. same (λ v. f v.leaves) refl) s) in
    let was_mine : Each (IsMade v.seen) v.calls = subst (λ (l : List Entry). Each (IsMade l) v.calls) (sym whole) old.calls in
    record {
      log = log;
      word = ap (λ n. length log ∷ n ∷ []) (sym (same (λ v. length v.leaves) refl));
      begins = subst (λ (l : List Entry). IsPrefix before l) more (prefix_more before kept.log e kept.begins);
      fits = λ j u got. ⊎_elim
          (λ here. subst (Fits log) here.1 (record {
            seen = prefix_self log;
            told = subst (λ (l : List Entry). IsPrefix v.told l) more (prefix_more v.told kept.log e old.told);
            whole = λ r. refl;
            calls = (get_last v.seen e, each_map (IsMade v.seen) (IsMade log) (λ c at. place_more v.seen c.place c.entry e at) v.calls was_mine);
            notes = each_map (λ (m : Note). IsPrefix m.upto kept.log) (λ m. IsPrefix m.upto log) (λ m at. subst (λ (l : List Entry). IsPrefix m.upto l) more (prefix_more m.upto kept.log e at)) v.notes old.notes;
            leaves = each_map (λ n. n ≤ length kept.log) (λ n. n ≤ length log) (λ n le. omega (arith, le, size, ap length whole)) v.leaves old.leaves;
            idle = λ none. absurd (omega (arith, none, some_part));
            few = old.few;
          }))
          (λ else. subst (λ (l : List Entry). Fits l u) more (fits_more kept.log e u (kept.fits j u else.1) (λ r. alone views id j v u kept.rights at else.1 else.0 right r)))
          (at_set views id j w u got);
      rights = same (λ v. one_if v.right) refl ∙ kept.rights;
      parts = same (λ v. v.parts) refl ∙ kept.parts;
      once = λ p. (let longer = ap (λ n. one_if (nat_le p n)) (size ∙ ap suc (ap length whole)) in
          let step = one_more p (length kept.log) in
          let here = ap (λ n. one_if (suc n == p)) (ap length whole) in
          let t = total_set (λ (v : View). times p v.calls) views id v w at in
          let o = kept.once p in
          omega (arith, longer, step, here, t, o));
      stand = λ j u got. ⊎_elim
          (λ here. subst (λ (u : View). Each (Stands (set views id w)) u.notes) here.1 (notes v.notes (kept.stand id v at)))
          (λ else. notes u.notes (kept.stand j u else.1))
          (at_set views id j w u got);
    }

pub adds : (before : List Entry) (all slots id : ℕ) (me : Me (Unit {0}) View) (e : Entry) → me.0.right ≡ true → 0 < me.0.parts → length me.0.seen < 2 ^ 62 → Allows (rule before all) slots id me 0 (λ n. (n + 1) % 2 ^ 64) (Adds e me)
adds before all slots id me e right some_part room s kept homes at small =
    let v = me.0 in
    let whole = (kept.fits id v at).whole right in
    let leaves = total (λ (v : View). length v.leaves) s.views in
    let found : slice_index s.words 0 ≡ length v.seen = ap (λ ws. slice_index ws 0) kept.word ∙ ap length (sym whole) in
    let next : (length v.seen + 1) % 2 ^ 64 ≡ length (v.seen ++ e ∷ []) = omega (arith, length-append v.seen (e ∷ [])) in
    let words : slice_set s.words 0 ((slice_index s.words 0 + 1) % 2 ^ 64) ≡ length (v.seen ++ e ∷ []) ∷ leaves ∷ [] =
    ap (λ n. slice_set s.words 0 ((n + 1) % 2 ^ 64)) found ∙ (ap (λ n. slice_set s.words 0 n) next ∙ ap (λ ws. slice_set ws 0 (length (v.seen ++ e ∷ []))) kept.word) in (
      grown v e,
      keeps,
      tt,
      subst (λ (ws : List ℕ). Kept before all ws (set s.views id (grown v e))) (sym words) (added before all s.words s.views id v e kept at right some_part),
      (found, refl),
    )

-- the view with the right leaves, at the log's length
left : (before : List Entry) (all : ℕ) (words : List ℕ) (views : List View) (id : ℕ) (v : View) → Kept before all words views → get_elem? views id ≡ some v → v.right ≡ true → length v.leaves < v.parts
    → Kept before all (length v.seen ∷ suc (total (λ v. length v.leaves) views) ∷ []) (set views id (departed v))
left before all words views id v kept at right room =
    let w = departed v in
    let old = kept.fits id v at in
    let whole = old.whole right in
    let size : length v.seen ≡ length kept.log = ap length whole in
    let same : (f : View → ℕ) → f w ≡ f v → total f (set views id w) ≡ total f views = λ f e. total_same f views id v w at e in
    let count : total (λ v. length v.leaves) (set views id w) ≡ suc (total (λ v. length v.leaves) views) = omega (arith, total_set (λ (v : View). length v.leaves) views id v w at) in
    let stands : (m : Note) → IsPrefix m.upto kept.log → Stands views m → Stands (set views id w) m =
    λ m upto s. record {
      least = (let t = total_set (λ (v : View). up_to (length m.upto) v.leaves) views id v w at in let was = s.least in omega (arith, t, was));
      most = (let t = total_set (λ (v : View). below (length m.upto) v.leaves) views id v w at in let was = s.most in
          let no_more = is_none (length m.upto) (length v.seen) (omega (arith, prefix_length m.upto kept.log upto, size)) in omega (arith, t, was, no_more));
    } in
    let notes : (ms : List Note) → Each (λ m. IsPrefix m.upto kept.log) ms → Each (Stands views) ms → Each (Stands (set views id w)) ms = each_both stands in
    record {
      log = kept.log;
      word = ap (λ n. n ∷ suc (total (λ (v : View). length v.leaves) views) ∷ []) size ∙ ap (λ n. length kept.log ∷ n ∷ []) (sym count);
      begins = kept.begins;
      fits = λ j u got. ⊎_elim
          (λ here. subst (Fits kept.log) here.1 (record {
            seen = old.seen;
            told = old.told;
            whole = old.whole;
            calls = old.calls;
            notes = old.notes;
            leaves = (omega (arith, size), old.leaves);
            idle = old.idle;
            few = omega (arith, room);
          }))
          (λ else. kept.fits j u else.1)
          (at_set views id j w u got);
      rights = same (λ v. one_if v.right) refl ∙ kept.rights;
      parts = same (λ v. v.parts) refl ∙ kept.parts;
      once = λ p. omega (arith, same (λ v. times p v.calls) refl, kept.once p);
      stand = λ j u got. ⊎_elim
          (λ here. subst (λ (u : View). Each (Stands (set views id w)) u.notes) here.1 (notes v.notes old.notes (kept.stand id v at)))
          (λ else. notes u.notes (kept.fits j u else.1).notes (kept.stand j u else.1))
          (at_set views id j w u got);
    }
  where
    each_both : {P Q R : Note → Type 0} → ((m : Note) → P m → Q m → R m) → (ms : List Note) → Each P ms → Each Q ms → Each R ms
    each_both f [] a b = tt
    each_both f (m ∷ ms) a b = (f m a.0 b.0, each_both f ms a.1 b.1)

pub departs : (before : List Entry) (all slots id : ℕ) (me : Me (Unit {0}) View) (f : Step (Unit {0})) → me.0.right ≡ true → length me.0.leaves < me.0.parts → all < 2 ^ 64 → Allows (rule before all) slots id me 1 (λ n. (n + 1) % 2 ^ 64) (Departs f me)
departs before all slots id me f right room few s kept homes at small =
    let v = me.0 in
    let whole = (kept.fits id v at).whole right in
    let leaves = total (λ (v : View). length v.leaves) s.views in
    let found : slice_index s.words 1 ≡ leaves = ap (λ ws. slice_index ws 1) kept.word in
    let less : leaves < total (λ (v : View). v.parts) s.views = total_less (λ (v : View). length v.leaves) (λ v. v.parts) s.views id v at room (λ id v at. (kept.fits id v at).few) in
    let next : (leaves + 1) % 2 ^ 64 ≡ suc leaves = omega (arith, less, kept.parts, few) in
    let words : slice_set s.words 1 ((slice_index s.words 1 + 1) % 2 ^ 64) ≡ length v.seen ∷ suc leaves ∷ [] =
    ap (λ n. slice_set s.words 1 ((n + 1) % 2 ^ 64)) found ∙ (ap (λ n. slice_set s.words 1 n) next ∙ (ap (λ ws. slice_set ws 1 (suc leaves)) kept.word ∙ ap (λ l. length l ∷ suc leaves ∷ []) (sym whole))) in (
      departed v,
      keeps,
      tt,
      subst (λ (ws : List ℕ). Kept before all ws (set s.views id (departed v))) (sym words) (left before all s.words s.views id v kept at right room),
      refl,
    )

-- a seat hands on parts or the right, and the two views together are what it was
split_kept : (before : List Entry) (all id : ℕ) (v left right : View) → left.seen ≡ v.seen → right.seen ≡ v.seen → left.told ≡ v.told → right.told ≡ [] → left.calls ≡ v.calls → right.calls ≡ [] → left.notes ≡ v.notes → right.notes ≡ [] → left.leaves ≡ v.leaves → right.leaves ≡ []
    → left.parts + right.parts ≡ v.parts → one_if left.right + one_if right.right ≡ one_if v.right → (left.right ≡ true → v.right ≡ true) → (right.right ≡ true → v.right ≡ true) → (left.parts ≡ 0 → v.parts ≡ 0)
    → (length v.leaves ≤ v.parts → length v.leaves ≤ left.parts) → Splits (rule before all) id v left right
split_kept before all id v left right s1 s2 t1 t2 c1 c2 n1 n2 l1 l2 parts rights r1 r2 idle few s kept at =
    let old = kept.fits id v at in
    let news = set s.views id left ++ right ∷ [] in
    let sums : (f : View → ℕ) → f left + f right ≡ f v → total f news ≡ total f s.views =
    λ f e. omega (arith, total_push f (set s.views id left) right, total_set f s.views id v left at, e) in
    let leaves : (f : List ℕ → ℕ) → f [] ≡ 0 → total (λ v. f v.leaves) news ≡ total (λ v. f v.leaves) s.views =
    λ f none. sums (λ v. f v.leaves) (omega (arith, ap f l1, ap f l2, none)) in
    let notes : (ms : List Note) → Each (Stands s.views) ms → Each (Stands news) ms = each_map (Stands s.views) (Stands news) (λ m st. stands_same s.views news m (λ f none add. leaves f none) st) in
    record {
      log = kept.log;
      word = kept.word ∙ ap (λ n. length kept.log ∷ n ∷ []) (sym (leaves length refl));
      begins = kept.begins;
      fits = λ j u got. ⊎_elim
          (λ was. ⊎_elim
          (λ here. subst (Fits kept.log) here.1 (record {
            seen = subst (λ (l : List Entry). IsPrefix l kept.log) (sym s1) old.seen;
            told = subst (λ (l : List Entry). IsPrefix l kept.log) (sym t1) old.told;
            whole = λ r. s1 ∙ old.whole (r1 r);
            calls = subst (Each (IsMade kept.log)) (sym c1) old.calls;
            notes = subst (Each (λ (m : Note). IsPrefix m.upto kept.log)) (sym n1) old.notes;
            leaves = subst (Each (λ n. n ≤ length kept.log)) (sym l1) old.leaves;
            idle = λ none. c1 ∙ old.idle (idle none);
            few = omega (arith, ap length l1, few old.few);
          }))
          (λ else. kept.fits j u else.1)
          (at_set s.views id j left u was))
          (λ new. subst (Fits kept.log) new (record {
            seen = subst (λ (l : List Entry). IsPrefix l kept.log) (sym s2) old.seen;
            told = subst (λ (l : List Entry). IsPrefix l kept.log) (sym t2) (kept.log, refl);
            whole = λ r. s2 ∙ old.whole (r2 r);
            calls = subst (Each (IsMade kept.log)) (sym c2) tt;
            notes = subst (Each (λ (m : Note). IsPrefix m.upto kept.log)) (sym n2) tt;
            leaves = subst (Each (λ n. n ≤ length kept.log)) (sym l2) tt;
            idle = λ none. c2;
            few = omega (arith, ap length l2);
          }))
          (at_snoc (set s.views id left) right u j got);
      rights = sums (λ v. one_if v.right) rights ∙ kept.rights;
      parts = sums (λ v. v.parts) parts ∙ kept.parts;
      once = λ p. omega (arith, sums (λ v. times p v.calls) (omega (arith, ap (times p) c1, ap (times p) c2)), kept.once p);
      stand = λ j u got. ⊎_elim
          (λ was. ⊎_elim
          (λ here. subst (λ (u : View). Each (Stands news) u.notes) here.1 (subst (Each (Stands news)) (sym n1) (notes v.notes (kept.stand id v at))))
          (λ else. notes u.notes (kept.stand j u else.1))
          (at_set s.views id j left u was))
          (λ new. subst (λ (u : View). Each (Stands news) u.notes) new (subst (Each (Stands news)) (sym n2) tt))
          (at_snoc (set s.views id left) right u j got);
    }

pub hands_over : (before : List Entry) (all id : ℕ) (v : View) → Splits (rule before all) id v (without_right v) (slip v)
hands_over before all id v = split_kept before all id v (without_right v) (slip v) refl refl refl refl refl refl refl refl refl refl (omega arith) (omega arith) (λ r. absurd cc) (λ r. r) (λ none. none) (λ le. le)

pub cuts : (before : List Entry) (all id n : ℕ) (v : View) → n < v.parts → length v.leaves ≤ 1 → Splits (rule before all) id v (parts_left n v) (parts_moved n v)
cuts before all id n v less one = split_kept before all id v (parts_left n v) (parts_moved n v) refl refl refl refl refl refl refl refl refl refl (omega (arith, less)) (omega arith) (λ r. r) (λ r. absurd cc) (λ none. absurd (omega (arith, less, none))) (λ le. omega (arith, less, one))

-- two views that fit a log are one that fits it
both_fits : (log : List Entry) (v w : View) → Fits log v → Fits log w → Fits log (both v w)
both_fits log v w a b = step w.right refl
  where
    step : (r : Bool) → w.right ≡ r → Fits log (view_of (cond r w.seen v.seen) (cond r v.seen w.seen) (w.calls ++ v.calls) (w.notes ++ v.notes) (w.leaves ++ v.leaves) (v.parts + w.parts) (cond r true v.right))
    step true is = record {
      seen = b.seen;
      told = a.seen;
      whole = λ r. b.whole is;
      calls = each_append (IsMade log) w.calls v.calls b.calls a.calls;
      notes = each_append (λ (m : Note). IsPrefix m.upto log) w.notes v.notes b.notes a.notes;
      leaves = each_append (λ n. n ≤ length log) w.leaves v.leaves b.leaves a.leaves;
      idle = λ none. let l = a.idle (omega (arith, none)) in let r = b.idle (omega (arith, none)) in ap (λ cs. cs ++ v.calls) r ∙ l;
      few = omega (arith, length-append w.leaves v.leaves, a.few, b.few);
    }
    step false is = record {
      seen = a.seen;
      told = b.seen;
      whole = a.whole;
      calls = each_append (IsMade log) w.calls v.calls b.calls a.calls;
      notes = each_append (λ (m : Note). IsPrefix m.upto log) w.notes v.notes b.notes a.notes;
      leaves = each_append (λ n. n ≤ length log) w.leaves v.leaves b.leaves a.leaves;
      idle = λ none. let l = a.idle (omega (arith, none)) in let r = b.idle (omega (arith, none)) in ap (λ cs. cs ++ v.calls) r ∙ l;
      few = omega (arith, length-append w.leaves v.leaves, a.few, b.few);
    }

one_right : (x y : Bool) → one_if x + one_if y ≤ 1 → one_if (cond y true x) ≡ one_if x + one_if y
one_right true true le = absurd (omega (arith, le))
one_right true false le = refl
one_right false true le = refl
one_right false false le = refl

pub joins : (before : List Entry) (all id other : ℕ) (v w : View) → Joins (rule before all) id v other w (both v w) spent
joins before all id other v w s kept at apart to =
    let there : get_elem? s.views other ≡ some w = sym (set_else s.views id other (both v w) apart) ∙ to in
    let a = kept.fits id v at in
    let b = kept.fits other w there in
    let news = set (set s.views id (both v w)) other spent in
    let sums : (f : View → ℕ) → f spent ≡ 0 → f (both v w) ≡ f v + f w → total f news ≡ total f s.views =
    λ f e is. omega (arith, total_set f (set s.views id (both v w)) other w spent to, total_set f s.views id v (both v w) at, e, is) in
    let leaves : (f : List ℕ → ℕ) → f [] ≡ 0 → ((ls ms : List ℕ) → f (ls ++ ms) ≡ f ls + f ms) → total (λ v. f v.leaves) news ≡ total (λ v. f v.leaves) s.views =
    λ f none add. sums (λ v. f v.leaves) none (omega (arith, add w.leaves v.leaves)) in
    let notes : (ms : List Note) → Each (Stands s.views) ms → Each (Stands news) ms = each_map (Stands s.views) (Stands news) (λ m st. stands_same s.views news m leaves st) in
    record {
      log = kept.log;
      word = kept.word ∙ ap (λ n. length kept.log ∷ n ∷ []) (sym (leaves length refl length-append));
      begins = kept.begins;
      fits = λ j u got. ⊎_elim
          (λ here. subst (Fits kept.log) here.1 (record { seen = (kept.log, refl); told = (kept.log, refl); whole = λ r. absurd cc; calls = tt; notes = tt; leaves = tt; idle = λ none. refl; few = omega arith }))
          (λ else. ⊎_elim (λ here. subst (Fits kept.log) here.1 (both_fits kept.log v w a b)) (λ other. kept.fits j u other.1) (at_set s.views id j (both v w) u else.1))
          (at_set (set s.views id (both v w)) other j spent u got);
      rights = sums (λ v. one_if v.right) refl (one_right v.right w.right (omega (arith, total_two (λ (v : View). one_if v.right) s.views id other v w (λ e. apart (sym e)) at there, kept.rights))) ∙ kept.rights;
      parts = sums (λ v. v.parts) refl refl ∙ kept.parts;
      once = λ p. omega (arith, sums (λ v. times p v.calls) refl (omega (arith, times_append p w.calls v.calls)), kept.once p);
      stand = λ j u got. ⊎_elim
          (λ here. subst (λ (u : View). Each (Stands news) u.notes) here.1 tt)
          (λ else. ⊎_elim
          (λ here. subst (λ (u : View). Each (Stands news) u.notes) here.1 (each_append (Stands news) w.notes v.notes (notes w.notes (kept.stand other w there)) (notes v.notes (kept.stand id v at))))
          (λ more. notes u.notes (kept.stand j u more.1))
          (at_set s.views id j (both v w) u else.1))
          (at_set (set s.views id (both v w)) other j spent u got);
    }
