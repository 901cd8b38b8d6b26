-- What the one seat with all parts knows.
use Rattle.std.proofs.Common.{◌≡◌, ℕ, ◌+◌, nat_le, Bool, true, false, cond, List, [], ◌∷◌, ◌++◌, length, refl, ap, sym, ◌∙◌, subst, arith}
use mathlib.Core.Option.{some}
use mathlib.Core.List.{IsPrefix}
use lib.ListN.{get_elem?}
use Rattle.hx_events.specs.declared.life.Entry.{Entry}
use Rattle.hx_events.specs.declared.event.Actor.{Actor}
use Rattle.hx_passes.specs.declared.rule.Call.{Call}
use Rattle.hx_passes.specs.declared.rule.Finding.{Finding}
use Rattle.hx_passes.specs.declared.rule.Known.{Known}
use Rattle.hx_passes.specs.declared.rule.Note.{Note}
use Rattle.hx_passes.specs.declared.rule.View.{View}
use Rattle.hx_passes.specs.Views.{view_of, both, known}
use Rattle.hx_passes.specs.Rules.{Each, total, one_if, times, up_to, below, IsMade, Stands, Kept, LooksAt}
use Rattle.hx_passes.specs.Closing.{IsNoted, Ends, TakesIn, IsOwn, IsSound, Holds, Knows, IsClosed}
use Rattle.hx_passes.proofs.Lists.{prefix_trans, each_map, each_left, each_right}
use Rattle.hx_passes.proofs.Totals.{sole, up_to_none, below_none}

-- notes that stand lie between the counts of the one view that has all leaves
noted : (log : List Entry) (views : List View) (v : View) → ((n : ℕ) → total (λ u. up_to n u.leaves) views ≡ up_to n v.leaves) → ((n : ℕ) → total (λ u. below n u.leaves) views ≡ below n v.leaves)
    → (ms : List Note) → Each (λ m. IsPrefix m.upto log) ms → Each (Stands views) ms → Each (IsNoted log (λ n. up_to n v.leaves) (λ n. below n v.leaves)) ms
noted log views v ups downs [] fits stand = tt
noted log views v ups downs (m ∷ ms) fits stand = (
  record {
    upto = fits.0;
    least = omega (arith, stand.0.least, ups (length m.upto));
    most = omega (arith, stand.0.most, downs (length m.upto));
  },
  noted log views v ups downs ms fits.1 stand.1,
)

-- the seat with all parts and the right knows the whole log, and has all calls and leaves
whole : (before : List Entry) (all : ℕ) (words : List ℕ) (views : List View) (id : ℕ) (v : View) → Kept before all words views → get_elem? views id ≡ some v → v.parts ≡ all → v.right ≡ true → Ends before v.seen v
whole before all words views id v kept at parts right =
    let fits = kept.fits id v at in
    let log : v.seen ≡ kept.log = fits.whole right in
    let alone : (f : View → ℕ) → ((j : ℕ) (u : View) → get_elem? views j ≡ some u → u.parts ≡ 0 → f u ≡ 0) → total f views ≡ f v =
    λ f idle. sole f (λ u. u.parts) views id v at idle (kept.parts ∙ sym parts) in
    let ups = λ (n : ℕ). alone (λ u. up_to n u.leaves) (λ j u to none. up_to_none n u.leaves (omega (arith, (kept.fits j u to).few, none))) in
    let downs = λ (n : ℕ). alone (λ u. below n u.leaves) (λ j u to none. below_none n u.leaves (omega (arith, (kept.fits j u to).few, none))) in
    subst (λ (l : List Entry). Ends before l v) (sym log) (record {
      begins = kept.begins;
      seen = fits.seen;
      calls = fits.calls;
      notes = noted kept.log views v ups downs v.notes fits.notes (kept.stand id v at);
      once = λ p. omega (arith, alone (λ u. times p u.calls) (λ j u to none. ap (times p) ((kept.fits j u to).idle none)), kept.once p);
    })

-- the clerk was joined, and a look made
looked : (p clerk v : View) (found : ℕ) (r : Bool) → r ≡ true → LooksAt (view_of (cond r clerk.seen p.seen) (cond r p.seen clerk.seen) (clerk.calls ++ p.calls) (clerk.notes ++ p.notes) (clerk.leaves ++ p.leaves) (p.parts + clerk.parts) (cond r true p.right)) found v
    → (v.seen ≡ clerk.seen) × IsPrefix p.seen v.seen × (v.calls ≡ clerk.calls ++ p.calls) × (v.notes ≡ clerk.notes ++ p.notes) × (v.leaves ≡ clerk.leaves ++ p.leaves) × (v.parts ≡ p.parts + clerk.parts) × (v.right ≡ true)
looked p clerk v found true is looks = (looks.4 refl, looks.1, ap (λ u. u.calls) looks.3, ap (λ u. u.notes) looks.3, ap (λ u. u.leaves) looks.3, ap (λ u. u.parts) looks.3, ap (λ u. u.right) looks.3)
looked p clerk v found false is looks = absurd cc

pub closing : (before : List Entry) (all : ℕ) (words : List ℕ) (views : List View) (id : ℕ) (p clerk v : View) (found : ℕ) → Kept before all words views → get_elem? views id ≡ some v → p.parts ≡ all
    → clerk.right ≡ true → clerk.parts ≡ 0 → clerk.calls ≡ [] → clerk.notes ≡ [] → clerk.leaves ≡ [] → LooksAt (both p clerk) found v → Ends before clerk.seen p
closing before all words views id p clerk v found kept at parts right no_parts no_calls no_notes no_leaves looks =
    let l = looked p clerk v found clerk.right right looks in
    let calls : v.calls ≡ p.calls = l.2 ∙ ap (λ cs. cs ++ p.calls) no_calls in
    let notes : v.notes ≡ p.notes = l.3 ∙ ap (λ ms. ms ++ p.notes) no_notes in
    let leaves : v.leaves ≡ p.leaves = l.4 ∙ ap (λ ls. ls ++ p.leaves) no_leaves in
    let e = whole before all words views id v kept at (l.5 ∙ omega (arith, parts, no_parts)) l.6 in
    let same : (h : List Entry) → v.seen ≡ h → Ends before h p = λ h is. record {
      begins = subst (IsPrefix before) is e.begins;
      seen = subst (IsPrefix p.seen) is l.1;
      calls = subst (λ (cs : List Call). Each (IsMade h) cs) calls (subst (λ (h : List Entry). Each (IsMade h) v.calls) is e.calls);
      notes = subst (λ (ls : List ℕ). Each (IsNoted h (λ n. up_to n ls) (λ n. below n ls)) p.notes) leaves
          (subst (λ (ms : List Note). Each (IsNoted h (λ n. up_to n v.leaves) (λ n. below n v.leaves)) ms) notes
          (subst (λ (h : List Entry). Each (IsNoted h (λ n. up_to n v.leaves) (λ n. below n v.leaves)) v.notes) is e.notes));
      once = λ q. (let o = e.once q in omega (arith, o, ap (times q) calls, ap (λ (l : List Entry). one_if (nat_le q (length l))) is));
    } in
    same clerk.seen l.0

taken : (v w u : View) (found : ℕ) (r : Bool) → r ≡ false → v.right ≡ false
    → LooksAt (view_of (cond r w.seen v.seen) (cond r v.seen w.seen) (w.calls ++ v.calls) (w.notes ++ v.notes) (w.leaves ++ v.leaves) (v.parts + w.parts) (cond r true v.right)) found u → TakesIn v w u
taken v w u found true is no_right looks = absurd cc
taken v w u found false is no_right looks = record {
  seen = looks.0;
  told = looks.1;
  same = looks.3 ∙ ap (view_of u.seen [] (w.calls ++ v.calls) (w.notes ++ v.notes) (w.leaves ++ v.leaves) (v.parts + w.parts)) no_right;
}

pub takes : (v w u : View) (found : ℕ) → w.right ≡ false → v.right ≡ false → LooksAt (both v w) found u → TakesIn v w u
takes v w u found one two looks = taken v w u found w.right one two looks

-- what a seat knows of the history, as plain lists
pub record Told (h : List Entry) (at_most before_it : ℕ → ℕ) (v : View) : Type 0 where
  pub seen : IsPrefix v.seen h
  pub calls : Each (IsMade h) v.calls
  pub notes : Each (IsNoted h at_most before_it) v.notes

-- who knows as much as two seats in one, knows as much as each
pub told_both : (h : List Entry) (ups downs : ℕ → ℕ) (v w u : View) → TakesIn v w u → Told h ups downs u → Told h ups downs v × Told h ups downs w
told_both h ups downs v w u t k =
    let calls : u.calls ≡ w.calls ++ v.calls = ap (λ u. u.calls) t.same in
    let notes : u.notes ≡ w.notes ++ v.notes = ap (λ u. u.notes) t.same in
    let all = subst (Each (IsMade h)) calls k.calls in
    let each = subst (Each (IsNoted h ups downs)) notes k.notes in (
      record { seen = prefix_trans v.seen u.seen h t.seen k.seen; calls = each_right (IsMade h) w.calls v.calls all; notes = each_right (IsNoted h ups downs) w.notes v.notes each },
      record { seen = prefix_trans w.seen u.seen h t.told k.seen; calls = each_left (IsMade h) w.calls v.calls all; notes = each_left (IsNoted h ups downs) w.notes v.notes each },
    )

pub sound : (says : Finding → List Entry → Type 0) (h : List Entry) (ups downs : ℕ → ℕ) (actor : Actor) (v : View) → IsOwn says actor v → Told h ups downs v → IsSound says h ups downs (known actor v)
sound says h ups downs actor v own t = record { seen = t.seen; left = own.left; calls = t.calls; mine = own.calls; notes = t.notes; found = own.found }

holds : (windows : ℕ) (says : Finding → List Entry → Type 0) (h : List Entry) (ups downs : ℕ → ℕ) (passes : List Known) → ((n : ℕ) → ups n ≡ total (λ p. up_to n p.leaves) passes) → ((n : ℕ) → downs n ≡ total (λ p. below n p.leaves) passes)
    → (ms : List Note) → Each (IsNoted h ups downs) ms → Each (λ m. says m.finding m.upto) ms → Each (Holds windows says passes h) ms
holds windows says h ups downs passes up down [] noted found = tt
holds windows says h ups downs passes up down (m ∷ ms) noted found = (
  record {
    upto = noted.0.upto;
    found = found.0;
    over = λ le. omega (arith, le, noted.0.least, up (length m.upto));
    rest = λ less. omega (arith, less, noted.0.most, down (length m.upto));
  },
  holds windows says h ups downs passes up down ms noted.1 found.1,
)

made : (h : List Entry) (actor : Actor) (cs : List Call) → Each (IsMade h) cs → Each (λ c. c.entry.actor ≡ actor) cs → Each (λ c. IsMade h c × (c.entry.actor ≡ actor)) cs
made h actor [] all mine = tt
made h actor (c ∷ cs) all mine = ((all.0, mine.0), made h actor cs all.1 mine.1)

pub closed : (before : List Entry) (windows : ℕ) (says : Finding → List Entry → Type 0) (h : List Entry) (v : View) (passes : List Known) → Ends before h v
    → ((n : ℕ) → up_to n v.leaves ≡ total (λ p. up_to n p.leaves) passes) → ((n : ℕ) → below n v.leaves ≡ total (λ p. below n p.leaves) passes) → ((n : ℕ) → times n v.calls ≡ total (λ p. times n p.calls) passes)
    → (Told h (λ n. up_to n v.leaves) (λ n. below n v.leaves) v → Each (IsSound says h (λ n. up_to n v.leaves) (λ n. below n v.leaves)) passes)
    → IsClosed before windows says h passes
closed before windows says h v passes ends up down once sounds = record {
  begins = ends.begins;
  knows = each_map (IsSound says h (λ n. up_to n v.leaves) (λ n. below n v.leaves)) (Knows windows says passes h)
      (λ p s. record {
        seen = s.seen;
        calls = made h p.actor p.calls s.calls s.mine;
        notes = holds windows says h (λ n. up_to n v.leaves) (λ n. below n v.leaves) passes up down p.notes s.notes s.found;
        left = s.left;
      })
      passes
      (sounds record { seen = ends.seen; calls = ends.calls; notes = ends.notes });
  once = λ n. omega (arith, ends.once n, once n);
}
