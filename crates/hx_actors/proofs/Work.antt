-- What passes make of the history that they share.
use Rattle.std.proofs.Common.{◌≡◌, ℕ, suc, ◌+◌, ◌≤◌, ◌<◌, nat_le, Bool, true, false, cond, ◌⊎◌, inl, inr, List, [], ◌∷◌, ◌++◌, length, map, reverse, Some, None, slice_index_or, refl, ap, sym, ◌∙◌, subst, arith, append-nil}
use Rattle.std.proofs.lemmas.List.{length-reverse}
use Rattle.std.proofs.lemmas.Bool.Decides.{nat_tests}
use Rattle.hx_events.specs.declared.event.Actor.{Actor}
use Rattle.hx_events.specs.declared.event.Actor.TheVariants.{Window, Writer, Saver, Closer, Watcher}
use Rattle.hx_events.specs.declared.event.Command.{Command}
use Rattle.hx_events.specs.declared.event.Event.TheVariants.{Act}
use Rattle.hx_events.specs.declared.life.Entry.{Entry}
use Rattle.hx_rules.specs.Legal.{Opening}
use Rattle.hx_rules.specs.Interleavings.{IsWorkOf, IsWorkedOff, is_window, is_some_window, events_of, script_of, may_stand}
use Rattle.hx_passes.specs.declared.rule.Call.{Call}
use Rattle.hx_passes.specs.declared.rule.Finding.{Finding}
use Rattle.hx_passes.specs.declared.rule.Finding.TheVariants.{NothingDue}
use Rattle.hx_passes.specs.declared.rule.Kind.{Kind}
use Rattle.hx_passes.specs.declared.rule.Kind.TheVariants.{Vault, Save}
use Rattle.hx_passes.specs.declared.rule.Known.{Known}
use Rattle.hx_passes.specs.declared.rule.Note.{Note}
use Rattle.hx_passes.specs.Rules.{Each, total, one_if, times, up_to, IsMade}
use Rattle.hx_passes.specs.Closing.{Holds, Knows, IsClosed}
use Rattle.hx_passes.specs.Newest.{entry_at, oldest}
use Rattle.hx_passes.proofs.Lists.{each_map, prefix_length}
use Rattle.hx_passes.proofs.Newest.{places_agree, beginnings_agree}
use Rattle.hx_hub.specs.Shared.{lowest_due}
use Rattle.hx_actors.specs.Work.{IsBegun, IsPartOf, is_full, events, Falls, MayStand, HasLeft, EndsOver, IsOver, IsSound, IsThrough, is_writer, is_saver, count_of, IsManned}
use Rattle.hx_actors.proofs.Lists.{Any, each_both, meet, any_map, only, there, none_less, is_one, some_is, entry_inside, times_any, falls_more, falls_below, IsOf, Covers, matches, all_stand, newer, two_parts, no_window}

-- the calls of the first pass of window k
abbrev calls_by : ℕ → List Known → List Call
calls_by k [] = []
calls_by k (p ∷ ps) = cond (is_window k p.actor) p.calls (calls_by k ps)

pick_each : (k : ℕ) (Q : List Call → Type 0) → Q [] → (ps : List Known) → Each (λ p. is_window k p.actor ≡ true → Q p.calls) ps → Q (calls_by k ps)
pick_each k Q none [] each = none
pick_each k Q none (p ∷ ps) each = go (is_window k p.actor) refl (pick_each k Q none ps each.1)
  where
    go : (b : Bool) → is_window k p.actor ≡ b → Q (calls_by k ps) → Q (cond b p.calls (calls_by k ps))
    go true is ih = each.0 is
    go false is ih = ih

counted : (k : ℕ) (R : Known → Type 0) (ps : List Known) → Any (λ p. (is_window k p.actor ≡ true) × R p) ps → 1 ≤ count_of (is_window k) ps
counted k R [] any = absurd any
counted k R (p ∷ ps) (inl is) = let one = ap one_if is.0 in omega (arith, one)
counted k R (p ∷ ps) (inr any) = let rest = counted k R ps any in omega (arith, rest)

pick_any : (k : ℕ) (R : List Call → Type 0) (ps : List Known) → count_of (is_window k) ps ≤ 1 → Any (λ p. (is_window k p.actor ≡ true) × R p.calls) ps → R (calls_by k ps)
pick_any k R [] most any = absurd any
pick_any k R (p ∷ ps) most any = go (is_window k p.actor) refl any (λ rest. pick_any k R ps (omega (arith, most)) rest)
  where
    go : (b : Bool) → is_window k p.actor ≡ b → ((is_window k p.actor ≡ true) × R p.calls) ⊎ Any (λ p. (is_window k p.actor ≡ true) × R p.calls) ps → (Any (λ p. (is_window k p.actor ≡ true) × R p.calls) ps → R (calls_by k ps)) → R (cond b p.calls (calls_by k ps))
    go true is (inl x) ih = x.1
    go true is (inr any) ih = absurd (let some = counted k (λ p. R p.calls) ps any in let one = ap one_if is in omega (arith, most, some, one))
    go false is (inl x) ih = absurd (let was = x.0 in cc (is, was))
    go false is (inr any) ih = ih any

none_by : (k : ℕ) (ps : List Known) → count_of (is_window k) ps ≡ 0 → calls_by k ps ≡ []
none_by k [] none = refl
none_by k (p ∷ ps) none = go (is_window k p.actor) refl (λ rest. none_by k ps rest)
  where
    go : (b : Bool) → is_window k p.actor ≡ b → (count_of (is_window k) ps ≡ 0 → calls_by k ps ≡ []) → cond b p.calls (calls_by k ps) ≡ []
    go true is ih = absurd (let one = ap one_if is in omega (arith, none, one))
    go false is ih = ih (omega (arith, none))

-- the call is this entry, at this place
abbrev Is : ℕ → Entry → Call → Type 0
Is p e c = (c.place ≡ p) × (c.entry ≡ e)

record Owns (p : ℕ) (e : Entry) (k : Known) : Type 0 where
  by : e.actor ≡ k.actor
  call : Any (Is p e) k.calls

empty_script : (s : List Command) → is_full s ≡ false → reverse (map Act s) ≡ []
empty_script [] is = refl
empty_script (c ∷ cs) is = absurd cc

writer_over : (n : ℕ) (a : Actor) (ms : List Note) → is_writer a ≡ true → IsOver n a ms → EndsOver n Vault ms
writer_over n (Writer k) ms is over = over
writer_over n (Window k) ms is over = absurd cc
writer_over n (Saver k) ms is over = absurd cc
writer_over n Closer ms is over = absurd cc
writer_over n Watcher ms is over = absurd cc

saver_over : (n : ℕ) (a : Actor) (ms : List Note) → is_saver a ≡ true → IsOver n a ms → EndsOver n Save ms
saver_over n (Saver k) ms is over = over
saver_over n (Window k) ms is over = absurd cc
saver_over n (Writer k) ms is over = absurd cc
saver_over n Closer ms is over = absurd cc
saver_over n Watcher ms is over = absurd cc

-- a pass that has left at most once counts as one leave at most, and one that may not leave as none
few_left : (n : ℕ) (ls : List ℕ) → length ls ≤ 1 → up_to n ls ≤ 1
few_left n [] few = omega arith
few_left n (l ∷ []) few = one_most (nat_le l n)
  where
    one_most : (b : Bool) → one_if b + 0 ≤ 1
    one_most true = omega arith
    one_most false = omega arith
few_left n (l ∷ m ∷ ls) few = absurd (omega (arith, few))

leaves_most : (n : ℕ) (b : Bool) (ls : List ℕ) → length ls ≤ 1 → (b ≡ false → ls ≡ []) → up_to n ls ≤ one_if b
leaves_most n true ls few stays = few_left n ls few
leaves_most n false ls few stays = let none = ap (up_to n) (stays refl) in omega (arith, none)

left_bound : (n p : ℕ) (ls : List ℕ) (cs : List Call) → HasLeft ls cs → 1 ≤ up_to n ls → Any (λ c. c.place ≡ p) cs → p ≤ n
left_bound n p [] cs has some any = absurd has
left_bound n p (l ∷ []) cs has some any = go (nat_le l n) refl some
  where
    go : (b : Bool) → nat_le l n ≡ b → 1 ≤ one_if b + 0 → p ≤ n
    go true is one = let below = falls_below (suc l) p cs has any in grind (arith, nat_tests)
    go false is one = absurd (omega (arith, one))
left_bound n p (l ∷ m ∷ ls) cs has some any = absurd has

once_inside : (t p n : ℕ) → t + one_if (nat_le p 0) ≡ one_if (nat_le p n) → 1 ≤ p → p ≤ n → 1 ≤ t
once_inside t p n once some most =
    let low : nat_le p 0 ≡ false = grind (arith, nat_tests) in
    let high : nat_le p n ≡ true = grind (arith, nat_tests) in
    let a = ap one_if low in
    let b = ap one_if high in
    omega (arith, once, a, b)

-- The history h has its oldest entry first, and begins with nothing. What a finding says of a history is that nothing was due.
module _ (o : Opening) (n : ℕ) (says : Finding → List Entry → Type 0) (due : (kind : Kind) (es : List Entry) → says (NothingDue kind) es → lowest_due kind o (reverse es) ≡ None)
    (scripts : List (List Command)) (ps : List Known) (h : List Entry) (closed : IsClosed [] n says h ps) where
  made_is : (p : ℕ) (e : Entry) → entry_at (reverse h) p ≡ Some e → (c : Call) → IsMade h c → c.place ≡ p → c.entry ≡ e
  made_is p e at c m here = some_is c.entry e (sym (places_agree h c.place c.entry m) ∙ (ap (entry_at (reverse h)) here ∙ at))

  inside : (p : ℕ) (e : Entry) → entry_at (reverse h) p ≡ Some e → (1 ≤ p) × (p ≤ length h)
  inside p e at = let r = entry_inside (reverse h) p e at in let same = length-reverse h in (r.0, (let most = r.1 in omega (arith, most, same)))

  -- each entry is a call of a pass
  owner : (p : ℕ) (e : Entry) → entry_at (reverse h) p ≡ Some e → Any (Owns p e) ps
  owner p e at =
      let within = inside p e at in
      let some : Any (λ k. 1 ≤ times p k.calls) ps = there (λ k. times p k.calls) ps (once_inside (total (λ k. times p k.calls) ps) p (length h) (closed.once p) within.0 within.1) in
      meet (Knows n says ps h) (λ k. 1 ≤ times p k.calls) (Owns p e)
      (λ k knows t.
      let any : Any (λ c. (e.actor ≡ k.actor) × Is p e c) k.calls = meet (λ c. IsMade h c × (c.entry.actor ≡ k.actor)) (λ c. c.place ≡ p) (λ c. (e.actor ≡ k.actor) × Is p e c)
      (λ c m here. let same = made_is p e at c m.0 here in (ap (λ x. x.actor) (sym same) ∙ m.1, (here, same))) k.calls knows.calls (times_any p k.calls t) in
      record {
        by = only (λ c. (e.actor ≡ k.actor) × Is p e c) (e.actor ≡ k.actor) (λ c x. x.0) k.calls any;
        call = any_map (λ c. (e.actor ≡ k.actor) × Is p e c) (Is p e) (λ c x. x.1) k.calls any;
      })
      ps closed.knows some

  falls_in : Each (IsSound scripts) ps → (k : ℕ) → Each (λ p. is_window k p.actor ≡ true → Falls (suc (length (reverse h))) p.calls) ps
  falls_in sound k = each_map (λ p. IsSound scripts p × Knows n says ps h p) (λ p. is_window k p.actor ≡ true → Falls (suc (length (reverse h))) p.calls)
      (λ p x is. falls_more (suc (length p.seen)) (suc (length (reverse h))) p.calls (let most = prefix_length p.seen h x.1.seen in let same = length-reverse h in omega (arith, most, same)) x.0.order.falls)
      ps (each_both (IsSound scripts) (Knows n says ps h) ps sound closed.knows)

  is_of : (k : ℕ) → Each (λ p. is_window k p.actor ≡ true → Each (IsOf k (reverse h)) p.calls) ps
  is_of k = each_map (Knows n says ps h) (λ p. is_window k p.actor ≡ true → Each (IsOf k (reverse h)) p.calls)
      (λ p t is. each_map (λ c. IsMade h c × (c.entry.actor ≡ p.actor)) (IsOf k (reverse h)) (λ c m. record { at = places_agree h c.place c.entry m.0; by = ap (is_window k) m.1 ∙ is }) p.calls t.calls)
      ps closed.knows

  covers : (k : ℕ) → count_of (is_window k) ps ≤ 1 → Covers k (reverse h) (calls_by k ps)
  covers k most p e at win = pick_any k (λ cs. Any (λ c. c.place ≡ p) cs) ps most
      (any_map (Owns p e) (λ q. (is_window k q.actor ≡ true) × Any (λ c. c.place ≡ p) q.calls)
      (λ q w. (ap (is_window k) (sym w.by) ∙ win, any_map (Is p e) (λ c. c.place ≡ p) (λ c i. i.0) q.calls w.call))
      ps (owner p e at))

  by_calls : Each (IsSound scripts) ps → (k : ℕ) → count_of (is_window k) ps ≤ 1 → events_of k (reverse h) ≡ events (calls_by k ps)
  by_calls sound k most = matches k (reverse h) (calls_by k ps) (pick_each k (Falls (suc (length (reverse h)))) tt ps (falls_in sound k)) (pick_each k (Each (IsOf k (reverse h))) tt ps (is_of k)) (covers k most)

  stands : Each (IsSound scripts) ps → (p : ℕ) (e : Entry) → entry_at (reverse h) p ≡ Some e → may_stand false e.actor e.event e.outcome ≡ true
  stands sound p e at =
      let any : Any (λ q. may_stand false e.actor e.event e.outcome ≡ true) ps = meet (IsSound scripts) (Owns p e) (λ q. may_stand false e.actor e.event e.outcome ≡ true)
      (λ q s w. only (λ c. may_stand false e.actor e.event e.outcome ≡ true) (may_stand false e.actor e.event e.outcome ≡ true) (λ c x. x) q.calls
      (meet MayStand (Is p e) (λ c. may_stand false e.actor e.event e.outcome ≡ true)
      (λ c st i. subst (λ (x : Entry). may_stand false x.actor x.event x.outcome ≡ true) i.1 st)
      q.calls s.order.stand w.call))
      ps sound (owner p e at) in
      only (λ q. may_stand false e.actor e.event e.outcome ≡ true) (may_stand false e.actor e.event e.outcome ≡ true) (λ q x. x) ps any

  begun : Each (IsSound scripts) ps → (k : ℕ) → IsBegun (script_of k scripts) (events (calls_by k ps))
  begun sound k = pick_each k (λ cs. IsBegun (script_of k scripts) (events cs)) (record { later = script_of k scripts; whole = sym (append-nil (script_of k scripts)) }) ps
      (each_map (IsSound scripts) (λ p. is_window k p.actor ≡ true → IsBegun (script_of k scripts) (events p.calls)) (λ p s is. s.begun k is) ps sound)

  pub is_part : Each (IsSound scripts) ps → ((k : ℕ) → count_of (is_window k) ps ≤ 1) → IsPartOf false scripts (reverse h)
  is_part sound most = record {
    windows = λ k. record { later = (begun sound k).later; whole = (begun sound k).whole ∙ ap (λ evs. (begun sound k).later ++ evs) (sym (by_calls sound k (most k))) };
    others = all_stand (reverse h) (stands sound);
  }

  module _ (sound : Each (IsSound scripts) ps) (through : Each (IsThrough n scripts) ps) (manned : IsManned scripts ps) (all : n ≡ count_of is_some_window ps) where
    most_one : (k : ℕ) → count_of (is_window k) ps ≤ 1
    most_one k = go (is_full (slice_index_or scripts k [])) (manned k)
      where
        go : (b : Bool) → count_of (is_window k) ps ≡ one_if b → count_of (is_window k) ps ≤ 1
        go true is = omega (arith, is)
        go false is = omega (arith, is)

    scripted : (k : ℕ) → events (calls_by k ps) ≡ script_of k scripts
    scripted k = go (is_full (slice_index_or scripts k [])) refl (manned k)
      where
        go : (b : Bool) → is_full (slice_index_or scripts k []) ≡ b → count_of (is_window k) ps ≡ one_if b → events (calls_by k ps) ≡ script_of k scripts
        go true full is = pick_any k (λ cs. events cs ≡ script_of k scripts) ps (omega (arith, is))
            (meet (IsThrough n scripts) (λ p. 1 ≤ one_if (is_window k p.actor)) (λ p. (is_window k p.actor ≡ true) × (events p.calls ≡ script_of k scripts))
            (λ p t one. let w = is_one (is_window k p.actor) one in (w, t.made k w))
            ps through (there (λ p. one_if (is_window k p.actor)) ps (omega (arith, is))))
        go false full is = ap events (none_by k ps is) ∙ sym (empty_script (slice_index_or scripts k []) full)

    -- where all windows had left at a note, each has left by then
    lefts : (m : Note) → Holds n says ps h m → n ≤ m.left → Each (λ p. is_some_window p.actor ≡ true → 1 ≤ up_to (length m.upto) p.leaves) ps
    lefts m holds over = each_map (λ p. one_if (is_some_window p.actor) ≤ up_to (length m.upto) p.leaves) (λ p. is_some_window p.actor ≡ true → 1 ≤ up_to (length m.upto) p.leaves)
        (λ p le is. let one = ap one_if is in omega (arith, le, one)) ps
        (none_less (λ p. up_to (length m.upto) p.leaves) (λ p. one_if (is_some_window p.actor)) ps
        (each_map (λ p. IsThrough n scripts p × Knows n says ps h p) (λ p. up_to (length m.upto) p.leaves ≤ one_if (is_some_window p.actor)) (λ p t. leaves_most (length m.upto) (is_some_window p.actor) p.leaves t.1.left t.0.stays) ps
        (each_both (IsThrough n scripts) (Knows n says ps h) ps through closed.knows))
        (let least = holds.over over in omega (arith, least, all)))

    done : (m : Note) → Holds n says ps h m → n ≤ m.left → (p : ℕ) (e : Entry) → length m.upto < p → entry_at (reverse h) p ≡ Some e → is_some_window e.actor ≡ false
    done m holds over p e less at = go (is_some_window e.actor) refl
      where
        go : (b : Bool) → is_some_window e.actor ≡ b → b ≡ false
        go false is = refl
        go true is = absurd (only (λ q. p ≤ length m.upto) ⊥ (λ q le. omega (arith, le, less)) ps
            (meet (λ q. IsThrough n scripts q × (is_some_window q.actor ≡ true → 1 ≤ up_to (length m.upto) q.leaves)) (Owns p e) (λ q. p ≤ length m.upto)
            (λ q t w. let win : is_some_window q.actor ≡ true = ap is_some_window (sym w.by) ∙ is in left_bound (length m.upto) p q.leaves q.calls (t.0.left win) (t.1 win) (any_map (Is p e) (λ c. c.place ≡ p) (λ c i. i.0) q.calls w.call))
            ps (each_both (IsThrough n scripts) (λ q. is_some_window q.actor ≡ true → 1 ≤ up_to (length m.upto) q.leaves) ps through (lefts m holds over)) (owner p e at)))

    off : (kind : Kind) (ms : List Note) → EndsOver n kind ms → Each (Holds n says ps h) ms → IsWorkedOff (lowest_due kind o) (reverse h)
    off kind [] ends each = absurd ends
    off kind (m ∷ ms) ends each =
        let found : says (NothingDue kind) m.upto = subst (λ (f : Finding). says f m.upto) ends.0 each.0.found in
        record {
          later = newer (length m.upto) (reverse h);
          before = oldest (length m.upto) (reverse h);
          whole = two_parts (length m.upto) (reverse h);
          windows_are_done = no_window (length m.upto) (reverse h) (done m each.0 ends.1);
          nothing_due = ap (lowest_due kind o) (beginnings_agree h m.upto each.0.upto) ∙ due kind m.upto found;
        }

    ended : (kind : Kind) (is : Actor → Bool) → ((a : Actor) (ms : List Note) → is a ≡ true → IsOver n a ms → EndsOver n kind ms) → 1 ≤ count_of is ps → IsWorkedOff (lowest_due kind o) (reverse h)
    ended kind is over some = only (λ p. IsWorkedOff (lowest_due kind o) (reverse h)) (IsWorkedOff (lowest_due kind o) (reverse h)) (λ p x. x) ps
        (meet (λ p. IsThrough n scripts p × Knows n says ps h p) (λ p. 1 ≤ one_if (is p.actor)) (λ p. IsWorkedOff (lowest_due kind o) (reverse h))
        (λ p t one. off kind p.notes (over p.actor p.notes (is_one (is p.actor) one) t.0.over) t.1.notes)
        ps (each_both (IsThrough n scripts) (Knows n says ps h) ps through closed.knows) (there (λ p. one_if (is p.actor)) ps some))

    pub is_work : 1 ≤ count_of is_writer ps → 1 ≤ count_of is_saver ps → IsWorkOf o false scripts (reverse h)
    is_work writers savers = record {
      windows = λ k. by_calls sound k (most_one k) ∙ scripted k;
      others = all_stand (reverse h) (stands sound);
      vault = ended Vault is_writer (writer_over n) writers;
      saves = ended Save is_saver (saver_over n) savers;
    }
