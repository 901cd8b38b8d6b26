-- The pieces of work, and for whom they are.
use Rattle.std.proofs.Common.{◌≡◌, ℕ, zero, suc, ◌+◌, ◌≤◌, ◌<◌, ◌==◌, All, Bool, true, false, ◌&&◌, cond, List, [], ◌∷◌, ◌++◌, length, map, reverse, slice_index_or, None, refl, ap, sym, ◌∙◌, subst, arith, append-nil, append_assoc, take}
use Rattle.std.proofs.lemmas.List.{map-append, reverse-append, reverse-reverse}
use Rattle.std.proofs.lemmas.Bool.Decides.{nat_tests}
use Rattle.hx_events.specs.declared.event.Actor.{Actor}
use Rattle.hx_events.specs.declared.event.Actor.TheVariants.{Window, Writer, Saver, Closer, Watcher}
use Rattle.hx_events.specs.declared.event.Command.{Command}
use Rattle.hx_events.specs.declared.life.Entry.{Entry}
use Rattle.hx_rules.specs.Legal.{Opening}
use Rattle.hx_rules.specs.Interleavings.{IsWorkOf, is_window, is_some_window, script_of}
use Rattle.hx_passes.specs.declared.rule.Finding.{Finding}
use Rattle.hx_passes.specs.declared.rule.Finding.TheVariants.{NothingDue}
use Rattle.hx_passes.specs.declared.rule.Kind.{Kind}
use Rattle.hx_passes.specs.declared.rule.Kind.TheVariants.{Vault, Save}
use Rattle.hx_passes.specs.declared.rule.Known.{Known}
use Rattle.hx_passes.specs.Rules.{Each, total, one_if}
use Rattle.hx_passes.specs.Closing.{IsClosed}
use Rattle.hx_passes.specs.Views.{fresh}
use Rattle.hx_passes.proofs.Lists.{each_append, each_left}
use Rattle.hx_hub.specs.Shared.{lowest_due}
use Rattle.hx_actors.specs.Work.{IsBegun, IsPartOf, is_full, fulls, events, Falls, MayStand, IsInOrder, IsOver, IsSound, IsThrough, is_writer, is_saver, count_of}
use Rattle.hx_actors.specs.Pieces.{IsNamed, events_in, Duty, duty, windows_from, worker_of, workers_below, all_duties, IsUnused, Lends, Job, IsReady, Ends, duty_of, IsCrew, parts_of, all_ended, Each2}
use Rattle.hx_actors.proofs.Lists.{eq_of, eq_true, eq_false}
use Rattle.hx_actors.proofs.Work.{is_part, is_work}

module _ {A : Type 0} where
  total_append : (f : A → ℕ) (xs ys : List A) → total f (xs ++ ys) ≡ total f xs + total f ys
  total_append f [] ys = omega arith
  total_append f (x ∷ xs) ys = omega (arith, total_append f xs ys)

  reverse_one : (x : A) (xs : List A) → reverse (x ∷ xs) ≡ reverse xs ++ x ∷ []
  reverse_one x xs = reverse-append (x ∷ []) xs

  total_reverse : (f : A → ℕ) (xs : List A) → total f (reverse xs) ≡ total f xs
  total_reverse f [] = refl
  total_reverse f (x ∷ xs) =
      let split = ap (total f) (reverse_one x xs) ∙ total_append f (reverse xs) (x ∷ []) in
      let rest = total_reverse f xs in
      omega (arith, split, rest)

  each_reverse : (P : A → Type 0) (xs : List A) → Each P xs → Each P (reverse xs)
  each_reverse P [] each = tt
  each_reverse P (x ∷ xs) each = subst (Each P) (sym (reverse_one x xs)) (each_append P (reverse xs) (x ∷ []) (each_reverse P xs each.1) (each.0, tt))

  pub each2_of : (R : A → A → Type 0) (xs ys : List A) → length ys ≡ length xs → ((i : ℕ) (d : A) → i < length xs → R (slice_index_or xs i d) (slice_index_or ys i d)) → Each2 R xs ys
  each2_of R [] [] len r = tt
  each2_of R [] (y ∷ ys) len r = absurd (omega (arith, len))
  each2_of R (x ∷ xs) [] len r = absurd (omega (arith, len))
  each2_of R (x ∷ xs) (y ∷ ys) len r = (r 0 x (omega arith), each2_of R xs ys (omega (arith, len)) (λ i d less. r (suc i) d (omega (arith, less))))

  pub index_of : (P : A → Type 0) (xs : List A) → Each P xs → (i : ℕ) (d : A) → i < length xs → P (slice_index_or xs i d)
  index_of P [] each i d less = absurd (omega (arith, less))
  index_of P (x ∷ xs) each zero d less = each.0
  index_of P (x ∷ xs) each (suc i) d less = index_of P xs each.1 i d (omega (arith, less))

  pub take_whole : (ys zs : List A) → take (length ys) (ys ++ zs) ≡ ys
  take_whole [] zs = refl
  take_whole (y ∷ ys) zs = ap (λ xs. y ∷ xs) (take_whole ys zs)

some_window : (k : ℕ) (a : Actor) → is_window k a ≡ true → is_some_window a ≡ true
some_window k (Window n) is = refl
some_window k (Writer n) is = absurd cc
some_window k (Saver n) is = absurd cc
some_window k Closer is = absurd cc
some_window k Watcher is = absurd cc

and_both : (a b : Bool) → (a && b) ≡ true → (a ≡ true) × (b ≡ true)
and_both true true is = (refl, refl)
and_both true false is = absurd cc
and_both false b is = absurd cc

-- how many of these are for such an actor
abbrev for : (Actor → Bool) → List Duty → ℕ
for is ds = total (λ d. one_if (is d.actor)) ds

-- a window has one duty at most, and each that has commands has one
early : (k i : ℕ) (ss : List (List Command)) → k < i → for (is_window k) (windows_from i ss) ≡ 0
early k i [] less = refl
early k i (s ∷ ss) less = go (is_full s) (early k (suc i) ss (omega (arith, less)))
  where
    go : (b : Bool) → for (is_window k) (windows_from (suc i) ss) ≡ 0 → for (is_window k) (cond b (duty (Window i) s ∷ windows_from (suc i) ss) (windows_from (suc i) ss)) ≡ 0
    go true ih = let none : one_if (i == k) ≡ 0 = grind (arith, nat_tests) in omega (arith, ih, none)
    go false ih = ih

number_from : (k i j : ℕ) (ss : List (List Command)) → k ≡ i + j → for (is_window k) (windows_from i ss) ≡ one_if (is_full (slice_index_or ss j []))
number_from k i j [] is = refl
number_from k i zero (s ∷ ss) is = go (is_full s) (early k (suc i) ss (omega (arith, is)))
  where
    go : (b : Bool) → for (is_window k) (windows_from (suc i) ss) ≡ 0 → for (is_window k) (cond b (duty (Window i) s ∷ windows_from (suc i) ss) (windows_from (suc i) ss)) ≡ one_if b
    go true ih = let one : one_if (i == k) ≡ 1 = ap one_if (eq_true i k (omega (arith, is))) in omega (arith, ih, one)
    go false ih = ih
number_from k i (suc j) (s ∷ ss) is = go (is_full s) (number_from k (suc i) j ss (omega (arith, is)))
  where
    go : (b : Bool) → for (is_window k) (windows_from (suc i) ss) ≡ one_if (is_full (slice_index_or ss j [])) → for (is_window k) (cond b (duty (Window i) s ∷ windows_from (suc i) ss) (windows_from (suc i) ss)) ≡ one_if (is_full (slice_index_or ss j []))
    go true ih = let none : one_if (i == k) ≡ 0 = ap one_if (eq_false i k (omega (arith, is))) in omega (arith, ih, none)
    go false ih = ih

count_from : (i : ℕ) (ss : List (List Command)) → for is_some_window (windows_from i ss) ≡ fulls ss
count_from i [] = refl
count_from i (s ∷ ss) = go (is_full s) (count_from (suc i) ss)
  where
    go : (b : Bool) → for is_some_window (windows_from (suc i) ss) ≡ fulls ss → for is_some_window (cond b (duty (Window i) s ∷ windows_from (suc i) ss) (windows_from (suc i) ss)) ≡ one_if b + fulls ss
    go true ih = omega (arith, ih)
    go false ih = omega (arith, ih)

windows_none : (f : Actor → Bool) → ((k : ℕ) → f (Window k) ≡ false) → (i : ℕ) (ss : List (List Command)) → for f (windows_from i ss) ≡ 0
windows_none f none i [] = refl
windows_none f none i (s ∷ ss) = go (is_full s) (windows_none f none (suc i) ss)
  where
    go : (b : Bool) → for f (windows_from (suc i) ss) ≡ 0 → for f (cond b (duty (Window i) s ∷ windows_from (suc i) ss) (windows_from (suc i) ss)) ≡ 0
    go true ih = let here = ap one_if (none i) in omega (arith, ih, here)
    go false ih = ih

-- a window's duty has its script
abbrev pub HasScript : List (List Command) → Duty → Type 0
HasScript scripts d = (k : ℕ) → is_window k d.actor ≡ true → d.script ≡ slice_index_or scripts k []

scripts_from : (all : List (List Command)) (i : ℕ) (ss : List (List Command)) → ((j : ℕ) → slice_index_or ss j [] ≡ slice_index_or all (i + j) []) → Each (HasScript all) (windows_from i ss)
scripts_from all i [] at = tt
scripts_from all i (s ∷ ss) at = go (is_full s) (scripts_from all (suc i) ss (λ j. at (suc j) ∙ ap (λ n. slice_index_or all n []) (omega arith)))
  where
    go : (b : Bool) → Each (HasScript all) (windows_from (suc i) ss) → Each (HasScript all) (cond b (duty (Window i) s ∷ windows_from (suc i) ss) (windows_from (suc i) ss))
    go true ih = ((λ k is. let same = eq_of i k is in at 0 ∙ ap (λ n. slice_index_or all n []) (omega (arith, same))), ih)
    go false ih = ih

named_from : (names i : ℕ) (ss : List (List Command)) → All (IsNamed names) ss → Each (λ d. IsNamed names d.script) (windows_from i ss)
named_from names i [] all = tt
named_from names i (s ∷ ss) all = go (is_full s) (named_from names (suc i) ss (λ j d less. all (suc j) d (omega (arith, less))))
  where
    go : (b : Bool) → Each (λ d. IsNamed names d.script) (windows_from (suc i) ss) → Each (λ d. IsNamed names d.script) (cond b (duty (Window i) s ∷ windows_from (suc i) ss) (windows_from (suc i) ss))
    go true ih = (all 0 s (omega arith), ih)
    go false ih = ih

-- the workers' duties
no_window : (kind : Kind) (n : ℕ) → is_some_window (worker_of kind n) ≡ false
no_window Vault n = refl
no_window Save n = refl

no_such_window : (kind : Kind) (k n : ℕ) → is_window k (worker_of kind n) ≡ false
no_such_window Vault k n = refl
no_such_window Save k n = refl

workers_none : (kind : Kind) (f : Actor → Bool) → ((n : ℕ) → f (worker_of kind n) ≡ false) → (n : ℕ) → for f (workers_below kind n) ≡ 0
workers_none kind f none zero = refl
workers_none kind f none (suc n) =
    let here = ap one_if (none n) in
    let rest = workers_none kind f none n in
    let split = total_append (λ (d : Duty). one_if (f d.actor)) (workers_below kind n) (duty (worker_of kind n) [] ∷ []) in
    omega (arith, here, rest, split)

workers_some : (kind : Kind) (f : Actor → Bool) → ((n : ℕ) → f (worker_of kind n) ≡ true) → (n : ℕ) → 1 ≤ n → 1 ≤ for f (workers_below kind n)
workers_some kind f all zero some = absurd (omega (arith, some))
workers_some kind f all (suc n) some =
    let here = ap one_if (all n) in
    let split = total_append (λ (d : Duty). one_if (f d.actor)) (workers_below kind n) (duty (worker_of kind n) [] ∷ []) in
    omega (arith, here, split)

workers_scripts : (all : List (List Command)) (kind : Kind) (n : ℕ) → Each (HasScript all) (workers_below kind n)
workers_scripts all kind zero = tt
workers_scripts all kind (suc n) = each_append (HasScript all) (workers_below kind n) (duty (worker_of kind n) [] ∷ []) (workers_scripts all kind n) ((λ k is. absurd (let none = no_such_window kind k n in cc (is, none))), tt)

workers_named : (names : ℕ) (kind : Kind) (n : ℕ) → Each (λ d. IsNamed names d.script) (workers_below kind n)
workers_named names kind zero = tt
workers_named names kind (suc n) = each_append (λ (d : Duty). IsNamed names d.script) (workers_below kind n) (duty (worker_of kind n) [] ∷ []) (workers_named names kind n) ((λ i d less. absurd (omega (arith, less))), tt)

for_all : (f : Actor → Bool) (scripts : List (List Command)) (w : ℕ) → for f (all_duties scripts w) ≡ for f (windows_from 0 scripts) + (for f (workers_below Vault w) + for f (workers_below Save w))
for_all f scripts w = total_append (λ (d : Duty). one_if (f d.actor)) (windows_from 0 scripts) (workers_below Vault w ++ workers_below Save w) ∙ ap (λ n. for f (windows_from 0 scripts) + n) (total_append (λ (d : Duty). one_if (f d.actor)) (workers_below Vault w) (workers_below Save w))

number_all : (k : ℕ) (scripts : List (List Command)) (w : ℕ) → for (is_window k) (all_duties scripts w) ≡ one_if (is_full (slice_index_or scripts k []))
number_all k scripts w =
    let a = for_all (is_window k) scripts w in
    let b = number_from k 0 k scripts (omega arith) in
    let c = workers_none Vault (is_window k) (no_such_window Vault k) w in
    let d = workers_none Save (is_window k) (no_such_window Save k) w in
    omega (arith, a, b, c, d)

windows_all : (scripts : List (List Command)) (w : ℕ) → for is_some_window (all_duties scripts w) ≡ fulls scripts
windows_all scripts w =
    let a = for_all is_some_window scripts w in
    let b = count_from 0 scripts in
    let c = workers_none Vault is_some_window (no_window Vault) w in
    let d = workers_none Save is_some_window (no_window Save) w in
    omega (arith, a, b, c, d)

writers_all : (scripts : List (List Command)) (w : ℕ) → 1 ≤ w → 1 ≤ for is_writer (all_duties scripts w)
writers_all scripts w some =
    let a = for_all is_writer scripts w in
    let b = workers_some Vault is_writer (λ n. refl) w some in
    omega (arith, a, b)

savers_all : (scripts : List (List Command)) (w : ℕ) → 1 ≤ w → 1 ≤ for is_saver (all_duties scripts w)
savers_all scripts w some =
    let a = for_all is_saver scripts w in
    let b = workers_some Save is_saver (λ n. refl) w some in
    omega (arith, a, b)

scripts_all : (scripts : List (List Command)) (w : ℕ) → Each (HasScript scripts) (all_duties scripts w)
scripts_all scripts w = each_append (HasScript scripts) (windows_from 0 scripts) (workers_below Vault w ++ workers_below Save w)
    (scripts_from scripts 0 scripts (λ j. ap (λ n. slice_index_or scripts n []) (omega arith)))
    (each_append (HasScript scripts) (workers_below Vault w) (workers_below Save w) (workers_scripts scripts Vault w) (workers_scripts scripts Save w))

pub named_all : (names : ℕ) (scripts : List (List Command)) (w : ℕ) → All (IsNamed names) scripts → Each (λ d. IsNamed names d.script) (reverse (all_duties scripts w))
named_all names scripts w all = each_reverse (λ (d : Duty). IsNamed names d.script) (all_duties scripts w)
    (each_append (λ (d : Duty). IsNamed names d.script) (windows_from 0 scripts) (workers_below Vault w ++ workers_below Save w) (named_from names 0 scripts all)
    (each_append (λ (d : Duty). IsNamed names d.script) (workers_below Vault w) (workers_below Save w) (workers_named names Vault w) (workers_named names Save w)))

-- the passes of pieces are for whom the pieces are
count_before : (f : Actor → Bool) (qs : List Job) → count_of f (map (λ q. q.pass) qs) ≡ for f (map duty_of qs)
count_before f [] = refl
count_before f (q ∷ qs) = let rest = count_before f qs in omega (arith, rest)

module _ (n : ℕ) where
  count_after : (f : Actor → Bool) (qs rs : List Job) → Each2 (Ends n) qs rs → count_of f (map (λ q. q.pass) rs) ≡ for f (map duty_of qs)
  count_after f [] [] each = refl
  count_after f [] (r ∷ rs) each = absurd each
  count_after f (q ∷ qs) [] each = absurd each
  count_after f (q ∷ qs) (r ∷ rs) each =
      let here = ap (λ a. one_if (f a)) each.0.actor in
      let rest = count_after f qs rs each.1 in
      omega (arith, here, rest)

  pub parts_after : (qs rs : List Job) → Each2 (Ends n) qs rs → parts_of rs ≡ parts_of qs
  parts_after [] [] each = refl
  parts_after [] (r ∷ rs) each = absurd each
  parts_after (q ∷ qs) [] each = absurd each
  parts_after (q ∷ qs) (r ∷ rs) each =
      let here = each.0.parts in
      let rest = parts_after qs rs each.1 in
      omega (arith, here, rest)

pub parts_of_passes : (qs : List Job) → total (λ p. p.parts) (map (λ q. q.pass) qs) ≡ parts_of qs
parts_of_passes [] = refl
parts_of_passes (q ∷ qs) = let rest = parts_of_passes qs in omega (arith, rest)

pub unused_in_order : (p : Known) → IsUnused p → IsInOrder p
unused_in_order p u = record {
  falls = subst (Falls (suc (length p.seen))) (sym u.calls) tt;
  stand = subst (Each MayStand) (sym u.calls) tt;
}

-- what holds of each pass, with its window's script among all
sound_unused : (scripts : List (List Command)) (p : Known) → IsUnused p → IsSound scripts p
sound_unused scripts p f = record {
  order = unused_in_order p f;
  begun = λ k is. record { later = script_of k scripts; whole = sym (append-nil (script_of k scripts)) ∙ ap (λ cs. script_of k scripts ++ events cs) (sym f.calls) };
}

sound_by : (n : ℕ) (scripts : List (List Command)) (q r : Job) → Ends n q r → HasScript scripts (duty_of q) → IsSound scripts r.pass
sound_by n scripts q r e has = record {
  order = e.sound.order;
  begun = λ k is. subst (λ s. IsBegun (events_in s) (events r.pass.calls)) (has k (ap (is_window k) (sym e.actor) ∙ is)) (e.sound.begun (some_window k r.pass.actor is));
}

through_by : (n : ℕ) (scripts : List (List Command)) (q r : Job) → Ends n q r → r.ended ≡ true → HasScript scripts (duty_of q) → IsThrough n scripts r.pass
through_by n scripts q r e ended has = record {
  made = λ k is. (e.through ended).made (some_window k r.pass.actor is) ∙ ap events_in (has k (ap (is_window k) (sym e.actor) ∙ is));
  left = e.done.left;
  stays = e.done.stays;
  over = (e.through ended).over;
}

sounds_before : (names : ℕ) (scripts : List (List Command)) (qs : List Job) → Each (IsReady names) qs → Each (IsSound scripts) (map (λ q. q.pass) qs)
sounds_before names scripts [] each = tt
sounds_before names scripts (q ∷ qs) each = (sound_unused scripts q.pass each.0.unused, sounds_before names scripts qs each.1)

module _ (n : ℕ) (scripts : List (List Command)) where
  sounds_after : (qs rs : List Job) → Each2 (Ends n) qs rs → Each (HasScript scripts) (map duty_of qs) → Each (IsSound scripts) (map (λ q. q.pass) rs)
  sounds_after [] [] each has = tt
  sounds_after [] (r ∷ rs) each has = absurd each
  sounds_after (q ∷ qs) [] each has = absurd each
  sounds_after (q ∷ qs) (r ∷ rs) each has = (sound_by n scripts q r each.0 has.0, sounds_after qs rs each.1 has.1)

  throughs_after : (qs rs : List Job) → Each2 (Ends n) qs rs → all_ended rs ≡ true → Each (HasScript scripts) (map duty_of qs) → Each (IsThrough n scripts) (map (λ q. q.pass) rs)
  throughs_after [] [] each ended has = tt
  throughs_after [] (r ∷ rs) each ended has = absurd each
  throughs_after (q ∷ qs) [] each ended has = absurd each
  throughs_after (q ∷ qs) (r ∷ rs) each ended has =
      let both = and_both r.ended (all_ended rs) ended in
      (through_by n scripts q r each.0 both.0 has.0, throughs_after qs rs each.1 both.1 has.1)

-- the Closer's own pass
first_through : (n : ℕ) (scripts : List (List Command)) (p : Known) → p.actor ≡ Closer → IsUnused p → IsThrough n scripts p
first_through n scripts p closer f = record {
  made = λ k is. absurd (let none = ap (is_window k) closer in cc (is, none));
  left = λ is. absurd (let none = ap is_some_window closer in cc (is, none));
  stays = λ is. f.leaves;
  over = subst (λ a. IsOver n a p.notes) (sym closer) tt;
}

one_most : (b : Bool) → one_if b ≤ 1
one_most true = omega arith
one_most false = omega arith

-- A history that has these entries, newest first, where a first pass and those of the pieces have made them all.
module _ (o : Opening) (n : ℕ) (says : Finding → List Entry → Type 0) (due : (kind : Kind) (es : List Entry) → says (NothingDue kind) es → lowest_due kind o (reverse es) ≡ None)
    (names : ℕ) (scripts : List (List Command)) (w : ℕ) (first : Known) (closer : first.actor ≡ Closer) (unused : IsUnused first) (es : List Entry) where
  none_first : (f : Actor → Bool) → f Closer ≡ false → one_if (f first.actor) ≡ 0
  none_first f is = ap one_if (ap f closer ∙ is)

  with_scripts : (qs : List Job) → IsCrew names (reverse (all_duties scripts w)) qs → Each (HasScript scripts) (map duty_of qs)
  with_scripts qs c = each_left (HasScript scripts) (map duty_of qs) c.later (subst (Each (HasScript scripts)) c.whole (each_reverse (HasScript scripts) (all_duties scripts w) (scripts_all scripts w)))

  most : (k : ℕ) (qs : List Job) → IsCrew names (reverse (all_duties scripts w)) qs → for (is_window k) (map duty_of qs) ≤ 1
  most k qs c =
      let all = total_reverse (λ (d : Duty). one_if (is_window k d.actor)) (all_duties scripts w) ∙ number_all k scripts w in
      let one = one_most (is_full (slice_index_or scripts k [])) in
      let split = ap (for (is_window k)) c.whole ∙ total_append (λ (d : Duty). one_if (is_window k d.actor)) (map duty_of qs) c.later in
      omega (arith, all, one, split)

  pub part_before : (qs : List Job) → IsCrew names (reverse (all_duties scripts w)) qs → IsClosed [] n says (reverse es) (first ∷ map (λ q. q.pass) qs) → IsPartOf false scripts es
  part_before qs c closed = subst (IsPartOf false scripts) (reverse-reverse es) (is_part o n says due scripts (first ∷ map (λ q. q.pass) qs) (reverse es) closed (sound_unused scripts first unused, sounds_before names scripts qs c.ready)
      (λ k. let a = none_first (is_window k) refl in let b = count_before (is_window k) qs in let d = most k qs c in omega (arith, a, b, d)))

  pub part_after : (qs rs : List Job) → IsCrew names (reverse (all_duties scripts w)) qs → Each2 (Ends n) qs rs → IsClosed [] n says (reverse es) (first ∷ map (λ q. q.pass) rs) → IsPartOf false scripts es
  part_after qs rs c ends closed = subst (IsPartOf false scripts) (reverse-reverse es) (is_part o n says due scripts (first ∷ map (λ q. q.pass) rs) (reverse es) closed (sound_unused scripts first unused, sounds_after n scripts qs rs ends (with_scripts qs c))
      (λ k. let a = none_first (is_window k) refl in let b = count_after n (is_window k) qs rs ends in let d = most k qs c in omega (arith, a, b, d)))

  pub work_after : (qs rs : List Job) → IsCrew names (reverse (all_duties scripts w)) qs → reverse (all_duties scripts w) ≡ map duty_of qs → Each2 (Ends n) qs rs → all_ended rs ≡ true → n ≡ fulls scripts → 1 ≤ w
      → IsClosed [] n says (reverse es) (first ∷ map (λ q. q.pass) rs) → IsWorkOf o false scripts es
  work_after qs rs c whole ends ended count some closed =
      let same : (f : Actor → Bool) → f Closer ≡ false → count_of f (first ∷ map (λ q. q.pass) rs) ≡ for f (all_duties scripts w) =
      λ f is. let a = none_first f is in let b = count_after n f qs rs ends in let d = ap (for f) whole in let e = total_reverse (λ (x : Duty). one_if (f x.actor)) (all_duties scripts w) in omega (arith, a, b, d, e) in
      subst (IsWorkOf o false scripts) (reverse-reverse es) (is_work o n says due scripts (first ∷ map (λ q. q.pass) rs) (reverse es) closed
      (sound_unused scripts first unused, sounds_after n scripts qs rs ends (with_scripts qs c))
      (first_through n scripts first closer unused, throughs_after n scripts qs rs ends ended (with_scripts qs c))
      (λ k. same (is_window k) refl ∙ number_all k scripts w)
      (count ∙ sym (same is_some_window refl ∙ windows_all scripts w))
      (let a = same is_writer refl in let b = writers_all scripts w some in omega (arith, a, b))
      (let a = same is_saver refl in let b = savers_all scripts w some in omega (arith, a, b)))

-- one piece of work more
pub whole_next : (qs : List Job) (q : Job) (d : Duty) (rest all : List Duty) → d ≡ duty_of q → map duty_of qs ++ (d ∷ rest) ≡ all → map duty_of (qs ++ q ∷ []) ++ rest ≡ all
whole_next qs q d rest all is whole = ap (λ (xs : List Duty). xs ++ rest) (map-append duty_of qs (q ∷ [])) ∙ (append_assoc (map duty_of qs) (duty_of q ∷ []) rest ∙ (ap (λ (x : Duty). map duty_of qs ++ (x ∷ rest)) (sym is) ∙ whole))

pub lends_next : (u v w : Known) → Lends u v → Lends v w → Lends u w
lends_next u v w a b = record { actor = b.actor ∙ a.actor; calls = b.calls ∙ a.calls; notes = b.notes ∙ a.notes; leaves = b.leaves ∙ a.leaves }

pub unused_lent : (v w : Known) → Lends v w → IsUnused v → IsUnused w
unused_lent v w l f = record { calls = l.calls ∙ f.calls; notes = l.notes ∙ f.notes; leaves = l.leaves ∙ f.leaves }

pub unused_fresh : (a : Actor) (seen : List Entry) (n : ℕ) (p : Known) → p ≡ fresh a seen n → IsUnused p
unused_fresh a seen n p is = record { calls = ap (λ q. q.calls) is; notes = ap (λ q. q.notes) is; leaves = ap (λ q. q.leaves) is }

pub parts_push : (qs : List Job) (q : Job) → parts_of (qs ++ q ∷ []) ≡ parts_of qs + q.pass.parts
parts_push qs q = let split = total_append (λ (x : Job). x.pass.parts) qs (q ∷ []) in omega (arith, split)
