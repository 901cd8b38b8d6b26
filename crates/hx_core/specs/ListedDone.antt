-- The list of completed backups says which are completed.
use Rattle.std.specs.Prelude.{ℕ, zero, suc, ◌≡◌, ◌+◌, ◌<◌, ◌≤◌, nat_eq, nat_lt, Bool, true, false, ◌&&◌, List, [], ◌∷◌, length, map, bytes_eq, if◌then◌else◌, Option, Some, None, is_some, option_map, slice_get, slice_index_or, refl}
use Rattle.std.specs.List.{position_from}
use Rattle.std.proofs.Common.{arith, ap, sym, ◌∙◌, subst, cond}
use Rattle.std.proofs.lemmas.Bool.Decides.{nat_tests}
use Rattle.std.proofs.lemmas.Slice.Eq.{bytes_eq-Decides}
use Rattle.indexmap.specs.IndexMap.{insert_entry, shift_remove_entry}
use Rattle.hx_events.specs.declared.backup.Backup.{Backup}
use Rattle.hx_events.specs.declared.backup.PairFound.{PairFound}
use Rattle.hx_events.specs.declared.backup.PairFound.TheVariants.{Empty, Found, Damaged, Twin}
use Rattle.hx_events.specs.declared.backup.Side.{Side}
use Rattle.hx_events.specs.declared.event.Event.{Event}
use Rattle.hx_events.specs.declared.event.Event.TheVariants.{Act, Vault, Flush, Quit}
use Rattle.hx_events.specs.declared.event.Stage.TheVariants.{Open, Drop}
use Rattle.hx_events.specs.declared.life.Entry.{Entry}
use Rattle.hx_events.specs.declared.outcome.Outcome.{Outcome}
use Rattle.hx_events.specs.declared.outcome.Outcome.TheVariants.{Quit as MayQuit, Vetoed, StageOk}
use Rattle.hx_events.specs.Places.{is_named, place_of}
use Rattle.hx_backups.specs.Backups.{version_of}
use Rattle.hx_rules.specs.Entries.{Deed, deed, own, is_of}
use Rattle.hx_rules.specs.Backups.{done}
use Rattle.hx_rules.specs.Legal.{Opening, restored_at, found_backup, is_legal, is_row, quit_row, lowest, is_unsafe}
use Rattle.hx_rules_laws.specs.Rows.{row_holds, past_legal}
use Rattle.hx_resource.specs.Kept.{done_version_after}
use Rattle.hx_resource_laws.specs.SlotFits.{done_same}
use Rattle.hx_core.specs.Listed.{res_of, listed, listed_after, StandsOnce, ListsDone}
use Rattle.hx_core.specs.Opens.{ArePlaced, first_of, with_first}

-- ---- one item
same_either_way : (b : Bool) (x : Option ℕ) → x ≡ cond b x x
same_either_way true x = refl
same_either_way false x = refl

flip : (a b : ℕ) → nat_eq a b ≡ nat_eq b a
flip a b = grind (arith, nat_tests)

follow : (a b c : ℕ) → nat_eq a b ≡ true → nat_eq c b ≡ nat_eq a c
follow a b c h = grind (arith, nat_tests)

apart : (a b c : ℕ) → nat_eq a b ≡ false → (nat_eq c b && nat_eq a c) ≡ false
apart a b c h = grind (arith, nat_tests)

same_test : (x y : Bool) (a b c : Option ℕ) → x ≡ y → cond x a c ≡ cond y a (cond x b c)
same_test true true a b c is = refl
same_test false false a b c is = refl
same_test true false a b c is = absurd cc
same_test false true a b c is = absurd cc

other_test : (x y : Bool) (a b c : Option ℕ) → (x && y) ≡ false → cond x b (cond y a c) ≡ cond y a (cond x b c)
other_test true true a b c is = absurd cc
other_test true false a b c is = refl
other_test false true a b c is = refl
other_test false false a b c is = refl

version_insert : (pairs : List (ℕ × ℕ)) (q k v : ℕ) → version_of q (insert_entry nat_eq pairs k v) ≡ cond (nat_eq k q) (Some v) (version_of q pairs)
version_insert [] q k v = ap (λ b. cond b (Some v) None) (flip q k)
version_insert (p ∷ pairs) q k v = step (nat_eq k p.0) refl (version_insert pairs q k v)
  where
    step : (b : Bool) → nat_eq k p.0 ≡ b → version_of q (insert_entry nat_eq pairs k v) ≡ cond (nat_eq k q) (Some v) (version_of q pairs)
        → version_of q (cond b ((p.0, v) ∷ pairs) (p ∷ insert_entry nat_eq pairs k v)) ≡ cond (nat_eq k q) (Some v) (cond (nat_eq q p.0) (Some p.1) (version_of q pairs))
    step true h rest = same_test (nat_eq q p.0) (nat_eq k q) (Some v) (Some p.1) (version_of q pairs) (follow k p.0 q h)
    step false h rest = ap (cond (nat_eq q p.0) (Some p.1)) rest ∙ other_test (nat_eq q p.0) (nat_eq k q) (Some v) (Some p.1) (version_of q pairs) (apart k p.0 q h)

version_removed : (pairs : List (ℕ × ℕ)) (q k : ℕ) → StandsOnce pairs → version_of q (shift_remove_entry (nat_eq k) pairs) ≡ cond (nat_eq k q) None (version_of q pairs)
version_removed [] q k once = same_either_way (nat_eq k q) None
version_removed (p ∷ pairs) q k once = step (nat_eq k p.0) refl (version_removed pairs q k once.1)
  where
    gone : (b : Bool) → (b ≡ true → version_of q pairs ≡ None) → version_of q pairs ≡ cond b None (cond b (Some p.1) (version_of q pairs))
    gone true none = none refl
    gone false none = refl

    at : nat_eq k p.0 ≡ true → nat_eq q p.0 ≡ true → version_of q pairs ≡ None
    at h g = subst (λ (n : ℕ). version_of n pairs ≡ None) (number q p.0 g) once.0
      where
        number : (a b : ℕ) → nat_eq a b ≡ true → b ≡ a
        number a b h = grind (arith, nat_tests)

    step : (b : Bool) → nat_eq k p.0 ≡ b → version_of q (shift_remove_entry (nat_eq k) pairs) ≡ cond (nat_eq k q) None (version_of q pairs)
        → version_of q (cond b pairs (p ∷ shift_remove_entry (nat_eq k) pairs)) ≡ cond (nat_eq k q) None (cond (nat_eq q p.0) (Some p.1) (version_of q pairs))
    step true h rest = gone (nat_eq q p.0) (at h) ∙ ap (λ b. cond b None (cond (nat_eq q p.0) (Some p.1) (version_of q pairs))) (follow k p.0 q h)
    step false h rest = ap (cond (nat_eq q p.0) (Some p.1)) rest ∙ other_test (nat_eq q p.0) (nat_eq k q) None (Some p.1) (version_of q pairs) (apart k p.0 q h)

once_inserted : (pairs : List (ℕ × ℕ)) (k v : ℕ) → StandsOnce pairs → StandsOnce (insert_entry nat_eq pairs k v)
once_inserted [] k v once = (refl, tt)
once_inserted (p ∷ pairs) k v once = step (nat_eq k p.0) refl (once_inserted pairs k v once.1)
  where
    step : (b : Bool) → nat_eq k p.0 ≡ b → StandsOnce (insert_entry nat_eq pairs k v) → StandsOnce (cond b ((p.0, v) ∷ pairs) (p ∷ insert_entry nat_eq pairs k v))
    step true h rest = once
    step false h rest = (version_insert pairs p.0 k v ∙ (ap (λ b. cond b (Some v) (version_of p.0 pairs)) h ∙ once.0), rest)

once_removed : (pairs : List (ℕ × ℕ)) (k : ℕ) → StandsOnce pairs → StandsOnce (shift_remove_entry (nat_eq k) pairs)
once_removed [] k once = tt
once_removed (p ∷ pairs) k once = step (nat_eq k p.0) refl (once_removed pairs k once.1)
  where
    step : (b : Bool) → nat_eq k p.0 ≡ b → StandsOnce (shift_remove_entry (nat_eq k) pairs) → StandsOnce (cond b pairs (p ∷ shift_remove_entry (nat_eq k) pairs))
    step true h rest = once.1
    step false h rest = (version_removed pairs p.0 k once.1 ∙ (ap (λ b. cond b None (version_of p.0 pairs)) h ∙ once.0), rest)

-- ---- one entry
version_after : (outcome : Outcome) (k q : ℕ) (pairs : List (ℕ × ℕ)) → StandsOnce pairs → version_of q (listed_after outcome k pairs) ≡ cond (nat_eq k q) (done_version_after outcome (version_of q pairs)) (version_of q pairs)
version_after (StageOk Open v) k q pairs once = version_insert pairs q k v
version_after (StageOk Drop v) k q pairs once = version_removed pairs q k once
version_after (StageOk stage v) k q pairs once = same_either_way (nat_eq k q) (version_of q pairs)
version_after outcome k q pairs once = same_either_way (nat_eq k q) (version_of q pairs)

once_after : (outcome : Outcome) (k : ℕ) (pairs : List (ℕ × ℕ)) → StandsOnce pairs → StandsOnce (listed_after outcome k pairs)
once_after (StageOk Open v) k pairs once = once_inserted pairs k v once
once_after (StageOk Drop v) k pairs once = once_removed pairs k once
once_after (StageOk stage v) k pairs once = once
once_after outcome k pairs once = once

done_more : (r : Option Backup) (ds : List Deed) (d : Deed) (b : Bool) (x : Option ℕ) → x ≡ option_map (λ s. s.version) (done r ds)
    → cond b (done_version_after d.outcome x) x ≡ option_map (λ s. s.version) (done r (if b then d ∷ ds else ds))
done_more r ds d true x is = ap (done_version_after d.outcome) is ∙ done_same r ds d.outcome (done r ds)
done_more r ds d false x is = is

-- The question whether the program may end changes no backup.
pub unlisted : (unsafe : Option ℕ) (outcome : Outcome) (c : ℕ) (was : List (ℕ × ℕ)) → quit_row unsafe outcome ≡ true → listed_after outcome c was ≡ was
unlisted unsafe MayQuit c was h = refl
unlisted unsafe (Vetoed d) c was h = refl
unlisted unsafe (StageOk stage v) c was h = absurd cc
unlisted unsafe _ c was h = refl

module _ (o : Opening) (e : Entry) (es : List Entry) (pairs : List (ℕ × ℕ)) (lists : ListsDone o es pairs) where
  of_one : ((q : ℕ) → is_of q e.event ≡ nat_eq (res_of e.event) q) → ListsDone o (e ∷ es) (listed_after e.outcome (res_of e.event) pairs)
  of_one named = record {
    once = once_after e.outcome (res_of e.event) pairs lists.once;
    versions = λ q.
        let d : Deed = deed (length es + 1) e.event e.outcome e.content in
        version_after e.outcome (res_of e.event) q pairs lists.once
        ∙ (done_more (restored_at o q) (own q es) d (nat_eq (res_of e.event) q) (version_of q pairs) (lists.versions q)
        ∙ ap (λ b. option_map (λ s. s.version) (done (restored_at o q) (if b then d ∷ own q es else own q es))) (sym (named q)));
  }

  of_none : ((q : ℕ) → is_of q e.event ≡ false) → listed_after e.outcome (res_of e.event) pairs ≡ pairs → ListsDone o (e ∷ es) (listed_after e.outcome (res_of e.event) pairs)
  of_none named same = record {
    once = subst StandsOnce (sym same) lists.once;
    versions = λ q.
        let d : Deed = deed (length es + 1) e.event e.outcome e.content in
        ap (version_of q) same
        ∙ (lists.versions q
        ∙ ap (λ b. option_map (λ s. s.version) (done (restored_at o q) (if b then d ∷ own q es else own q es))) (sym (named q)));
  }

  lists_more : (event : Event) → e.event ≡ event → is_legal o (e ∷ es) ≡ true → ListsDone o (e ∷ es) (listed_after e.outcome (res_of e.event) pairs)
  lists_more (Act command) is legal = of_one (λ q. ap (is_of q) is ∙ ap (λ x. nat_eq (res_of x) q) (sym is))
  lists_more (Vault c) is legal = of_one (λ q. ap (is_of q) is ∙ ap (λ x. nat_eq (res_of x) q) (sym is))
  lists_more (Flush c) is legal = of_one (λ q. ap (is_of q) is ∙ ap (λ x. nat_eq (res_of x) q) (sym is))
  lists_more Quit is legal =
      of_none (λ q. ap (is_of q) is) (unlisted (lowest o (is_unsafe o es)) e.outcome (res_of e.event) pairs
      (subst (λ (x : Event). is_row o es x e.outcome ≡ true) is (row_holds o e es legal)))

-- The list after legal entries says which backups are completed, where it does so at the opening.
pub lists_done : (o : Opening) (first : List (ℕ × ℕ)) (es : List Entry) → ListsDone o [] first → is_legal o es ≡ true → ListsDone o es (listed first es)
lists_done o first [] starts legal = starts
lists_done o first (e ∷ es) starts legal = lists_more o e es (listed first es) (lists_done o first es starts (past_legal o e es legal)) e.event refl legal

-- ---- the opening
-- what stands at the place that was found is the resource
place_from : (names : List (List ℕ)) (resource : List ℕ) (i k : ℕ) → position_from (is_named resource) i names ≡ Some k → (j : ℕ) × ((k ≡ i + j) × (slice_get names j ≡ Some resource))
place_from [] resource i k at = absurd cc
place_from (x ∷ names) resource i k at = step (bytes_eq x resource) refl at (place_from names resource (i + 1) k)
  where
    step : (b : Bool) → bytes_eq x resource ≡ b → cond b (Some i) (position_from (is_named resource) (i + 1) names) ≡ Some k
        → (position_from (is_named resource) (i + 1) names ≡ Some k → (j : ℕ) × ((k ≡ (i + 1) + j) × (slice_get names j ≡ Some resource)))
        → (j : ℕ) × ((k ≡ i + j) × (slice_get (x ∷ names) j ≡ Some resource))
    step true h found later = let d = bytes_eq-Decides x resource in let e : i ≡ k = cc in (zero, (omega (arith, e), ap Some (d.0 h)))
    step false h found later = let rest = later found in let is = rest.1 in (suc rest.0, (omega (arith, is.0), is.1))

place_is : (names : List (List ℕ)) (resource : List ℕ) (k : ℕ) → place_of resource names ≡ Some k → slice_get names k ≡ Some resource
place_is names resource k at =
    let found = place_from names resource 0 k at in
    let is = found.1 in
    let e : found.0 ≡ k = omega (arith, is.0) in
    subst (λ (j : ℕ). slice_get names j ≡ Some resource) e is.1

-- what a list has of the resource that stands there, with these pairs still to come
abbrev item_of : Option (List ℕ) → List PairFound → Option ℕ → Option ℕ
item_of None pairs was = was
item_of (Some name) pairs was = if is_some (found_backup name pairs) then Some 1 else was

item_found : (names : List (List ℕ)) (c : ℕ) (b : Backup) (pairs : List PairFound) (was : List (ℕ × ℕ)) (name : Option (List ℕ)) (place : Option ℕ) → ArePlaced names
    → slice_get names c ≡ name → place_of b.resource names ≡ place → (side : Side)
    → item_of name pairs (version_of c (with_first place was)) ≡ item_of name (Found b side ∷ pairs) (version_of c was)
item_found names c b pairs was None None placed at found side = refl
item_found names c b pairs was None (Some k) placed at found side =
    version_insert was c k 1 ∙ ap (λ t. cond t (Some 1) (version_of c was)) (other (nat_eq k c) refl)
  where
    number : (a b : ℕ) → nat_eq a b ≡ true → a ≡ b
    number a b h = grind (arith, nat_tests)

    other : (t : Bool) → nat_eq k c ≡ t → t ≡ false
    other true h = let e = place_is names b.resource k found in let g : Some b.resource ≡ None = sym e ∙ (ap (slice_get names) (number k c h) ∙ at) in absurd cc
    other false h = refl
item_found names c b pairs was (Some name) place placed at found side = step (bytes_eq b.resource name) refl
  where
    raised : (x t : Bool) → t ≡ true → (if x then Some 1 else cond t (Some 1) (version_of c was)) ≡ Some 1
    raised true t is = refl
    raised false true is = refl
    raised false false is = absurd cc

    number : (a b : ℕ) → nat_eq a b ≡ true → a ≡ b
    number a b h = grind (arith, nat_tests)

    same : (a : ℕ) → nat_eq a a ≡ true
    same a = grind (arith, nat_tests)

    here : (p : Option ℕ) → place_of b.resource names ≡ p → b.resource ≡ name → (if is_some (found_backup name pairs) then Some 1 else version_of c (with_first p was)) ≡ Some 1
    here None is e = let g : Some c ≡ None = sym (placed c name at) ∙ (ap (λ n. place_of n names) (sym e) ∙ is) in absurd cc
    here (Some k) is e =
        let g : Some k ≡ Some c = sym is ∙ (ap (λ n. place_of n names) e ∙ placed c name at) in
        let n : k ≡ c = cc in
        ap (λ x. if is_some (found_backup name pairs) then Some 1 else x) (version_insert was c k 1)
        ∙ raised (is_some (found_backup name pairs)) (nat_eq k c) (ap (λ j. nat_eq j c) n ∙ same c)

    there : (p : Option ℕ) → place_of b.resource names ≡ p → bytes_eq b.resource name ≡ false → version_of c (with_first p was) ≡ version_of c was
    there None is h = refl
    there (Some k) is h = version_insert was c k 1 ∙ ap (λ t. cond t (Some 1) (version_of c was)) (other (nat_eq k c) refl)
      where
        other : (t : Bool) → nat_eq k c ≡ t → t ≡ false
        other true g =
            let e : Some b.resource ≡ Some name = sym (place_is names b.resource k is) ∙ (ap (slice_get names) (number k c g) ∙ at) in
            let n : b.resource ≡ name = cc in
            let d = bytes_eq-Decides b.resource name in
            let yes = d.1 n in
            absurd cc
        other false g = refl

    step : (t : Bool) → bytes_eq b.resource name ≡ t → item_of (Some name) pairs (version_of c (with_first place was)) ≡ (if is_some (if t then Some b else found_backup name pairs) then Some 1 else version_of c was)
    step true h = let d = bytes_eq-Decides b.resource name in here place found (d.0 h)
    step false h = ap (λ x. if is_some (found_backup name pairs) then Some 1 else x) (there place found h)

item_first : (names : List (List ℕ)) (c : ℕ) (pairs : List PairFound) (was : List (ℕ × ℕ)) → ArePlaced names → version_of c (first_of names pairs was) ≡ item_of (slice_get names c) pairs (version_of c was)
item_first names c [] was placed = none (slice_get names c)
  where
    none : (name : Option (List ℕ)) → version_of c was ≡ item_of name [] (version_of c was)
    none None = refl
    none (Some name) = refl
item_first names c (Found b side ∷ pairs) was placed =
    item_first names c pairs (with_first (place_of b.resource names) was) placed
    ∙ item_found names c b pairs was (slice_get names c) (place_of b.resource names) placed refl refl side
item_first names c (Empty ∷ pairs) was placed = item_first names c pairs was placed ∙ passed (slice_get names c)
  where
    passed : (name : Option (List ℕ)) → item_of name pairs (version_of c was) ≡ item_of name (Empty ∷ pairs) (version_of c was)
    passed None = refl
    passed (Some name) = refl
item_first names c (Damaged ∷ pairs) was placed = item_first names c pairs was placed ∙ passed (slice_get names c)
  where
    passed : (name : Option (List ℕ)) → item_of name pairs (version_of c was) ≡ item_of name (Damaged ∷ pairs) (version_of c was)
    passed None = refl
    passed (Some name) = refl
item_first names c (Twin p ∷ pairs) was placed = item_first names c pairs was placed ∙ passed (slice_get names c)
  where
    passed : (name : Option (List ℕ)) → item_of name pairs (version_of c was) ≡ item_of name (Twin p ∷ pairs) (version_of c was)
    passed None = refl
    passed (Some name) = refl

once_first : (names : List (List ℕ)) (pairs : List PairFound) (was : List (ℕ × ℕ)) → StandsOnce was → StandsOnce (first_of names pairs was)
once_first names [] was once = once
once_first names (Found b side ∷ pairs) was once = once_first names pairs (with_first (place_of b.resource names) was) (added (place_of b.resource names))
  where
    added : (place : Option ℕ) → StandsOnce (with_first place was)
    added None = once
    added (Some k) = once_inserted was k 1 once
once_first names (Empty ∷ pairs) was once = once_first names pairs was once
once_first names (Damaged ∷ pairs) was once = once_first names pairs was once
once_first names (Twin p ∷ pairs) was once = once_first names pairs was once

restored_is : (f : List ℕ → Option Backup) (names : List (List ℕ)) (c : ℕ) → slice_index_or (map f names) c None ≡ (elim (slice_get names c) [ None ↦ None | Some name ↦ f name ])
restored_is f [] c = refl
restored_is f (x ∷ names) zero = refl
restored_is f (x ∷ names) (suc c) = restored_is f names c

done_first : (pairs : List PairFound) (name : Option (List ℕ)) → item_of name pairs None ≡ option_map (λ s. s.version) (done (elim name [ None ↦ None | Some n ↦ found_backup n pairs ]) [])
done_first pairs None = refl
done_first pairs (Some name) = by (found_backup name pairs)
  where
    by : (r : Option Backup) → (if is_some r then Some 1 else None) ≡ option_map (λ s. s.version) (done r [])
    by None = refl
    by (Some b) = refl

-- At the opening the list has each restored resource, with the version 1 of its copy.
pub lists_first : (o : Opening) (names : List (List ℕ)) (pairs : List PairFound) → ArePlaced names → o.restored ≡ map (λ name. found_backup name pairs) names → ListsDone o [] (first_of names pairs [])
lists_first o names pairs placed is = record {
  once = once_first names pairs [] tt;
  versions = λ c.
      item_first names c pairs [] placed
      ∙ (done_first pairs (slice_get names c)
      ∙ ap (λ r. option_map (λ s. s.version) (done r [])) (sym (ap (λ rs. slice_index_or rs c None) is ∙ restored_is (λ name. found_backup name pairs) names c)));
}

-- ---- the walk over the names
-- each of the first names is found at its own number
abbrev pub PlacedBelow : List (List ℕ) → ℕ → Type 0
PlacedBelow names i = (k : ℕ) (name : List ℕ) → k < i → slice_get names k ≡ Some name → place_of name names ≡ Some k

pub placed_more : (names : List (List ℕ)) (i : ℕ) (text : List ℕ) → slice_get names i ≡ Some text → place_of text names ≡ Some i → PlacedBelow names i → PlacedBelow names (i + 1)
placed_more names i text at found placed k name less got = step (nat_lt k i) refl
  where
    below : nat_lt k i ≡ true → k < i
    below h = grind (arith, nat_tests)

    last : nat_lt k i ≡ false → i ≡ k
    last h = grind (arith, nat_tests, less)

    step : (b : Bool) → nat_lt k i ≡ b → place_of name names ≡ Some k
    step true h = placed k name (below h) got
    step false h =
        let e : i ≡ k = last h in
        let same : Some text ≡ Some name = sym at ∙ (ap (slice_get names) e ∙ got) in
        let is : text ≡ name = cc in
        ap (λ n. place_of n names) (sym is) ∙ (found ∙ ap Some e)

there_below : (names : List (List ℕ)) (k : ℕ) (name : List ℕ) → slice_get names k ≡ Some name → k < length names
there_below [] k name at = absurd cc
there_below (x ∷ names) zero name at = omega arith
there_below (x ∷ names) (suc k) name at = omega (arith, there_below names k name at)

pub placed_all : (names : List (List ℕ)) (i : ℕ) → length names ≤ i → PlacedBelow names i → ArePlaced names
placed_all names i le placed k name at = placed k name (omega (arith, le, there_below names k name at)) at
