-- One entry more, and the whole history.
use Rattle.std.specs.Prelude.{◌≡◌, ℕ, zero, suc, ◌+◌, ◌==◌, ◌<◌, ◌≤◌, Bool, true, false, List, [], ◌∷◌, ◌++◌, length, map, if◌then◌else◌, Option, Some, None, is_some, slice_get, slice_index_or, refl}
use Rattle.std.proofs.Common.{ap, sym, ◌∙◌, subst, arith, cond, append_assoc, append-nil}
use Rattle.std.proofs.lemmas.Bool.Decides.{nat_tests}
use Rattle.std.proofs.lemmas.Option.{slice_get_within}
use Rattle.std.proofs.Math.ListN.{set}
use Rattle.hx_events.specs.declared.backup.Backup.{Backup}
use Rattle.hx_events.specs.declared.backup.PairFound.{PairFound}
use Rattle.hx_events.specs.declared.event.Command.TheVariants.{Save}
use Rattle.hx_events.specs.declared.event.Event.{Event}
use Rattle.hx_events.specs.declared.event.Event.TheVariants.{Act, Vault, Flush, Quit}
use Rattle.hx_events.specs.declared.life.Entry.{Entry}
use Rattle.hx_events.specs.declared.life.Life.{Life}
use Rattle.hx_events.specs.declared.outcome.Outcome.{Outcome}
use Rattle.hx_events.specs.Texts.{resource_of, name_of}
use Rattle.hx_rules.specs.Entries.{Deed, deed, own, is_of, past}
use Rattle.hx_rules.specs.Copies.{dirty}
use Rattle.hx_rules.specs.Saves.{answer, save_steps, standing}
use Rattle.hx_rules.specs.Legal.{Opening, opening_of, restored_at, found_backup, count_below}
use Rattle.hx_report.specs.declared.outline.Outline.{Outline}
use Rattle.hx_report.specs.declared.share.Share.{Share}
use Rattle.hx_report.specs.declared.tally.Tally.{Tally}
use Rattle.hx_report.specs.declared.tally.Ticket.{Ticket}
use Rattle.hx_report.specs.Saves.{answers_of}
use Rattle.hx_report.specs.Tails.{is_refused, save_of, ticket_of, ticket_line, line_of_ticket, ticket_lines, copy_lines, opening, tail_text}
use Rattle.hx_report.specs.Summaries.{dirty_copies}
use Rattle.hx_report.specs.Outlines.{AreSavesBelow, AreUpTo, IsTallied, answer_at, answer_by, dirty_in, ended_at, first_outline, line_if, line_of_outline, named, outline, outline_after, outline_lines, share_by, ticket, ticket_if, tickets_of, tickets_text, tickets_with}
use Rattle.hx_rules_laws.specs.Frames.{adds_deed, leaves_others, same_number}
use Rattle.hx_rules_laws.specs.SaveLaws.{own_up_to, ticket_is_new}
use Rattle.hx_report.proofs.Saving.{share_in, answer_is, new_shares_nothing, share_stays, share_here}
use Rattle.hx_report.proofs.Outlining.{first_is, outline_step}

-- ---- whose an event is
pub is_own : (event : Event) (c : ℕ) → named event ≡ Some c → is_of c event ≡ true
is_own (Act command) c h = let e : resource_of command ≡ c = cc in grind (arith, nat_tests)
is_own (Vault r) c h = let e : r ≡ c = cc in grind (arith, nat_tests)
is_own (Flush r) c h = let e : r ≡ c = cc in grind (arith, nat_tests)
is_own Quit c h = absurd cc

pub is_other : (event : Event) (c k : ℕ) → named event ≡ Some c → (k == c) ≡ false → is_of k event ≡ false
is_other (Act command) c k h other = let e : resource_of command ≡ c = cc in grind (arith, nat_tests)
is_other (Vault r) c k h other = let e : r ≡ c = cc in grind (arith, nat_tests)
is_other (Flush r) c k h other = let e : r ≡ c = cc in grind (arith, nat_tests)
is_other Quit c k h other = absurd cc

pub is_nobodys : (event : Event) (k : ℕ) → named event ≡ None → is_of k event ≡ false
is_nobodys (Act command) k h = absurd cc
is_nobodys (Vault r) k h = absurd cc
is_nobodys (Flush r) k h = absurd cc
is_nobodys Quit k h = refl

saves_own : (event : Event) (c k : ℕ) → named event ≡ Some c → save_of event ≡ Some k → k ≡ c
saves_own (Act (Save r force over)) c k h i = cc
saves_own (Act _) c k h i = absurd cc
saves_own (Vault r) c k h i = absurd cc
saves_own (Flush r) c k h i = absurd cc
saves_own Quit c k h i = absurd cc

saves_none : (event : Event) (k : ℕ) → named event ≡ None → save_of event ≡ Some k → ⊥
saves_none (Act _) k h i = absurd cc
saves_none (Vault r) k h i = absurd cc
saves_none (Flush r) k h i = absurd cc
saves_none Quit k h i = absurd cc

-- the ticket of an event of the resource c
ticket_own : (event : Event) (outcome : Outcome) (place c : ℕ) (ended : ℕ → ℕ) → named event ≡ Some c
    → tickets_with place outcome ended (ticket_of event outcome) ≡ ticket_if (is_some (ticket_of event outcome)) (ticket place c (share_by outcome (ended c)))
ticket_own event outcome place c ended h = step (is_refused outcome) event h
  where
    step : (b : Bool) (event : Event) → named event ≡ Some c
        → tickets_with place outcome ended (if b then None else save_of event) ≡ ticket_if (is_some (if b then None else save_of event)) (ticket place c (share_by outcome (ended c)))
    step true event h = refl
    step false (Act (Save r force over)) h = let e : r ≡ c = cc in ap (λ k. ticket place k (share_by outcome (ended k)) ∷ []) e
    step false (Act _) h = refl
    step false (Vault r) h = refl
    step false (Flush r) h = refl
    step false Quit h = refl

ticket_nobodys : (event : Event) (outcome : Outcome) → named event ≡ None → ticket_of event outcome ≡ None
ticket_nobodys event outcome h = step (is_refused outcome) event h
  where
    step : (b : Bool) (event : Event) → named event ≡ None → (if b then None else save_of event) ≡ None
    step true event h = refl
    step false (Act _) h = absurd cc
    step false (Vault r) h = refl
    step false (Flush r) h = refl
    step false Quit h = refl

-- ---- one item put anew
pub set_get : {A : Type 0} (xs : List A) (i k : ℕ) (x y : A) → slice_get (set xs i x) k ≡ Some y → (k == i) ≡ true → y ≡ x
set_get [] i k x y h same = absurd cc
set_get (z ∷ zs) zero zero x y h same = cc
set_get (z ∷ zs) zero (suc k) x y h same = absurd (let e : suc k ≡ zero = same_number (suc k) zero same in omega (arith, e))
set_get (z ∷ zs) (suc i) zero x y h same = absurd (let e : zero ≡ suc i = same_number zero (suc i) same in omega (arith, e))
set_get (z ∷ zs) (suc i) (suc k) x y h same = set_get zs i k x y h (let e : suc k ≡ suc i = same_number (suc k) (suc i) same in grind (arith, nat_tests))

pub set_other : {A : Type 0} (xs : List A) (i k : ℕ) (x y : A) → slice_get (set xs i x) k ≡ Some y → (k == i) ≡ false → slice_get xs k ≡ Some y
set_other [] i k x y h other = absurd cc
set_other (z ∷ zs) zero zero x y h other = absurd cc
set_other (z ∷ zs) zero (suc k) x y h other = h
set_other (z ∷ zs) (suc i) zero x y h other = h
set_other (z ∷ zs) (suc i) (suc k) x y h other = set_other zs i k x y h (grind (arith, nat_tests))

pub set_length : {A : Type 0} (xs : List A) (i : ℕ) (x : A) → length (set xs i x) ≡ length xs
set_length [] i x = refl
set_length (z ∷ zs) zero x = refl
set_length (z ∷ zs) (suc i) x = ap suc (set_length zs i x)

pub grows : (b : Bool) (n m : ℕ) → n ≤ m → (if b then n + 1 else n) ≤ m + 1
grows true n m le = omega (arith, le)
grows false n m le = omega (arith, le)

-- one outline that grew by a version at most
pub up_to_more : (n c : ℕ) (xs : List Outline) (x y : Outline) (b : Bool) → AreUpTo n xs → slice_get xs c ≡ Some x → y.last ≡ (if b then x.last + 1 else x.last) → AreUpTo (n + 1) (set xs c y)
up_to_more n c xs x y b all at is k z h = step (k == c) refl
  where
    step : (same : Bool) → (k == c) ≡ same → z.last ≤ n + 1
    step true same = subst (λ (w : Outline). w.last ≤ n + 1) (sym (set_get xs c k y z h same)) (subst (λ m. m ≤ n + 1) (sym is) (grows b x.last n (all c x at)))
    step false other = omega (arith, all k z (set_other xs c k y z h other))

pub up_to_later : (n : ℕ) (xs : List Outline) → AreUpTo n xs → AreUpTo (n + 1) xs
up_to_later n xs all k x h = omega (arith, all k x h)

saves_below : (n m : ℕ) (es : List Entry) → n ≡ m → AreSavesBelow n es → AreSavesBelow m es
saves_below n m es is all = subst (λ k. AreSavesBelow k es) is all

-- ---- one entry more
pub tallied_more : (o : Opening) (e : Entry) (es : List Entry) (t next : Tally) (c : ℕ) (x y : Outline)
    → named e.event ≡ Some c → c < length t.outlines.items → slice_get t.outlines.items c ≡ Some x → y ≡ outline_after e.event e.outcome x
    → next.outlines.items ≡ set t.outlines.items c y
    → next.tickets.items ≡ t.tickets.items ++ ticket_if (is_some (ticket_of e.event e.outcome)) (ticket (length es + 1) c (share_by e.outcome (length x.saves.answers)))
    → IsTallied o es t → IsTallied o (e ∷ es) next
tallied_more o e es t next c x y own_is within at after outlines tickets was = record {
  each = each;
  tickets = tickets ∙ (ap (λ ts. ts ++ ticket_if (is_some (ticket_of e.event e.outcome)) (ticket (length es + 1) c (share_by e.outcome (length x.saves.answers)))) was.tickets
      ∙ (ap (λ (z : Outline). tickets_of o es ++ ticket_if (is_some (ticket_of e.event e.outcome)) (ticket (length es + 1) c (share_by e.outcome (length z.saves.answers)))) (was.each c x at)
      ∙ ap (λ ts. tickets_of o es ++ ts) (sym (ticket_own e.event e.outcome (length es + 1) c (ended_at o es) own_is))));
  known = (λ k h. subst (λ n. k < n) (sym count) (subst (λ i. i < length t.outlines.items) (sym (saves_own e.event c k own_is h)) within), saves_below (length t.outlines.items) (length next.outlines.items) es (sym count) was.known);
}
  where
    count : length next.outlines.items ≡ length t.outlines.items
    count = ap length outlines ∙ set_length t.outlines.items c y

    mine : y ≡ outline (restored_at o c) (own c (e ∷ es))
    mine = after ∙ (ap (outline_after e.event e.outcome) (was.each c x at)
        ∙ (outline_step (restored_at o c) (length es + 1) e.event e.outcome e.content (own c es)
        ∙ ap (outline (restored_at o c)) (sym (adds_deed c e es (is_own e.event c own_is)))))

    each_of : (k : ℕ) (z : Outline) (same : Bool) → (k == c) ≡ same → slice_get (set t.outlines.items c y) k ≡ Some z → z ≡ outline (restored_at o k) (own k (e ∷ es))
    each_of k z true same h = set_get t.outlines.items c k y z h same ∙ (mine ∙ ap (λ i. outline (restored_at o i) (own i (e ∷ es))) (sym (same_number k c same)))
    each_of k z false other h =
        was.each k z (set_other t.outlines.items c k y z h other)
        ∙ ap (outline (restored_at o k)) (sym (leaves_others k e es (is_other e.event c k own_is other)))

    each : (k : ℕ) (z : Outline) → slice_get next.outlines.items k ≡ Some z → z ≡ outline (restored_at o k) (own k (e ∷ es))
    each k z h = each_of k z (k == c) refl (subst (λ (xs : List Outline). slice_get xs k ≡ Some z) outlines h)

-- a question whether the program may end is of no resource
pub tallied_past : (o : Opening) (e : Entry) (es : List Entry) (t : Tally) → named e.event ≡ None → IsTallied o es t → IsTallied o (e ∷ es) t
tallied_past o e es t nobodys was = record {
  each = λ k z h. was.each k z h ∙ ap (outline (restored_at o k)) (sym (leaves_others k e es (is_nobodys e.event k nobodys)));
  tickets = was.tickets ∙ (sym (append-nil (tickets_of o es)) ∙ ap (λ (c : Option ℕ). tickets_of o es ++ tickets_with (length es + 1) e.outcome (ended_at o es) c) (sym (ticket_nobodys e.event e.outcome nobodys)));
  known = (λ k h. absurd (saves_none e.event k nobodys h), was.known);
}

-- ---- the opening
pub restored_is : (names : List (List ℕ)) (pairs : List PairFound) (k : ℕ) → k < length names → slice_index_or (map (λ name. found_backup name pairs) names) k None ≡ found_backup (name_of names k) pairs
restored_is [] pairs k lt = absurd (omega (arith, lt))
restored_is (name ∷ names) pairs zero lt = refl
restored_is (name ∷ names) pairs (suc k) lt = restored_is names pairs k (omega (arith, lt))

pub tallied_first : (names : List (List ℕ)) (pairs : List PairFound) (guarded : Bool) (t : Tally) → length t.outlines.items ≡ length names
    → ((k : ℕ) (x : Outline) → slice_get t.outlines.items k ≡ Some x → x ≡ first_outline (is_some (found_backup (name_of names k) pairs)))
    → t.tickets.items ≡ [] → IsTallied (opening_of names pairs guarded) [] t
tallied_first names pairs guarded t count first none = record {
  each = λ k x h.
      first k x h ∙ (first_is (found_backup (name_of names k) pairs)
      ∙ ap (λ (r : Option Backup). outline r []) (sym (restored_is names pairs k (omega (arith, slice_get_within t.outlines.items k x h, count)))));
  tickets = none;
  known = tt;
}

first_up_to : (b : Bool) → (first_outline b).last ≤ 1
first_up_to true = omega arith
first_up_to false = omega arith

pub first_are_up_to : (xs : List Outline) (test : ℕ → Bool) → ((k : ℕ) (x : Outline) → slice_get xs k ≡ Some x → x ≡ first_outline (test k)) → AreUpTo 1 xs
first_are_up_to xs test first k x h = subst (λ (z : Outline). z.last ≤ 1) (sym (first k x h)) (first_up_to (test k))

-- ---- the lines
pub item_at : {A : Type 0} (xs : List A) (c : ℕ) → c < length xs → (x : A) × (slice_get xs c ≡ Some x)
item_at [] c lt = absurd (omega (arith, lt))
item_at (x ∷ xs) zero lt = (x, refl)
item_at (x ∷ xs) (suc c) lt = item_at xs c (omega (arith, lt))

module _ (o : Opening) (names : List (List ℕ)) (whole : List Entry) (xs : List Outline) (each : (k : ℕ) (x : Outline) → slice_get xs k ≡ Some x → x ≡ outline (restored_at o k) (own k whole)) where
  pub copies_are : (n : ℕ) → n ≤ length xs → outline_lines names xs n ≡ copy_lines o names whole n
  copies_are zero le = refl
  copies_are (suc c) le =
      let here = item_at xs c (omega (arith, le)) in
      (λ j. copies_are c (omega (arith, le)) j ++ line_if (name_of names c) (here.1 j))
      ∙ ap (λ (x : Outline). copy_lines o names whole c ++ line_of_outline (name_of names c) x) (each c here.0 here.1)

  pub dirty_are : (n : ℕ) → n ≤ length xs → count_below (dirty_in xs) n ≡ count_below (λ c. dirty (restored_at o c) (own c whole)) n
  dirty_are zero le = refl
  dirty_are (suc c) le =
      let here = item_at xs c (omega (arith, le)) in
      let same : dirty_in xs c ≡ dirty (restored_at o c) (own c whole) =
      ap (λ (x : Option Outline). elim x [ None ↦ false | Some y ↦ dirty_in (y ∷ []) 0 ]) here.1 ∙ ap (λ (x : Outline). dirty_in (x ∷ []) 0) (each c here.0 here.1) in
      (λ j. (if same j then 1 else 0) + dirty_are c (omega (arith, le)) j)

  answer_at_is : (c place : ℕ) (share : Share) → c < length xs → share_in place (save_steps (restored_at o c) (own c whole)) ≡ share
      → answer_at xs c share ≡ answer place (save_steps (restored_at o c) (own c whole))
  answer_at_is c place share lt is =
      let here = item_at xs c lt in
      ap (λ (x : Option Outline). elim x [ None ↦ None | Some y ↦ answer_by y.saves.answers share ]) here.1
      ∙ (ap (λ (x : Outline). answer_by x.saves.answers share) (each c here.0 here.1)
      ∙ (ap (answer_by (answers_of (save_steps (restored_at o c) (own c whole)))) (sym is)
      ∙ sym (answer_is place (save_steps (restored_at o c) (own c whole)))))

longer : (later es : List Entry) → length es ≤ length (later ++ es)
longer [] es = omega arith
longer (e ∷ later) es = omega (arith, longer later es)

apart : (n m : ℕ) → m < n → (n == m) ≡ false
apart n m lt = grind (arith, nat_tests)

-- entries behind it leave whose answer a ticket shares
share_at_last : (o : Opening) (c place : ℕ) (later es : List Entry) → place ≤ length es
    → share_in place (save_steps (restored_at o c) (own c (later ++ es))) ≡ share_in place (save_steps (restored_at o c) (own c es))
share_at_last o c place [] es le = refl
share_at_last o c place (e ∷ later) es le = step (is_of c e.event) (share_at_last o c place later es le)
  where
    step : (b : Bool) → share_in place (save_steps (restored_at o c) (own c (later ++ es))) ≡ share_in place (save_steps (restored_at o c) (own c es))
        → share_in place (save_steps (restored_at o c) (cond b (deed (length (later ++ es) + 1) e.event e.outcome e.content ∷ own c (later ++ es)) (own c (later ++ es)))) ≡ share_in place (save_steps (restored_at o c) (own c es))
    step true ih = share_stays e.outcome e.event place (length (later ++ es) + 1) _ _ _ (save_steps (restored_at o c) (own c (later ++ es))) (apart (length (later ++ es) + 1) place (omega (arith, le, longer later es))) ∙ ih
    step false ih = ih

-- a request shares by its outcome
share_of_request : (o : Opening) (c : ℕ) (force over : Bool) (e : Entry) (es : List Entry) → e.event ≡ Act (Save c force over)
    → share_in (length es + 1) (save_steps (restored_at o c) (own c (e ∷ es))) ≡ share_by e.outcome (ended_at o es c)
share_of_request o c force over e es is =
    let mine : is_of c e.event ≡ true = ap (is_of c) is ∙ same c in
    let none : standing (length es + 1) (save_steps (restored_at o c) (own c es)) ≡ None = ticket_is_new (restored_at o c) (own c es) (length es + 1) (length es) (omega arith) (own_up_to c es) in
    ap (λ (ds : List Deed). share_in (length es + 1) (save_steps (restored_at o c) ds)) (adds_deed c e es mine ∙ ap (λ (event : Event). deed (length es + 1) event e.outcome e.content ∷ own c es) is)
    ∙ share_here e.outcome c (length es + 1) _ force over _ _ (save_steps (restored_at o c) (own c es)) (new_shares_nothing (length es + 1) (save_steps (restored_at o c) (own c es)) none)
  where
    same : (n : ℕ) → (n == n) ≡ true
    same n = grind (arith, nat_tests)

text_append : (xs : List Outline) (ts us : List Ticket) → tickets_text xs (ts ++ us) ≡ tickets_text xs ts ++ tickets_text xs us
text_append xs [] us = refl
text_append xs (t ∷ ts) us = ap (λ rest. ticket_line t.place (answer_at xs t.res t.share) ++ rest) (text_append xs ts us) ∙ sym (append_assoc (ticket_line t.place (answer_at xs t.res t.share)) (tickets_text xs ts) (tickets_text xs us))

module _ (o : Opening) (whole : List Entry) (xs : List Outline) (each : (k : ℕ) (x : Outline) → slice_get xs k ≡ Some x → x ≡ outline (restored_at o k) (own k whole)) where
  one_is : (later : List Entry) (e : Entry) (es : List Entry) → whole ≡ later ++ e ∷ es → ((c : ℕ) → save_of e.event ≡ Some c → c < length xs)
      → tickets_text xs (tickets_with (length es + 1) e.outcome (ended_at o es) (ticket_of e.event e.outcome)) ≡ line_of_ticket o whole (length es + 1) (ticket_of e.event e.outcome)
  one_is later e es is known = step (is_refused e.outcome) e.event refl
    where
      line : (c : ℕ) (force over : Bool) → e.event ≡ Act (Save c force over)
          → ticket_line (length es + 1) (answer_at xs c (share_by e.outcome (ended_at o es c))) ++ [] ≡ ticket_line (length es + 1) (answer (length es + 1) (save_steps (restored_at o c) (own c whole)))
      line c force over at =
          append-nil (ticket_line (length es + 1) (answer_at xs c (share_by e.outcome (ended_at o es c))))
          ∙ ap (ticket_line (length es + 1)) (answer_at_is o [] whole xs each c (length es + 1) (share_by e.outcome (ended_at o es c)) (known c (ap save_of at))
          (ap (λ (all : List Entry). share_in (length es + 1) (save_steps (restored_at o c) (own c all))) is
          ∙ (share_at_last o c (length es + 1) later (e ∷ es) (omega arith)
          ∙ share_of_request o c force over e es at)))

      step : (b : Bool) (event : Event) → e.event ≡ event
          → tickets_text xs (tickets_with (length es + 1) e.outcome (ended_at o es) (if b then None else save_of event)) ≡ line_of_ticket o whole (length es + 1) (if b then None else save_of event)
      step true event at = refl
      step false (Act (Save c force over)) at = line c force over at
      step false (Act _) at = refl
      step false (Vault r) at = refl
      step false (Flush r) at = refl
      step false Quit at = refl

  pub tickets_are : (later es : List Entry) → whole ≡ later ++ es → AreSavesBelow (length xs) es → tickets_text xs (tickets_of o es) ≡ ticket_lines o whole es
  tickets_are later [] is known = refl
  tickets_are later (e ∷ es) is known =
      text_append xs (tickets_of o es) (tickets_with (length es + 1) e.outcome (ended_at o es) (ticket_of e.event e.outcome))
      ∙ (λ j. tickets_are (later ++ e ∷ []) es (is ∙ sym (append_assoc later (e ∷ []) es)) known.1 j ++ one_is later e es is known.0 j)

-- ---- the whole
pub tail_is : (life : Life) (t : Tally) → length t.outlines.items ≡ length life.names → IsTallied (opening life) (past life.history) t
    → outline_lines life.names t.outlines.items (length life.names) ++ tickets_text t.outlines.items t.tickets.items ≡ tail_text life
unfolding tail_text
tail_is life t count was =
    let o = opening life in
    let whole : List Entry = past life.history in
    let xs = t.outlines.items in
    (λ j. copies_are o life.names whole xs was.each (length life.names) (omega (arith, count)) j
    ++ (ap (tickets_text xs) was.tickets ∙ tickets_are o whole xs was.each [] whole refl was.known) j)

pub dirty_is : (life : Life) (t : Tally) → length t.outlines.items ≡ length life.names → IsTallied (opening life) (past life.history) t
    → count_below (dirty_in t.outlines.items) (length t.outlines.items) ≡ dirty_copies life
dirty_is life t count was =
    dirty_are (opening life) life.names (past life.history) t.outlines.items was.each (length t.outlines.items) (omega arith)
    ∙ ap (count_below (λ c. dirty (restored_at (opening life) c) (own c (past life.history)))) count

-- one copy more
pub copies_next : (names : List (List ℕ)) (xs : List Outline) (i : ℕ) (name : List ℕ) (x : Outline) (old out next : List ℕ)
    → name_of names i ≡ name → slice_get xs i ≡ Some x → out ≡ old ++ outline_lines names xs i → next ≡ out ++ line_of_outline name x → next ≡ old ++ outline_lines names xs (i + 1)
copies_next names xs i name x old out next named_is at so_far put =
    let e : suc i ≡ i + 1 = omega arith in
    put ∙ (ap (λ (text : List ℕ). text ++ line_of_outline name x) so_far
    ∙ (append_assoc old (outline_lines names xs i) (line_of_outline name x)
    ∙ ((λ j. old ++ (outline_lines names xs i ++ line_if (sym named_is j) (sym at j)))
    ∙ ap (λ n. old ++ outline_lines names xs n) e)))
