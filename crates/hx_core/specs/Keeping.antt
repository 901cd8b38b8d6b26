-- One entry keeps what the core keeps.
use Rattle.std.specs.Prelude.{ℕ, zero, suc, ◌≡◌, ◌≢◌, ◌⊎◌, ◌+◌, ◌<◌, ◌≤◌, ◌==◌, nat_lt, Bool, true, false, ◌&&◌, ◌||◌, List, [], ◌∷◌, ◌++◌, length, Some, None, is_some, slice_get, if◌then◌else◌, refl, Option}
use Rattle.std.proofs.Common.{arith, ap, sym, ◌∙◌, subst, cond, inl, inr, ⊎_elim}
use Rattle.std.proofs.lemmas.Bool.Decides.{nat_tests}
use Rattle.std.proofs.lemmas.List.{length-reverse, get_or-set_same, get_or-set_other}
use Rattle.hx_events.specs.declared.event.Command.TheVariants.{Open, Create, Edit, Undo, Redo, Save, Revert, Close, Outside}
use Rattle.hx_events.specs.declared.event.Event.{Event}
use Rattle.hx_events.specs.declared.event.Event.TheVariants.{Act, Vault, Flush, Quit}
use Rattle.hx_events.specs.declared.life.Entry.{Entry}
use Rattle.hx_events.specs.declared.outcome.Outcome.{Outcome}
use Rattle.hx_events.specs.declared.outcome.Outcome.TheVariants.{Quit as MayQuit, Vetoed, Spent}
use Rattle.hx_rules.specs.Entries.{Deed, deed, own, past, is_of}
use Rattle.hx_rules.specs.Due.{due_vault, due_save}
use Rattle.hx_rules.specs.Legal.{quit_row, lowest, is_unsafe, Opening, restored_at, is_legal, is_row, lacks_pair, was_spent, is_spent, vault_due, save_due}
use Rattle.hx_rules_laws.specs.Frames.{newest_first, adds_deed, leaves_others}
use Rattle.hx_rules_laws.specs.Rows.{and_left}
use Rattle.hx_rules_laws.specs.SaveLaws.{own_up_to, ticket_is_new}
use Rattle.hx_seq.specs.Keeps.{stand_in}
use Rattle.hx_resource.specs.Kept.{Kept, ResourceState, kept_after}
use Rattle.hx_resource.specs.Rows.{row_kept, vault_due_kept, save_due_kept}
use Rattle.hx_resource.specs.Rooms.{IsKnown}
use Rattle.hx_resource_laws.specs.Fits.{Fits}
use Rattle.hx_resource_laws.specs.RowFits.{row_of, row_same, vault_due_same, save_due_same}
use Rattle.hx_resource.specs.Rooms.{IsRead}
use Rattle.hx_resource_laws.specs.RowAsks.{row_asks}
use Rattle.hx_resource_laws.specs.StepFits.{fits_after}
use Rattle.hx_tracker.specs.Index.{has_number}
use Rattle.hx_events.specs.declared.backup.Backup.{Backup}
use Rattle.hx_resource.specs.declared.asks.Got.{Got}
use Rattle.hx_resource.specs.Asks.{asks_kept, outcome_kept}
use Rattle.hx_resource_laws.specs.AskFits.{asks_of, given_of, outcome_of, asks_same, outcome_same}
use Rattle.hx_core.specs.Listed.{res_of, listed, listed_after}
use Rattle.hx_core.specs.ListedDone.{unlisted}
use Rattle.hx_core.specs.Cores.{IsCore, KeptOver, Indexes, named, takes_pair, asks_at, outcome_at}
use lib.ListN.{set}

is_of_known : (e : Event) → IsKnown e → is_of (res_of e) e ≡ true
is_of_known (Act command) known = grind (arith, nat_tests)
is_of_known (Vault c) known = grind (arith, nat_tests)
is_of_known (Flush c) known = grind (arith, nat_tests)
is_of_known Quit known = absurd known

is_of_other : (e : Event) (k : ℕ) → k ≢ res_of e → is_of k e ≡ false
is_of_other (Act command) k other = grind (arith, nat_tests)
is_of_other (Vault c) k other = grind (arith, nat_tests)
is_of_other (Flush c) k other = grind (arith, nat_tests)
is_of_other Quit k other = refl

-- the row of an event of one resource
pub row_is : (o : Opening) (es : List Entry) (e : Event) (outcome : Outcome) → IsKnown e
    → is_row o es e outcome ≡ row_of (restored_at o (res_of e)) o.guarded (lacks_pair o es (res_of e)) (was_spent es) (own (res_of e) es) e outcome
row_is o es (Act (Open c)) outcome known = refl
row_is o es (Act (Create c)) outcome known = refl
row_is o es (Act (Edit c off del text)) outcome known = refl
row_is o es (Act (Undo c)) outcome known = refl
row_is o es (Act (Redo c)) outcome known = refl
row_is o es (Act (Save c force over)) outcome known = refl
row_is o es (Act (Revert c)) outcome known = refl
row_is o es (Act (Close c)) outcome known = refl
row_is o es (Act (Outside c mtime text)) outcome known = refl
row_is o es (Vault c) outcome known = refl
row_is o es (Flush c) outcome known = refl
row_is o es Quit outcome known = absurd known

pub slice_get_set : {A : Type 0} (xs : List A) (i k : ℕ) (x y : A) → slice_get (set xs i x) k ≡ Some y → ((k ≡ i) × (y ≡ x)) ⊎ ((k ≢ i) × (slice_get xs k ≡ Some y))
slice_get_set [] i k x y h = absurd cc
slice_get_set (z ∷ zs) zero zero x y h = inl (refl, cc)
slice_get_set (z ∷ zs) zero (suc k) x y h = inr ((λ e. absurd (omega arith)), h)
slice_get_set (z ∷ zs) (suc i) zero x y h = inr ((λ e. absurd (omega arith)), h)
slice_get_set (z ∷ zs) (suc i) (suc k) x y h = ⊎_elim (λ a. inl (ap suc a.0, a.1)) (λ b. let n = b.0 in inr ((λ e. n (omega arith)), b.1)) (slice_get_set zs i k x y h)

pub length_set : {A : Type 0} (xs : List A) (i : ℕ) (x : A) → length (set xs i x) ≡ length xs
length_set [] i x = refl
length_set (z ∷ zs) zero x = refl
length_set (z ∷ zs) (suc i) x = ap suc (length_set zs i x)

-- one number is put in or taken out
abbrev pub put_at : ℕ → Bool → (ℕ → Bool) → ℕ → Bool
put_at i on index k = if k == i then on else index k

-- an index goes on: at the event's resource it is put anew, and what is due for another stays
index_step : (count n i : ℕ) (due new : ℕ → Bool) (index : ℕ → Bool) (on : Bool) → n ≡ count → i < count → on ≡ new i → ((k : ℕ) → k ≢ i → new k ≡ due k) → Indexes count due index → Indexes n new (put_at i on index)
index_step count n i due new index on same lt is others indexes k = step (k == i) refl
  where
    here : (k == i) ≡ true → on ≡ (nat_lt k n && new k)
    here h =
        let at : k ≡ i = number k i h in
        is ∙ (sym (ap (λ b. b && new i) (below i n (omega (arith, lt, same)))) ∙ ap (λ j. nat_lt j n && new j) (sym at))
      where
        number : (k i : ℕ) → (k == i) ≡ true → k ≡ i
        number k i h = grind (arith, nat_tests)

        below : (i n : ℕ) → i < n → nat_lt i n ≡ true
        below i n h = grind (arith, nat_tests)

    there : (k == i) ≡ false → index k ≡ (nat_lt k n && new k)
    there h = indexes k ∙ (ap (λ b. nat_lt k count && b) (sym (others k (apart k i h))) ∙ ap (λ m. nat_lt k m && new k) (sym same))
      where
        apart : (k i : ℕ) → (k == i) ≡ false → k ≢ i
        apart k i h = grind (arith, nat_tests)

    step : (b : Bool) → (k == i) ≡ b → cond b on (index k) ≡ (nat_lt k n && new k)
    step true h = here h
    step false h = there h

has_set : (xs : List Bool) (i : ℕ) (on : Bool) → i < length xs → (k : ℕ) → has_number (set xs i on) k ≡ put_at i on (has_number xs) k
has_set xs i on lt k = step (k == i) refl
  where
    number : (k == i) ≡ true → k ≡ i
    number h = grind (arith, nat_tests)

    apart : (k == i) ≡ false → k ≢ i
    apart h = grind (arith, nat_tests)

    step : (b : Bool) → (k == i) ≡ b → has_number (set xs i on) k ≡ cond b on (has_number xs k)
    step true h = ap (has_number (set xs i on)) (number h) ∙ get_or-set_same xs i on false lt
    step false h = get_or-set_other xs i k on false (apart h)

index_same : (count : ℕ) (due a b : ℕ → Bool) → ((k : ℕ) → a k ≡ b k) → Indexes count due b → Indexes count due a
index_same count due a b same indexes k = same k ∙ indexes k

place_is : (h : List Entry) → length (past h) ≡ length h
place_is h = length-reverse h

step_spent : (b spent was : Bool) → spent ≡ was → (spent || b) ≡ (b || was)
step_spent true true was is = refl
step_spent true false was is = refl
step_spent false true was is = is
step_spent false false was is = is

-- whether a resource lacks a pair matters to an open and a create alone
lacks_only : (r : Option Backup) (guarded lacks spent : Bool) (ds : List Deed) (event : Event) (outcome : Outcome) → row_of r guarded (takes_pair event && lacks) spent ds event outcome ≡ row_of r guarded lacks spent ds event outcome
lacks_only r guarded lacks spent ds (Act (Open c)) outcome = refl
lacks_only r guarded lacks spent ds (Act (Create c)) outcome = refl
lacks_only r guarded lacks spent ds (Act (Edit c off del text)) outcome = refl
lacks_only r guarded lacks spent ds (Act (Undo c)) outcome = refl
lacks_only r guarded lacks spent ds (Act (Redo c)) outcome = refl
lacks_only r guarded lacks spent ds (Act (Save c force over)) outcome = refl
lacks_only r guarded lacks spent ds (Act (Revert c)) outcome = refl
lacks_only r guarded lacks spent ds (Act (Close c)) outcome = refl
lacks_only r guarded lacks spent ds (Act (Outside c mtime text)) outcome = refl
lacks_only r guarded lacks spent ds (Vault c) outcome = refl
lacks_only r guarded lacks spent ds (Flush c) outcome = refl
lacks_only r guarded lacks spent ds Quit outcome = refl

asks_only : (r : Option Backup) (guarded lacks : Bool) (ds : List Deed) (event : Event) → asks_of r guarded (takes_pair event && lacks) ds event ≡ asks_of r guarded lacks ds event
asks_only r guarded lacks ds (Act (Open c)) = refl
asks_only r guarded lacks ds (Act (Create c)) = refl
asks_only r guarded lacks ds (Act (Edit c off del text)) = refl
asks_only r guarded lacks ds (Act (Undo c)) = refl
asks_only r guarded lacks ds (Act (Redo c)) = refl
asks_only r guarded lacks ds (Act (Save c force over)) = refl
asks_only r guarded lacks ds (Act (Revert c)) = refl
asks_only r guarded lacks ds (Act (Close c)) = refl
asks_only r guarded lacks ds (Act (Outside c mtime text)) = refl
asks_only r guarded lacks ds (Vault c) = refl
asks_only r guarded lacks ds (Flush c) = refl
asks_only r guarded lacks ds Quit = refl

asks_by_resource : (o : Opening) (es : List Entry) (e : Event) → IsKnown e → asks_at o es e ≡ asks_of (restored_at o (res_of e)) o.guarded (lacks_pair o es (res_of e)) (own (res_of e) es) e
asks_by_resource o es (Act command) known = refl
asks_by_resource o es (Vault c) known = refl
asks_by_resource o es (Flush c) known = refl
asks_by_resource o es Quit known = absurd known

outcome_by_resource : (o : Opening) (es : List Entry) (e : Event) (got : Got) → IsKnown e
    → outcome_at o es e got ≡ outcome_of (restored_at o (res_of e)) o.guarded (lacks_pair o es (res_of e)) (was_spent es) (own (res_of e) es) e got
outcome_by_resource o es (Act command) got known = refl
outcome_by_resource o es (Vault c) got known = refl
outcome_by_resource o es (Flush c) got known = refl
outcome_by_resource o es Quit got known = absurd known

-- Who answers an event, by what is kept of its resource.
pub asks_kept_at : (o : Opening) (es : List Entry) (e : Event) (s : Kept) (lacks : Bool) → IsKnown e → lacks ≡ (takes_pair e && lacks_pair o es (res_of e)) → Fits (restored_at o (res_of e)) o.guarded (own (res_of e) es) s
    → asks_kept o.guarded lacks s e ≡ asks_at o es e
asks_kept_at o es e s lacks known is fits =
    asks_same (restored_at o (res_of e)) o.guarded lacks (own (res_of e) es) s e fits
    ∙ (ap (λ b. asks_of (restored_at o (res_of e)) o.guarded b (own (res_of e) es) e) is
    ∙ (asks_only (restored_at o (res_of e)) o.guarded (lacks_pair o es (res_of e)) (own (res_of e) es) e
    ∙ sym (asks_by_resource o es e known)))

-- The outcome of an event, by what is kept of its resource.
pub outcome_kept_at : (o : Opening) (es : List Entry) (e : Event) (got : Got) (s : Kept) (lacks spent : Bool) → IsKnown e → lacks ≡ (takes_pair e && lacks_pair o es (res_of e)) → spent ≡ was_spent es → Fits (restored_at o (res_of e)) o.guarded (own (res_of e) es) s
    → outcome_kept o.guarded lacks spent s e got ≡ outcome_at o es e got
outcome_kept_at o es e got s lacks spent known is was fits =
    let r = restored_at o (res_of e) in
    let ds = own (res_of e) es in
    outcome_same r o.guarded lacks spent ds s e got fits
    ∙ (ap (λ b. given_of r o.guarded spent ds (asks_of r o.guarded b ds e) got) is
    ∙ (ap (λ b. given_of r o.guarded b ds (asks_of r o.guarded (takes_pair e && lacks_pair o es (res_of e)) ds e) got) was
    ∙ (ap (λ a. given_of r o.guarded (was_spent es) ds a got) (asks_only r o.guarded (lacks_pair o es (res_of e)) ds e)
    ∙ sym (outcome_by_resource o es e got known))))

-- What a resource's step keeps, the core keeps.
pub kept_step : (o : Opening) (first : List (ℕ × ℕ)) (resources : List ResourceState) (pairs : List (ℕ × ℕ)) (h : List Entry) (spent : Bool) (vault save : List Bool) (e : Entry) (i : ℕ) (lacks : Bool) (s t : ResourceState)
    → i ≡ res_of e.event → IsKnown e.event → i < length resources
    → KeptOver o first resources pairs (past h) spent (has_number vault) (has_number save) → slice_get resources i ≡ Some s
    → lacks ≡ (takes_pair e.event && lacks_pair o (past h) (res_of e.event)) → IsRead e.outcome e.content
    → row_kept o.guarded lacks spent s.kept e.event e.outcome ≡ true
    → t.kept ≡ kept_after o.guarded (length h + 1) e.event e.outcome e.content s.kept
    → i < length vault → i < length save
    → KeptOver o first (set resources i t) (listed_after e.outcome (res_of e.event) pairs) (past (h ++ e ∷ [])) (spent || is_spent e.outcome) (has_number (set vault i (is_some (vault_due_kept o.guarded t.kept)))) (has_number (set save i (is_some (save_due_kept o.guarded t.kept))))
kept_step o first resources pairs h spent vault save e i lacks s t named known lt kept at no_pair read row is in_vault in_save =
    let es = past h in
    let mine : is_of i e.event ≡ true = subst (λ (k : ℕ). is_of k e.event ≡ true) (sym named) (is_of_known e.event known) in
    let before : Fits (restored_at o i) o.guarded (own i es) s.kept = kept.fits i s at in
    let fits_named : Fits (restored_at o (res_of e.event)) o.guarded (own (res_of e.event) es) s.kept = subst (λ (k : ℕ). Fits (restored_at o k) o.guarded (own k es) s.kept) named before in
    let row2 : row_of (restored_at o (res_of e.event)) o.guarded (lacks_pair o es (res_of e.event)) (was_spent es) (own (res_of e.event) es) e.event e.outcome ≡ true =
    sym (lacks_only (restored_at o (res_of e.event)) o.guarded (lacks_pair o es (res_of e.event)) (was_spent es) (own (res_of e.event) es) e.event e.outcome)
    ∙ (sym (row_same (restored_at o (res_of e.event)) o.guarded (takes_pair e.event && lacks_pair o es (res_of e.event)) (was_spent es) (own (res_of e.event) es) s.kept e.event e.outcome fits_named)
    ∙ (ap (λ b. row_kept o.guarded b (was_spent es) s.kept e.event e.outcome) (sym no_pair)
    ∙ (ap (λ b. row_kept o.guarded lacks b s.kept e.event e.outcome) (sym kept.spent) ∙ row))) in
    let row3 : is_row o es e.event e.outcome ≡ true = row_is o es e.event e.outcome known ∙ row2 in
    let legal : is_legal o (e ∷ es) ≡ true = ap (λ b. b && is_legal o es) row3 ∙ kept.legal in
    let here : own i (e ∷ es) ≡ deed (length h + 1) e.event e.outcome e.content ∷ own i es = adds_deed i e es mine ∙ ap (λ n. deed (n + 1) e.event e.outcome e.content ∷ own i es) (place_is h) in
    let new : stand_in (length h + 1) s.kept.seq.tickets ≡ None =
    before.seq.tickets (length h + 1)
    ∙ ticket_is_new (restored_at o i) (own i es) (length h + 1) (length es) (omega (arith, place_is h)) (own_up_to i es) in
    let now : Fits (restored_at o i) o.guarded (own i (e ∷ es)) t.kept =
    subst (λ (ds : List Deed). Fits (restored_at o i) o.guarded ds t.kept) (sym here)
    (subst (λ (k : Kept). Fits (restored_at o i) o.guarded (deed (length h + 1) e.event e.outcome e.content ∷ own i es) k) (sym is)
    (fits_after (restored_at o i) o.guarded (own i es) (length h + 1) e.event e.outcome e.content s.kept
    (row_asks (restored_at o i) o.guarded lacks spent (own i es) s.kept e.event e.outcome e.content before read row) new before)) in
    let other : (k : ℕ) → k ≢ i → own k (e ∷ es) ≡ own k es = λ k apart. leaves_others k e es (is_of_other e.event k (λ same. apart (same ∙ sym named))) in
    let count : length (set resources i t) ≡ length resources = length_set resources i t in
    subst (λ (now_past : List Entry). KeptOver o first (set resources i t) (listed_after e.outcome (res_of e.event) pairs) now_past (spent || is_spent e.outcome) (has_number (set vault i (is_some (vault_due_kept o.guarded t.kept)))) (has_number (set save i (is_some (save_due_kept o.guarded t.kept))))) (sym (newest_first h e)) (record {
      legal = legal;
      count = count ∙ kept.count;
      fits = λ k u got. ⊎_elim
          (λ a. subst (λ (j : ℕ). Fits (restored_at o j) o.guarded (own j (e ∷ es)) u.kept) (sym a.0) (subst (λ (v : ResourceState). Fits (restored_at o i) o.guarded (own i (e ∷ es)) v.kept) (sym a.1) now))
          (λ b. subst (λ (ds : List Deed). Fits (restored_at o k) o.guarded ds u.kept) (sym (other k b.0)) (kept.fits k u b.1))
          (slice_get_set resources i k t u got);
      backups = ap (listed_after e.outcome (res_of e.event)) kept.backups;
      spent = step_spent (is_spent e.outcome) spent (was_spent es) kept.spent;
      vault = index_same (length (set resources i t)) _ _ _ (has_set vault i (is_some (vault_due_kept o.guarded t.kept)) in_vault) (index_step (length resources) (length (set resources i t)) i _ (λ k. is_some (vault_due o (e ∷ es) k)) (has_number vault) _ count lt (ap is_some (vault_due_same (restored_at o i) o.guarded (own i (e ∷ es)) t.kept now))
          (λ k apart. ap (λ ds. is_some (due_vault (restored_at o k) o.guarded ds)) (other k apart)) kept.vault);
      save = index_same (length (set resources i t)) _ _ _ (has_set save i (is_some (save_due_kept o.guarded t.kept)) in_save) (index_step (length resources) (length (set resources i t)) i _ (λ k. is_some (save_due o (e ∷ es) k)) (has_number save) _ count lt (ap is_some (save_due_same (restored_at o i) o.guarded (own i (e ∷ es)) t.kept now))
          (λ k apart. ap (λ ds. is_some (due_save (restored_at o k) o.guarded ds)) (other k apart)) kept.save);
    })

-- The same with the names that a step's code has for what it made.
pub core_step : (o : Opening) (first : List (ℕ × ℕ)) (resources : List ResourceState) (pairs : List (ℕ × ℕ)) (h : List Entry) (spent : Bool) (vault save : List Bool) (e : Entry) (i : ℕ) (lacks : Bool) (s t : ResourceState)
    → i ≡ res_of e.event → IsKnown e.event → i < length resources
    → IsCore o first resources pairs h spent vault save → slice_get resources i ≡ Some s
    → lacks ≡ (takes_pair e.event && lacks_pair o (past h) (res_of e.event)) → IsRead e.outcome e.content
    → row_kept o.guarded lacks spent s.kept e.event e.outcome ≡ true
    → t.kept ≡ kept_after o.guarded (length h + 1) e.event e.outcome e.content s.kept
    → (resources2 : List ResourceState) (pairs2 : List (ℕ × ℕ)) (h2 : List Entry) (spent2 v w : Bool) (vault2 save2 : List Bool)
    → resources2 ≡ set resources i t → pairs2 ≡ listed_after e.outcome i pairs → h2 ≡ h ++ e ∷ [] → spent2 ≡ (spent || is_spent e.outcome)
    → v ≡ is_some (vault_due_kept o.guarded t.kept) → w ≡ is_some (save_due_kept o.guarded t.kept)
    → vault2 ≡ set vault i v → save2 ≡ set save i w
    → IsCore o first resources2 pairs2 h2 spent2 vault2 save2
core_step o first resources pairs h spent vault save e i lacks s t named known lt core at no_pair read row is resources2 pairs2 h2 spent2 v w vault2 save2 er ep eh es ev ew evs ess =
    let kept = kept_step o first resources pairs h spent vault save e i lacks s t named known lt core.kept at no_pair read row is (omega (arith, core.few, core.vault, lt)) (omega (arith, core.few, core.save, lt)) in
    let to_vault : vault2 ≡ set vault i (is_some (vault_due_kept o.guarded t.kept)) = evs ∙ ap (set vault i) ev in
    let to_save : save2 ≡ set save i (is_some (save_due_kept o.guarded t.kept)) = ess ∙ ap (set save i) ew in
    let to_pairs : pairs2 ≡ listed_after e.outcome (res_of e.event) pairs = ep ∙ ap (λ k. listed_after e.outcome k pairs) named in
    record {
      kept = subst (λ (x : List Bool). KeptOver o first resources2 pairs2 (past h2) spent2 (has_number vault2) (has_number x)) (sym to_save)
          (subst (λ (x : List Bool). KeptOver o first resources2 pairs2 (past h2) spent2 (has_number x) (has_number (set save i (is_some (save_due_kept o.guarded t.kept))))) (sym to_vault)
          (subst (λ (x : Bool). KeptOver o first resources2 pairs2 (past h2) x (has_number (set vault i (is_some (vault_due_kept o.guarded t.kept)))) (has_number (set save i (is_some (save_due_kept o.guarded t.kept))))) (sym es)
          (subst (λ (x : List Entry). KeptOver o first resources2 pairs2 (past x) (spent || is_spent e.outcome) (has_number (set vault i (is_some (vault_due_kept o.guarded t.kept)))) (has_number (set save i (is_some (save_due_kept o.guarded t.kept))))) (sym eh)
          (subst (λ (x : List (ℕ × ℕ)). KeptOver o first resources2 x (past (h ++ e ∷ [])) (spent || is_spent e.outcome) (has_number (set vault i (is_some (vault_due_kept o.guarded t.kept)))) (has_number (set save i (is_some (save_due_kept o.guarded t.kept))))) (sym to_pairs)
          (subst (λ (x : List ResourceState). KeptOver o first x (listed_after e.outcome (res_of e.event) pairs) (past (h ++ e ∷ [])) (spent || is_spent e.outcome) (has_number (set vault i (is_some (vault_due_kept o.guarded t.kept)))) (has_number (set save i (is_some (save_due_kept o.guarded t.kept))))) (sym er) kept)))));
      starts = core.starts;
      few = subst (λ (n : ℕ). n ≤ 256) (sym (ap length er ∙ length_set resources i t)) core.few;
      barred = core.barred;
      vault = ap length evs ∙ (length_set vault i v ∙ core.vault);
      save = ap length ess ∙ (length_set save i w ∙ core.save);
    }

-- an event that is of no resource is that question
pub unnamed_quit : (e : Event) → named e ≡ None → e ≡ Quit
unnamed_quit (Act command) h = absurd cc
unnamed_quit (Vault c) h = absurd cc
unnamed_quit (Flush c) h = absurd cc
unnamed_quit Quit h = refl

-- The question whether the program may end changes nothing that is kept.
pub quit_step : (o : Opening) (first : List (ℕ × ℕ)) (resources : List ResourceState) (pairs : List (ℕ × ℕ)) (h h2 : List Entry) (spent : Bool) (vault save : List Bool) (e : Entry)
    → e.event ≡ Quit → IsCore o first resources pairs h spent vault save → quit_row (lowest o (is_unsafe o (past h))) e.outcome ≡ true → h2 ≡ h ++ e ∷ []
    → IsCore o first resources pairs h2 spent vault save
quit_step o first resources pairs h h2 spent vault save e is core row grown =
    let es = past h in
    let kept = core.kept in
    let same : (k : ℕ) → own k (e ∷ es) ≡ own k es = λ k. leaves_others k e es (ap (is_of k) is) in
    let row2 : is_row o es e.event e.outcome ≡ true = ap (λ v. is_row o es v e.outcome) is ∙ row in
    let now : KeptOver o first resources pairs (e ∷ es) spent (has_number vault) (has_number save) = record {
      legal = ap (λ b. b && is_legal o es) row2 ∙ kept.legal;
      count = kept.count;
      fits = λ k s got. subst (λ (ds : List Deed). Fits (restored_at o k) o.guarded ds s.kept) (sym (same k)) (kept.fits k s got);
      backups = kept.backups ∙ sym (unlisted (lowest o (is_unsafe o es)) e.outcome (res_of e.event) (listed first es) row);
      spent = kept.spent ∙ ap (λ b. b || was_spent es) (sym (not_spent (lowest o (is_unsafe o es)) e.outcome row));
      vault = λ k. kept.vault k ∙ ap (λ ds. nat_lt k (length resources) && is_some (due_vault (restored_at o k) o.guarded ds)) (sym (same k));
      save = λ k. kept.save k ∙ ap (λ ds. nat_lt k (length resources) && is_some (due_save (restored_at o k) o.guarded ds)) (sym (same k));
    } in
    record {
      kept = subst (λ (x : List Entry). KeptOver o first resources pairs (past x) spent (has_number vault) (has_number save)) (sym grown) (subst (λ (x : List Entry). KeptOver o first resources pairs x spent (has_number vault) (has_number save)) (sym (newest_first h e)) now);
      starts = core.starts;
      few = core.few;
      barred = core.barred;
      vault = core.vault;
      save = core.save;
    }
  where
    not_spent : (unsafe : Option ℕ) (outcome : Outcome) → quit_row unsafe outcome ≡ true → is_spent outcome ≡ false
    not_spent unsafe MayQuit h = refl
    not_spent unsafe (Vetoed c) h = refl
    not_spent unsafe Spent h = absurd cc
    not_spent unsafe _ h = refl

-- the newest entry's outcome is one that its event may have
pub newest_row : (o : Opening) (first : List (ℕ × ℕ)) (resources : List ResourceState) (pairs : List (ℕ × ℕ)) (h : List Entry) (e : Entry) (spent : Bool) (vault save : List Bool) → IsCore o first resources pairs (h ++ e ∷ []) spent vault save → is_row o (past h) e.event e.outcome ≡ true
newest_row o first resources pairs h e spent vault save core =
    and_left (is_row o (past h) e.event e.outcome) (is_legal o (past h)) (subst (λ (es : List Entry). is_legal o es ≡ true) (newest_first h e) core.kept.legal)
