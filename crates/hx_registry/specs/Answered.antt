-- What a registry keeps over an event that moves no file: its pairs follow who holds one.
use Rattle.std.specs.Prelude.{◌≡◌, ◌≤◌, ◌<◌, ◌⊎◌, ℕ, ◌+◌, not, Bool, true, false, ◌&&◌, ◌||◌, IsTrue, List, ◌∷◌, length, Option, Some, None, is_some, refl}
use Rattle.std.proofs.Common.{sym, ◌∙◌, ap, subst, inl, inr, ⊎_elim, arith, set}
use Rattle.std.proofs.lemmas.Bool.Decides.{nat_tests}
use Rattle.hx_faults.specs.Faults.{Rose}
use Rattle.hx_disk.specs.File.{FileState}
use Rattle.hx_disk.specs.Disk.{ChangesNothing}
use Rattle.hx_events.specs.declared.backup.Backup.{Backup}
use Rattle.hx_events.specs.declared.backup.Side.{Side}
use Rattle.hx_events.specs.declared.event.Actor.{Actor}
use Rattle.hx_events.specs.declared.event.Command.TheVariants.{Open, Create, Edit, Undo, Redo, Save, Revert, Close, Outside}
use Rattle.hx_events.specs.declared.event.Event.{Event}
use Rattle.hx_events.specs.declared.event.Event.TheVariants.{Act, Vault, Flush, Quit}
use Rattle.hx_events.specs.declared.life.Entry.{Entry}
use Rattle.hx_events.specs.declared.outcome.Outcome.{Outcome}
use Rattle.hx_events.specs.declared.outcome.Outcome.TheVariants.{Opened, Created, Closed, Spent, StageOk, StageFault}
use Rattle.hx_rules.specs.Backups.{holds, opened}
use Rattle.hx_rules.specs.Entries.{Deed, deed, own, is_of}
use Rattle.hx_rules.specs.Legal.{Opening, restored_at, is_row, is_legal, holds_at, lacks_pair, no_pair_free, is_registered_at}
use Rattle.hx_rules.specs.Versions.{versions}
use Rattle.hx_rules_laws.specs.Frames.{adds_deed}
use Rattle.hx_rules_laws.specs.Holding.{holding_none_is_bare}
use Rattle.hx_slots.specs.Files.{file_of}
use Rattle.hx_vault.specs.Sides.{IsQuietFile}
use Rattle.hx_vault.specs.declared.pair.PairUse.TheVariants.{Free, Taken}
use Rattle.hx_vault.specs.Vaults.{VaultState, is_shut, pair_at, with_pair, with_use}
use Rattle.hx_lives.specs.Course.{Course, Past, start_of, opening, with_entry}
use Rattle.hx_lives.specs.Caused.{is_fault}
use Rattle.hx_lives.specs.Told.{IsFound, user_file, resource_in}
use Rattle.hx_pairs.specs.AllPairs.{held_at}
use Rattle.hx_pairs.specs.Entry.{invariant_entry}
use Rattle.hx_pairs.specs.FreePairs.{IsFreePair, free_pair_is_there}
use Rattle.hx_pairs.specs.Registries.{RegistryInvariant, same_hold, hold_same, exact_entry, putting_stays}
use Rattle.hx_pairs.specs.Stays.{less_all}
use Rattle.hx_pairs.specs.Taking.{registers, hold_added, invariant_given, invariant_closed}
use Rattle.hx_pairs.specs.UserFiles.{no_stamp, stamp_free, free_stay, stay_less, pairs_stay, bare_quiet, invariant_read}
use Rattle.hx_pairs.specs.Owed.{PairsOwe}
use Rattle.hx_registry.specs.OpenLives.{entry_by}

-- An event of which the device moved nothing: what the registry kept before the device was asked, what was found, and that
-- a fault comes of a failed call.
pub record IsAnswered {D : Type 0} (tells : Bool) (time : D → ℕ) (past : D → Past) (now : D → ℕ → FileState) (failures : D → ℕ) (c : Course) (v : VaultState) (held : List (Option ℕ)) (disk : D) (event : Event) (outcome : Outcome) (content : List ℕ) : Type 0 where
  pub before : D
  pub holding : RegistryInvariant tells time past now failures c v held before
  pub later : failures before ≤ failures disk
  pub none : ChangesNothing time past now before disk
  pub free : no_stamp outcome ≡ true
  pub rose : is_fault outcome ≡ true → Rose (failures before) (failures disk)
  pub found : IsTrue tells → IsFound (now disk (user_file (resource_in event))) event content (versions (restored_at (opening c) (resource_in event)) (own (resource_in event) c.entries)) outcome

-- what an outcome that is no vault stage does to a hold
abbrev HoldChange : Outcome → Type 0
HoldChange outcome = (registers outcome ≡ true) ⊎ ((outcome ≡ Closed) ⊎ (same_hold outcome ≡ true))

hold_change : (outcome : Outcome) → no_stamp outcome ≡ true → HoldChange outcome
hold_change (Opened s) free = inl refl
hold_change (Created n) free = inl refl
hold_change Closed free = inr (inl refl)
hold_change Spent free = absurd cc
hold_change (StageOk s v) free = absurd cc
hold_change (StageFault s v) free = absurd cc
hold_change _ free = inr (inr refl)

clash : (b : Bool) → b ≡ true → b ≡ false → ⊥
clash true is h = absurd cc
clash false is h = absurd cc

or_right : (a b : Bool) → b ≡ true → (a || b) ≡ true
or_right true b h = refl
or_right false b h = h

-- who holds a pair after a close held one before
hold_closed : (restored : Option Backup) (place : ℕ) (event : Event) (content : List ℕ) (ds : List Deed) → holds restored (deed place event Closed content ∷ ds) ≡ true → holds restored ds ≡ true
hold_closed restored place event content ds h = or_right _ (opened restored ds) h

middle : (a b : Bool) → (a && not b) ≡ true → b ≡ false
middle true true h = absurd cc
middle true false h = refl
middle false b h = absurd cc

first_two : (a b c : Bool) → (a && b && c) ≡ true → (a && b) ≡ true
first_two true true c h = refl
first_two true false c h = absurd cc
first_two false b c h = absurd cc

-- an open or a create that is done had a pair, or gets one
gets_pair : (o : Opening) (es : List Entry) (event : Event) (outcome : Outcome) → registers outcome ≡ true → is_row o es event outcome ≡ true → lacks_pair o es (resource_in event) ≡ false
gets_pair o es event outcome adds row = go event outcome adds row
  where
    go : (event : Event) (outcome : Outcome) → registers outcome ≡ true → is_row o es event outcome ≡ true → lacks_pair o es (resource_in event) ≡ false
    go (Act (Open c)) (Opened s) adds row = middle (not (is_registered_at o es c)) (lacks_pair o es c) (first_two (not (is_registered_at o es c)) (not (lacks_pair o es c)) _ row)
    go (Act (Open c)) (Created n) adds row = absurd cc
    go (Act (Create c)) (Created n) adds row = middle (not (is_registered_at o es c)) (lacks_pair o es c) (first_two (not (is_registered_at o es c)) (not (lacks_pair o es c)) _ row)
    go (Act (Create c)) (Opened s) adds row = absurd cc
    go (Act (Edit c off del text)) (Opened s) adds row = absurd cc
    go (Act (Edit c off del text)) (Created n) adds row = absurd cc
    go (Act (Undo c)) (Opened s) adds row = absurd cc
    go (Act (Undo c)) (Created n) adds row = absurd cc
    go (Act (Redo c)) (Opened s) adds row = absurd cc
    go (Act (Redo c)) (Created n) adds row = absurd cc
    go (Act (Save c force over)) (Opened s) adds row = absurd cc
    go (Act (Save c force over)) (Created n) adds row = absurd cc
    go (Act (Revert c)) (Opened s) adds row = absurd cc
    go (Act (Revert c)) (Created n) adds row = absurd cc
    go (Act (Close c)) (Opened s) adds row = absurd cc
    go (Act (Close c)) (Created n) adds row = absurd cc
    go (Act (Outside c mtime text)) (Opened s) adds row = absurd cc
    go (Act (Outside c mtime text)) (Created n) adds row = absurd cc
    go (Vault c) (Opened s) adds row = absurd cc
    go (Vault c) (Created n) adds row = absurd cc
    go (Flush c) (Opened s) adds row = absurd cc
    go (Flush c) (Created n) adds row = absurd cc
    go Quit (Opened s) adds row = absurd cc
    go Quit (Created n) adds row = absurd cc
    go _ _ adds row = absurd cc

-- the event is of this resource
of_resource : (event : Event) (r : ℕ) → is_of r event ≡ true → resource_in event ≡ r
of_resource (Act command) r is = grind (arith, nat_tests)
of_resource (Vault c) r is = grind (arith, nat_tests)
of_resource (Flush c) r is = grind (arith, nat_tests)
of_resource Quit r is = absurd cc

both : (a b : Bool) → a ≡ true → b ≡ true → (a && b) ≡ true
both a b p q = ap (λ x. x && b) p ∙ q

not_lacking : (a b : Bool) → (not a && b) ≡ false → a ≡ false → b ≡ false
not_lacking true b h is = absurd cc
not_lacking false b h is = h

module _ {D : Type 0} (tells : Bool) (time : D → ℕ) (past : D → Past) (now : D → ℕ → FileState) (failures : D → ℕ) (present : (d : D) (f : ℕ) → past d (time d) f ≡ now d f)
    (c : Course) (v : VaultState) (held : List (Option ℕ)) (disk : D) (actor : Actor) (event : Event) (outcome : Outcome) (content : List ℕ)
    (answered : IsAnswered tells time past now failures c v held disk event outcome content) (row : is_row (opening c) c.entries event outcome ≡ true) where
  abbrev Note : Entry
  Note = entry_by (time disk) (failures disk) actor event outcome content

  found_then : IsTrue tells → IsFound (past disk (time disk) (user_file (resource_in event))) event content (versions (restored_at (opening c) (resource_in event)) (own (resource_in event) c.entries)) outcome
  found_then told = subst (λ (file : FileState). IsFound file event content (versions (restored_at (opening c) (resource_in event)) (own (resource_in event) c.entries)) outcome) (sym (present disk (user_file (resource_in event)))) (answered.found told)

  owed : IsTrue tells → PairsOwe time past now (start_of c) c.entries Note v held answered.before disk
  owed told =
      pairs_stay time past now present (start_of c) c.entries v held answered.before disk Note (answered.holding.pairs told) (omega (arith, answered.none.still))
      (λ t f slot from to. answered.none.kept t f (omega (arith, to, answered.none.still)) ∙ ap (λ n. past answered.before n f) (omega (arith, from, to, answered.none.still)) ∙ present answered.before f) (free_stay outcome answered.free)

  legal_then : is_legal (opening c) (Note ∷ c.entries) ≡ true
  legal_then = both (is_row (opening c) c.entries event outcome) (is_legal (opening c) c.entries) row answered.holding.keeps.holds.legal

  -- an event after which everyone holds what was held before
  pub answered_rested : same_hold outcome ≡ true → RegistryInvariant tells time past now failures (with_entry c Note) v held disk
  answered_rested same = invariant_read tells time past now failures present c Note v held answered.before disk answered.holding answered.later refl refl row answered.rose answered.none answered.free same found_then

  module _ (r : ℕ) (is : is_of r event ≡ true) (within : r < length c.names) where
    after_same : same_hold outcome ≡ true → holds_at (opening c) (Note ∷ c.entries) r ≡ is_some (held_at held r)
    after_same same = ap (λ (l : List Deed). holds (restored_at (opening c) r) l) (adds_deed r Note c.entries is) ∙ hold_same (restored_at (opening c) r) (length c.entries + 1) event content (own r c.entries) outcome same ∙ answered.holding.exact r within

    after_added : registers outcome ≡ true → holds_at (opening c) (Note ∷ c.entries) r ≡ true
    after_added adds = ap (λ (l : List Deed). holds (restored_at (opening c) r) l) (adds_deed r Note c.entries is) ∙ hold_added (restored_at (opening c) r) (length c.entries + 1) event content (own r c.entries) outcome adds

    after_closed : outcome ≡ Closed → holds_at (opening c) (Note ∷ c.entries) r ≡ true → is_some (held_at held r) ≡ true
    after_closed closed h =
        sym (answered.holding.exact r within)
        ∙ hold_closed (restored_at (opening c) r) (length c.entries + 1) event content (own r c.entries)
        (ap (λ (x : Outcome). holds (restored_at (opening c) r) (deed (length c.entries + 1) event x content ∷ own r c.entries)) (sym closed)
        ∙ sym (ap (λ (l : List Deed). holds (restored_at (opening c) r) l) (adds_deed r Note c.entries is)) ∙ h)

    -- who holds a pair then has one, and who holds none has none
    pub answered_matched : holds_at (opening c) (Note ∷ c.entries) r ≡ is_some (held_at held r) → RegistryInvariant tells time past now failures (with_entry c Note) v held disk
    answered_matched matched =
        invariant_entry tells time past now failures present c Note v v held held answered.before disk answered.holding (record { later = omega (arith, answered.none.still); kept = answered.none.kept; no_fewer = answered.later }) refl refl row answered.rose answered.holding.placed
        (exact_entry c Note held held r answered.holding.exact is matched (λ k far. refl))
        (putting_stays c Note v held answered.holding.putting (less_all (start_of c) c.entries Note (stay_less (start_of c) c.entries Note (free_stay outcome answered.free))))
        (λ told. record { found = found_then told; alone = λ t f from to left. ap (λ n. past disk n f) (omega (arith, from, to, answered.none.still)) })
        owed
        (stamp_free v.stamp outcome answered.free).0 (let s = (stamp_free v.stamp outcome answered.free).1 in omega (arith, s))

    adds_then : held_at held r ≡ None → holds_at (opening c) (Note ∷ c.entries) r ≡ true → registers outcome ≡ true
    adds_then lacks holding = ⊎_elim (λ adds. adds)
        (λ other. ⊎_elim
        (λ closed. absurd (clash (is_some (held_at held r)) (after_closed closed holding) (ap (λ (x : Option ℕ). is_some x) lacks)))
        (λ same. absurd (clash (holds_at (opening c) (Note ∷ c.entries) r) holding (after_same same ∙ ap (λ (x : Option ℕ). is_some x) lacks))) other)
        (hold_change outcome answered.free)

    -- the resource gets a pair, and one is free
    pub answered_free : held_at held r ≡ None → holds_at (opening c) (Note ∷ c.entries) r ≡ true → IsFreePair v
    answered_free lacks holding =
        free_pair_is_there c v held answered.holding.placed answered.holding.exact
        (not_lacking (holds_at (opening c) c.entries r) (no_pair_free (opening c) c.entries)
        (subst (λ k. lacks_pair (opening c) c.entries k ≡ false) (of_resource event r is) (gets_pair (opening c) c.entries event outcome (adds_then lacks holding) row))
        (answered.holding.exact r within ∙ ap (λ (x : Option ℕ). is_some x) lacks))

    pub answered_taken : (p : ℕ) → held_at held r ≡ None → holds_at (opening c) (Note ∷ c.entries) r ≡ true → p < 64 → (pair_at v p).used ≡ Free
        → RegistryInvariant tells time past now failures (with_entry c Note) (with_pair v p (with_use (pair_at v p) Taken)) (set held r (Some p)) disk
    answered_taken p lacks holding low free =
        invariant_given tells time past now failures present c Note v held answered.before disk r p answered.holding answered.later answered.none refl refl row is within (adds_then lacks holding) lacks low free found_then

    closed_then : (p : ℕ) → held_at held r ≡ Some p → holds_at (opening c) (Note ∷ c.entries) r ≡ false → outcome ≡ Closed
    closed_then p has gone = ⊎_elim (λ adds. absurd (clash (holds_at (opening c) (Note ∷ c.entries) r) (after_added adds) gone))
        (λ other. ⊎_elim (λ closed. closed) (λ same. absurd (clash (holds_at (opening c) (Note ∷ c.entries) r) (after_same same ∙ ap (λ (x : Option ℕ). is_some x) has) gone)) other)
        (hold_change outcome answered.free)

    -- the resource gives its pair back
    pub answered_released : (p : ℕ) → held_at held r ≡ Some p → holds_at (opening c) (Note ∷ c.entries) r ≡ false
        → RegistryInvariant tells time past now failures (with_entry c Note) (with_pair v p (with_use (pair_at v p) Free)) (set held r None) disk
    answered_released p has gone =
        invariant_closed tells time past now failures present c Note v held answered.before disk r p answered.holding answered.later answered.none refl refl row is within (closed_then p has gone) legal_then has gone found_then

    -- and nothing may show in it
    pub answered_quiet : (p : ℕ) → held_at held r ≡ Some p → holds_at (opening c) (Note ∷ c.entries) r ≡ false → IsTrue tells → (side : Side) → IsQuietFile (is_shut (pair_at v p) side) (now disk (file_of p side))
    answered_quiet p has gone told =
        let bare = holding_none_is_bare (opening c) (Note ∷ c.entries) r legal_then gone in
        bare_quiet (start_of c) (Note ∷ c.entries) v held (now disk) r p (owed told).kept has bare.done bare.tried
