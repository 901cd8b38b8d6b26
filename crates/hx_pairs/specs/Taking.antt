-- Events on which a resource gets a pair, or gives it back.
use Rattle.std.specs.Prelude.{◌≡◌, ◌≢◌, ◌<◌, ◌≤◌, ℕ, ◌+◌, Bool, true, false, IsTrue, List, ◌∷◌, length, Option, Some, None, is_some, refl}
use Rattle.std.proofs.Common.{sym, ◌∙◌, ap, subst, ⊎_elim, arith, set}
use Rattle.std.proofs.lemmas.List.{get_or-set_same, get_or-set_other}
use Rattle.std.proofs.lemmas.Bool.Decides.{eqb_tells}
use Rattle.hx_disk.specs.File.{FileState}
use Rattle.hx_disk.specs.Disk.{ChangesNothing}
use Rattle.hx_events.specs.declared.backup.Backup.{Backup}
use Rattle.hx_events.specs.declared.event.Event.{Event}
use Rattle.hx_events.specs.declared.life.Entry.{Entry}
use Rattle.hx_events.specs.declared.outcome.Outcome.{Outcome}
use Rattle.hx_events.specs.declared.outcome.Outcome.TheVariants.{Opened, Created, Closed}
use Rattle.hx_rules.specs.Backups.{Begun, holds}
use Rattle.hx_rules.specs.Entries.{Deed, deed, own, is_of}
use Rattle.hx_rules.specs.Legal.{restored_at, is_row, is_legal, holds_at}
use Rattle.hx_rules.specs.Versions.{versions}
use Rattle.hx_rules_laws.specs.Frames.{adds_deed}
use Rattle.hx_rules.specs.Marks.{Marks, IsBare}
use Rattle.hx_rules_laws.specs.Marks.{marks_change, is_vault_outcome, still, wanted_with}
use Rattle.hx_vault.specs.declared.pair.Pair.{Pair}
use Rattle.hx_vault.specs.declared.pair.PairUse.TheVariants.{Free, Taken}
use Rattle.hx_vault.specs.Vaults.{VaultState, pair_at, with_pair, with_use, no_pair}
use Rattle.hx_lives.specs.Course.{Course, Start, Past, start_of, opening, opening_at, with_entry}
use Rattle.hx_lives.specs.Caused.{is_fault}
use Rattle.hx_lives.specs.Told.{IsFound, user_file, resource_in}
use Rattle.hx_pairs.specs.AllPairs.{held_at, marks_at}
use Rattle.hx_pairs.specs.Moves.{same_marks, new_marks}
use Rattle.hx_pairs.specs.Owners.{taken_over, released}
use Rattle.hx_pairs.specs.Owed.{PairsOwe}
use Rattle.hx_rules_laws.specs.Holding.{holding_none_is_bare}
use Rattle.hx_pairs.specs.Stays.{less_all}
use Rattle.hx_pairs.specs.Registries.{IsPlaced, HasPut, IsPut, IsExact, RegistryInvariant, placed_taken, placed_released, exact_entry, putting_stays, putting_released}
use Rattle.hx_pairs.specs.Entry.{invariant_entry}
use Rattle.hx_pairs.specs.UserFiles.{same_slots, pairs_stay, no_stamp, stamp_free, free_stay, stay_less}

still_none : (t : Bool) → still t None ≡ None
still_none true = refl
still_none false = refl

-- After an entry that is no vault stage, of a resource that held no pair.
bare_after : (b : Start) (es : List Entry) (e : Entry) (c : ℕ) → is_legal (opening_at b) es ≡ true → holds_at (opening_at b) es c ≡ false → is_of c e.event ≡ true → (o : Outcome) → e.outcome ≡ o
    → is_vault_outcome o ≡ false → IsBare (marks_at b (e ∷ es) c)
bare_after b es e c legal none is o was other =
    let before = holding_none_is_bare (opening_at b) es c legal none in
    let law = new_marks b es e c o is was ∙ (marks_change (restored_at (opening_at b) c) (opening_at b).guarded (length es + 1) e.event e.content (own c es)).other o other in
    record {
      done = ap (λ (m : Marks). m.done) law ∙ before.done;
      tried = ap (λ (m : Marks). m.tried) law ∙ before.tried;
      begun = ap (λ (m : Marks). m.begun) law ∙ ap (λ (x : Option Begun). still (wanted_with (restored_at (opening_at b) c) (opening_at b).guarded (deed (length es + 1) e.event o e.content) (own c es)) x) before.begun
          ∙ still_none (wanted_with (restored_at (opening_at b) c) (opening_at b).guarded (deed (length es + 1) e.event o e.content) (own c es));
      faded = ap (λ (m : Marks). m.faded) law ∙ before.faded;
    }

-- an outcome by which a copy is registered
abbrev pub registers : Outcome → Bool
registers (Opened s) = true
registers (Created n) = true
registers outcome = false

pub hold_added : (restored : Option Backup) (place : ℕ) (event : Event) (content : List ℕ) (ds : List Deed) (o : Outcome) → registers o ≡ true → holds restored (deed place event o content ∷ ds) ≡ true
hold_added restored place event content ds (Opened s) is = refl
hold_added restored place event content ds (Created n) is = refl
hold_added restored place event content ds _ is = absurd cc

registers_free : (o : Outcome) → registers o ≡ true → (no_stamp o ≡ true) × (is_fault o ≡ false) × (is_vault_outcome o ≡ false)
registers_free (Opened s) is = (refl, refl, refl)
registers_free (Created n) is = (refl, refl, refl)
registers_free _ is = absurd cc

-- the resource r gets the free pair p
putting_given : (c : Course) (e : Entry) (v : VaultState) (held : List (Option ℕ)) (r p : ℕ) → HasPut c v held → IsPlaced c.names (opening c).barred v held → is_of r e.event ≡ true → r < length c.names → (pair_at v p).used ≡ Free → (marks_at (start_of c) (e ∷ c.entries) r).begun ≡ None
    → HasPut (with_entry c e) (with_pair v p (with_use (pair_at v p) Taken)) (set held r (Some p))
putting_given c e v held r p put placed is within free idle k q b h begun = ⊎_elim
    (λ same. absurd (let f : None ≡ Some b = sym idle ∙ ap (λ n. (marks_at (start_of c) (e ∷ c.entries) n).begun) (sym same.1) ∙ begun in cc))
    (λ far.
    let theirs : held_at held k ≡ Some q = sym (get_or-set_other held r k (Some p) None far.1) ∙ h in
    let away : q ≢ p = λ same. (let f : Taken ≡ Free = sym (placed.used k q theirs) ∙ ap (λ n. (pair_at v n).used) same ∙ free in absurd cc) in
    subst (λ (x : Pair). IsPut b.blocks x.put) (sym (get_or-set_other v.pairs p q (with_use (pair_at v p) Taken) no_pair away))
    (put k q b theirs (sym (ap (λ (m : Marks). m.begun) (same_marks (start_of c) c.entries e r k is far.1)) ∙ begun)))
    (eqb_tells k r)

module _ {D : Type 0} (tells : Bool) (time : D → ℕ) (past : D → Past) (now : D → ℕ → FileState) (failures : D → ℕ) (present : (d : D) (f : ℕ) → past d (time d) f ≡ now d f)
    (c : Course) (e : Entry) (v : VaultState) (held : List (Option ℕ)) (old new : D) (r p : ℕ) (holding : RegistryInvariant tells time past now failures c v held old) (later : failures old ≤ failures new) (none : ChangesNothing time past now old new)
    (at : e.moment ≡ time new) (counts : e.faults ≡ failures new) (row : is_row (opening c) c.entries e.event e.outcome ≡ true) (is : is_of r e.event ≡ true) (within : r < length c.names) where
  abbrev Found : Type 0
  Found = IsFound (past new (time new) (user_file (resource_in e.event))) e.event e.content (versions (restored_at (opening c) (resource_in e.event)) (own (resource_in e.event) c.entries)) e.outcome

  pub stays_owed : (free : no_stamp e.outcome ≡ true) → IsTrue tells → PairsOwe time past now (start_of c) c.entries e v held old new
  stays_owed free told = pairs_stay time past now present (start_of c) c.entries v held old new e (holding.pairs told) (omega (arith, none.still))
      (λ t f slot from to. none.kept t f (omega (arith, to, none.still)) ∙ ap (λ n. past old n f) (omega (arith, from, to, none.still)) ∙ present old f) (free_stay e.outcome free)

  -- An event that moves no pair.
  pub invariant_unmoved : no_stamp e.outcome ≡ true → is_fault e.outcome ≡ false → IsExact (with_entry c e) held → (IsTrue tells → Found) → RegistryInvariant tells time past now failures (with_entry c e) v held new
  invariant_unmoved free fine exact found =
      invariant_entry tells time past now failures present c e v v held held old new holding (record { later = omega (arith, none.still); kept = none.kept; no_fewer = later }) at counts row
      (λ bad. absurd (let odd : false ≡ true = sym fine ∙ bad in cc)) holding.placed exact
      (putting_stays c e v held holding.putting (less_all (start_of c) c.entries e (stay_less (start_of c) c.entries e (free_stay e.outcome free))))
      (λ told. record { found = found told; alone = λ t f from to left. ap (λ n. past new n f) (omega (arith, from, to, none.still)) })
      (stays_owed free)
      (stamp_free v.stamp e.outcome free).0 (let s = (stamp_free v.stamp e.outcome free).1 in omega (arith, s))

  -- An Open or a Create of a resource that held no pair: it gets a free one.
  pub invariant_given : registers e.outcome ≡ true → held_at held r ≡ None → p < 64 → (pair_at v p).used ≡ Free → (IsTrue tells → Found)
      → RegistryInvariant tells time past now failures (with_entry c e) (with_pair v p (with_use (pair_at v p) Taken)) (set held r (Some p)) new
  invariant_given adds lacks low free found =
      let kind = registers_free e.outcome adds in
      let bare = bare_after (start_of c) c.entries e r holding.keeps.holds.legal (holding.exact r within ∙ ap (λ (x : Option ℕ). is_some x) lacks) is e.outcome refl kind.2 in
      invariant_entry tells time past now failures present c e v (with_pair v p (with_use (pair_at v p) Taken)) held (set held r (Some p)) old new holding (record { later = omega (arith, none.still); kept = none.kept; no_fewer = later }) at counts row
      (λ bad. absurd (let odd : false ≡ true = sym kind.1 ∙ bad in cc))
      (placed_taken c.names (opening c).barred v held r p holding.placed within low free lacks)
      (exact_entry c e held (set held r (Some p)) r holding.exact is
      (ap (λ (ds : List Deed). holds (restored_at (opening c) r) ds) (adds_deed r e c.entries is) ∙ hold_added (restored_at (opening c) r) (length c.entries + 1) e.event e.content (own r c.entries) e.outcome adds
      ∙ ap (λ (x : Option ℕ). is_some x) (sym (get_or-set_same held r (Some p) None (omega (arith, within, holding.placed.owners)))))
      (λ k far. get_or-set_other held r k (Some p) None far))
      (putting_given c e v held r p holding.putting holding.placed is within free bare.begun)
      (λ told. record { found = found told; alone = λ t f from to left. ap (λ n. past new n f) (omega (arith, from, to, none.still)) })
      (λ told. record {
        inside = (stays_owed kind.0 told).inside;
        kept = same_slots (start_of c) (e ∷ c.entries) (with_pair v p (with_use (pair_at v p) Taken)) (set held r (Some p)) (now old) (now new) (λ f slot. none.same f)
            (taken_over (start_of c) c.entries v held (now old) e r p (holding.pairs told) low within is lacks free bare);
      })
      (stamp_free v.stamp e.outcome kind.0).0 (let s = (stamp_free v.stamp e.outcome kind.0).1 in omega (arith, s))

  -- A Close of a resource in whose pair nothing may show: the pair goes back.
  pub invariant_closed : e.outcome ≡ Closed → is_legal (opening c) (e ∷ c.entries) ≡ true → held_at held r ≡ Some p → holds_at (opening c) (e ∷ c.entries) r ≡ false → (IsTrue tells → Found)
      → RegistryInvariant tells time past now failures (with_entry c e) (with_pair v p (with_use (pair_at v p) Free)) (set held r None) new
  invariant_closed was legal has gone found =
      let free : no_stamp e.outcome ≡ true = ap no_stamp was in
      let bare = holding_none_is_bare (opening c) (e ∷ c.entries) r legal gone in
      invariant_entry tells time past now failures present c e v (with_pair v p (with_use (pair_at v p) Free)) held (set held r None) old new holding (record { later = omega (arith, none.still); kept = none.kept; no_fewer = later }) at counts row
      (λ bad. absurd (let odd : false ≡ true = sym (ap is_fault was) ∙ bad in cc))
      (placed_released c.names (opening c).barred v held r p holding.placed within has)
      (exact_entry c e held (set held r None) r holding.exact is (gone ∙ ap (λ (x : Option ℕ). is_some x) (sym (get_or-set_same held r None None (omega (arith, within, holding.placed.owners))))) (λ k far. get_or-set_other held r k None None far))
      (putting_released (with_entry c e) v held r p (putting_stays c e v held holding.putting (less_all (start_of c) c.entries e (stay_less (start_of c) c.entries e (free_stay e.outcome free)))) holding.placed within has)
      (λ told. record { found = found told; alone = λ t f from to left. ap (λ n. past new n f) (omega (arith, from, to, none.still)) })
      (λ told. let o = stays_owed free told in record { inside = o.inside; kept = released (start_of c) (e ∷ c.entries) v held (now new) r p o.kept within has bare.done bare.tried })
      (stamp_free v.stamp e.outcome free).0 (let s = (stamp_free v.stamp e.outcome free).1 in omega (arith, s))
