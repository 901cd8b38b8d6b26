-- All that a registry keeps: of its life, of its pairs, and who holds which.
use Rattle.std.specs.Prelude.{◌≡◌, ◌≢◌, ◌<◌, ◌≤◌, ℕ, ◌+◌, ◌-◌, ◌*◌, ◌^◌, Bool, true, false, IsTrue, List, ◌∷◌, length, Option, Some, None, is_some, ◌||◌, refl}
use Rattle.std.proofs.Common.{sym, ◌∙◌, ap, subst, ⊎_elim, arith, set}
use Rattle.std.proofs.lemmas.List.{get_or-set_same, get_or-set_other, length-set}
use Rattle.std.proofs.lemmas.Bool.Decides.{eqb_tells}
use Rattle.hx_disk.specs.File.{FileState}
use Rattle.hx_events.specs.declared.event.Stage.TheVariants.{Prepare, Body, Open, Fade, Drop}
use Rattle.hx_events.specs.declared.life.Entry.{Entry}
use Rattle.hx_events.specs.declared.outcome.Outcome.{Outcome}
use Rattle.hx_events.specs.declared.outcome.Outcome.TheVariants.{Idle, Spent, StageOk, StageFault, Opened, Created, Closed}
use Rattle.hx_rules.specs.Backups.{Begun, holds}
use Rattle.hx_rules.specs.Copies.{registered}
use Rattle.hx_rules.specs.Entries.{Deed, deed, own, is_of}
use Rattle.hx_rules.specs.Legal.{count_below, holds_at, restored_at, was_spent, is_spent}
use Rattle.hx_events.specs.declared.backup.Backup.{Backup}
use Rattle.hx_events.specs.declared.event.Event.{Event}
use Rattle.hx_rules_laws.specs.Frames.{leaves_others, one_resource, adds_deed}
use Rattle.hx_vault.specs.declared.pair.Pair.{Pair}
use Rattle.hx_vault.specs.declared.pair.PairUse.{PairUse}
use Rattle.hx_vault.specs.declared.pair.PairUse.TheVariants.{Free, Taken, Barred}
use Rattle.hx_vault.specs.Vaults.{VaultState, pair_at, with_pair, with_use, no_pair}
use Rattle.hx_lives.specs.Course.{Course, Past, start_of, opening, with_entry}
use Rattle.hx_lives.specs.Calls.{IsLivedSoFar}
use Rattle.hx_slots.specs.Raws.{greatest_stamp}
use Rattle.hx_lives.specs.Holds.{readings}
use Rattle.hx_lives.specs.Told.{stamps_taken, takes_stamp, IsStamped}
use Rattle.hx_pairs.specs.Counting.{same_tests}
use Rattle.hx_pairs.specs.AllPairs.{held_at, marks_at, IsHeld, PairsInvariant}
use Rattle.hx_pairs.specs.Moves.{same_marks}
use Rattle.hx_pairs.specs.Stays.{MarksLess}
use Rattle.hx_rules.specs.Marks.{Marks}

abbrev pub is_barred_use : PairUse → Bool
is_barred_use Barred = true
is_barred_use Free = false
is_barred_use Taken = false

-- how many pairs are barred
unfoldable pub barred_pairs : VaultState → ℕ
barred_pairs v = count_below (λ p. is_barred_use (pair_at v p).used) 64

-- What holds on any disk: who holds a pair has one that is taken, alone; each pair that is taken is held; and so many are
-- barred.
pub record IsPlaced (names : List (List ℕ)) (barred : ℕ) (v : VaultState) (held : List (Option ℕ)) : Type 0 where
  pub owners : length held ≡ length names
  pub pairs : length v.pairs ≡ 64
  pub below : (c p : ℕ) → held_at held c ≡ Some p → p < 64
  pub apart : (c k p : ℕ) → held_at held c ≡ Some p → held_at held k ≡ Some p → c ≡ k
  pub used : (c p : ℕ) → held_at held c ≡ Some p → (pair_at v p).used ≡ Taken
  pub owned : (p : ℕ) → p < 64 → (pair_at v p).used ≡ Taken → IsHeld held p
  pub foreign : barred_pairs v ≡ barred

-- a resource has a pair exactly where the rules say that it holds one
abbrev pub IsExact : Course → List (Option ℕ) → Type 0
IsExact c held = (k : ℕ) → k < length c.names → holds_at (opening c) c.entries k ≡ is_some (held_at held k)

-- so many bytes stand behind the gate of a backup with so many blocks: at most 8192 for each
abbrev pub IsPut : ℕ → Option ℕ → Type 0
IsPut blocks None = ⊥
IsPut blocks (Some n) = n ≤ 8192 * blocks

-- what is begun stands behind a gate, as long as its blocks are
abbrev pub HasPut : Course → VaultState → List (Option ℕ) → Type 0
HasPut c v held = (k p : ℕ) (b : Begun) → held_at held k ≡ Some p → (marks_at (start_of c) c.entries k).begun ≡ Some b → IsPut b.blocks (pair_at v p).put

-- What a registry keeps from event to event. What isn't said of disks that tell their content holds of every disk.
pub record RegistryInvariant {D : Type 0} (tells : Bool) (time : D → ℕ) (past : D → Past) (now : D → ℕ → FileState) (failures : D → ℕ) (c : Course) (v : VaultState) (held : List (Option ℕ)) (disk : D) : Type 0 where
  pub keeps : IsLivedSoFar tells time past failures c disk
  pub placed : IsPlaced c.names (opening c).barred v held
  pub exact : IsExact c held
  pub putting : HasPut c v held
  pub spent : was_spent c.entries ≡ true → v.stamp ≡ 2 ^ 64 - 1
  pub pairs : IsTrue tells → PairsInvariant (start_of c) c.entries v held (now disk)
  pub stamp : IsTrue tells → v.stamp ≡ greatest_stamp (readings (past disk c.moment)) + stamps_taken c.entries

barred_in : (v : VaultState) (p n : ℕ) (pair : Pair) → p < length v.pairs → is_barred_use (pair_at v p).used ≡ false → is_barred_use pair.used ≡ false
    → count_below (λ q. is_barred_use (pair_at (with_pair v p pair) q).used) n ≡ count_below (λ q. is_barred_use (pair_at v q).used) n
barred_in v p n pair within was is = same_tests (λ q. is_barred_use (pair_at (with_pair v p pair) q).used) (λ q. is_barred_use (pair_at v q).used) n (λ q lt. ⊎_elim
    (λ same. ap (λ k. is_barred_use (pair_at (with_pair v p pair) k).used) same.1 ∙ ap (λ (x : Pair). is_barred_use x.used) (get_or-set_same v.pairs p pair no_pair within) ∙ is ∙ sym was ∙ ap (λ k. is_barred_use (pair_at v k).used) (sym same.1))
    (λ far. ap (λ (x : Pair). is_barred_use x.used) (get_or-set_other v.pairs p q pair no_pair far.1))
    (eqb_tells q p))

-- a pair that isn't barred before or after changes none of that
barred_same : (v : VaultState) (p more : ℕ) (pair : Pair) → p < length v.pairs → is_barred_use (pair_at v p).used ≡ false → is_barred_use pair.used ≡ false → barred_pairs (with_pair (record { pairs = v.pairs; stamp = more }) p pair) ≡ barred_pairs v
unfolding barred_pairs
barred_same v p more pair within was is = barred_in v p 64 pair within was is

pub placed_moved : (names : List (List ℕ)) (barred : ℕ) (v w : VaultState) (held : List (Option ℕ)) (c p more : ℕ) (pair : Pair) → IsPlaced names barred v held → held_at held c ≡ Some p
    → w ≡ with_pair (record { pairs = v.pairs; stamp = more }) p pair → pair.used ≡ Taken → IsPlaced names barred w held
placed_moved names barred v w held c p more pair order has moved used =
    subst (λ (k : VaultState). IsPlaced names barred k held) (sym moved)
    (record {
      owners = order.owners;
      pairs = length-set v.pairs p pair ∙ order.pairs;
      below = order.below;
      apart = order.apart;
      used = λ k q h. ⊎_elim
          (λ same. ap (λ n. (pair_at last n).used) same.1 ∙ ap (λ (x : Pair). x.used) (get_or-set_same v.pairs p pair no_pair (let lt : p < 64 = order.below c p has in omega (arith, lt, order.pairs))) ∙ used)
          (λ far. ap (λ (x : Pair). x.used) (get_or-set_other v.pairs p q pair no_pair far.1) ∙ order.used k q h)
          (eqb_tells q p);
      owned = λ q lt h. ⊎_elim
          (λ same. record { owner = c; is = has ∙ ap (λ n. Some n) (sym same.1) })
          (λ far. order.owned q lt (sym (ap (λ (x : Pair). x.used) (get_or-set_other v.pairs p q pair no_pair far.1)) ∙ h))
          (eqb_tells q p);
      foreign = barred_same v p more pair (let lt : p < 64 = order.below c p has in omega (arith, lt, order.pairs)) (ap is_barred_use (order.used c p has)) (ap is_barred_use used) ∙ order.foreign;
    })
  where
    last : VaultState
    last = with_pair (record { pairs = v.pairs; stamp = more }) p pair

-- the resource c gives its pair back
pub placed_released : (names : List (List ℕ)) (barred : ℕ) (v : VaultState) (held : List (Option ℕ)) (c p : ℕ) → IsPlaced names barred v held → c < length names → held_at held c ≡ Some p → IsPlaced names barred (with_pair v p (with_use (pair_at v p) Free)) (set held c None)
placed_released names barred v held c p order within has = record {
  owners = length-set held c None ∙ order.owners;
  pairs = length-set v.pairs p (with_use (pair_at v p) Free) ∙ order.pairs;
  below = λ k q h. order.below k q (theirs k q h);
  apart = λ k j q h i. order.apart k j q (theirs k q h) (theirs j q i);
  used = λ k q h. ap (λ (x : Pair). x.used) (get_or-set_other v.pairs p q (with_use (pair_at v p) Free) no_pair (not_p k q h)) ∙ order.used k q (theirs k q h);
  owned = λ q lt h.
      let far : q ≢ p = λ same. (let f : Free ≡ Taken = sym (ap (λ (x : Pair). x.used) (get_or-set_same v.pairs p (with_use (pair_at v p) Free) no_pair here)) ∙ ap (λ n. (pair_at last n).used) (sym same) ∙ h in absurd cc) in
      let o = order.owned q lt (sym (ap (λ (x : Pair). x.used) (get_or-set_other v.pairs p q (with_use (pair_at v p) Free) no_pair far)) ∙ h) in
      record { owner = o.owner; is = get_or-set_other held c o.owner None None (λ e. far (let f : Some q ≡ Some p = sym o.is ∙ ap (held_at held) e ∙ has in cc)) ∙ o.is };
  foreign = barred_same v p v.stamp (with_use (pair_at v p) Free) here (ap is_barred_use (order.used c p has)) refl ∙ order.foreign;
}
  where
    last : VaultState
    last = with_pair v p (with_use (pair_at v p) Free)

    here : p < length v.pairs
    here = let lt : p < 64 = order.below c p has in omega (arith, lt, order.pairs)

    at_c : held_at (set held c None) c ≡ None
    at_c = get_or-set_same held c None None (omega (arith, within, order.owners))

    not_c : (k q : ℕ) → held_at (set held c None) k ≡ Some q → k ≢ c
    not_c k q h same = let f : Some q ≡ None = sym h ∙ ap (held_at (set held c None)) same ∙ at_c in cc

    theirs : (k q : ℕ) → held_at (set held c None) k ≡ Some q → held_at held k ≡ Some q
    theirs k q h = sym (get_or-set_other held c k None None (not_c k q h)) ∙ h

    not_p : (k q : ℕ) → held_at (set held c None) k ≡ Some q → q ≢ p
    not_p k q h same = not_c k q h (order.apart k c q (theirs k q h) (has ∙ ap (λ n. Some n) (sym same)))

-- the resource c gets a free pair
pub placed_taken : (names : List (List ℕ)) (barred : ℕ) (v : VaultState) (held : List (Option ℕ)) (c p : ℕ) → IsPlaced names barred v held → c < length names → p < 64 → (pair_at v p).used ≡ Free → held_at held c ≡ None → IsPlaced names barred (with_pair v p (with_use (pair_at v p) Taken)) (set held c (Some p))
placed_taken names barred v held c p order within low free lacks = record {
  owners = length-set held c (Some p) ∙ order.owners;
  pairs = length-set v.pairs p (with_use (pair_at v p) Taken) ∙ order.pairs;
  below = λ k q h. ⊎_elim (λ same. subst (λ n. n < 64) (sym (mine k q same.1 h)) low) (λ far. order.below k q (theirs k q far.1 h)) (eqb_tells k c);
  apart = λ k j q h i. ⊎_elim
      (λ same. ⊎_elim (λ one. same.1 ∙ sym one.1) (λ far. absurd (not_owned j q far.1 i (mine k q same.1 h))) (eqb_tells j c))
      (λ far. ⊎_elim (λ one. absurd (not_owned k q far.1 h (mine j q one.1 i))) (λ away. order.apart k j q (theirs k q far.1 h) (theirs j q away.1 i)) (eqb_tells j c))
      (eqb_tells k c);
  used = λ k q h. ⊎_elim
      (λ same. ap (λ n. (pair_at last n).used) same.1 ∙ ap (λ (x : Pair). x.used) (get_or-set_same v.pairs p (with_use (pair_at v p) Taken) no_pair (omega (arith, low, order.pairs))))
      (λ far. ap (λ (x : Pair). x.used) (get_or-set_other v.pairs p q (with_use (pair_at v p) Taken) no_pair far.1) ∙ ⊎_elim (λ same. absurd (far.1 (mine k q same.1 h))) (λ away. order.used k q (theirs k q away.1 h)) (eqb_tells k c))
      (eqb_tells q p);
  owned = λ q lt h. ⊎_elim
      (λ same. record { owner = c; is = get_or-set_same held c (Some p) None (omega (arith, within, order.owners)) ∙ ap (λ n. Some n) (sym same.1) })
      (λ far.
      let o = order.owned q lt (sym (ap (λ (x : Pair). x.used) (get_or-set_other v.pairs p q (with_use (pair_at v p) Taken) no_pair far.1)) ∙ h) in
      record { owner = o.owner; is = get_or-set_other held c o.owner (Some p) None (λ e. let f : Some q ≡ None = sym o.is ∙ ap (held_at held) e ∙ lacks in cc) ∙ o.is })
      (eqb_tells q p);
  foreign = barred_same v p v.stamp (with_use (pair_at v p) Taken) (omega (arith, low, order.pairs)) (ap is_barred_use free) refl ∙ order.foreign;
}
  where
    last : VaultState
    last = with_pair v p (with_use (pair_at v p) Taken)

    mine : (k q : ℕ) → k ≡ c → held_at (set held c (Some p)) k ≡ Some q → q ≡ p
    mine k q same h = let f : Some q ≡ Some p = sym h ∙ ap (held_at (set held c (Some p))) same ∙ get_or-set_same held c (Some p) None (omega (arith, within, order.owners)) in cc

    theirs : (k q : ℕ) → k ≢ c → held_at (set held c (Some p)) k ≡ Some q → held_at held k ≡ Some q
    theirs k q far h = sym (get_or-set_other held c k (Some p) None far) ∙ h

    not_owned : (k q : ℕ) → k ≢ c → held_at (set held c (Some p)) k ≡ Some q → q ≡ p → ⊥
    not_owned k q far h same = let f : Taken ≡ Free = sym (order.used k q (theirs k q far h)) ∙ ap (λ n. (pair_at v n).used) same ∙ free in cc

-- An entry of one resource changes at most its own hold.
pub exact_entry : (c : Course) (e : Entry) (held after : List (Option ℕ)) (r : ℕ) → IsExact c held → is_of r e.event ≡ true → holds_at (opening c) (e ∷ c.entries) r ≡ is_some (held_at after r)
    → ((k : ℕ) → k ≢ r → held_at after k ≡ held_at held k) → IsExact (with_entry c e) after
exact_entry c e held after r exact is mine others k within = ⊎_elim
    (λ same. subst (λ n. holds_at (opening c) (e ∷ c.entries) n ≡ is_some (held_at after n)) (sym same.1) mine)
    (λ far. ap (λ (ds : List Deed). holds (restored_at (opening c) k) ds) (leaves_others k e c.entries (not_of k far.1 (is_of k e.event) refl)) ∙ exact k within ∙ ap (λ (x : Option ℕ). is_some x) (sym (others k far.1)))
    (eqb_tells k r)
  where
    not_of : (k : ℕ) → k ≢ r → (t : Bool) → is_of k e.event ≡ t → is_of k e.event ≡ false
    not_of k far true h = absurd (far (one_resource k r e.event h is))
    not_of k far false h = h

-- an answer of a vault event
abbrev pub is_vault_answer : Outcome → Bool
is_vault_answer Idle = true
is_vault_answer Spent = true
is_vault_answer (StageOk s v) = true
is_vault_answer (StageFault s v) = true
is_vault_answer outcome = false

-- a vault's answer that leaves a hold
abbrev pub leaves_hold : Outcome → Bool
leaves_hold Idle = true
leaves_hold Spent = true
leaves_hold (StageOk Drop v) = false
leaves_hold (StageOk s v) = true
leaves_hold (StageFault s v) = true
leaves_hold outcome = false

or_true : (x : Bool) → (x || true) ≡ true
or_true true = refl
or_true false = refl

pub hold_left : (restored : Option Backup) (place : ℕ) (event : Event) (content : List ℕ) (ds : List Deed) (o : Outcome) → leaves_hold o ≡ true → holds restored ds ≡ true → holds restored (deed place event o content ∷ ds) ≡ true
hold_left restored place event content ds Idle is h = h
hold_left restored place event content ds Spent is h = h
hold_left restored place event content ds (StageOk Prepare v) is h = h
hold_left restored place event content ds (StageOk Body v) is h = h
hold_left restored place event content ds (StageOk Open v) is h = or_true (registered restored ds)
hold_left restored place event content ds (StageOk Fade v) is h = h
hold_left restored place event content ds (StageOk Drop v) is h = absurd cc
hold_left restored place event content ds (StageFault Prepare v) is h = h
hold_left restored place event content ds (StageFault Body v) is h = h
hold_left restored place event content ds (StageFault Open v) is h = or_true (registered restored ds)
hold_left restored place event content ds (StageFault Fade v) is h = h
hold_left restored place event content ds (StageFault Drop v) is h = h
hold_left restored place event content ds _ is h = absurd cc

-- who holds a pair goes on to, after an entry that leaves a hold
pub exact_left : (c : Course) (e : Entry) (held : List (Option ℕ)) (r p : ℕ) → IsExact c held → r < length c.names → is_of r e.event ≡ true → held_at held r ≡ Some p → leaves_hold e.outcome ≡ true → IsExact (with_entry c e) held
exact_left c e held r p exact within is has leaves =
    exact_entry c e held held r exact is
    (ap (λ (ds : List Deed). holds (restored_at (opening c) r) ds) (adds_deed r e c.entries is)
    ∙ hold_left (restored_at (opening c) r) (length c.entries + 1) e.event e.content (own r c.entries) e.outcome leaves (exact r within ∙ ap (λ (x : Option ℕ). is_some x) has)
    ∙ ap (λ (x : Option ℕ). is_some x) (sym has))
    (λ k far. refl)

-- One pair moves, with an entry of its resource.
pub putting_moved : (c : Course) (e : Entry) (v w : VaultState) (held : List (Option ℕ)) (r p more : ℕ) (pair : Pair) → HasPut c v held → IsPlaced c.names (opening c).barred v held → is_of r e.event ≡ true → held_at held r ≡ Some p
    → w ≡ with_pair (record { pairs = v.pairs; stamp = more }) p pair
    → ((b : Begun) → (marks_at (start_of c) (e ∷ c.entries) r).begun ≡ Some b → IsPut b.blocks pair.put) → HasPut (with_entry c e) w held
putting_moved c e v w held r p more pair put placed is has moved mine = subst (λ (k : VaultState). HasPut (with_entry c e) k held) (sym moved) each
  where
    last : VaultState
    last = with_pair (record { pairs = v.pairs; stamp = more }) p pair

    each : HasPut (with_entry c e) last held
    each k q b h begun = ⊎_elim
        (λ same.
        let at : p ≡ q = (let f : Some p ≡ Some q = sym has ∙ ap (held_at held) (sym same.1) ∙ h in cc) in
        subst (λ n. IsPut b.blocks (pair_at last n).put) at
        (subst (λ (x : Pair). IsPut b.blocks x.put) (sym (get_or-set_same v.pairs p pair no_pair (let lt : p < 64 = placed.below r p has in omega (arith, lt, placed.pairs))))
        (mine b (ap (λ n. (marks_at (start_of c) (e ∷ c.entries) n).begun) (sym same.1) ∙ begun))))
        (λ far.
        let away : q ≢ p = λ same. far.1 (placed.apart k r q h (has ∙ ap (λ n. Some n) (sym same))) in
        subst (λ (x : Pair). IsPut b.blocks x.put) (sym (get_or-set_other v.pairs p q pair no_pair away))
        (put k q b h (sym (ap (λ (m : Marks). m.begun) (same_marks (start_of c) c.entries e r k is far.1)) ∙ begun)))
        (eqb_tells k r)

-- a Prepare is answered Spent only where no stamp is left, and takes one where one is
spent_by : (most k : ℕ) (was : Bool) → k < most → (was ≡ true → k ≡ most) → was ≡ true → (n : ℕ) → k + n ≡ most
spent_by most k was lt is h n = absurd (omega (arith, lt, is h))

pub spent_on : (o : Outcome) (k : ℕ) (was : Bool) → IsStamped k o → (was ≡ true → k ≡ 2 ^ 64 - 1) → (is_spent o || was) ≡ true → k + takes_stamp o ≡ 2 ^ 64 - 1
spent_on Spent k was stamped is h = omega (arith, stamped)
spent_on (StageOk Prepare v) k was stamped is h = spent_by (2 ^ 64 - 1) k was stamped is h 1
spent_on (StageFault Prepare v) k was stamped is h = spent_by (2 ^ 64 - 1) k was stamped is h 1
spent_on (StageOk Body v) k was stamped is h = omega (arith, is h)
spent_on (StageOk Open v) k was stamped is h = omega (arith, is h)
spent_on (StageOk Fade v) k was stamped is h = omega (arith, is h)
spent_on (StageOk Drop v) k was stamped is h = omega (arith, is h)
spent_on (StageFault Body v) k was stamped is h = omega (arith, is h)
spent_on (StageFault Open v) k was stamped is h = omega (arith, is h)
spent_on (StageFault Fade v) k was stamped is h = omega (arith, is h)
spent_on (StageFault Drop v) k was stamped is h = omega (arith, is h)
spent_on _ k was stamped is h = omega (arith, is h)

-- an outcome that changes nobody's hold
abbrev pub same_hold : Outcome → Bool
same_hold (Opened s) = false
same_hold (Created n) = false
same_hold Closed = false
same_hold (StageOk s v) = false
same_hold (StageFault s v) = false
same_hold outcome = true

pub hold_same : (restored : Option Backup) (place : ℕ) (event : Event) (content : List ℕ) (ds : List Deed) (o : Outcome) → same_hold o ≡ true → holds restored (deed place event o content ∷ ds) ≡ holds restored ds
hold_same restored place event content ds (Opened s) is = absurd cc
hold_same restored place event content ds (Created n) is = absurd cc
hold_same restored place event content ds Closed is = absurd cc
hold_same restored place event content ds (StageOk s v) is = absurd cc
hold_same restored place event content ds (StageFault s v) is = absurd cc
hold_same restored place event content ds _ is = refl

pub exact_same : (c : Course) (e : Entry) (held : List (Option ℕ)) → IsExact c held → same_hold e.outcome ≡ true → IsExact (with_entry c e) held
exact_same c e held exact same k within = go (is_of k e.event) refl
  where
    go : (t : Bool) → is_of k e.event ≡ t → holds_at (opening c) (e ∷ c.entries) k ≡ is_some (held_at held k)
    go true h = ap (λ (ds : List Deed). holds (restored_at (opening c) k) ds) (adds_deed k e c.entries h) ∙ hold_same (restored_at (opening c) k) (length c.entries + 1) e.event e.content (own k c.entries) e.outcome same ∙ exact k within
    go false h = ap (λ (ds : List Deed). holds (restored_at (opening c) k) ds) (leaves_others k e c.entries h) ∙ exact k within

-- an entry that moves no pair
pub putting_stays : (c : Course) (e : Entry) (v : VaultState) (held : List (Option ℕ)) → HasPut c v held → ((k : ℕ) → MarksLess (marks_at (start_of c) c.entries k) (marks_at (start_of c) (e ∷ c.entries) k)) → HasPut (with_entry c e) v held
putting_stays c e v held put less k p b h begun = ⊎_elim
    (λ same. put k p b h (sym same ∙ begun))
    (λ none. absurd (let f : None ≡ Some b = sym none ∙ begun in cc))
    (less k).begun

-- the resource r gives its pair back
pub putting_released : (c : Course) (v : VaultState) (held : List (Option ℕ)) (r p : ℕ) → HasPut c v held → IsPlaced c.names (opening c).barred v held → r < length c.names → held_at held r ≡ Some p → HasPut c (with_pair v p (with_use (pair_at v p) Free)) (set held r None)
putting_released c v held r p put placed within has k q b h begun =
    subst (λ (x : Pair). IsPut b.blocks x.put) (sym (get_or-set_other v.pairs p q (with_use (pair_at v p) Free) no_pair not_p)) (put k q b theirs begun)
  where
    not_r : k ≢ r
    not_r same = let f : Some q ≡ None = sym h ∙ ap (held_at (set held r None)) same ∙ get_or-set_same held r None None (omega (arith, within, placed.owners)) in cc

    theirs : held_at held k ≡ Some q
    theirs = sym (get_or-set_other held r k None None not_r) ∙ h

    not_p : q ≢ p
    not_p same = not_r (placed.apart k r q theirs (has ∙ ap (λ n. Some n) (sym same)))
