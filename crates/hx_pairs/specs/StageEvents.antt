-- Each vault stage keeps all that a registry keeps, by what the vault promises of the stage.
use Rattle.std.specs.Prelude.{◌≡◌, ◌<◌, ◌≤◌, ℕ, ◌+◌, ◌-◌, ◌^◌, Bool, true, false, IsTrue, List, [], ◌∷◌, ◌++◌, length, is_some, Option, Some, None, refl}
use Rattle.std.proofs.Common.{sym, ◌∙◌, ap, subst, arith, set}
use Rattle.hx_faults.specs.Faults.{Rose}
use Rattle.hx_disk.specs.File.{FileState}
use Rattle.hx_disk.specs.Disk.{Through}
use Rattle.hx_slots.specs.Gate.{IsAnyState}
use Rattle.hx_slots.specs.Frames.{Frame}
use Rattle.hx_events.specs.declared.event.Event.TheVariants.{Vault}
use Rattle.hx_events.specs.declared.event.Stage.TheVariants.{Prepare, Body, Open, Fade, Drop}
use Rattle.hx_events.specs.declared.life.Entry.{Entry}
use Rattle.hx_events.specs.declared.outcome.Outcome.{Outcome}
use Rattle.hx_events.specs.declared.outcome.Outcome.TheVariants.{StageOk, StageFault}
use Rattle.hx_rules.specs.Backups.{Begun, taken, prepared, one_block_more}
use Rattle.hx_rules.specs.Due.{next_stage}
use Rattle.hx_rules.specs.Entries.{deed, own, is_of}
use Rattle.hx_rules.specs.Legal.{restored_at, is_row, holds_at}
use Rattle.hx_rules.specs.Marks.{Marks}
use Rattle.hx_rules_laws.specs.Marks.{MarkLaws, marks_change, still, wanted_with}
use Rattle.hx_vault.specs.Sides.{SideState, Shut, Still, IsSide, IsFrame, is_closed, loosened}
use Rattle.hx_vault.specs.Vaults.{VaultState, away_file, away_of, home_file, is_shut, pair_at, place_of, put_length, raised, rehomed, with_pair, with_put, with_shut, with_use}
use Rattle.hx_lives.specs.Course.{Course, Past, start_of, opening, opening_at, with_entry}
use Rattle.hx_lives.specs.Caused.{is_fault}
use Rattle.hx_lives.specs.CrashSafe.{name_at}
use Rattle.hx_lives.specs.Told.{IsStamped, takes_stamp}
use Rattle.hx_pairs.specs.AllPairs.{held_at, marks_at}
use Rattle.hx_pairs.specs.Stages.{IsBlock}
use Rattle.hx_pairs.specs.Moves.{new_marks}
use Rattle.hx_pairs.specs.StageEnds.{drop_good, prepare_good, prepare_failed_good, open_good, open_failed_good, fade_good, fade_failed_good, drop_failed_good, body_good, body_failed_good}
use Rattle.hx_pairs.specs.Registries.{IsPlaced, IsPut, HasPut, RegistryInvariant, is_vault_answer, leaves_hold, placed_moved, placed_released, exact_entry, exact_left, putting_moved, putting_released}
use Rattle.std.proofs.lemmas.Bool.Decides.{nat_tests}
use Rattle.hx_pairs.specs.Owners.{released}
use Rattle.hx_pairs.specs.Owed.{PairsOwe}
use Rattle.std.proofs.lemmas.List.{get_or-set_same, get_or-set_other}
use Rattle.hx_vault.specs.declared.pair.PairUse.TheVariants.{Free}
use Rattle.hx_pairs.specs.Entry.{slot_below, invariant_stage}

own_vault : (c : ℕ) → is_of c (Vault c) ≡ true
own_vault c = grind (arith, nat_tests)

-- a stage that is done is no fault
not_fault : (o q : Outcome) → o ≡ q → is_fault q ≡ false → {X : Type 0} → is_fault o ≡ true → X
not_fault o q was no_fault {X} is = absurd (let odd : false ≡ true = sym no_fault ∙ sym (ap is_fault was) ∙ is in cc)

-- nothing is begun where the marks say so
none_begun : (x : Option Begun) (p : Option ℕ) → x ≡ None → (b : Begun) → x ≡ Some b → IsPut b.blocks p
none_begun x p none b is = absurd (let f : None ≡ Some b = sym none ∙ is in cc)

still_none : (t : Bool) → still t None ≡ None
still_none true = refl
still_none false = refl

abbrev blocks_in : Option Begun → ℕ
blocks_in None = 0
blocks_in (Some b) = b.blocks

-- one block more
put_more : (t : Bool) (was : Option Begun) (bg b : Begun) (put : Option ℕ) (n : ℕ) → was ≡ Some bg → is_some put ≡ true → n ≤ 8192 → IsPut bg.blocks put → still t (one_block_more was) ≡ Some b → IsPut b.blocks (Some (put_length put + n))
put_more false was bg b put n begun there short is new = absurd cc
put_more true None bg b put n begun there short is new = absurd cc
put_more true (Some x) bg b None n begun there short is new = absurd cc
put_more true (Some x) bg b (Some m) n begun there short is new =
    let e : x ≡ bg = cc in
    let f : b.blocks ≡ x.blocks + 1 = sym (ap (λ (o : Option Begun). blocks_in o) new) in
    omega (arith, is, short, ap (λ (y : Begun). y.blocks) e, f)

module _ {D : Type 0} (tells : Bool) (time : D → ℕ) (past : D → Past) (now : D → ℕ → FileState) (failures : D → ℕ) (present : (d : D) (f : ℕ) → past d (time d) f ≡ now d f)
    (c : Course) (v w : VaultState) (held : List (Option ℕ)) (old new : D) (e : Entry) (r p n : ℕ)
    (holding : RegistryInvariant tells time past now failures c v held old) (holds : held_at held r ≡ Some p) (within : r < length c.names) (event : e.event ≡ Vault r)
    (at : e.moment ≡ time new) (counts : e.faults ≡ failures new) (row : is_row (opening c) c.entries e.event e.outcome ≡ true) (later : failures old ≤ failures new) where
  of_r : is_of r e.event ≡ true
  of_r = ap (is_of r) event ∙ own_vault r

  laws : MarkLaws (restored_at (opening_at (start_of c)) r) (opening_at (start_of c)).guarded (length c.entries + 1) e.event e.content (own r c.entries)
  laws = marks_change (restored_at (opening_at (start_of c)) r) (opening_at (start_of c)).guarded (length c.entries + 1) e.event e.content (own r c.entries)

  -- Prepare
  pub prepare_invariant : e.outcome ≡ StageOk Prepare n → w ≡ with_pair (raised v) p (with_put (with_shut (pair_at v p) (away_of (pair_at v p)) true) (Some 0)) → v.stamp < 2 ^ 64 - 1 → Through time past (away_file v p) IsAnyState old new
      → (IsTrue tells → (s : SideState) → is_closed s ≡ is_shut (pair_at v p) (away_of (pair_at v p)) → IsSide s (now old (away_file v p)) → IsSide (Shut []) (now new (away_file v p)))
      → (IsTrue tells → (s : SideState) → is_closed s ≡ is_shut (pair_at v p) (away_of (pair_at v p)) → IsSide s (now old (away_file v p)) → Through time past (away_file v p) (IsSide (loosened s)) old new)
      → RegistryInvariant tells time past now failures (with_entry c e) w held new
  prepare_invariant was vault left run shut each =
      invariant_stage tells time past now failures present c e v w held held old new (away_file v p) holding (slot_below p (away_of (pair_at v p)) (holding.placed.below r p holds)) run later at counts (ap is_vault_answer was) row (not_fault e.outcome (StageOk Prepare n) was refl)
      (placed_moved c.names (opening c).barred v w held r p (v.stamp + 1) (with_put (with_shut (pair_at v p) (away_of (pair_at v p)) true) (Some 0)) holding.placed holds vault (holding.placed.used r p holds))
      (exact_left c e held r p holding.exact within of_r holds (ap leaves_hold was))
      (putting_moved c e v w held r p (v.stamp + 1) (with_put (with_shut (pair_at v p) (away_of (pair_at v p)) true) (Some 0)) holding.putting holding.placed of_r holds vault (λ b is. let m : Some (prepared (restored_at (opening_at (start_of c)) r) n (own r c.entries)) ≡ Some b = sym (ap (λ (m : Marks). m.begun) (new_marks (start_of c) c.entries e r (StageOk Prepare n) of_r was ∙ laws.prepare_ok n)) ∙ is in omega arith))
      (λ is. prepare_good time past now present (start_of c) c.entries v w held old new e r p n (holding.pairs is) holds of_r was vault (shut is) (each is))
      (subst (IsStamped v.stamp) (sym was) left) (ap (λ (k : VaultState). k.stamp) vault ∙ ap (λ (o : Outcome). v.stamp + takes_stamp o) (sym was))

  pub prepare_failed_invariant : e.outcome ≡ StageFault Prepare n → w ≡ with_pair (raised v) p (with_put (pair_at v p) None) → v.stamp < 2 ^ 64 - 1 → Rose (failures old) (failures new) → Through time past (away_file v p) IsAnyState old new
      → (IsTrue tells → (s : SideState) → is_closed s ≡ is_shut (pair_at v p) (away_of (pair_at v p)) → IsSide s (now old (away_file v p)) → Through time past (away_file v p) (IsSide (loosened s)) old new)
      → RegistryInvariant tells time past now failures (with_entry c e) w held new
  prepare_failed_invariant was vault left rose run each =
      invariant_stage tells time past now failures present c e v w held held old new (away_file v p) holding (slot_below p (away_of (pair_at v p)) (holding.placed.below r p holds)) run later at counts (ap is_vault_answer was) row (λ is. rose)
      (placed_moved c.names (opening c).barred v w held r p (v.stamp + 1) (with_put (pair_at v p) None) holding.placed holds vault (holding.placed.used r p holds))
      (exact_left c e held r p holding.exact within of_r holds (ap leaves_hold was))
      (putting_moved c e v w held r p (v.stamp + 1) (with_put (pair_at v p) None) holding.putting holding.placed of_r holds vault (none_begun (marks_at (start_of c) (e ∷ c.entries) r).begun None (ap (λ (m : Marks). m.begun) (new_marks (start_of c) c.entries e r (StageFault Prepare n) of_r was ∙ laws.prepare_fault n))))
      (λ is. prepare_failed_good time past now present (start_of c) c.entries v w held old new e r p n (holding.pairs is) holds of_r was vault (each is))
      (subst (IsStamped v.stamp) (sym was) left) (ap (λ (k : VaultState). k.stamp) vault ∙ ap (λ (o : Outcome). v.stamp + takes_stamp o) (sym was))

  -- Open
  pub open_invariant : (bg : Begun) → (marks_at (start_of c) c.entries r).begun ≡ Some bg → next_stage bg ≡ Open → bg.size ≡ length bg.snapshot.content → taken (restored_at (opening c) r) n (own r c.entries) ≡ bg.snapshot
      → e.outcome ≡ StageOk Open n → w ≡ with_pair v p (rehomed (pair_at v p) (away_of (pair_at v p))) → Through time past (away_file v p) IsAnyState old new
      → (IsTrue tells → (put : List ℕ) (frame : Frame) → IsSide (Shut put) (now old (away_file v p)) → IsFrame put frame → IsSide (Still (Some frame) true) (now new (away_file v p)))
      → (IsTrue tells → (put : List ℕ) (frame : Frame) → IsSide (Shut put) (now old (away_file v p)) → IsFrame put frame → Through time past (away_file v p) (IsSide (Still (Some frame) false)) old new)
      → RegistryInvariant tells time past now failures (with_entry c e) w held new
  open_invariant bg begun next sized same was vault run opens each =
      invariant_stage tells time past now failures present c e v w held held old new (away_file v p) holding (slot_below p (away_of (pair_at v p)) (holding.placed.below r p holds)) run later at counts (ap is_vault_answer was) row (not_fault e.outcome (StageOk Open n) was refl)
      (placed_moved c.names (opening c).barred v w held r p v.stamp (rehomed (pair_at v p) (away_of (pair_at v p))) holding.placed holds vault (holding.placed.used r p holds))
      (exact_left c e held r p holding.exact within of_r holds (ap leaves_hold was))
      (putting_moved c e v w held r p v.stamp (rehomed (pair_at v p) (away_of (pair_at v p))) holding.putting holding.placed of_r holds vault (none_begun (marks_at (start_of c) (e ∷ c.entries) r).begun None (ap (λ (m : Marks). m.begun) (new_marks (start_of c) c.entries e r (StageOk Open n) of_r was ∙ laws.open_ok n))))
      (λ is. open_good time past now present (start_of c) c.entries v w held old new e r p n (holding.pairs is) holds of_r bg begun next sized same was vault (opens is) (each is))
      (subst (IsStamped v.stamp) (sym was) tt) (ap (λ (k : VaultState). k.stamp) vault ∙ (let none : takes_stamp e.outcome ≡ 0 = ap takes_stamp was in omega (arith, none)))

  pub open_failed_invariant : (bg : Begun) → (marks_at (start_of c) c.entries r).begun ≡ Some bg → next_stage bg ≡ Open → bg.size ≡ length bg.snapshot.content → taken (restored_at (opening c) r) n (own r c.entries) ≡ bg.snapshot
      → e.outcome ≡ StageFault Open n → w ≡ with_pair v p (with_shut (pair_at v p) (away_of (pair_at v p)) false) → Rose (failures old) (failures new) → Through time past (away_file v p) IsAnyState old new
      → (IsTrue tells → (put : List ℕ) (frame : Frame) → IsSide (Shut put) (now old (away_file v p)) → IsFrame put frame → Through time past (away_file v p) (IsSide (Still (Some frame) false)) old new)
      → RegistryInvariant tells time past now failures (with_entry c e) w held new
  open_failed_invariant bg begun next sized same was vault rose run each =
      invariant_stage tells time past now failures present c e v w held held old new (away_file v p) holding (slot_below p (away_of (pair_at v p)) (holding.placed.below r p holds)) run later at counts (ap is_vault_answer was) row (λ is. rose)
      (placed_moved c.names (opening c).barred v w held r p v.stamp (with_shut (pair_at v p) (away_of (pair_at v p)) false) holding.placed holds vault (holding.placed.used r p holds))
      (exact_left c e held r p holding.exact within of_r holds (ap leaves_hold was))
      (putting_moved c e v w held r p v.stamp (with_shut (pair_at v p) (away_of (pair_at v p)) false) holding.putting holding.placed of_r holds vault (none_begun (marks_at (start_of c) (e ∷ c.entries) r).begun None (ap (λ (m : Marks). m.begun) (new_marks (start_of c) c.entries e r (StageFault Open n) of_r was ∙ laws.open_fault n))))
      (λ is. open_failed_good time past now present (start_of c) c.entries v w held old new e r p n (holding.pairs is) holds of_r bg begun next sized same was vault (each is))
      (subst (IsStamped v.stamp) (sym was) tt) (ap (λ (k : VaultState). k.stamp) vault ∙ (let none : takes_stamp e.outcome ≡ 0 = ap takes_stamp was in omega (arith, none)))

  -- Fade
  pub fade_invariant : (marks_at (start_of c) c.entries r).begun ≡ None → e.outcome ≡ StageOk Fade n → w ≡ with_pair v p (with_put (with_shut (pair_at v p) (away_of (pair_at v p)) true) None) → Through time past (away_file v p) IsAnyState old new
      → (IsTrue tells → (s : SideState) → is_closed s ≡ is_shut (pair_at v p) (away_of (pair_at v p)) → IsSide s (now old (away_file v p)) → IsSide (Shut []) (now new (away_file v p)))
      → (IsTrue tells → (s : SideState) → is_closed s ≡ is_shut (pair_at v p) (away_of (pair_at v p)) → IsSide s (now old (away_file v p)) → Through time past (away_file v p) (IsSide (loosened s)) old new)
      → RegistryInvariant tells time past now failures (with_entry c e) w held new
  fade_invariant idle was vault run shut each =
      invariant_stage tells time past now failures present c e v w held held old new (away_file v p) holding (slot_below p (away_of (pair_at v p)) (holding.placed.below r p holds)) run later at counts (ap is_vault_answer was) row (not_fault e.outcome (StageOk Fade n) was refl)
      (placed_moved c.names (opening c).barred v w held r p v.stamp (with_put (with_shut (pair_at v p) (away_of (pair_at v p)) true) None) holding.placed holds vault (holding.placed.used r p holds))
      (exact_left c e held r p holding.exact within of_r holds (ap leaves_hold was))
      (putting_moved c e v w held r p v.stamp (with_put (with_shut (pair_at v p) (away_of (pair_at v p)) true) None) holding.putting holding.placed of_r holds vault (none_begun (marks_at (start_of c) (e ∷ c.entries) r).begun None (ap (λ (m : Marks). m.begun) (new_marks (start_of c) c.entries e r (StageOk Fade n) of_r was ∙ laws.fade_ok n) ∙ ap (λ (x : Option Begun). still (wanted_with (restored_at (opening_at (start_of c)) r) (opening_at (start_of c)).guarded (deed (length c.entries + 1) e.event (StageOk Fade n) e.content) (own r c.entries)) x) idle ∙ still_none (wanted_with (restored_at (opening_at (start_of c)) r) (opening_at (start_of c)).guarded (deed (length c.entries + 1) e.event (StageOk Fade n) e.content) (own r c.entries)))))
      (λ is. fade_good time past now present (start_of c) c.entries v w held old new e r p n (holding.pairs is) holds of_r idle was vault (shut is) (each is))
      (subst (IsStamped v.stamp) (sym was) tt) (ap (λ (k : VaultState). k.stamp) vault ∙ (let none : takes_stamp e.outcome ≡ 0 = ap takes_stamp was in omega (arith, none)))

  pub fade_failed_invariant : e.outcome ≡ StageFault Fade n → w ≡ with_pair v p (with_put (pair_at v p) None) → Rose (failures old) (failures new) → Through time past (away_file v p) IsAnyState old new
      → (IsTrue tells → (s : SideState) → is_closed s ≡ is_shut (pair_at v p) (away_of (pair_at v p)) → IsSide s (now old (away_file v p)) → Through time past (away_file v p) (IsSide (loosened s)) old new)
      → RegistryInvariant tells time past now failures (with_entry c e) w held new
  fade_failed_invariant was vault rose run each =
      invariant_stage tells time past now failures present c e v w held held old new (away_file v p) holding (slot_below p (away_of (pair_at v p)) (holding.placed.below r p holds)) run later at counts (ap is_vault_answer was) row (λ is. rose)
      (placed_moved c.names (opening c).barred v w held r p v.stamp (with_put (pair_at v p) None) holding.placed holds vault (holding.placed.used r p holds))
      (exact_left c e held r p holding.exact within of_r holds (ap leaves_hold was))
      (putting_moved c e v w held r p v.stamp (with_put (pair_at v p) None) holding.putting holding.placed of_r holds vault (none_begun (marks_at (start_of c) (e ∷ c.entries) r).begun None (ap (λ (m : Marks). m.begun) (new_marks (start_of c) c.entries e r (StageFault Fade n) of_r was ∙ laws.fade_fault n))))
      (λ is. fade_failed_good time past now present (start_of c) c.entries v w held old new e r p n (holding.pairs is) holds of_r was vault (each is))
      (subst (IsStamped v.stamp) (sym was) tt) (ap (λ (k : VaultState). k.stamp) vault ∙ (let none : takes_stamp e.outcome ≡ 0 = ap takes_stamp was in omega (arith, none)))

  -- Drop that failed
  pub drop_failed_invariant : (marks_at (start_of c) c.entries r).tried ≡ None → (marks_at (start_of c) c.entries r).faded ≡ true → e.outcome ≡ StageFault Drop n → w ≡ with_pair v p (with_put (pair_at v p) None) → Rose (failures old) (failures new) → Through time past (home_file v p) IsAnyState old new
      → (IsTrue tells → (s : SideState) → is_closed s ≡ is_shut (pair_at v p) (pair_at v p).home → IsSide s (now old (home_file v p)) → Through time past (home_file v p) (IsSide (loosened s)) old new)
      → RegistryInvariant tells time past now failures (with_entry c e) w held new
  drop_failed_invariant untried faded was vault rose run each =
      invariant_stage tells time past now failures present c e v w held held old new (home_file v p) holding (slot_below p (pair_at v p).home (holding.placed.below r p holds)) run later at counts (ap is_vault_answer was) row (λ is. rose)
      (placed_moved c.names (opening c).barred v w held r p v.stamp (with_put (pair_at v p) None) holding.placed holds vault (holding.placed.used r p holds))
      (exact_left c e held r p holding.exact within of_r holds (ap leaves_hold was))
      (putting_moved c e v w held r p v.stamp (with_put (pair_at v p) None) holding.putting holding.placed of_r holds vault (none_begun (marks_at (start_of c) (e ∷ c.entries) r).begun None (ap (λ (m : Marks). m.begun) (new_marks (start_of c) c.entries e r (StageFault Drop n) of_r was ∙ laws.drop_fault n))))
      (λ is. drop_failed_good time past now present (start_of c) c.entries v w held old new e r p n (holding.pairs is) holds of_r untried faded was vault (each is))
      (subst (IsStamped v.stamp) (sym was) tt) (ap (λ (k : VaultState). k.stamp) vault ∙ (let none : takes_stamp e.outcome ≡ 0 = ap takes_stamp was in omega (arith, none)))

  -- Drop that is done: while the copy is registered the pair stays with it, else it goes back
  dropped : VaultState
  dropped = with_pair v p (with_put (with_shut (pair_at v p) (pair_at v p).home true) None)

  pub drop_owes : IsTrue tells → (marks_at (start_of c) c.entries r).tried ≡ None → (marks_at (start_of c) c.entries r).faded ≡ true → (marks_at (start_of c) c.entries r).begun ≡ None → e.outcome ≡ StageOk Drop n
      → w ≡ with_pair v p (with_put (with_shut (pair_at v p) (pair_at v p).home true) None)
      → (IsTrue tells → (s : SideState) → is_closed s ≡ is_shut (pair_at v p) (pair_at v p).home → IsSide s (now old (home_file v p)) → IsSide (Shut []) (now new (home_file v p)))
      → (IsTrue tells → (s : SideState) → is_closed s ≡ is_shut (pair_at v p) (pair_at v p).home → IsSide s (now old (home_file v p)) → Through time past (home_file v p) (IsSide (loosened s)) old new)
      → PairsOwe time past now (start_of c) c.entries e w held old new
  drop_owes is untried faded idle was vault shut each = drop_good time past now present (start_of c) c.entries v w held old new e r p n (holding.pairs is) holds of_r untried faded idle was vault (shut is) (each is)

  pub drop_bare : (marks_at (start_of c) c.entries r).tried ≡ None → e.outcome ≡ StageOk Drop n → ((marks_at (start_of c) (e ∷ c.entries) r).done ≡ None) × ((marks_at (start_of c) (e ∷ c.entries) r).tried ≡ None)
  drop_bare untried was = (
    ap (λ (m : Marks). m.done) (new_marks (start_of c) c.entries e r (StageOk Drop n) of_r was ∙ laws.drop_ok n),
    ap (λ (m : Marks). m.tried) (new_marks (start_of c) c.entries e r (StageOk Drop n) of_r was ∙ laws.drop_ok n) ∙ untried,
  )

  drop_placed : w ≡ with_pair v p (with_put (with_shut (pair_at v p) (pair_at v p).home true) None) → IsPlaced c.names (opening c).barred w held
  drop_placed vault = placed_moved c.names (opening c).barred v w held r p v.stamp (with_put (with_shut (pair_at v p) (pair_at v p).home true) None) holding.placed holds vault (holding.placed.used r p holds)

  drop_putting : (marks_at (start_of c) c.entries r).begun ≡ None → e.outcome ≡ StageOk Drop n → w ≡ with_pair v p (with_put (with_shut (pair_at v p) (pair_at v p).home true) None) → HasPut (with_entry c e) w held
  drop_putting idle was vault = putting_moved c e v w held r p v.stamp (with_put (with_shut (pair_at v p) (pair_at v p).home true) None) holding.putting holding.placed of_r holds vault (none_begun (marks_at (start_of c) (e ∷ c.entries) r).begun None (ap (λ (m : Marks). m.begun) (new_marks (start_of c) c.entries e r (StageOk Drop n) of_r was ∙ laws.drop_ok n) ∙ ap (λ (x : Option Begun). still (wanted_with (restored_at (opening_at (start_of c)) r) (opening_at (start_of c)).guarded (deed (length c.entries + 1) e.event (StageOk Drop n) e.content) (own r c.entries)) x) idle ∙ still_none (wanted_with (restored_at (opening_at (start_of c)) r) (opening_at (start_of c)).guarded (deed (length c.entries + 1) e.event (StageOk Drop n) e.content) (own r c.entries))))

  pub drop_invariant : holds_at (opening c) (e ∷ c.entries) r ≡ true → (marks_at (start_of c) c.entries r).begun ≡ None → e.outcome ≡ StageOk Drop n
      → w ≡ with_pair v p (with_put (with_shut (pair_at v p) (pair_at v p).home true) None) → Through time past (home_file v p) IsAnyState old new
      → (IsTrue tells → PairsOwe time past now (start_of c) c.entries e w held old new)
      → RegistryInvariant tells time past now failures (with_entry c e) w held new
  drop_invariant keeps idle was vault run owes =
      invariant_stage tells time past now failures present c e v w held held old new (home_file v p) holding (slot_below p (pair_at v p).home (holding.placed.below r p holds)) run later at counts (ap is_vault_answer was) row (not_fault e.outcome (StageOk Drop n) was refl)
      (drop_placed vault)
      (exact_entry c e held held r holding.exact of_r (keeps ∙ ap (λ (x : Option ℕ). is_some x) (sym holds)) (λ k far. refl))
      (drop_putting idle was vault)
      owes
      (subst (IsStamped v.stamp) (sym was) tt) (ap (λ (k : VaultState). k.stamp) vault ∙ (let none : takes_stamp e.outcome ≡ 0 = ap takes_stamp was in omega (arith, none)))

  pub drop_released_invariant : holds_at (opening c) (e ∷ c.entries) r ≡ false → (marks_at (start_of c) c.entries r).tried ≡ None → (marks_at (start_of c) c.entries r).begun ≡ None → e.outcome ≡ StageOk Drop n
      → w ≡ with_pair v p (with_put (with_shut (pair_at v p) (pair_at v p).home true) None) → Through time past (home_file v p) IsAnyState old new
      → (IsTrue tells → PairsOwe time past now (start_of c) c.entries e w held old new)
      → RegistryInvariant tells time past now failures (with_entry c e) (with_pair w p (with_use (pair_at w p) Free)) (set held r None) new
  drop_released_invariant gone untried idle was vault run owes =
      let bare = drop_bare untried was in
      invariant_stage tells time past now failures present c e v (with_pair w p (with_use (pair_at w p) Free)) held (set held r None) old new (home_file v p) holding (slot_below p (pair_at v p).home (holding.placed.below r p holds)) run later at counts (ap is_vault_answer was) row (not_fault e.outcome (StageOk Drop n) was refl)
      (placed_released c.names (opening c).barred w held r p (drop_placed vault) within holds)
      (exact_entry c e held (set held r None) r holding.exact of_r (gone ∙ ap (λ (x : Option ℕ). is_some x) (sym (get_or-set_same held r None None (omega (arith, within, holding.placed.owners))))) (λ k far. get_or-set_other held r k None None far))
      (putting_released (with_entry c e) w held r p (drop_putting idle was vault) (drop_placed vault) within holds)
      (λ is. let o = owes is in record { inside = o.inside; kept = released (start_of c) (e ∷ c.entries) w held (now new) r p o.kept within holds bare.0 bare.1 })
      (subst (IsStamped v.stamp) (sym was) tt) (ap (λ (k : VaultState). k.stamp) vault ∙ (let none : takes_stamp e.outcome ≡ 0 = ap takes_stamp was in omega (arith, none)))

  -- Body
  pub body_invariant : (bg : Begun) (block : List ℕ) → (marks_at (start_of c) c.entries r).begun ≡ Some bg → (IsTrue tells → IsBlock (name_at (start_of c) r) v.stamp bg block) → length block ≤ 8192 → is_some (pair_at v p).put ≡ true
      → e.outcome ≡ StageOk Body n → w ≡ with_pair v p (with_put (pair_at v p) (Some (place_of (pair_at v p) + length block))) → Through time past (away_file v p) IsAnyState old new
      → (IsTrue tells → (put : List ℕ) → length put ≡ place_of (pair_at v p) → IsSide (Shut put) (now old (away_file v p)) → IsSide (Shut (put ++ block)) (now new (away_file v p)))
      → (IsTrue tells → Through time past (away_file v p) (IsSide (Shut [])) old new)
      → RegistryInvariant tells time past now failures (with_entry c e) w held new
  body_invariant bg block begun is_block short prepared was vault run puts each =
      invariant_stage tells time past now failures present c e v w held held old new (away_file v p) holding (slot_below p (away_of (pair_at v p)) (holding.placed.below r p holds)) run later at counts (ap is_vault_answer was) row (not_fault e.outcome (StageOk Body n) was refl)
      (placed_moved c.names (opening c).barred v w held r p v.stamp (with_put (pair_at v p) (Some (place_of (pair_at v p) + length block))) holding.placed holds vault (holding.placed.used r p holds))
      (exact_left c e held r p holding.exact within of_r holds (ap leaves_hold was))
      (putting_moved c e v w held r p v.stamp (with_put (pair_at v p) (Some (place_of (pair_at v p) + length block))) holding.putting holding.placed of_r holds vault (λ b is. put_more (wanted_with (restored_at (opening_at (start_of c)) r) (opening_at (start_of c)).guarded (deed (length c.entries + 1) e.event (StageOk Body n) e.content) (own r c.entries)) (marks_at (start_of c) c.entries r).begun bg b (pair_at v p).put (length block) begun prepared short (holding.putting r p bg holds begun) (sym (ap (λ (m : Marks). m.begun) (new_marks (start_of c) c.entries e r (StageOk Body n) of_r was ∙ laws.body_ok n)) ∙ is)))
      (λ is. body_good time past now present (start_of c) c.entries v w held old new e r p n (holding.pairs is) holds of_r bg block begun (is_block is) prepared was vault (puts is) (each is))
      (subst (IsStamped v.stamp) (sym was) tt) (ap (λ (k : VaultState). k.stamp) vault ∙ (let none : takes_stamp e.outcome ≡ 0 = ap takes_stamp was in omega (arith, none)))

  pub body_failed_invariant : (bg : Begun) → (marks_at (start_of c) c.entries r).begun ≡ Some bg → e.outcome ≡ StageFault Body n → w ≡ with_pair v p (with_put (pair_at v p) None) → Rose (failures old) (failures new) → Through time past (away_file v p) IsAnyState old new
      → (IsTrue tells → Through time past (away_file v p) (IsSide (Shut [])) old new)
      → RegistryInvariant tells time past now failures (with_entry c e) w held new
  body_failed_invariant bg begun was vault rose run each =
      invariant_stage tells time past now failures present c e v w held held old new (away_file v p) holding (slot_below p (away_of (pair_at v p)) (holding.placed.below r p holds)) run later at counts (ap is_vault_answer was) row (λ is. rose)
      (placed_moved c.names (opening c).barred v w held r p v.stamp (with_put (pair_at v p) None) holding.placed holds vault (holding.placed.used r p holds))
      (exact_left c e held r p holding.exact within of_r holds (ap leaves_hold was))
      (putting_moved c e v w held r p v.stamp (with_put (pair_at v p) None) holding.putting holding.placed of_r holds vault (none_begun (marks_at (start_of c) (e ∷ c.entries) r).begun None (ap (λ (m : Marks). m.begun) (new_marks (start_of c) c.entries e r (StageFault Body n) of_r was ∙ laws.body_fault n))))
      (λ is. body_failed_good time past now present (start_of c) c.entries v w held old new e r p n (holding.pairs is) holds of_r bg begun was vault (each is))
      (subst (IsStamped v.stamp) (sym was) tt) (ap (λ (k : VaultState). k.stamp) vault ∙ (let none : takes_stamp e.outcome ≡ 0 = ap takes_stamp was in omega (arith, none)))
