-- Events that move no slot file: the pairs' invariant stays.
use Rattle.std.specs.Prelude.{◌≡◌, ◌<◌, ◌≤◌, ◌⊎◌, ℕ, ◌+◌, Bool, true, false, IsTrue, List, ◌∷◌, Option, Some, None, refl}
use Rattle.std.proofs.Common.{sym, ◌∙◌, ap, subst, inl, inr, ⊎_elim, arith}
use Rattle.hx_faults.specs.Faults.{Rose}
use Rattle.hx_disk.specs.File.{FileState, IsImage}
use Rattle.hx_disk.specs.Disk.{Through, ChangesNothing}
use Rattle.hx_slots.specs.Gate.{IsAnyState}
use Rattle.hx_slots.specs.Files.{file_of}
use Rattle.hx_events.specs.declared.backup.Side.{Side}
use Rattle.hx_events.specs.declared.backup.Side.TheVariants.{A, B}
use Rattle.hx_events.specs.declared.life.Entry.{Entry}
use Rattle.hx_events.specs.declared.outcome.Outcome.{Outcome}
use Rattle.hx_events.specs.declared.outcome.Outcome.TheVariants.{Spent, StageOk, StageFault}
use Rattle.hx_rules.specs.Allowed.{failed, failed_outcome}
use Rattle.hx_rules.specs.Entries.{own, is_of}
use Rattle.hx_rules.specs.Legal.{restored_at, is_row}
use Rattle.hx_rules.specs.Versions.{versions}
use Rattle.hx_rules_laws.specs.Marks.{is_vault_outcome}
use Rattle.hx_vault.specs.declared.pair.Pair.{Pair}
use Rattle.hx_vault.specs.Sides.{SideState, Shut, Still, IsSide, IsQuietFile, is_closed}
use Rattle.hx_vault.specs.Vaults.{VaultState, pair_at, other_side, is_shut}
use Rattle.hx_lives.specs.Course.{Course, Start, Past, start_of, opening, with_entry}
use Rattle.hx_lives.specs.Caused.{is_fault}
use Rattle.hx_lives.specs.CrashSafe.{name_at}
use Rattle.hx_lives.specs.Told.{IsFound, IsStamped, takes_stamp, user_file, resource_in, writes_by}
use Rattle.hx_pairs.specs.OnePair.{Quiet}
use Rattle.hx_pairs.specs.AllPairs.{HasSides, held_at, marks_at, PairsInvariant}
use Rattle.hx_pairs.specs.Safe.{kept_safe}
use Rattle.hx_pairs.specs.Stays.{MarksLess, outcome_less, spent_less, stays, less_all}
use Rattle.hx_pairs.specs.Owners.{keeps_quiet}
use Rattle.hx_pairs.specs.Owed.{PairsOwe}
use Rattle.hx_pairs.specs.Registries.{RegistryInvariant, is_vault_answer, same_hold, exact_same, putting_stays}
use Rattle.hx_pairs.specs.Entry.{slot_below, invariant_entry}

sides_same : (pair : Pair) (p : ℕ) (old new : ℕ → FileState) (here away : SideState) → p < 64 → ((f : ℕ) → f < 128 → new f ≡ old f) → HasSides pair p old here away → HasSides pair p new here away
sides_same pair p old new here away within same sides = record {
  is_here = subst (IsSide here) (sym (same (file_of p pair.home) (slot_below p pair.home within))) sides.is_here;
  is_away = subst (IsSide away) (sym (same (file_of p (other_side pair.home)) (slot_below p (other_side pair.home) within))) sides.is_away;
  known_here = sides.known_here;
  known_away = sides.known_away;
  known_put = sides.known_put;
}

-- The same slot files, the same invariant.
pub same_slots : (b : Start) (es : List Entry) (v : VaultState) (held : List (Option ℕ)) (old new : ℕ → FileState) → ((f : ℕ) → f < 128 → new f ≡ old f) → PairsInvariant b es v held old → PairsInvariant b es v held new
same_slots b es v held old new same kept = record {
  names = kept.names;
  owners = kept.owners;
  pairs = kept.pairs;
  apart = kept.apart;
  taken = λ c p h. let t = kept.taken c p h in record {
    below = t.below;
    used = t.used;
    owned = record { here = t.owned.here; away = t.owned.away; sides = sides_same (pair_at v p) p old new t.owned.here t.owned.away t.below same t.owned.sides; keeps = t.owned.keeps };
  };
  owned = kept.owned;
  free = λ p within u. let q = kept.free p within u in record { here = q.here; away = q.away; sides = sides_same (pair_at v p) p old new q.here q.away within same q.sides; quiet_here = q.quiet_here; quiet_away = q.quiet_away };
  barred = λ p within u. let f = kept.barred p within u in record {
    value = f.value;
    fixed = λ x y is_x is_y. f.fixed x y
        (subst (λ (s : FileState). IsImage s x) (same (file_of p A) (slot_below p A within)) is_x)
        (subst (λ (s : FileState). IsImage s y) (same (file_of p B) (slot_below p B within)) is_y);
    kind = f.kind;
  };
  lacking = kept.lacking;
}

-- an outcome that moves no pair
abbrev pub IsStay : Outcome → Type 0
IsStay o = (is_vault_outcome o ≡ false) ⊎ (o ≡ Spent)

stay_failed : (o : Outcome) → IsStay o → IsStay (failed_outcome o)
stay_failed (StageOk s v) (inl other) = absurd cc
stay_failed (StageOk s v) (inr spent) = absurd cc
stay_failed (StageFault s v) stay = stay
stay_failed _ stay = stay

pub stay_less : (b : Start) (es : List Entry) (e : Entry) → IsStay e.outcome → (c : ℕ) → is_of c e.event ≡ true → MarksLess (marks_at b es c) (marks_at b (e ∷ es) c)
stay_less b es e (inl other) c is = outcome_less b es e c is other
stay_less b es e (inr spent) c is = spent_less b es e c is spent

module _ {D : Type 0} (time : D → ℕ) (past : D → Past) (now : D → ℕ → FileState) (present : (d : D) (f : ℕ) → past d (time d) f ≡ now d f) where
  -- an event that moves no slot file and no pair
  pub pairs_stay : (b : Start) (es : List Entry) (v : VaultState) (held : List (Option ℕ)) (old new : D) (e : Entry) → PairsInvariant b es v held (now old) → time old ≤ time new
      → ((t f : ℕ) → f < 128 → time old ≤ t → t ≤ time new → past new t f ≡ now old f) → IsStay e.outcome → PairsOwe time past now b es e v held old new
  pairs_stay b es v held old new e kept later slots stay = record {
    inside = λ t from to. kept_safe b (failed e ∷ es) v held (past new t) (same_slots b (failed e ∷ es) v held (now old) (past new t) (λ f slot. slots t f slot from to) (stays b es v held (now old) (failed e) kept (stay_less b es (failed e) (stay_failed e.outcome stay))));
    kept = same_slots b (e ∷ es) v held (now old) (now new) (λ f slot. sym (present new f) ∙ slots (time new) f slot later (omega arith)) (stays b es v held (now old) e kept (stay_less b es e stay));
  }

-- both sides, home first
both_sides : (home : Side) (P : Side → Type 0) → P home → P (other_side home) → (s : Side) → P s
both_sides A P here away A = here
both_sides A P here away B = away
both_sides B P here away A = away
both_sides B P here away B = here

-- a quiet side, by what is marked of its gate
pub quiet_file : (s : SideState) (file : FileState) → Quiet s → IsSide s file → IsQuietFile (is_closed s) file
quiet_file (Shut put) file quiet side = side.0
quiet_file (Still None true) file quiet side = side.0
quiet_file (Still None false) file quiet side = side
quiet_file (Still (Some frame) sure) file quiet side = absurd quiet

-- A resource of which nothing may come back can give its pair back.
pub bare_quiet : (b : Start) (es : List Entry) (v : VaultState) (held : List (Option ℕ)) (files : ℕ → FileState) (c p : ℕ) → PairsInvariant b es v held files → held_at held c ≡ Some p → (marks_at b es c).done ≡ None → (marks_at b es c).tried ≡ None
    → (s : Side) → IsQuietFile (is_shut (pair_at v p) s) (files (file_of p s))
bare_quiet b es v held files c p kept has none untried =
    let o = (kept.taken c p has).owned in
    let q = keeps_quiet (name_at b c) (marks_at b es c) (pair_at v p).home v.stamp o.here o.away none untried o.keeps in
    let home : Side = (pair_at v p).home in
    both_sides home (λ s. IsQuietFile (is_shut (pair_at v p) s) (files (file_of p s)))
    (subst (λ t. IsQuietFile t (files (file_of p home))) o.sides.known_here (quiet_file o.here (files (file_of p home)) q.0 o.sides.is_here))
    (subst (λ t. IsQuietFile t (files (file_of p (other_side home)))) o.sides.known_away (quiet_file o.away (files (file_of p (other_side home))) q.1 o.sides.is_away))

-- no stamp is taken or asked of
abbrev pub no_stamp : Outcome → Bool
no_stamp Spent = false
no_stamp (StageOk s v) = false
no_stamp (StageFault s v) = false
no_stamp outcome = true

pub stamp_free : (k : ℕ) (o : Outcome) → no_stamp o ≡ true → IsStamped k o × (takes_stamp o ≡ 0)
stamp_free k Spent is = absurd cc
stamp_free k (StageOk s v) is = absurd cc
stamp_free k (StageFault s v) is = absurd cc
stamp_free k _ is = (tt, refl)

pub free_stay : (o : Outcome) → no_stamp o ≡ true → IsStay o
free_stay Spent is = absurd cc
free_stay (StageOk s v) is = absurd cc
free_stay (StageFault s v) is = absurd cc
free_stay _ is = inl refl

module _ {D : Type 0} (tells : Bool) (time : D → ℕ) (past : D → Past) (now : D → ℕ → FileState) (failures : D → ℕ) (present : (d : D) (f : ℕ) → past d (time d) f ≡ now d f)
    (c : Course) (e : Entry) (v : VaultState) (held : List (Option ℕ)) (old new : D) (holding : RegistryInvariant tells time past now failures c v held old) (later : failures old ≤ failures new)
    (at : e.moment ≡ time new) (counts : e.faults ≡ failures new) (row : is_row (opening c) c.entries e.event e.outcome ≡ true) (rose : is_fault e.outcome ≡ true → Rose (failures old) (failures new)) where
  abbrev Found : Type 0
  Found = IsFound (past new (time new) (user_file (resource_in e.event))) e.event e.content (versions (restored_at (opening c) (resource_in e.event)) (own (resource_in e.event) c.entries)) e.outcome

  -- An event that writes one user's file.
  pub invariant_write : (k : ℕ) → Through time past (128 + k) IsAnyState old new → resource_in e.event ≡ k → writes_by e.event e.outcome ≡ true → no_stamp e.outcome ≡ true → same_hold e.outcome ≡ true → (IsTrue tells → Found)
      → RegistryInvariant tells time past now failures (with_entry c e) v held new
  invariant_write k run is_k writes free same found =
      invariant_entry tells time past now failures present c e v v held held old new holding (record { later = run.later; kept = run.kept; no_fewer = later }) at counts row rose holding.placed (exact_same c e held holding.exact same)
      (putting_stays c e v held holding.putting (less_all (start_of c) c.entries e (stay_less (start_of c) c.entries e (free_stay e.outcome free))))
      (λ is. record {
        found = found is;
        alone = λ t f from to left. run.others t f (λ file. ⊎_elim (λ never. absurd (let odd : true ≡ false = sym writes ∙ never in cc)) (λ other. other (file ∙ ap (λ n. 128 + n) (sym is_k))) left.1) from to ∙ sym (run.kept (time old) f (omega arith));
      })
      (λ is. pairs_stay time past now present (start_of c) c.entries v held old new e (holding.pairs is) run.later
      (λ t f slot from to. run.others t f (λ file. absurd (omega (arith, slot, file))) from to ∙ present old f) (free_stay e.outcome free))
      (stamp_free v.stamp e.outcome free).0 (let s = (stamp_free v.stamp e.outcome free).1 in omega (arith, s))

  -- An event that changes nothing on the disk.
  pub invariant_read : ChangesNothing time past now old new → no_stamp e.outcome ≡ true → same_hold e.outcome ≡ true → (IsTrue tells → Found) → RegistryInvariant tells time past now failures (with_entry c e) v held new
  invariant_read none free same found =
      invariant_entry tells time past now failures present c e v v held held old new holding (record { later = omega (arith, none.still); kept = none.kept; no_fewer = later }) at counts row rose holding.placed (exact_same c e held holding.exact same)
      (putting_stays c e v held holding.putting (less_all (start_of c) c.entries e (stay_less (start_of c) c.entries e (free_stay e.outcome free))))
      (λ is. record {
        found = found is;
        alone = λ t f from to left. ap (λ n. past new n f) (omega (arith, from, to, none.still));
      })
      (λ is. pairs_stay time past now present (start_of c) c.entries v held old new e (holding.pairs is) (omega (arith, none.still))
      (λ t f slot from to. none.kept t f (omega (arith, to, none.still)) ∙ ap (λ n. past old n f) (omega (arith, from, to, none.still)) ∙ present old f) (free_stay e.outcome free))
      (stamp_free v.stamp e.outcome free).0 (let s = (stamp_free v.stamp e.outcome free).1 in omega (arith, s))

  -- A vault event that finds nothing due, or no stamp left.
  pub invariant_still : ChangesNothing time past now old new → IsStay e.outcome → is_vault_answer e.outcome ≡ true → IsStamped v.stamp e.outcome → takes_stamp e.outcome ≡ 0 → same_hold e.outcome ≡ true → (IsTrue tells → Found) → RegistryInvariant tells time past now failures (with_entry c e) v held new
  invariant_still none stay answer stamped free same found =
      invariant_entry tells time past now failures present c e v v held held old new holding (record { later = omega (arith, none.still); kept = none.kept; no_fewer = later }) at counts row rose holding.placed (exact_same c e held holding.exact same)
      (putting_stays c e v held holding.putting (less_all (start_of c) c.entries e (stay_less (start_of c) c.entries e stay)))
      (λ is. record {
        found = found is;
        alone = λ t f from to left. ap (λ n. past new n f) (omega (arith, from, to, none.still));
      })
      (λ is. pairs_stay time past now present (start_of c) c.entries v held old new e (holding.pairs is) (omega (arith, none.still))
      (λ t f slot from to. none.kept t f (omega (arith, to, none.still)) ∙ ap (λ n. past old n f) (omega (arith, from, to, none.still)) ∙ present old f) stay)
      stamped (omega (arith, free))
