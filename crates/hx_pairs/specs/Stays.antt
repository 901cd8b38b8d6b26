-- Entries that move no pair.
use Rattle.std.specs.Prelude.{◌≡◌, ◌⊎◌, ℕ, ◌+◌, Bool, true, false, List, ◌∷◌, length, Option, None, refl}
use Rattle.std.proofs.Common.{sym, ◌∙◌, ap, subst, inl, inr}
use Rattle.hx_disk.specs.File.{FileState}
use Rattle.hx_events.specs.declared.backup.Side.{Side}
use Rattle.hx_events.specs.declared.life.Entry.{Entry}
use Rattle.hx_events.specs.declared.outcome.Outcome.TheVariants.{Spent}
use Rattle.hx_rules.specs.Backups.{Snapshot, Begun}
use Rattle.hx_rules.specs.Entries.{own, is_of}
use Rattle.hx_rules.specs.Legal.{restored_at}
use Rattle.hx_rules.specs.Marks.{Marks, marks}
use Rattle.hx_rules_laws.specs.Marks.{marks_change, still, is_vault_outcome}
use Rattle.hx_vault.specs.Sides.{SideState}
use Rattle.hx_vault.specs.Vaults.{VaultState, pair_at}
use Rattle.hx_pairs.specs.OnePair.{IsAway, IsHome, IsBegun, side_stamp, PairInvariant}
use Rattle.hx_lives.specs.Course.{Start, opening_at}
use Rattle.hx_lives.specs.CrashSafe.{name_at}
use Rattle.hx_pairs.specs.AllPairs.{marks_at, PairsInvariant}
use Rattle.hx_pairs.specs.Moves.{new_marks}
use Rattle.hx_rules_laws.specs.Frames.{leaves_others}

-- nothing of what a crash may bring back changes, and a begun backup and a completed Fade may end
pub record MarksLess (old new : Marks) : Type 0 where
  pub done : new.done ≡ old.done
  pub tried : new.tried ≡ old.tried
  pub undone : new.undone ≡ old.undone
  pub faded : new.faded ≡ true → old.faded ≡ true
  pub begun : (new.begun ≡ old.begun) ⊎ (new.begun ≡ None)

begun_less : (resource : List ℕ) (most : ℕ) (was : Option Snapshot) (s : ℕ) (old new : Option Begun) (away : SideState) → (new ≡ old) ⊎ (new ≡ None) → IsBegun resource most was s old away → IsBegun resource most was s new away
begun_less resource most was s old new away (inl same) is = subst (λ (x : Option Begun). IsBegun resource most was s x away) (sym same) is
begun_less resource most was s old new away (inr none) is = subst (λ (x : Option Begun). IsBegun resource most was s x away) (sym none) tt

pub keeps_less : (resource : List ℕ) (old new : Marks) (home : Side) (most : ℕ) (here away : SideState) → MarksLess old new → PairInvariant resource old home most here away → PairInvariant resource new home most here away
keeps_less resource old new home most here away less keeps = record {
  at_home = subst (λ (u : Bool). IsHome resource most u new.done here) (sym less.undone) (subst (λ (d : Option Snapshot). IsHome resource most old.undone d here) (sym less.done) keeps.at_home);
  at_away = subst (λ (u : Bool). IsAway home resource u new.done new.tried (side_stamp here) away) (sym less.undone)
      (subst (λ (d : Option Snapshot). IsAway home resource old.undone d new.tried (side_stamp here) away) (sym less.done)
      (subst (λ (t : Option Snapshot). IsAway home resource old.undone old.done t (side_stamp here) away) (sym less.tried) keeps.at_away));
  if_faded = λ h. keeps.if_faded (less.faded h);
  if_begun = subst (λ (d : Option Snapshot). IsBegun resource most d (side_stamp here) new.begun away) (sym less.done) (begun_less resource most old.done (side_stamp here) old.begun new.begun away less.begun keeps.if_begun);
}

no_change : (m : Marks) → MarksLess m m
no_change m = record { done = refl; tried = refl; undone = refl; faded = λ h. h; begun = inl refl }

pub stays : (b : Start) (es : List Entry) (v : VaultState) (held : List (Option ℕ)) (files : ℕ → FileState) (e : Entry) → PairsInvariant b es v held files → ((c : ℕ) → is_of c e.event ≡ true → MarksLess (marks_at b es c) (marks_at b (e ∷ es) c)) → PairsInvariant b (e ∷ es) v held files
stays b es v held files e kept less = record {
  names = kept.names;
  owners = kept.owners;
  pairs = kept.pairs;
  apart = kept.apart;
  taken = λ c p holds. let t = kept.taken c p holds in record {
    below = t.below;
    used = t.used;
    owned = record { here = t.owned.here; away = t.owned.away; sides = t.owned.sides; keeps = keeps_less (name_at b c) (marks_at b es c) (marks_at b (e ∷ es) c) (pair_at v p).home v.stamp t.owned.here t.owned.away (each c) t.owned.keeps };
  };
  owned = kept.owned;
  free = kept.free;
  barred = kept.barred;
  lacking = λ c lacks. let l = each c in l.done ∙ kept.lacking c lacks;
}
  where
    by_test : (c : ℕ) (t : Bool) → is_of c e.event ≡ t → MarksLess (marks_at b es c) (marks_at b (e ∷ es) c)
    by_test c true h = less c h
    by_test c false h = subst (λ (m : Marks). MarksLess (marks_at b es c) m) (sym (ap (λ ds. marks (restored_at (opening_at b) c) (opening_at b).guarded ds) (leaves_others c e es h))) (no_change (marks_at b es c))

    each : (c : ℕ) → MarksLess (marks_at b es c) (marks_at b (e ∷ es) c)
    each c = by_test c (is_of c e.event) refl

still_or : (w : Bool) (b : Option Begun) → (still w b ≡ b) ⊎ (still w b ≡ None)
still_or true b = inl refl
still_or false b = inr refl

-- each outcome but those of a vault stage, and Spent
pub outcome_less : (b : Start) (es : List Entry) (e : Entry) (c : ℕ) → is_of c e.event ≡ true → is_vault_outcome e.outcome ≡ false → MarksLess (marks_at b es c) (marks_at b (e ∷ es) c)
outcome_less b es e c is other =
    let laws = marks_change (restored_at (opening_at b) c) (opening_at b).guarded (length es + 1) e.event e.content (own c es) in
    subst (λ (m : Marks). MarksLess (marks_at b es c) m) (sym (new_marks b es e c e.outcome is refl ∙ laws.other e.outcome other))
    (record { done = refl; tried = refl; undone = refl; faded = λ h. h; begun = still_or _ (marks_at b es c).begun })

pub spent_less : (b : Start) (es : List Entry) (e : Entry) (c : ℕ) → is_of c e.event ≡ true → e.outcome ≡ Spent → MarksLess (marks_at b es c) (marks_at b (e ∷ es) c)
spent_less b es e c is was =
    let laws = marks_change (restored_at (opening_at b) c) (opening_at b).guarded (length es + 1) e.event e.content (own c es) in
    subst (λ (m : Marks). MarksLess (marks_at b es c) m) (sym (new_marks b es e c Spent is was ∙ laws.spent))
    (record { done = refl; tried = refl; undone = refl; faded = λ h. absurd cc; begun = still_or _ (marks_at b es c).begun })

-- for each resource, where it is so for the one that the entry names
pub less_all : (b : Start) (es : List Entry) (e : Entry) → ((c : ℕ) → is_of c e.event ≡ true → MarksLess (marks_at b es c) (marks_at b (e ∷ es) c)) → (c : ℕ) → MarksLess (marks_at b es c) (marks_at b (e ∷ es) c)
less_all b es e less c = by_test (is_of c e.event) refl
  where
    by_test : (t : Bool) → is_of c e.event ≡ t → MarksLess (marks_at b es c) (marks_at b (e ∷ es) c)
    by_test true h = less c h
    by_test false h = subst (λ (m : Marks). MarksLess (marks_at b es c) m) (sym (ap (λ ds. marks (restored_at (opening_at b) c) (opening_at b).guarded ds) (leaves_others c e es h))) (no_change (marks_at b es c))
