-- What counts up is no more than the deeds.
use Rattle.std.specs.Prelude.{ℕ, suc, ◌+◌, ◌-◌, ◌^◌, ◌<◌, ◌≤◌, Bool, true, false, List, [], ◌∷◌, length, if◌then◌else◌, Option, Some, None, IfSome}
use Rattle.std.proofs.Common.{arith, subst, sym}
use Rattle.hx_events.specs.declared.backup.Backup.{Backup}
use Rattle.hx_events.specs.declared.event.Stage.TheVariants.{Prepare, Body, Open}
use Rattle.hx_events.specs.declared.life.Entry.{Entry}
use Rattle.hx_events.specs.declared.outcome.Outcome.{Outcome}
use Rattle.hx_events.specs.declared.outcome.Outcome.TheVariants.{StageOk, StageFault}
use Rattle.hx_rules.specs.Entries.{Deed, own, is_of, deed}
use Rattle.hx_rules.specs.Versions.{last_version, adds_version}
use Rattle.hx_rules.specs.Backups.{Begun, begun, begun_after, one_block_more, prepared, wanted}
use Rattle.hx_copy.specs.Copies.{Copy}
use Rattle.hx_resource.specs.Kept.{Kept}
use Rattle.hx_resource.specs.Rooms.{CanCount}
use Rattle.hx_resource_laws.specs.Fits.{FitsCopy, Fits}

last_counts : (r : Option Backup) (ds : List Deed) → last_version r ds ≤ length ds + 1
last_counts None [] = omega arith
last_counts (Some b) [] = omega arith
last_counts r (d ∷ ds) = step (adds_version d.outcome) (last_version r ds) (length ds) (last_counts r ds)
  where
    step : (b : Bool) (n m : ℕ) → n ≤ m + 1 → (if b then n + 1 else n) ≤ suc m + 1
    step true n m le = omega (arith, le)
    step false n m le = omega (arith, le)

abbrev HasBlocks : ℕ → Option Begun → Type 0
HasBlocks n b = IfSome b (λ x. x.blocks ≤ n)

more : (n : ℕ) (b : Option Begun) → HasBlocks n b → HasBlocks (suc n) b
more n None has = tt
more n (Some b) has = omega (arith, has)

one_more : (n : ℕ) (b : Option Begun) → HasBlocks n b → HasBlocks (suc n) (one_block_more b)
one_more n None has = tt
one_more n (Some b) has = omega (arith, has)

kept_if : (w : Bool) (n : ℕ) (b : Option Begun) → HasBlocks n b → HasBlocks n (if w then b else None)
kept_if true n b has = has
kept_if false n b has = tt

blocks_after : (outcome : Outcome) (w : Bool) (r : Option Backup) (ds : List Deed) (n : ℕ) (b : Option Begun) → HasBlocks n b → HasBlocks (suc n) (begun_after outcome w (λ v. prepared r v ds) b)
blocks_after (StageOk Prepare v) w r ds n b has = omega arith
blocks_after (StageOk Open v) w r ds n b has = tt
blocks_after (StageOk Body v) w r ds n b has = kept_if w (suc n) (one_block_more b) (one_more n b has)
blocks_after (StageFault s v) w r ds n b has = tt
blocks_after _ w r ds n b has = kept_if w (suc n) b (more n b has)

blocks_count : (r : Option Backup) (guarded : Bool) (ds : List Deed) → HasBlocks (length ds) (begun r guarded ds)
blocks_count r guarded [] = tt
blocks_count r guarded (d ∷ ds) = blocks_after d.outcome (wanted r guarded (d ∷ ds)) r ds (length ds) (begun r guarded ds) (blocks_count r guarded ds)

version_counts : (r : Option Backup) (ds : List Deed) (copy : Option Copy) (n : ℕ) → length ds + 1 < n → IfSome copy (FitsCopy r ds) → IfSome copy (λ c. c.version < n)
version_counts r ds None n lt fits = tt
version_counts r ds (Some c) n lt fits = omega (arith, lt, fits.version, last_counts r ds)

below : (n m : ℕ) (b : Option Begun) → n < m → HasBlocks n b → IfSome b (λ x. x.blocks < m)
below n m None lt has = tt
below n m (Some b) lt has = omega (arith, lt, has)

-- A history that is short enough leaves each count room to go on.
pub can_count : (r : Option Backup) (guarded : Bool) (ds : List Deed) (s : Kept) → Fits r guarded ds s → length ds + 1 < 2 ^ 64 - 1 → CanCount s
can_count r guarded ds s fits lt = record {
  last = omega (arith, lt, fits.last, last_counts r ds);
  version = version_counts r ds s.copy (2 ^ 64 - 1) lt fits.copy;
  blocks = subst (λ (b : Option Begun). IfSome b (λ x. x.blocks < 2 ^ 64 - 1)) (sym fits.begun) (below (length ds) (2 ^ 64 - 1) (begun r guarded ds) (omega (arith, lt)) (blocks_count r guarded ds));
}

-- a resource has no more deeds than there are entries
pub own_count : (c : ℕ) (es : List Entry) → length (own c es) ≤ length es
own_count c [] = omega arith
own_count c (e ∷ es) = step (is_of c e.event) (own_count c es)
  where
    step : (b : Bool) → length (own c es) ≤ length es → length (if b then deed (length es + 1) e.event e.outcome e.content ∷ own c es else own c es) ≤ suc (length es)
    step true le = omega (arith, le)
    step false le = omega (arith, le)
