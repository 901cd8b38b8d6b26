-- The sizes that are kept are those of the versions.
use Rattle.std.specs.Prelude.{◌≡◌, ℕ, zero, suc, ◌+◌, ◌==◌, Bool, true, false, List, [], ◌∷◌, ◌++◌, length, get_or, if◌then◌else◌, Option, refl}
use Rattle.std.proofs.Common.{ap, sym, ◌∙◌, arith, cond, length-append}
use Rattle.std.proofs.lemmas.Bool.Decides.{nat_tests}
use Rattle.hx_events.specs.declared.backup.Backup.{Backup}
use Rattle.hx_events.specs.declared.event.Command.TheVariants.{Edit}
use Rattle.hx_events.specs.declared.event.Event.{Event}
use Rattle.hx_events.specs.declared.event.Event.TheVariants.{Act}
use Rattle.hx_events.specs.declared.outcome.Outcome.{Outcome}
use Rattle.hx_events.specs.declared.outcome.Outcome.TheVariants.{Opened, Created, Edited, Undone, Redone, Reverted}
use Rattle.hx_rules.specs.Entries.{Deed, deed}
use Rattle.hx_rules.specs.Versions.{Version, version, version_at, versions, last_version, last_content, alternative, edited}
use Rattle.hx_rules_laws.specs.TrailLaws.{last_version_counts}
use Rattle.hx_check.specs.Sizes.{sizes_of, size_at}
use Rattle.hx_check.specs.Sketches.{edited_size, sizes_after}

pub sizes_count : (vs : List Version) → length (sizes_of vs) ≡ length vs
sizes_count [] = refl
sizes_count (v ∷ vs) = omega (arith, length-append (sizes_of vs) (v.size ∷ []), sizes_count vs)

-- one size more
push_or : (xs : List ℕ) (s k : ℕ) → get_or (xs ++ s ∷ []) k 0 ≡ (if length xs == k then s else get_or xs k 0)
push_or [] s zero = refl
push_or [] s (suc k) = step (0 == suc k) refl
  where
    step : (b : Bool) → (0 == suc k) ≡ b → 0 ≡ cond b s 0
    step true h = absurd (let e : 0 ≡ suc k = grind (arith, nat_tests) in omega (arith, e))
    step false h = refl
push_or (x ∷ xs) s zero = step (length (x ∷ xs) == 0) refl
  where
    step : (b : Bool) → (length (x ∷ xs) == 0) ≡ b → x ≡ cond b s x
    step true h = absurd (let e : suc (length xs) ≡ 0 = grind (arith, nat_tests) in omega (arith, e))
    step false h = refl
push_or (x ∷ xs) s (suc k) = push_or xs s k ∙ ap (λ b. cond b s (get_or xs k 0)) (same (length xs) k)
  where
    same : (n m : ℕ) → (n == m) ≡ (suc n == suc m)
    same n m = grind (arith, nat_tests)

-- the size of a version by its id
pub size_is : (n : ℕ) (vs : List Version) → (version_at n vs).size ≡ size_at n (sizes_of vs)
size_is zero [] = refl
size_is (suc k) [] = refl
size_is zero (v ∷ vs) = step (length vs + 1 == 0) refl (size_is zero vs)
  where
    step : (b : Bool) → (length vs + 1 == 0) ≡ b → (version_at 0 vs).size ≡ 0 → (cond b v (version_at 0 vs)).size ≡ 0
    step true h older = absurd (let e : length vs + 1 ≡ 0 = grind (arith, nat_tests) in omega (arith, e))
    step false h older = older
size_is (suc k) (v ∷ vs) =
    ap (λ b. (cond b v (version_at (suc k) vs)).size) tests ∙ (step (length (sizes_of vs) == k) (size_is (suc k) vs) ∙ sym (push_or (sizes_of vs) v.size k))
  where
    same : (n : ℕ) → (n + 1 == suc k) ≡ (n == k)
    same n = grind (arith, nat_tests)

    tests : (length vs + 1 == suc k) ≡ (length (sizes_of vs) == k)
    tests = same (length vs) ∙ ap (λ n. n == k) (sym (sizes_count vs))

    step : (b : Bool) → (version_at (suc k) vs).size ≡ get_or (sizes_of vs) k 0 → (cond b v (version_at (suc k) vs)).size ≡ cond b v.size (get_or (sizes_of vs) k 0)
    step true older = refl
    step false older = older

-- the last version is the newest
newest : (n : ℕ) (vs : List Version) → length vs ≡ n → (let last : Version = elim vs [ [] ↦ version [] 0 | v ∷ rest ↦ v ] in last.size) ≡ size_at n (sizes_of vs)
newest zero [] is = refl
newest (suc n) [] is = refl
newest n (v ∷ vs) is =
    let here : (length vs + 1 == n) ≡ true = grind (arith, nat_tests) in
    sym (ap (λ b. (cond b v (version_at n vs)).size) here) ∙ size_is n (v ∷ vs)

pub last_size : (r : Option Backup) (ds : List Deed) → (last_content r ds).size ≡ size_at (last_version r ds) (sizes_of (versions r ds))
last_size r ds = newest (last_version r ds) (versions r ds) (last_version_counts r ds)

edited_is : (event : Event) (old : Version) → (edited event old).size ≡ edited_size event old.size
edited_is (Act (Edit c off del text)) old = refl
edited_is (Act _) old = refl
edited_is _ old = refl

pub sizes_step : (r : Option Backup) (place : ℕ) (event : Event) (outcome : Outcome) (content : List ℕ) (ds : List Deed)
    → sizes_of (versions r (deed place event outcome content ∷ ds)) ≡ sizes_after outcome event (alternative r (deed place event outcome content ∷ ds)) (last_version r ds) (sizes_of (versions r ds))
sizes_step r place event (Opened s) content ds = refl
sizes_step r place event (Reverted s) content ds = refl
sizes_step r place event (Created n) content ds = refl
sizes_step r place event (Edited n) content ds = ap (λ s. sizes_of (versions r ds) ++ s ∷ []) (edited_is event (last_content r ds) ∙ ap (edited_size event) (last_size r ds))
sizes_step r place event (Undone n) content ds = ap (λ s. sizes_of (versions r ds) ++ s ∷ []) (size_is (alternative r (deed place event (Undone n) content ∷ ds)) (versions r ds))
sizes_step r place event (Redone n) content ds = ap (λ s. sizes_of (versions r ds) ++ s ∷ []) (size_is (alternative r (deed place event (Redone n) content ∷ ds)) (versions r ds))
sizes_step r place event _ content ds = refl
