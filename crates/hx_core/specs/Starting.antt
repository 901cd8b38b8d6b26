-- A core without entries keeps what a core keeps.
use Rattle.std.specs.Prelude.{ℕ, zero, suc, ◌≡◌, ◌+◌, ◌≤◌, nat_lt, Bool, true, false, ◌&&◌, if◌then◌else◌, List, [], ◌∷◌, ◌++◌, take, drop, map, length, Option, Some, None, is_some, slice_get, slice_index_or, refl}
use Rattle.std.proofs.Common.{arith, ap, sym, ◌∙◌, subst, length-append}
use Rattle.std.proofs.lemmas.List.{length-map}
use Rattle.hx_events.specs.declared.backup.Backup.{Backup}
use Rattle.hx_events.specs.declared.backup.PairFound.{PairFound}
use Rattle.hx_events.specs.declared.backup.PairFound.TheVariants.{Empty, Found, Damaged, Twin}
use Rattle.hx_events.specs.declared.backup.Side.{Side}
use Rattle.hx_events.specs.Places.{place_of}
use Rattle.hx_rules.specs.Legal.{Opening, restored_at, vault_due, save_due, with_name, with_restored}
use Rattle.hx_tracker.specs.Index.{has_number}
use Rattle.hx_resource.specs.Kept.{ResourceState, Kept, kept_at_first}
use Rattle.hx_resource_laws.specs.Fits.{Fits}
use Rattle.hx_resource_laws.specs.Starts.{fits_at_first, no_vault_due, no_save_due}
use Rattle.hx_core.specs.Listed.{ListsDone}
use Rattle.hx_core.specs.Cores.{IsCore}
use Rattle.hx_core.specs.Opens.{AreFirst}

name_grows : (known : Bool) (resource : List ℕ) (names : List (List ℕ)) → length names ≤ length (if known then names else names ++ resource ∷ [])
name_grows true resource names = omega arith
name_grows false resource names = omega (arith, length-append names (resource ∷ []))

names_grow : (names : List (List ℕ)) (pairs : List PairFound) → length names ≤ length (with_restored names pairs)
names_grow names [] = omega arith
names_grow names (Found b side ∷ pairs) = omega (arith, name_grows (is_some (place_of b.resource names)) b.resource names, names_grow (with_name b.resource names) pairs)
names_grow names (Empty ∷ pairs) = names_grow names pairs
names_grow names (Damaged ∷ pairs) = names_grow names pairs
names_grow names (Twin p ∷ pairs) = names_grow names pairs

-- where all names are few, those with one more are
pub name_fits : (names all : List (List ℕ)) (base rest : List PairFound) (i bound : ℕ) (b : Backup) (side : Side) (resource : List ℕ) → resource ≡ b.resource → drop i base ≡ Found b side ∷ rest
    → with_restored names base ≡ with_restored all (drop i base) → length (with_restored names base) ≤ bound → length (with_name resource all) ≤ bound
name_fits names all base rest i bound b side resource is at same le =
    subst (λ (r : List ℕ). length (with_name r all) ≤ bound) (sym is)
    (omega (arith, le, ap length (same ∙ ap (with_restored all) at), names_grow (with_name b.resource all) rest))

pub first_more : (ss : List ResourceState) (rs : List (Option Backup)) (s : ResourceState) (r : Option Backup) → AreFirst ss rs → s.kept ≡ kept_at_first r → AreFirst (ss ++ s ∷ []) (rs ++ r ∷ [])
first_more [] [] s r are is = (is, tt)
first_more (x ∷ ss) (y ∷ rs) s r are is = (are.0, first_more ss rs s r are.1 is)
first_more [] (y ∷ rs) s r are is = absurd are
first_more (x ∷ ss) [] s r are is = absurd are

pub restored_more : {A B : Type 0} (f : A → B) (names : List A) (i : ℕ) (name : A) → slice_get names i ≡ Some name → map f (take i names) ++ f name ∷ [] ≡ map f (take (i + 1) names)
restored_more f [] i name at = absurd cc
restored_more f (x ∷ names) zero name at = let e : x ≡ name = cc in ap (λ y. f y ∷ []) (sym e)
restored_more f (x ∷ names) (suc i) name at =
    let e : suc (i + 1) ≡ suc i + 1 = omega arith in
    ap (λ ys. f x ∷ ys) (restored_more f names i name at) ∙ ap (λ n. map f (take n (x ∷ names))) e

pub first_count : (ss : List ResourceState) (rs : List (Option Backup)) → AreFirst ss rs → length ss ≡ length rs
first_count [] [] are = refl
first_count (s ∷ ss) (r ∷ rs) are = ap suc (first_count ss rs are.1)
first_count [] (r ∷ rs) are = absurd are
first_count (s ∷ ss) [] are = absurd are

first_kept : (ss : List ResourceState) (rs : List (Option Backup)) → AreFirst ss rs → (k : ℕ) (s : ResourceState) → slice_get ss k ≡ Some s → s.kept ≡ kept_at_first (slice_index_or rs k None)
first_kept [] rs are k s at = absurd cc
first_kept (x ∷ ss) (r ∷ rs) are zero s at = let e : x ≡ s = cc in ap (λ (y : ResourceState). y.kept) (sym e) ∙ are.0
first_kept (x ∷ ss) (r ∷ rs) are (suc k) s at = first_kept ss rs are.1 k s at
first_kept (x ∷ ss) [] are k s at = absurd are

none_due : {A : Type 0} (b : Bool) (x : Option A) → x ≡ None → false ≡ (b && is_some x)
none_due true x is = ap is_some (sym is)
none_due false x is = refl

pub core_at_first : (o : Opening) (first : List (ℕ × ℕ)) (resources : List ResourceState) (pairs : List (ℕ × ℕ)) (vault save : List Bool)
    → AreFirst resources o.restored → pairs ≡ first → ListsDone o [] first → length resources ≤ 256 → o.barred ≤ 64
    → ((k : ℕ) → has_number vault k ≡ false) → ((k : ℕ) → has_number save k ≡ false) → length vault ≡ 256 → length save ≡ 256
    → IsCore o first resources pairs [] false vault save
core_at_first o first resources pairs vault save are listed starts few barred no_vault no_save vault_len save_len = record {
  kept = record {
    legal = refl;
    count = first_count resources o.restored are;
    fits = λ k s at. subst (λ (x : Kept). Fits (restored_at o k) o.guarded [] x) (sym (first_kept resources o.restored are k s at)) (fits_at_first (restored_at o k) o.guarded);
    backups = listed;
    spent = refl;
    vault = λ k. no_vault k ∙ none_due (nat_lt k (length resources)) (vault_due o [] k) (no_vault_due (restored_at o k) o.guarded);
    save = λ k. no_save k ∙ none_due (nat_lt k (length resources)) (save_due o [] k) (no_save_due (restored_at o k) o.guarded);
  };
  starts = starts;
  few = few;
  barred = barred;
  vault = vault_len;
  save = save_len;
}

pub resources_count : {A : Type 0} (f : A → Option Backup) (names : List A) (ss : List ResourceState) (rs : List (Option Backup)) → AreFirst ss rs → rs ≡ map f names → length ss ≡ length names
resources_count f names ss rs are is = first_count ss rs are ∙ (ap length is ∙ length-map names f)
