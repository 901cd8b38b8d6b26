-- A life that is being read stays well read.
use Rattle.std.proofs.Common.{◌≡◌, ◌<◌, ℕ, zero, suc, true, List, [], ◌∷◌, ◌++◌, length, length-append, Result, Ok, Err, IfOk, OnErr, refl, sym, ◌∙◌, ap, subst, arith}
use Rattle.std.specs.Prelude.{All, replicate}
use Rattle.std.proofs.lemmas.List.Elements.{All-append, All-replicate}
use Rattle.hx_events.specs.declared.backup.PairFound.{PairFound}
use Rattle.hx_events.specs.declared.backup.PairFound.TheVariants.{Empty}
use Rattle.hx_events.specs.declared.life.Ended.{Ended}
use Rattle.hx_events.specs.declared.life.Ended.TheVariants.{Script}
use Rattle.hx_events.specs.declared.life.Entry.{Entry}
use Rattle.hx_events.specs.Resources.{is_resource}
use Rattle.hx_events.specs.Texts.{IsEntryOf}
use Rattle.hx_script.specs.Traces.{no_pairs, drafted, IsFoundOf, IsWellRead}

nothing : {X : Type 0} (P : X → Type 0) (xs : List X) → xs ≡ [] → All P xs
nothing P xs none = subst (All P) (sym none) (λ k d lt. absurd (omega (arith, lt)))

only : {X : Type 0} (P : X → Type 0) (x : X) → P x → All P (x ∷ [])
only P x holds zero d lt = holds
only P x holds (suc k) d lt = absurd (omega (arith, lt))

count_empty : (n : ℕ) → length (replicate n Empty) ≡ n
count_empty zero = refl
count_empty (suc n) = ap suc (count_empty n)

pub pairs_count : (base : List PairFound) → base ≡ no_pairs → length base ≡ 64
unfolding no_pairs
pairs_count base none = ap length none ∙ count_empty 64

pub pairs_of : (names : List (List ℕ)) (base : List PairFound) → base ≡ no_pairs → All (IsFoundOf names) base
unfolding no_pairs
pairs_of names base none = subst (All (IsFoundOf names)) (sym none) (All-replicate (IsFoundOf names) 64 Empty tt)

pub new_is_well : (names : List (List ℕ)) (base : List PairFound) (history : List Entry) (tail : List (List ℕ)) → names ≡ [] → base ≡ no_pairs → history ≡ [] → IsWellRead (drafted names base history Script 0 tail 0)
new_is_well names base history tail none pairs entries = record {
  few = omega (arith, ap length none);
  resources = nothing (λ (name : List ℕ). is_resource name ≡ true) names none;
  pairs = pairs_count base pairs;
  base = pairs_of names base pairs;
  history = nothing (IsEntryOf names) history entries;
  plain = refl;
  first = omega arith;
  tail_line = omega arith;
}

module _ (base : List PairFound) (history : List Entry) (ended : Ended) (first : ℕ) (tail : List (List ℕ)) (tail_line : ℕ) (pairs : base ≡ no_pairs) (entries : history ≡ []) where
  longer : (old new : List (List ℕ)) (name : List ℕ) → new ≡ old ++ name ∷ [] → is_resource name ≡ true → length old < 256 → IsWellRead (drafted old base history ended first tail tail_line) → IsWellRead (drafted new base history ended first tail tail_line)
  longer old new name grown is room well = record {
    few = omega (arith, ap length grown, length-append old (name ∷ []), room);
    resources = subst (All (λ (n : List ℕ). is_resource n ≡ true)) (sym grown) (All-append (λ (n : List ℕ). is_resource n ≡ true) old (name ∷ []) well.resources (only (λ (n : List ℕ). is_resource n ≡ true) name is));
    pairs = well.pairs;
    base = pairs_of new base pairs;
    history = nothing (IsEntryOf new) history entries;
    plain = refl;
    first = well.first;
    tail_line = well.tail_line;
  }

  pub name_keeps_well : {R E : Type 0} (result : Result R E) (old new : List (List ℕ)) (name : List ℕ) → IfOk result (λ r. new ≡ old ++ name ∷ []) → OnErr result (new ≡ old) → is_resource name ≡ true → length old < 256
      → IsWellRead (drafted old base history ended first tail tail_line) → IsWellRead (drafted new base history ended first tail tail_line)
  name_keeps_well (Ok r) old new name grown same is room well = longer old new name grown is room well
  name_keeps_well (Err e) old new name grown same is room well = subst (λ (names : List (List ℕ)). IsWellRead (drafted names base history ended first tail tail_line)) (sym same) well
