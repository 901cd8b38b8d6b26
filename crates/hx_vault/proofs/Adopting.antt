-- One pair more is adopted.
use Rattle.std.specs.Prelude.{◌≡◌, ◌≢◌, ◌<◌, ◌≤◌, ℕ, ◌+◌, List, length, slice_index_or}
use Rattle.std.proofs.Common.{sym, ◌∙◌, ap, ⊎_elim, arith}
use Rattle.std.proofs.lemmas.List.{get_or-set_same, get_or-set_other}
use Rattle.std.proofs.lemmas.Bool.Decides.{eqb_tells}
use Rattle.hx_events.specs.declared.backup.PairFound.{PairFound}
use Rattle.hx_events.specs.declared.backup.PairFound.TheVariants.{Empty}
use Rattle.hx_vault.specs.declared.pair.Pair.{Pair}
use Rattle.hx_vault.specs.Vaults.{VaultState, pair_at, with_pair, no_pair, adopted}

same_pair : (v : VaultState) (n : ℕ) (next : Pair) → n < length v.pairs → pair_at (with_pair v n next) n ≡ next
same_pair v n next below = get_or-set_same v.pairs n next no_pair below

other_pair : (v : VaultState) (n p : ℕ) (next : Pair) → p ≢ n → pair_at (with_pair v n next) p ≡ pair_at v p
other_pair v n p next apart = get_or-set_other v.pairs n p next no_pair apart

pub one_adopted : (v old new : VaultState) (found : List PairFound) (n : ℕ) (next : Pair) → n < length v.pairs → new ≡ with_pair v n next → next ≡ adopted (slice_index_or found n Empty) (pair_at old n)
    → ((p : ℕ) → p < n → pair_at v p ≡ adopted (slice_index_or found p Empty) (pair_at old p)) → ((p : ℕ) → n ≤ p → pair_at v p ≡ pair_at old p)
    → ((p : ℕ) → p < n + 1 → pair_at new p ≡ adopted (slice_index_or found p Empty) (pair_at old p)) × ((p : ℕ) → n + 1 ≤ p → pair_at new p ≡ pair_at old p)
one_adopted v old new found n next below is value done rest = (
  (λ p within. ap (λ (w : VaultState). pair_at w p) is ∙ ⊎_elim
      (λ same. ap (pair_at (with_pair v n next)) same.1 ∙ same_pair v n next below ∙ value ∙ ap (λ k. adopted (slice_index_or found k Empty) (pair_at old k)) (sym same.1))
      (λ apart. other_pair v n p next apart.1 ∙ done p (omega (arith, within, apart.1)))
      (eqb_tells p n)),
  (λ p from. ap (λ (w : VaultState). pair_at w p) is ∙ other_pair v n p next (omega (arith, from)) ∙ rest p (omega (arith, from))),
)
