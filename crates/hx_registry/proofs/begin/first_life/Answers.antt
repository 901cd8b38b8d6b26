-- What was found fits a life.
use Rattle.std.specs.Prelude.{◌≡◌, ◌≤◌, ◌<◌, ℕ, true, List, [], length, slice_index_or}
use Rattle.std.proofs.Common.{sym, ap, subst, ◌∙◌, arith}
use Rattle.hx_events.specs.declared.backup.PairFound.{PairFound}
use Rattle.hx_events.specs.Resources.{is_resource}
use Rattle.hx_rules.specs.Legal.{opening_of, restored_at, with_restored}
use Rattle.hx_rules_laws.specs.Limits.{IsShortBackup}
use Rattle.hx_opening_laws.specs.Findings.{found_count}
use Rattle.hx_opening_laws.specs.Laws.{findings_fit_a_life}
use Rattle.hx_registry.proofs.begin.first_life.Goals as goal

pub new-requires-clause-pairs : goal.new-requires-clause-pairs
new-requires-clause-pairs g c = let count : length c.deref.result.now ≡ 64 = ap length c.deref.ensures.value ∙ found_count c.args.found.items c.requires.findings in omega (arith, count)

pub new-requires-clause-few : goal.new-requires-clause-few
new-requires-clause-few g c =
    let fits = findings_fit_a_life c.args.names.now c.args.found.items c.args.guarded c.requires.findings c.requires.resources in
    let few : length (with_restored c.args.names.now c.args.found.items) ≤ 256 = (let most = fits.0 in let declared = c.requires.few in omega (arith, most, declared)) in
    subst (λ (names : List (List ℕ)). length (with_restored names c.deref.result.now) ≤ 256) (sym c.in_ok-copied.ensures)
    (subst (λ (found : List PairFound). length (with_restored c.args.names.now found) ≤ 256) (sym c.deref.ensures.value) few)

pub first_pairs-requires : goal.first_pairs-requires
first_pairs-requires g c = let count : length c.deref-2.result.now ≡ 64 = ap length c.deref-2.ensures.value ∙ found_count c.args.found.items c.requires.findings in omega (arith, count)

pub new-life-requires-clause-named : goal.new-life-requires-clause-named
new-life-requires-clause-named g c =
    let fits = findings_fit_a_life c.args.names.now c.args.found.items c.args.guarded c.requires.findings c.requires.resources in
    let named : c.in_ok-core.core.names ≡ with_restored c.args.names.now c.args.found.items =
    c.in_ok-core.ensures.names ∙ ap (λ (names : List (List ℕ)). with_restored names c.deref.result.now) c.in_ok-copied.ensures ∙ ap (with_restored c.args.names.now) c.deref.ensures.value in
    subst (λ (names : List (List ℕ)). (k : ℕ) → k < length names → is_resource (slice_index_or names k []) ≡ true) (sym named) (λ k lt. fits.1 k [] lt)

pub new-life-requires-clause-short : goal.new-life-requires-clause-short
new-life-requires-clause-short g c =
    let fits = findings_fit_a_life c.args.names.now c.args.found.items c.args.guarded c.requires.findings c.requires.resources in
    let named : c.in_ok-core.core.names ≡ with_restored c.args.names.now c.args.found.items =
    c.in_ok-core.ensures.names ∙ ap (λ (names : List (List ℕ)). with_restored names c.deref.result.now) c.in_ok-copied.ensures ∙ ap (with_restored c.args.names.now) c.deref.ensures.value in
    subst (λ (names : List (List ℕ)). (k : ℕ) → IsShortBackup (restored_at (opening_of names c.new-2.result c.args.guarded) k)) (sym named)
    (subst (λ (found : List PairFound). (k : ℕ) → IsShortBackup (restored_at (opening_of (with_restored c.args.names.now c.args.found.items) found c.args.guarded) k)) (sym c.new-2.ensures) fits.2)
