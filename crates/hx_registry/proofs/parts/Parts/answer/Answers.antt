use Rattle.std.proofs.Common.{rules, ◌≡◌, ◌<◌, ◌∷◌, ℕ, Option, Some, None, is_some, sym, subst, ◌∙◌, ap, set}
use Rattle.hx_events.specs.declared.life.Entry.{Entry}
use Rattle.hx_events.specs.declared.outcome.Outcome.{Outcome}
use Rattle.hx_lives.specs.Course.{Course, opening, with_entry}
use Rattle.hx_resource.specs.Rooms.{got_content}
use Rattle.hx_rules.specs.Legal.{holds_at}
use Rattle.hx_vault.specs.declared.pair.PairUse.TheVariants.{Free, Taken}
use Rattle.hx_vault.specs.Vaults.{VaultState, pair_at, with_pair, with_use}
use Rattle.hx_pairs.specs.AllPairs.{held_at}
use Rattle.hx_pairs.specs.FreePairs.{IsFreePair}
use Rattle.hx_pairs.specs.Registries.{RegistryInvariant}
use Rattle.hx_registry.specs.Answered.{IsAnswered, answered_matched, answered_free, answered_taken, answered_released, answered_quiet}
use Rattle.hx_registry.specs.OpenLives.{entry_by}
use Rattle.hx_registry.proofs.parts.Parts.answer.Goals as goal

pub unreachable-requires : goal.unreachable-requires
unreachable-requires g c =
    let s = c.args.self.now in
    let course : Course = s.life.course in
    let outcome : Outcome = c.step-outcome.result in
    let answered : IsAnswered g.D.Disk.tells g.D.Disk.time g.D.Disk.past g.D.Disk.now g.D.Disk.failures course s.vault s.held.items s.disk c.args.event outcome (got_content c.args.got) =
    subst (λ (o : Outcome). IsAnswered g.D.Disk.tells g.D.Disk.time g.D.Disk.past g.D.Disk.now g.D.Disk.failures course s.vault s.held.items s.disk c.args.event o (got_content c.args.got)) (sym c.step-outcome.ensures.outcome) c.requires.answered in
    let note : Entry = entry_by (g.D.Disk.time s.disk) (g.D.Disk.failures s.disk) c.args.actor c.args.event outcome (got_content c.args.got) in
    let holding : c.holds.result ≡ holds_at (opening course) (note ∷ course.entries) c.args.res = subst (λ (k : Course). c.holds.result ≡ holds_at (opening k) k.entries c.args.res) c.step-outcome.ensures.added c.holds.ensures in
    let lacks : held_at s.held.items c.args.res ≡ None = sym c.pair_of.ensures ∙ c.in-None.is in
    let there : IsFreePair s.vault = answered_free g.D.Disk.tells g.D.Disk.time g.D.Disk.past g.D.Disk.now g.D.Disk.failures g.met.D.Disk.present course s.vault s.held.items s.disk c.args.actor c.args.event outcome (got_content c.args.got) answered c.step-outcome.ensures.entry.row c.args.res c.requires.of_res c.requires.within lacks (sym holding ∙ c.if-holds.true) in
    c.in_default.ensures there.pair there.below there.free

pub release-requires-clause-quiet : goal.release-requires-clause-quiet
release-requires-clause-quiet g c =
    let s = c.args.self.now in
    let course : Course = s.life.course in
    let outcome : Outcome = c.step-outcome.result in
    let answered : IsAnswered g.D.Disk.tells g.D.Disk.time g.D.Disk.past g.D.Disk.now g.D.Disk.failures course s.vault s.held.items s.disk c.args.event outcome (got_content c.args.got) =
    subst (λ (o : Outcome). IsAnswered g.D.Disk.tells g.D.Disk.time g.D.Disk.past g.D.Disk.now g.D.Disk.failures course s.vault s.held.items s.disk c.args.event o (got_content c.args.got)) (sym c.step-outcome.ensures.outcome) c.requires.answered in
    let note : Entry = entry_by (g.D.Disk.time s.disk) (g.D.Disk.failures s.disk) c.args.actor c.args.event outcome (got_content c.args.got) in
    let holding : c.holds-in-Some.result ≡ holds_at (opening course) (note ∷ course.entries) c.args.res = subst (λ (k : Course). c.holds-in-Some.result ≡ holds_at (opening k) k.entries c.args.res) c.step-outcome.ensures.added c.holds-in-Some.ensures in
    let has : held_at s.held.items c.args.res ≡ Some c.in-Some.pair = sym c.pair_of.ensures ∙ c.in-Some.is in
    answered_quiet g.D.Disk.tells g.D.Disk.time g.D.Disk.past g.D.Disk.now g.D.Disk.failures g.met.D.Disk.present course s.vault s.held.items s.disk c.args.actor c.args.event outcome (got_content c.args.got) answered c.step-outcome.ensures.entry.row c.args.res c.requires.of_res c.requires.within c.in-Some.pair has (sym holding ∙ c.if-not-holds.true)

pub returns-in-Some-free-clause-kept : goal.returns-in-Some-free-clause-kept
returns-in-Some-free-clause-kept g c =
    let s = c.args.self.now in
    let course : Course = s.life.course in
    let outcome : Outcome = c.step-outcome.result in
    let answered : IsAnswered g.D.Disk.tells g.D.Disk.time g.D.Disk.past g.D.Disk.now g.D.Disk.failures course s.vault s.held.items s.disk c.args.event outcome (got_content c.args.got) =
    subst (λ (o : Outcome). IsAnswered g.D.Disk.tells g.D.Disk.time g.D.Disk.past g.D.Disk.now g.D.Disk.failures course s.vault s.held.items s.disk c.args.event o (got_content c.args.got)) (sym c.step-outcome.ensures.outcome) c.requires.answered in
    let note : Entry = entry_by (g.D.Disk.time s.disk) (g.D.Disk.failures s.disk) c.args.actor c.args.event outcome (got_content c.args.got) in
    let holding : c.holds.result ≡ holds_at (opening course) (note ∷ course.entries) c.args.res = subst (λ (k : Course). c.holds.result ≡ holds_at (opening k) k.entries c.args.res) c.step-outcome.ensures.added c.holds.ensures in
    let lacks : held_at s.held.items c.args.res ≡ None = sym c.pair_of.ensures ∙ c.in-None.is in
    let n : c.number.result ≡ c.args.res = c.number.ensures.value in
    let free : (pair_at s.vault c.in-Some-free.pair).used ≡ Free = search rules in
    let low : c.in-Some-free.pair < 64 = search rules in
    subst (λ (k : Course). RegistryInvariant g.D.Disk.tells g.D.Disk.time g.D.Disk.past g.D.Disk.now g.D.Disk.failures k c.take.new.self (set s.held.items c.number.result (Some c.in-Some-free.pair)) s.disk) (sym c.step-outcome.ensures.added)
    (subst (λ (v : VaultState). RegistryInvariant g.D.Disk.tells g.D.Disk.time g.D.Disk.past g.D.Disk.now g.D.Disk.failures (with_entry course note) v (set s.held.items c.number.result (Some c.in-Some-free.pair)) s.disk) (sym c.take.ensures)
    (subst (λ k. RegistryInvariant g.D.Disk.tells g.D.Disk.time g.D.Disk.past g.D.Disk.now g.D.Disk.failures (with_entry course note) (with_pair s.vault c.in-Some-free.pair (with_use (pair_at s.vault c.in-Some-free.pair) Taken)) (set s.held.items k (Some c.in-Some-free.pair)) s.disk) (sym n)
    (answered_taken g.D.Disk.tells g.D.Disk.time g.D.Disk.past g.D.Disk.now g.D.Disk.failures g.met.D.Disk.present course s.vault s.held.items s.disk c.args.actor c.args.event outcome (got_content c.args.got) answered c.step-outcome.ensures.entry.row c.args.res c.requires.of_res c.requires.within c.in-Some-free.pair lacks (sym holding ∙ c.if-holds.true) low free)))

pub returns-else-holds-clause-kept : goal.returns-else-holds-clause-kept
returns-else-holds-clause-kept g c =
    let s = c.args.self.now in
    let course : Course = s.life.course in
    let outcome : Outcome = c.step-outcome.result in
    let answered : IsAnswered g.D.Disk.tells g.D.Disk.time g.D.Disk.past g.D.Disk.now g.D.Disk.failures course s.vault s.held.items s.disk c.args.event outcome (got_content c.args.got) =
    subst (λ (o : Outcome). IsAnswered g.D.Disk.tells g.D.Disk.time g.D.Disk.past g.D.Disk.now g.D.Disk.failures course s.vault s.held.items s.disk c.args.event o (got_content c.args.got)) (sym c.step-outcome.ensures.outcome) c.requires.answered in
    let note : Entry = entry_by (g.D.Disk.time s.disk) (g.D.Disk.failures s.disk) c.args.actor c.args.event outcome (got_content c.args.got) in
    let holding : c.holds.result ≡ holds_at (opening course) (note ∷ course.entries) c.args.res = subst (λ (k : Course). c.holds.result ≡ holds_at (opening k) k.entries c.args.res) c.step-outcome.ensures.added c.holds.ensures in
    let lacks : held_at s.held.items c.args.res ≡ None = sym c.pair_of.ensures ∙ c.in-None.is in
    subst (λ (k : Course). RegistryInvariant g.D.Disk.tells g.D.Disk.time g.D.Disk.past g.D.Disk.now g.D.Disk.failures k s.vault s.held.items s.disk) (sym c.step-outcome.ensures.added)
    (answered_matched g.D.Disk.tells g.D.Disk.time g.D.Disk.past g.D.Disk.now g.D.Disk.failures g.met.D.Disk.present course s.vault s.held.items s.disk c.args.actor c.args.event outcome (got_content c.args.got) answered c.step-outcome.ensures.entry.row c.args.res c.requires.of_res c.requires.within (sym holding ∙ c.if-holds.false ∙ sym (ap (λ (x : Option ℕ). is_some x) lacks)))

pub returns-then-not-holds-clause-kept : goal.returns-then-not-holds-clause-kept
returns-then-not-holds-clause-kept g c =
    let s = c.args.self.now in
    let course : Course = s.life.course in
    let outcome : Outcome = c.step-outcome.result in
    let answered : IsAnswered g.D.Disk.tells g.D.Disk.time g.D.Disk.past g.D.Disk.now g.D.Disk.failures course s.vault s.held.items s.disk c.args.event outcome (got_content c.args.got) =
    subst (λ (o : Outcome). IsAnswered g.D.Disk.tells g.D.Disk.time g.D.Disk.past g.D.Disk.now g.D.Disk.failures course s.vault s.held.items s.disk c.args.event o (got_content c.args.got)) (sym c.step-outcome.ensures.outcome) c.requires.answered in
    let note : Entry = entry_by (g.D.Disk.time s.disk) (g.D.Disk.failures s.disk) c.args.actor c.args.event outcome (got_content c.args.got) in
    let holding : c.holds-in-Some.result ≡ holds_at (opening course) (note ∷ course.entries) c.args.res = subst (λ (k : Course). c.holds-in-Some.result ≡ holds_at (opening k) k.entries c.args.res) c.step-outcome.ensures.added c.holds-in-Some.ensures in
    let has : held_at s.held.items c.args.res ≡ Some c.in-Some.pair = sym c.pair_of.ensures ∙ c.in-Some.is in
    let n : c.number-then-not-holds.result ≡ c.args.res = c.number-then-not-holds.ensures.value in
    subst (λ (k : Course). RegistryInvariant g.D.Disk.tells g.D.Disk.time g.D.Disk.past g.D.Disk.now g.D.Disk.failures k c.release.new.self (set s.held.items c.number-then-not-holds.result None) s.disk) (sym c.step-outcome.ensures.added)
    (subst (λ (v : VaultState). RegistryInvariant g.D.Disk.tells g.D.Disk.time g.D.Disk.past g.D.Disk.now g.D.Disk.failures (with_entry course note) v (set s.held.items c.number-then-not-holds.result None) s.disk) (sym c.release.ensures)
    (subst (λ k. RegistryInvariant g.D.Disk.tells g.D.Disk.time g.D.Disk.past g.D.Disk.now g.D.Disk.failures (with_entry course note) (with_pair s.vault c.in-Some.pair (with_use (pair_at s.vault c.in-Some.pair) Free)) (set s.held.items k None) s.disk) (sym n)
    (answered_released g.D.Disk.tells g.D.Disk.time g.D.Disk.past g.D.Disk.now g.D.Disk.failures g.met.D.Disk.present course s.vault s.held.items s.disk c.args.actor c.args.event outcome (got_content c.args.got) answered c.step-outcome.ensures.entry.row c.args.res c.requires.of_res c.requires.within c.in-Some.pair has (sym holding ∙ c.if-not-holds.true))))

pub returns-else-not-holds-clause-kept : goal.returns-else-not-holds-clause-kept
returns-else-not-holds-clause-kept g c =
    let s = c.args.self.now in
    let course : Course = s.life.course in
    let outcome : Outcome = c.step-outcome.result in
    let answered : IsAnswered g.D.Disk.tells g.D.Disk.time g.D.Disk.past g.D.Disk.now g.D.Disk.failures course s.vault s.held.items s.disk c.args.event outcome (got_content c.args.got) =
    subst (λ (o : Outcome). IsAnswered g.D.Disk.tells g.D.Disk.time g.D.Disk.past g.D.Disk.now g.D.Disk.failures course s.vault s.held.items s.disk c.args.event o (got_content c.args.got)) (sym c.step-outcome.ensures.outcome) c.requires.answered in
    let note : Entry = entry_by (g.D.Disk.time s.disk) (g.D.Disk.failures s.disk) c.args.actor c.args.event outcome (got_content c.args.got) in
    let holding : c.holds-in-Some.result ≡ holds_at (opening course) (note ∷ course.entries) c.args.res = subst (λ (k : Course). c.holds-in-Some.result ≡ holds_at (opening k) k.entries c.args.res) c.step-outcome.ensures.added c.holds-in-Some.ensures in
    let has : held_at s.held.items c.args.res ≡ Some c.in-Some.pair = sym c.pair_of.ensures ∙ c.in-Some.is in
    subst (λ (k : Course). RegistryInvariant g.D.Disk.tells g.D.Disk.time g.D.Disk.past g.D.Disk.now g.D.Disk.failures k s.vault s.held.items s.disk) (sym c.step-outcome.ensures.added)
    (answered_matched g.D.Disk.tells g.D.Disk.time g.D.Disk.past g.D.Disk.now g.D.Disk.failures g.met.D.Disk.present course s.vault s.held.items s.disk c.args.actor c.args.event outcome (got_content c.args.got) answered c.step-outcome.ensures.entry.row c.args.res c.requires.of_res c.requires.within (sym holding ∙ c.if-not-holds.false ∙ sym (ap (λ (x : Option ℕ). is_some x) has)))
