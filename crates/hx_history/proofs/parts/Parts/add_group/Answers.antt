use Rattle.std.proofs.Common.{rules, ◌≡◌, ◌<◌, ◌++◌, ℕ, List, None, [], ◌∷◌, length, sym, ◌∙◌, ap, subst, arith}
use Rattle.hx_vault.specs.Vaults.{VaultState, pair_at}
use Rattle.hx_vault.specs.declared.pair.PairUse.TheVariants.{Free, Taken}
use Rattle.hx_history_laws.specs.declared.entry.HistoryEntry.{HistoryEntry}
use Rattle.hx_history_laws.specs.Entries.{resource_at}
use Rattle.hx_history_laws.specs.Having.{HaveEither}
use Rattle.hx_history_laws.specs.EventRuns.{either_still, next_fits, fresh_owns, fresh_moments, fresh_kept, fresh_orderly, fresh_orderly_left, fresh_left}
use Rattle.hx_history_laws.specs.Events.{free_is_there}
use Rattle.hx_history_laws.specs.Keeping.{AreKept, IsOrderly}
use Rattle.hx_history_laws.specs.Kept.{last_50, next_number}
use Rattle.hx_history_laws.specs.PairRuns.{Moments}
use Rattle.hx_history_laws.specs.Stages.{owns_quiet, quiet_files}
use Rattle.std.proofs.lemmas.List.{length-set}
use Rattle.hx_history_laws.specs.EventRuns.{fresh_within}
use Rattle.hx_history_laws.specs.Stamps.{used_stamped}
use Rattle.hx_history.proofs.parts.Parts.add_group.Goals as goal

pub returns-in_err-from_slice-clause-moments : goal.returns-in_err-from_slice-clause-moments
returns-in_err-from_slice-clause-moments g c = λ told.
    let s = c.args.self.now in
    either_still g.D.Disk.time g.D.Disk.past g.D.Disk.now g.met.D.Disk.present s.entries.items _ s.places.items s.vault s.disk c.requires.orderly (c.requires.kept told)

pub returns-in_err-reserve-clause-moments : goal.returns-in_err-reserve-clause-moments
returns-in_err-reserve-clause-moments g c = λ told.
    let s = c.args.self.now in
    either_still g.D.Disk.time g.D.Disk.past g.D.Disk.now g.met.D.Disk.present s.entries.items _ s.places.items s.vault s.disk c.requires.orderly (c.requires.kept told)

pub returns-in_err-reserve-2-clause-moments : goal.returns-in_err-reserve-2-clause-moments
returns-in_err-reserve-2-clause-moments g c = λ told.
    let s = c.args.self.now in
    either_still g.D.Disk.time g.D.Disk.past g.D.Disk.now g.met.D.Disk.present s.entries.items _ s.places.items s.vault s.disk c.requires.orderly (c.requires.kept told)

pub back_up-requires-clause-held : goal.back_up-requires-clause-held
back_up-requires-clause-held g c = λ told.
    let s = c.args.self.now in
    let es : List HistoryEntry = s.entries.items in
    let places : List ℕ = s.places.items in
    let p : ℕ = c.in-Some.pair in
    let u : VaultState = c.take.new.self in
    let e : HistoryEntry = record { number = c.number_behind-number.result; moment = c.args.moment; content = c.args.content.now } in
    let number : e.number ≡ next_number es = search rules in
    let kept = c.requires.kept told in
    (None, (fresh_owns g.D.Disk.time g.D.Disk.past g.D.Disk.now g.met.D.Disk.present es places s.vault u u s.disk s.disk p e c.requires.orderly c.requires.few (omega arith) c.in-Some.ensures.0 c.take.ensures c.requires.unspent number kept))

pub number_behind-number-requires : goal.number_behind-number-requires
number_behind-number-requires g c =
    let s = c.args.self.now in
    subst (λ (l : List HistoryEntry). next_number l < 18446744073709551616) (sym c.deref.ensures.value) (next_fits s.entries.items s.places.items s.vault c.requires.orderly c.requires.unspent)

pub unreachable-requires : goal.unreachable-requires
unreachable-requires g c =
    let s = c.args.self.now in
    free_is_there s.entries.items s.places.items s.vault c.requires.orderly c.in_default.ensures

pub returns-in-Ok-clause-orderly : goal.returns-in-Ok-clause-orderly
returns-in-Ok-clause-orderly g c =
    let s = c.args.self.now in
    let es : List HistoryEntry = s.entries.items in
    let places : List ℕ = s.places.items in
    let p : ℕ = c.in-Some.pair in
    let u : VaultState = c.take.new.self in
    let e : HistoryEntry = record { number = c.number_behind-number.result; moment = c.args.moment; content = c.args.content.now } in
    let number : e.number ≡ next_number es = search rules in
    let written : c.push_reserved.new.self.items ≡ es ++ e ∷ [] = search rules in
    let beside : c.push_reserved-in-Ok.new.self.items ≡ places ++ p ∷ [] = search rules in
    subst (λ (l : List HistoryEntry). IsOrderly l c.push_reserved-in-Ok.new.self.items c.back_up.new.vault) (sym written)
    (subst (λ (l : List ℕ). IsOrderly (es ++ e ∷ []) l c.back_up.new.vault) (sym beside)
    (fresh_orderly g.D.Disk.time g.D.Disk.past g.D.Disk.now g.met.D.Disk.present es places s.vault u c.back_up.new.vault s.disk c.back_up.new.disk p e c.requires.orderly c.requires.few (omega arith) c.in-Some.ensures.0 c.take.ensures c.requires.unspent number c.back_up.ensures.moves c.in-Ok.ensures.stamped))

pub returns-in-Ok-clause-kept : goal.returns-in-Ok-clause-kept
returns-in-Ok-clause-kept g c = λ told.
    let s = c.args.self.now in
    let es : List HistoryEntry = s.entries.items in
    let places : List ℕ = s.places.items in
    let p : ℕ = c.in-Some.pair in
    let u : VaultState = c.take.new.self in
    let e : HistoryEntry = record { number = c.number_behind-number.result; moment = c.args.moment; content = c.args.content.now } in
    let number : e.number ≡ next_number es = search rules in
    let kept = c.requires.kept told in
    let written : c.push_reserved.new.self.items ≡ es ++ e ∷ [] = search rules in
    let beside : c.push_reserved-in-Ok.new.self.items ≡ places ++ p ∷ [] = search rules in
    subst (λ (l : List HistoryEntry). AreKept l c.push_reserved-in-Ok.new.self.items c.back_up.new.vault (g.D.Disk.now c.back_up.new.disk)) (sym written)
    (subst (λ (l : List ℕ). AreKept (es ++ e ∷ []) l c.back_up.new.vault (g.D.Disk.now c.back_up.new.disk)) (sym beside)
    (fresh_kept g.D.Disk.time g.D.Disk.past g.D.Disk.now g.met.D.Disk.present es places s.vault u c.back_up.new.vault s.disk c.back_up.new.disk p e c.requires.orderly c.requires.few (omega arith) c.in-Some.ensures.0 c.take.ensures c.requires.unspent number kept c.back_up.ensures.moves (c.in-Ok.ensures.run told None (fresh_owns g.D.Disk.time g.D.Disk.past g.D.Disk.now g.met.D.Disk.present es places s.vault u u s.disk s.disk p e c.requires.orderly c.requires.few (omega arith) c.in-Some.ensures.0 c.take.ensures c.requires.unspent number kept)) (c.in-Ok.ensures.done told None (fresh_owns g.D.Disk.time g.D.Disk.past g.D.Disk.now g.met.D.Disk.present es places s.vault u u s.disk s.disk p e c.requires.orderly c.requires.few (omega arith) c.in-Some.ensures.0 c.take.ensures c.requires.unspent number kept))))

pub returns-in-Ok-clause-moments : goal.returns-in-Ok-clause-moments
returns-in-Ok-clause-moments g c = λ told.
    let s = c.args.self.now in
    let es : List HistoryEntry = s.entries.items in
    let places : List ℕ = s.places.items in
    let p : ℕ = c.in-Some.pair in
    let u : VaultState = c.take.new.self in
    let e : HistoryEntry = record { number = c.number_behind-number.result; moment = c.args.moment; content = c.args.content.now } in
    let number : e.number ≡ next_number es = search rules in
    let kept = c.requires.kept told in
    let more : es ++ e ∷ [] ≡ es ++ record { number = next_number es; moment = c.args.moment; content = c.args.content.now } ∷ [] = ap (λ n. es ++ record { number = n; moment = c.args.moment; content = c.args.content.now } ∷ []) number in
    subst (λ (l : List HistoryEntry). Moments g.D.Disk.time g.D.Disk.past (HaveEither (last_50 es) (last_50 l)) s.disk c.back_up.new.disk) more (fresh_moments g.D.Disk.time g.D.Disk.past g.D.Disk.now g.met.D.Disk.present es places s.vault u c.back_up.new.vault s.disk c.back_up.new.disk p e c.requires.orderly c.requires.few (omega arith) c.in-Some.ensures.0 c.take.ensures c.requires.unspent number kept (c.in-Ok.ensures.run told None (fresh_owns g.D.Disk.time g.D.Disk.past g.D.Disk.now g.met.D.Disk.present es places s.vault u u s.disk s.disk p e c.requires.orderly c.requires.few (omega arith) c.in-Some.ensures.0 c.take.ensures c.requires.unspent number kept)))

pub release-requires-clause-quiet : goal.release-requires-clause-quiet
release-requires-clause-quiet g c = λ told.
    let s = c.args.self.now in
    let es : List HistoryEntry = s.entries.items in
    let places : List ℕ = s.places.items in
    let p : ℕ = c.in-Some.pair in
    let u : VaultState = c.take.new.self in
    let e : HistoryEntry = record { number = c.number_behind-number.result; moment = c.args.moment; content = c.args.content.now } in
    let number : e.number ≡ next_number es = search rules in
    let kept = c.requires.kept told in
    quiet_files (pair_at c.back_up.new.vault p) p (g.D.Disk.now c.back_up.new.disk) (owns_quiet (resource_at e.number) c.back_up.new.vault p (g.D.Disk.now c.back_up.new.disk) (c.in-Err-NoMemory.ensures.kept told None (fresh_owns g.D.Disk.time g.D.Disk.past g.D.Disk.now g.met.D.Disk.present es places s.vault u u s.disk s.disk p e c.requires.orderly c.requires.few (omega arith) c.in-Some.ensures.0 c.take.ensures c.requires.unspent number kept) (search rules)))

pub returns-in-Err-NoMemory-clause-orderly_left : goal.returns-in-Err-NoMemory-clause-orderly_left
returns-in-Err-NoMemory-clause-orderly_left g c = λ want.
    let s = c.args.self.now in
    let es : List HistoryEntry = s.entries.items in
    let places : List ℕ = s.places.items in
    let p : ℕ = c.in-Some.pair in
    let u : VaultState = c.take.new.self in
    let e : HistoryEntry = record { number = c.number_behind-number.result; moment = c.args.moment; content = c.args.content.now } in
    let number : e.number ≡ next_number es = search rules in
    let same_e : c.reserve.new.self.items ≡ es = search rules in
    let same_p : c.reserve-2.new.self.items ≡ places = search rules in
    subst (λ (l : List HistoryEntry). IsOrderly l c.reserve-2.new.self.items c.release.new.self) (sym same_e) (subst (λ (l : List ℕ). IsOrderly es l c.release.new.self) (sym same_p)
    (fresh_orderly_left g.D.Disk.time g.D.Disk.past g.D.Disk.now g.met.D.Disk.present es places s.vault u c.back_up.new.vault s.disk c.back_up.new.disk p e c.requires.orderly c.requires.few (omega arith) c.in-Some.ensures.0 c.take.ensures c.requires.unspent number c.release.new.self c.back_up.ensures.moves c.release.ensures c.back_up.ensures.stamp))

pub returns-in-Err-NoMemory-clause-kept_left : goal.returns-in-Err-NoMemory-clause-kept_left
returns-in-Err-NoMemory-clause-kept_left g c = λ told want.
    let s = c.args.self.now in
    let es : List HistoryEntry = s.entries.items in
    let places : List ℕ = s.places.items in
    let p : ℕ = c.in-Some.pair in
    let u : VaultState = c.take.new.self in
    let e : HistoryEntry = record { number = c.number_behind-number.result; moment = c.args.moment; content = c.args.content.now } in
    let number : e.number ≡ next_number es = search rules in
    let kept = c.requires.kept told in
    let same_e : c.reserve.new.self.items ≡ es = search rules in
    let same_p : c.reserve-2.new.self.items ≡ places = search rules in
    subst (λ (l : List HistoryEntry). AreKept l c.reserve-2.new.self.items c.release.new.self (g.D.Disk.now c.back_up.new.disk)) (sym same_e) (subst (λ (l : List ℕ). AreKept es l c.release.new.self (g.D.Disk.now c.back_up.new.disk)) (sym same_p)
    (fresh_left g.D.Disk.time g.D.Disk.past g.D.Disk.now g.met.D.Disk.present es places s.vault u c.back_up.new.vault s.disk c.back_up.new.disk p e c.requires.orderly c.requires.few (omega arith) c.in-Some.ensures.0 c.take.ensures c.requires.unspent number c.release.new.self c.back_up.ensures.moves c.release.ensures kept (c.in-Err-NoMemory.ensures.run told None (fresh_owns g.D.Disk.time g.D.Disk.past g.D.Disk.now g.met.D.Disk.present es places s.vault u u s.disk s.disk p e c.requires.orderly c.requires.few (omega arith) c.in-Some.ensures.0 c.take.ensures c.requires.unspent number kept)) (c.in-Err-NoMemory.ensures.kept told None (fresh_owns g.D.Disk.time g.D.Disk.past g.D.Disk.now g.met.D.Disk.present es places s.vault u u s.disk s.disk p e c.requires.orderly c.requires.few (omega arith) c.in-Some.ensures.0 c.take.ensures c.requires.unspent number kept) (search rules))))

pub returns-in-Err-NoMemory-clause-moments : goal.returns-in-Err-NoMemory-clause-moments
returns-in-Err-NoMemory-clause-moments g c = λ told.
    let s = c.args.self.now in
    let es : List HistoryEntry = s.entries.items in
    let places : List ℕ = s.places.items in
    let p : ℕ = c.in-Some.pair in
    let u : VaultState = c.take.new.self in
    let e : HistoryEntry = record { number = c.number_behind-number.result; moment = c.args.moment; content = c.args.content.now } in
    let number : e.number ≡ next_number es = search rules in
    let kept = c.requires.kept told in
    let more : es ++ e ∷ [] ≡ es ++ record { number = next_number es; moment = c.args.moment; content = c.args.content.now } ∷ [] = ap (λ n. es ++ record { number = n; moment = c.args.moment; content = c.args.content.now } ∷ []) number in
    subst (λ (l : List HistoryEntry). Moments g.D.Disk.time g.D.Disk.past (HaveEither (last_50 es) (last_50 l)) s.disk c.back_up.new.disk) more (fresh_moments g.D.Disk.time g.D.Disk.past g.D.Disk.now g.met.D.Disk.present es places s.vault u c.back_up.new.vault s.disk c.back_up.new.disk p e c.requires.orderly c.requires.few (omega arith) c.in-Some.ensures.0 c.take.ensures c.requires.unspent number kept (c.in-Err-NoMemory.ensures.run told None (fresh_owns g.D.Disk.time g.D.Disk.past g.D.Disk.now g.met.D.Disk.present es places s.vault u u s.disk s.disk p e c.requires.orderly c.requires.few (omega arith) c.in-Some.ensures.0 c.take.ensures c.requires.unspent number kept)))

pub returns-clause-moments : goal.returns-clause-moments
returns-clause-moments g c = λ told.
    let s = c.args.self.now in
    let es : List HistoryEntry = s.entries.items in
    let places : List ℕ = s.places.items in
    let p : ℕ = c.in-Some.pair in
    let u : VaultState = c.take.new.self in
    let e : HistoryEntry = record { number = c.number_behind-number.result; moment = c.args.moment; content = c.args.content.now } in
    let number : e.number ≡ next_number es = search rules in
    let kept = c.requires.kept told in
    let more : es ++ e ∷ [] ≡ es ++ record { number = next_number es; moment = c.args.moment; content = c.args.content.now } ∷ [] = ap (λ n. es ++ record { number = n; moment = c.args.moment; content = c.args.content.now } ∷ []) number in
    subst (λ (l : List HistoryEntry). Moments g.D.Disk.time g.D.Disk.past (HaveEither (last_50 es) (last_50 l)) s.disk c.back_up.new.disk) more (fresh_moments g.D.Disk.time g.D.Disk.past g.D.Disk.now g.met.D.Disk.present es places s.vault u c.back_up.new.vault s.disk c.back_up.new.disk p e c.requires.orderly c.requires.few (omega arith) c.in-Some.ensures.0 c.take.ensures c.requires.unspent number kept (c.back_up.ensures.run told None (fresh_owns g.D.Disk.time g.D.Disk.past g.D.Disk.now g.met.D.Disk.present es places s.vault u u s.disk s.disk p e c.requires.orderly c.requires.few (omega arith) c.in-Some.ensures.0 c.take.ensures c.requires.unspent number kept)))

pub back_up-requires-clause-within : goal.back_up-requires-clause-within
back_up-requires-clause-within g c =
    let s = c.args.self.now in
    let es : List HistoryEntry = s.entries.items in
    let e : HistoryEntry = record { number = c.number_behind-number.result; moment = c.args.moment; content = c.args.content.now } in
    let number : e.number ≡ next_number es = search rules in
    let within = fresh_within g.D.Disk.time g.D.Disk.past g.D.Disk.now g.met.D.Disk.present es s.places.items s.vault c.take.new.self c.take.new.self s.disk s.disk c.in-Some.pair e c.requires.orderly c.requires.few (omega arith) c.in-Some.ensures.0 c.take.ensures c.requires.unspent number in
    let same : c.take.new.self.stamp ≡ s.vault.stamp = ap (λ (k : VaultState). k.stamp) c.take.ensures in
    omega (arith, within, same)

pub returns-in-Ok-clause-stamps : goal.returns-in-Ok-clause-stamps
returns-in-Ok-clause-stamps g c = λ told own stamped.
    let s = c.args.self.now in
    let p : ℕ = c.in-Some.pair in
    let u : VaultState = c.take.new.self in
    let held = used_stamped own s.vault u p Taken (g.D.Disk.now s.disk) c.requires.orderly.pairs (omega arith) c.take.ensures stamped in
    c.back_up.ensures.stamps told own held

pub returns-in-Err-NoMemory-clause-stamps : goal.returns-in-Err-NoMemory-clause-stamps
returns-in-Err-NoMemory-clause-stamps g c = λ told own stamped.
    let s = c.args.self.now in
    let p : ℕ = c.in-Some.pair in
    let u : VaultState = c.take.new.self in
    let held = used_stamped own s.vault u p Taken (g.D.Disk.now s.disk) c.requires.orderly.pairs (omega arith) c.take.ensures stamped in
    let count : length u.pairs ≡ 64 = ap (λ (k : VaultState). length k.pairs) c.take.ensures ∙ length-set s.vault.pairs p _ ∙ c.requires.orderly.pairs in
    used_stamped own c.back_up.new.vault c.release.new.self p Free (g.D.Disk.now c.back_up.new.disk) (c.back_up.ensures.moves.count ∙ count) (omega arith) c.release.ensures (c.back_up.ensures.stamps told own held)

pub returns-clause-stamps : goal.returns-clause-stamps
returns-clause-stamps g c = λ told own stamped.
    let s = c.args.self.now in
    let p : ℕ = c.in-Some.pair in
    let u : VaultState = c.take.new.self in
    let held = used_stamped own s.vault u p Taken (g.D.Disk.now s.disk) c.requires.orderly.pairs (omega arith) c.take.ensures stamped in
    c.back_up.ensures.stamps told own held
