use Rattle.std.proofs.Common.{rules, ◌≡◌, ◌-◌, ℕ, List, Some, slice_index_or, length, sym, ◌∙◌, ap, subst, arith, set}
use Rattle.hx_history_laws.specs.declared.entry.HistoryEntry.{HistoryEntry}
use Rattle.hx_history_laws.specs.Entries.{taken_of, no_entry, entry_at}
use Rattle.hx_history_laws.specs.Having.{HaveEither}
use Rattle.hx_history_laws.specs.EventRuns.{either_still, entry_read, last_owns, last_moments, last_left, last_kept, last_orderly, last_orderly_left}
use Rattle.hx_history_laws.specs.Keeping.{AreKept, IsOrderly}
use Rattle.hx_history_laws.specs.Kept.{last_50, last_number, number_at_last}
use Rattle.hx_history_laws.specs.PairRuns.{Moments}
use Rattle.hx_history_laws.specs.Placed.{place_at}
use Rattle.hx_history_laws.specs.EventRuns.{last_within}
use Rattle.hx_history.proofs.parts.Parts.merge.Goals as goal

pub returns-in_err-from_slice-clause-moments : goal.returns-in_err-from_slice-clause-moments
returns-in_err-from_slice-clause-moments g c = λ told.
    let s = c.args.self.now in
    either_still g.D.Disk.time g.D.Disk.past g.D.Disk.now g.met.D.Disk.present s.entries.items _ s.places.items s.vault s.disk c.requires.orderly (c.requires.kept told)

pub back_up-requires-clause-held : goal.back_up-requires-clause-held
back_up-requires-clause-held g c = λ told.
    let s = c.args.self.now in
    let es : List HistoryEntry = s.entries.items in
    let places : List ℕ = s.places.items in
    let p : ℕ = c.pair_at-pair.result in
    let len : c.len-last.result ≡ length es = c.len-last.ensures ∙ s.entries.ok.0 in
    let old : HistoryEntry = c.index.result.now in
    let is_old : old ≡ entry_at es (length es - 1) = entry_read es (length es - 1) old (omega (arith, c.requires.some)) (c.index.ensures ∙ ap (λ n. slice_index_or es (n - 1) old) len) in
    let e : HistoryEntry = record { number = old.number; moment = c.args.moment; content = c.args.content.now } in
    let same : e.number ≡ (entry_at es (length es - 1)).number = ap (λ (x : HistoryEntry). x.number) is_old in
    let at : p ≡ place_at places (length es - 1) = c.pair_at-pair.ensures ∙ ap (λ n. place_at places (n - 1)) len in
    let kept = c.requires.kept told in
    ((Some (taken_of (entry_at es (length es - 1)))), (last_owns g.D.Disk.time g.D.Disk.past g.D.Disk.now g.met.D.Disk.present es places s.vault s.vault s.disk s.disk p e at c.requires.orderly c.requires.few c.requires.some same kept))

pub returns-in_err-back_up-clause-orderly_left : goal.returns-in_err-back_up-clause-orderly_left
returns-in_err-back_up-clause-orderly_left g c = λ want.
    let s = c.args.self.now in
    let es : List HistoryEntry = s.entries.items in
    let places : List ℕ = s.places.items in
    let p : ℕ = c.pair_at-pair.result in
    let len : c.len-last.result ≡ length es = c.len-last.ensures ∙ s.entries.ok.0 in
    let old : HistoryEntry = c.index.result.now in
    let is_old : old ≡ entry_at es (length es - 1) = entry_read es (length es - 1) old (omega (arith, c.requires.some)) (c.index.ensures ∙ ap (λ n. slice_index_or es (n - 1) old) len) in
    let e : HistoryEntry = record { number = old.number; moment = c.args.moment; content = c.args.content.now } in
    let same : e.number ≡ (entry_at es (length es - 1)).number = ap (λ (x : HistoryEntry). x.number) is_old in
    let at : p ≡ place_at places (length es - 1) = c.pair_at-pair.ensures ∙ ap (λ n. place_at places (n - 1)) len in
    last_orderly_left g.D.Disk.time g.D.Disk.past g.D.Disk.now g.met.D.Disk.present es places s.vault c.back_up.new.vault s.disk c.back_up.new.disk p e at c.requires.orderly c.requires.few c.requires.some same c.back_up.ensures.moves c.back_up.ensures.stamp c.requires.unspent

pub returns-in_err-back_up-clause-kept_left : goal.returns-in_err-back_up-clause-kept_left
returns-in_err-back_up-clause-kept_left g c = λ told want.
    let s = c.args.self.now in
    let es : List HistoryEntry = s.entries.items in
    let places : List ℕ = s.places.items in
    let p : ℕ = c.pair_at-pair.result in
    let len : c.len-last.result ≡ length es = c.len-last.ensures ∙ s.entries.ok.0 in
    let old : HistoryEntry = c.index.result.now in
    let is_old : old ≡ entry_at es (length es - 1) = entry_read es (length es - 1) old (omega (arith, c.requires.some)) (c.index.ensures ∙ ap (λ n. slice_index_or es (n - 1) old) len) in
    let e : HistoryEntry = record { number = old.number; moment = c.args.moment; content = c.args.content.now } in
    let same : e.number ≡ (entry_at es (length es - 1)).number = ap (λ (x : HistoryEntry). x.number) is_old in
    let at : p ≡ place_at places (length es - 1) = c.pair_at-pair.ensures ∙ ap (λ n. place_at places (n - 1)) len in
    let kept = c.requires.kept told in
    last_left g.D.Disk.time g.D.Disk.past g.D.Disk.now g.met.D.Disk.present es places s.vault c.back_up.new.vault s.disk c.back_up.new.disk p e at c.requires.orderly c.requires.few c.requires.some same kept c.back_up.ensures.moves (c.in_err-back_up.ensures.run told (Some (taken_of (entry_at es (length es - 1)))) (last_owns g.D.Disk.time g.D.Disk.past g.D.Disk.now g.met.D.Disk.present es places s.vault s.vault s.disk s.disk p e at c.requires.orderly c.requires.few c.requires.some same kept)) (c.in_err-back_up.ensures.kept told (Some (taken_of (entry_at es (length es - 1)))) (last_owns g.D.Disk.time g.D.Disk.past g.D.Disk.now g.met.D.Disk.present es places s.vault s.vault s.disk s.disk p e at c.requires.orderly c.requires.few c.requires.some same kept) (search rules))

pub returns-in_err-back_up-clause-moments : goal.returns-in_err-back_up-clause-moments
returns-in_err-back_up-clause-moments g c = λ told.
    let s = c.args.self.now in
    let es : List HistoryEntry = s.entries.items in
    let places : List ℕ = s.places.items in
    let p : ℕ = c.pair_at-pair.result in
    let len : c.len-last.result ≡ length es = c.len-last.ensures ∙ s.entries.ok.0 in
    let old : HistoryEntry = c.index.result.now in
    let is_old : old ≡ entry_at es (length es - 1) = entry_read es (length es - 1) old (omega (arith, c.requires.some)) (c.index.ensures ∙ ap (λ n. slice_index_or es (n - 1) old) len) in
    let e : HistoryEntry = record { number = old.number; moment = c.args.moment; content = c.args.content.now } in
    let same : e.number ≡ (entry_at es (length es - 1)).number = ap (λ (x : HistoryEntry). x.number) is_old in
    let at : p ≡ place_at places (length es - 1) = c.pair_at-pair.ensures ∙ ap (λ n. place_at places (n - 1)) len in
    let number : old.number ≡ last_number es = same ∙ sym (number_at_last es no_entry c.requires.some) in
    let kept = c.requires.kept told in
    let more : set es (length es - 1) e ≡ set es (length es - 1) (record { number = last_number es; moment = c.args.moment; content = c.args.content.now }) = ap (λ n. set es (length es - 1) (record { number = n; moment = c.args.moment; content = c.args.content.now })) number in
    subst (λ (l : List HistoryEntry). Moments g.D.Disk.time g.D.Disk.past (HaveEither (last_50 es) (last_50 l)) s.disk c.back_up.new.disk) more (last_moments g.D.Disk.time g.D.Disk.past g.D.Disk.now g.met.D.Disk.present es places s.vault c.back_up.new.vault s.disk c.back_up.new.disk p e at c.requires.orderly c.requires.few c.requires.some same kept (c.in_err-back_up.ensures.run told (Some (taken_of (entry_at es (length es - 1)))) (last_owns g.D.Disk.time g.D.Disk.past g.D.Disk.now g.met.D.Disk.present es places s.vault s.vault s.disk s.disk p e at c.requires.orderly c.requires.few c.requires.some same kept)))

pub returns-clause-number : goal.returns-clause-number
returns-clause-number g c =
    let s = c.args.self.now in
    let es : List HistoryEntry = s.entries.items in
    let len : c.len-last.result ≡ length es = c.len-last.ensures ∙ s.entries.ok.0 in
    let old : HistoryEntry = c.index.result.now in
    let is_old : old ≡ entry_at es (length es - 1) = entry_read es (length es - 1) old (omega (arith, c.requires.some)) (c.index.ensures ∙ ap (λ n. slice_index_or es (n - 1) old) len) in
    let e : HistoryEntry = record { number = old.number; moment = c.args.moment; content = c.args.content.now } in
    let same : e.number ≡ (entry_at es (length es - 1)).number = ap (λ (x : HistoryEntry). x.number) is_old in
    let number : old.number ≡ last_number es = same ∙ sym (number_at_last es no_entry c.requires.some) in
    number

pub returns-clause-entries : goal.returns-clause-entries
returns-clause-entries g c =
    let s = c.args.self.now in
    let es : List HistoryEntry = s.entries.items in
    let len : c.len-last.result ≡ length es = c.len-last.ensures ∙ s.entries.ok.0 in
    let old : HistoryEntry = c.index.result.now in
    let is_old : old ≡ entry_at es (length es - 1) = entry_read es (length es - 1) old (omega (arith, c.requires.some)) (c.index.ensures ∙ ap (λ n. slice_index_or es (n - 1) old) len) in
    let e : HistoryEntry = record { number = old.number; moment = c.args.moment; content = c.args.content.now } in
    let same : e.number ≡ (entry_at es (length es - 1)).number = ap (λ (x : HistoryEntry). x.number) is_old in
    let number : old.number ≡ last_number es = same ∙ sym (number_at_last es no_entry c.requires.some) in
    let more : set es (length es - 1) e ≡ set es (length es - 1) (record { number = last_number es; moment = c.args.moment; content = c.args.content.now }) = ap (λ n. set es (length es - 1) (record { number = n; moment = c.args.moment; content = c.args.content.now })) number in
    let written : set es (c.len-last.result - 1) (record { number = old.number; moment = c.args.moment; content = c.new-copy.result }) ≡ set es (length es - 1) e =
    ap (λ n. set es (n - 1) (record { number = old.number; moment = c.args.moment; content = c.new-copy.result })) len
    ∙ ap (λ (l : List ℕ). set es (length es - 1) (record { number = old.number; moment = c.args.moment; content = l })) (search rules) in
    written ∙ more

pub returns-clause-orderly : goal.returns-clause-orderly
returns-clause-orderly g c =
    let s = c.args.self.now in
    let es : List HistoryEntry = s.entries.items in
    let places : List ℕ = s.places.items in
    let p : ℕ = c.pair_at-pair.result in
    let len : c.len-last.result ≡ length es = c.len-last.ensures ∙ s.entries.ok.0 in
    let old : HistoryEntry = c.index.result.now in
    let is_old : old ≡ entry_at es (length es - 1) = entry_read es (length es - 1) old (omega (arith, c.requires.some)) (c.index.ensures ∙ ap (λ n. slice_index_or es (n - 1) old) len) in
    let e : HistoryEntry = record { number = old.number; moment = c.args.moment; content = c.args.content.now } in
    let same : e.number ≡ (entry_at es (length es - 1)).number = ap (λ (x : HistoryEntry). x.number) is_old in
    let at : p ≡ place_at places (length es - 1) = c.pair_at-pair.ensures ∙ ap (λ n. place_at places (n - 1)) len in
    let number : old.number ≡ last_number es = same ∙ sym (number_at_last es no_entry c.requires.some) in
    let written : set es (c.len-last.result - 1) (record { number = old.number; moment = c.args.moment; content = c.new-copy.result }) ≡ set es (length es - 1) e =
    ap (λ n. set es (n - 1) (record { number = old.number; moment = c.args.moment; content = c.new-copy.result })) len
    ∙ ap (λ (l : List ℕ). set es (length es - 1) (record { number = old.number; moment = c.args.moment; content = l })) (search rules) in
    subst (λ (l : List HistoryEntry). IsOrderly l places c.back_up.new.vault) (sym written)
    (last_orderly g.D.Disk.time g.D.Disk.past g.D.Disk.now g.met.D.Disk.present es places s.vault c.back_up.new.vault s.disk c.back_up.new.disk p e at c.requires.orderly c.requires.few c.requires.some same c.back_up.ensures.moves c.back_up.ensures.stamp c.requires.unspent)

pub returns-clause-kept : goal.returns-clause-kept
returns-clause-kept g c = λ told.
    let s = c.args.self.now in
    let es : List HistoryEntry = s.entries.items in
    let places : List ℕ = s.places.items in
    let p : ℕ = c.pair_at-pair.result in
    let len : c.len-last.result ≡ length es = c.len-last.ensures ∙ s.entries.ok.0 in
    let old : HistoryEntry = c.index.result.now in
    let is_old : old ≡ entry_at es (length es - 1) = entry_read es (length es - 1) old (omega (arith, c.requires.some)) (c.index.ensures ∙ ap (λ n. slice_index_or es (n - 1) old) len) in
    let e : HistoryEntry = record { number = old.number; moment = c.args.moment; content = c.args.content.now } in
    let same : e.number ≡ (entry_at es (length es - 1)).number = ap (λ (x : HistoryEntry). x.number) is_old in
    let at : p ≡ place_at places (length es - 1) = c.pair_at-pair.ensures ∙ ap (λ n. place_at places (n - 1)) len in
    let number : old.number ≡ last_number es = same ∙ sym (number_at_last es no_entry c.requires.some) in
    let kept = c.requires.kept told in
    let written : set es (c.len-last.result - 1) (record { number = old.number; moment = c.args.moment; content = c.new-copy.result }) ≡ set es (length es - 1) e =
    ap (λ n. set es (n - 1) (record { number = old.number; moment = c.args.moment; content = c.new-copy.result })) len
    ∙ ap (λ (l : List ℕ). set es (length es - 1) (record { number = old.number; moment = c.args.moment; content = l })) (search rules) in
    subst (λ (l : List HistoryEntry). AreKept l places c.back_up.new.vault (g.D.Disk.now c.back_up.new.disk)) (sym written)
    (last_kept g.D.Disk.time g.D.Disk.past g.D.Disk.now g.met.D.Disk.present es places s.vault c.back_up.new.vault s.disk c.back_up.new.disk p e at c.requires.orderly c.requires.few c.requires.some same kept c.back_up.ensures.moves (c.in_ok-back_up.ensures.run told (Some (taken_of (entry_at es (length es - 1)))) (last_owns g.D.Disk.time g.D.Disk.past g.D.Disk.now g.met.D.Disk.present es places s.vault s.vault s.disk s.disk p e at c.requires.orderly c.requires.few c.requires.some same kept)) (c.in_ok-back_up.ensures.done told (Some (taken_of (entry_at es (length es - 1)))) (last_owns g.D.Disk.time g.D.Disk.past g.D.Disk.now g.met.D.Disk.present es places s.vault s.vault s.disk s.disk p e at c.requires.orderly c.requires.few c.requires.some same kept)))

pub returns-clause-moments : goal.returns-clause-moments
returns-clause-moments g c = λ told.
    let s = c.args.self.now in
    let es : List HistoryEntry = s.entries.items in
    let places : List ℕ = s.places.items in
    let p : ℕ = c.pair_at-pair.result in
    let len : c.len-last.result ≡ length es = c.len-last.ensures ∙ s.entries.ok.0 in
    let old : HistoryEntry = c.index.result.now in
    let is_old : old ≡ entry_at es (length es - 1) = entry_read es (length es - 1) old (omega (arith, c.requires.some)) (c.index.ensures ∙ ap (λ n. slice_index_or es (n - 1) old) len) in
    let e : HistoryEntry = record { number = old.number; moment = c.args.moment; content = c.args.content.now } in
    let same : e.number ≡ (entry_at es (length es - 1)).number = ap (λ (x : HistoryEntry). x.number) is_old in
    let at : p ≡ place_at places (length es - 1) = c.pair_at-pair.ensures ∙ ap (λ n. place_at places (n - 1)) len in
    let number : old.number ≡ last_number es = same ∙ sym (number_at_last es no_entry c.requires.some) in
    let kept = c.requires.kept told in
    let more : set es (length es - 1) e ≡ set es (length es - 1) (record { number = last_number es; moment = c.args.moment; content = c.args.content.now }) = ap (λ n. set es (length es - 1) (record { number = n; moment = c.args.moment; content = c.args.content.now })) number in
    subst (λ (l : List HistoryEntry). Moments g.D.Disk.time g.D.Disk.past (HaveEither (last_50 es) (last_50 l)) s.disk c.back_up.new.disk) more (last_moments g.D.Disk.time g.D.Disk.past g.D.Disk.now g.met.D.Disk.present es places s.vault c.back_up.new.vault s.disk c.back_up.new.disk p e at c.requires.orderly c.requires.few c.requires.some same kept (c.in_ok-back_up.ensures.run told (Some (taken_of (entry_at es (length es - 1)))) (last_owns g.D.Disk.time g.D.Disk.past g.D.Disk.now g.met.D.Disk.present es places s.vault s.vault s.disk s.disk p e at c.requires.orderly c.requires.few c.requires.some same kept)))

pub back_up-requires-clause-within : goal.back_up-requires-clause-within
back_up-requires-clause-within g c =
    let s = c.args.self.now in
    let es : List HistoryEntry = s.entries.items in
    let places : List ℕ = s.places.items in
    let p : ℕ = c.pair_at-pair.result in
    let len : c.len-last.result ≡ length es = c.len-last.ensures ∙ s.entries.ok.0 in
    let old : HistoryEntry = c.index.result.now in
    let is_old : old ≡ entry_at es (length es - 1) = entry_read es (length es - 1) old (omega (arith, c.requires.some)) (c.index.ensures ∙ ap (λ n. slice_index_or es (n - 1) old) len) in
    let e : HistoryEntry = record { number = old.number; moment = c.args.moment; content = c.args.content.now } in
    let same : e.number ≡ (entry_at es (length es - 1)).number = ap (λ (x : HistoryEntry). x.number) is_old in
    let at : p ≡ place_at places (length es - 1) = c.pair_at-pair.ensures ∙ ap (λ n. place_at places (n - 1)) len in
    let within = last_within g.D.Disk.time g.D.Disk.past g.D.Disk.now g.met.D.Disk.present es places s.vault s.vault s.disk s.disk p e at c.requires.orderly c.requires.few c.requires.some same in
    omega (arith, within)
