use Rattle.std.proofs.Common.{◌≡◌, ℕ, List, drop, sym, subst, arith}
use Rattle.hx_history_laws.specs.declared.entry.HistoryEntry.{HistoryEntry}
use Rattle.hx_history_laws.specs.Entries.{resource_at, taken_of, entry_at}
use Rattle.hx_history_laws.specs.EventRuns.{first_owns, first_moments, first_left, first_gone, first_orderly, first_orderly_left, place_read}
use Rattle.hx_history_laws.specs.Keeping.{AreKept, IsOrderly}
use Rattle.hx_history_laws.specs.Placed.{place_at}
use Rattle.hx_history.proofs.parts.Parts.empty_first.Goals as goal

pub empty-requires-clause-held : goal.empty-requires-clause-held
empty-requires-clause-held g c = λ told.
    let s = c.args.self.now in
    let es : List HistoryEntry = s.entries.items in
    let places : List ℕ = s.places.items in
    let p : ℕ = c.index-pair.result.now in
    let at : p ≡ place_at places 0 = place_read places 0 p (let n = c.requires.orderly.placed.count in omega (arith, n, c.requires.full)) c.index-pair.ensures in
    let kept = c.requires.kept told in
    (resource_at (entry_at es 0).number, taken_of (entry_at es 0), kept.wavers 0, (first_owns g.D.Disk.time g.D.Disk.past g.D.Disk.now g.met.D.Disk.present es places s.vault s.vault s.disk s.disk p at c.requires.orderly c.requires.full kept))

pub returns-in_err-empty-clause-orderly : goal.returns-in_err-empty-clause-orderly
returns-in_err-empty-clause-orderly g c =
    let s = c.args.self.now in
    let es : List HistoryEntry = s.entries.items in
    let places : List ℕ = s.places.items in
    let p : ℕ = c.index-pair.result.now in
    let at : p ≡ place_at places 0 = place_read places 0 p (let n = c.requires.orderly.placed.count in omega (arith, n, c.requires.full)) c.index-pair.ensures in
    first_orderly_left g.D.Disk.time g.D.Disk.past g.D.Disk.now g.met.D.Disk.present es places s.vault c.empty.new.vault s.disk c.empty.new.disk p at c.requires.orderly c.requires.full c.in_err-empty.ensures.moves c.empty.ensures.stamp

pub returns-in_err-empty-clause-kept : goal.returns-in_err-empty-clause-kept
returns-in_err-empty-clause-kept g c = λ told.
    let s = c.args.self.now in
    let es : List HistoryEntry = s.entries.items in
    let places : List ℕ = s.places.items in
    let p : ℕ = c.index-pair.result.now in
    let at : p ≡ place_at places 0 = place_read places 0 p (let n = c.requires.orderly.placed.count in omega (arith, n, c.requires.full)) c.index-pair.ensures in
    let kept = c.requires.kept told in
    first_left g.D.Disk.time g.D.Disk.past g.D.Disk.now g.met.D.Disk.present es places s.vault c.empty.new.vault s.disk c.empty.new.disk p at c.requires.orderly c.requires.full kept c.in_err-empty.ensures.moves
    (c.in_err-empty.ensures.run told (resource_at (entry_at es 0).number) (taken_of (entry_at es 0)) (kept.wavers 0) (first_owns g.D.Disk.time g.D.Disk.past g.D.Disk.now g.met.D.Disk.present es places s.vault c.empty.new.vault s.disk c.empty.new.disk p at c.requires.orderly c.requires.full kept))
    (c.in_err-empty.ensures.kept told (resource_at (entry_at es 0).number) (taken_of (entry_at es 0)) (kept.wavers 0) (first_owns g.D.Disk.time g.D.Disk.past g.D.Disk.now g.met.D.Disk.present es places s.vault c.empty.new.vault s.disk c.empty.new.disk p at c.requires.orderly c.requires.full kept))

pub returns-in_err-empty-clause-moments : goal.returns-in_err-empty-clause-moments
returns-in_err-empty-clause-moments g c = λ told.
    let s = c.args.self.now in
    let es : List HistoryEntry = s.entries.items in
    let places : List ℕ = s.places.items in
    let p : ℕ = c.index-pair.result.now in
    let at : p ≡ place_at places 0 = place_read places 0 p (let n = c.requires.orderly.placed.count in omega (arith, n, c.requires.full)) c.index-pair.ensures in
    let kept = c.requires.kept told in
    first_moments g.D.Disk.time g.D.Disk.past g.D.Disk.now g.met.D.Disk.present es places s.vault c.empty.new.vault s.disk c.empty.new.disk p at c.requires.orderly c.requires.full kept
    (c.in_err-empty.ensures.run told (resource_at (entry_at es 0).number) (taken_of (entry_at es 0)) (kept.wavers 0) (first_owns g.D.Disk.time g.D.Disk.past g.D.Disk.now g.met.D.Disk.present es places s.vault c.empty.new.vault s.disk c.empty.new.disk p at c.requires.orderly c.requires.full kept))

pub returns-clause-orderly : goal.returns-clause-orderly
returns-clause-orderly g c =
    let s = c.args.self.now in
    let es : List HistoryEntry = s.entries.items in
    let places : List ℕ = s.places.items in
    let p : ℕ = c.index-pair.result.now in
    let at : p ≡ place_at places 0 = place_read places 0 p (let n = c.requires.orderly.placed.count in omega (arith, n, c.requires.full)) c.index-pair.ensures in
    subst (λ (l : List HistoryEntry). IsOrderly l c.remove-2.new.self.items c.empty.new.vault) (sym c.remove.ensures.items)
    (subst (λ (l : List ℕ). IsOrderly (drop 1 es) l c.empty.new.vault) (sym c.remove-2.ensures.items)
    (first_orderly g.D.Disk.time g.D.Disk.past g.D.Disk.now g.met.D.Disk.present es places s.vault c.empty.new.vault s.disk c.empty.new.disk p at c.requires.orderly c.requires.full c.empty.ensures.count c.empty.ensures.others c.empty.ensures.stamp c.in_ok-empty.ensures.freed))

pub returns-clause-kept : goal.returns-clause-kept
returns-clause-kept g c = λ told.
    let s = c.args.self.now in
    let es : List HistoryEntry = s.entries.items in
    let places : List ℕ = s.places.items in
    let p : ℕ = c.index-pair.result.now in
    let at : p ≡ place_at places 0 = place_read places 0 p (let n = c.requires.orderly.placed.count in omega (arith, n, c.requires.full)) c.index-pair.ensures in
    let kept = c.requires.kept told in
    subst (λ (l : List HistoryEntry). AreKept l c.remove-2.new.self.items c.empty.new.vault (g.D.Disk.now c.empty.new.disk)) (sym c.remove.ensures.items)
    (subst (λ (l : List ℕ). AreKept (drop 1 es) l c.empty.new.vault (g.D.Disk.now c.empty.new.disk)) (sym c.remove-2.ensures.items)
    (first_gone g.D.Disk.time g.D.Disk.past g.D.Disk.now g.met.D.Disk.present es places s.vault c.empty.new.vault s.disk c.empty.new.disk p at c.requires.orderly c.requires.full kept c.empty.ensures.others c.empty.ensures.stamp
    (c.in_ok-empty.ensures.run told (resource_at (entry_at es 0).number) (taken_of (entry_at es 0)) (kept.wavers 0) (first_owns g.D.Disk.time g.D.Disk.past g.D.Disk.now g.met.D.Disk.present es places s.vault c.empty.new.vault s.disk c.empty.new.disk p at c.requires.orderly c.requires.full kept))
    (c.in_ok-empty.ensures.quiet told)))

pub returns-clause-moments : goal.returns-clause-moments
returns-clause-moments g c = λ told.
    let s = c.args.self.now in
    let es : List HistoryEntry = s.entries.items in
    let places : List ℕ = s.places.items in
    let p : ℕ = c.index-pair.result.now in
    let at : p ≡ place_at places 0 = place_read places 0 p (let n = c.requires.orderly.placed.count in omega (arith, n, c.requires.full)) c.index-pair.ensures in
    let kept = c.requires.kept told in
    first_moments g.D.Disk.time g.D.Disk.past g.D.Disk.now g.met.D.Disk.present es places s.vault c.empty.new.vault s.disk c.empty.new.disk p at c.requires.orderly c.requires.full kept
    (c.in_ok-empty.ensures.run told (resource_at (entry_at es 0).number) (taken_of (entry_at es 0)) (kept.wavers 0) (first_owns g.D.Disk.time g.D.Disk.past g.D.Disk.now g.met.D.Disk.present es places s.vault c.empty.new.vault s.disk c.empty.new.disk p at c.requires.orderly c.requires.full kept))
