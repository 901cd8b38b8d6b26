use Rattle.std.proofs.Common.{rules, ℕ, List, length, sym, ◌∙◌, ap, subst}
use Rattle.hx_events.specs.declared.backup.PairFound.{PairFound}
use Rattle.hx_lives.specs.Holds.{readings}
use Rattle.hx_opening_laws.specs.Findings.{found_count}
use Rattle.hx_opening_laws.specs.Opening.{IsVaultOpened}
use Rattle.hx_vault.specs.Vaults.{VaultState}
use Rattle.hx_history_laws.specs.declared.entry.HistoryEntry.{HistoryEntry}
use Rattle.hx_history_laws.specs.Entries.{AreEntries}
use Rattle.hx_history_laws.specs.Having.{HaveEntries}
use Rattle.hx_history_laws.specs.Opening.{IsHistory, IsHistoryOf, opened_all, opened_orderly, opened_own, opened_since, entries_after, entries_before, history_after, history_before, stamp_before}
use Rattle.hx_history_laws.specs.Stamps.{AreOwn}
use Rattle.hx_history_laws.specs.States.{HistoryState}
use Rattle.hx_history.proofs.history.History.open.Goals as goal

pub read_history-requires-clause-pairs : goal.read_history-requires-clause-pairs
read_history-requires-clause-pairs g c =
    let v : VaultState = c.in-Ok.opened.0 in
    let found : List PairFound = c.in-Ok.opened.1.items in
    let opened : IsVaultOpened g.D.Disk.tells g.D.Disk.now v found c.open_vault.new.disk = c.in-Ok.ensures.opened in
    ap (λ (l : List PairFound). length l) c.deref.ensures.value ∙ found_count found opened.findings

pub of-requires-clause-orderly : goal.of-requires-clause-orderly
of-requires-clause-orderly g c =
    let v : VaultState = c.in-Ok.opened.0 in
    let found : List PairFound = c.in-Ok.opened.1.items in
    let opened : IsVaultOpened g.D.Disk.tells g.D.Disk.now v found c.open_vault.new.disk = c.in-Ok.ensures.opened in
    let es : List HistoryEntry = c.in-Ok-Some.entries.items in
    let places : List ℕ = c.in-Ok-Some.places.items in
    let is : IsHistoryOf c.deref.result.now c.stamp.result es places = search rules in
    let mine : IsHistoryOf found v.stamp es places = subst (λ n. IsHistoryOf found n es places) c.stamp.ensures (subst (λ (l : List PairFound). IsHistoryOf l c.stamp.result es places) c.deref.ensures.value is) in
    opened_orderly g.D.Disk.tells g.D.Disk.now v found c.open_vault.new.disk es places opened mine

pub of-requires-clause-kept : goal.of-requires-clause-kept
of-requires-clause-kept g c = λ told.
    let v : VaultState = c.in-Ok.opened.0 in
    let found : List PairFound = c.in-Ok.opened.1.items in
    let opened : IsVaultOpened g.D.Disk.tells g.D.Disk.now v found c.open_vault.new.disk = c.in-Ok.ensures.opened in
    let es : List HistoryEntry = c.in-Ok-Some.entries.items in
    let places : List ℕ = c.in-Ok-Some.places.items in
    let is : IsHistoryOf c.deref.result.now c.stamp.result es places = search rules in
    let mine : IsHistoryOf found v.stamp es places = subst (λ n. IsHistoryOf found n es places) c.stamp.ensures (subst (λ (l : List PairFound). IsHistoryOf l c.stamp.result es places) c.deref.ensures.value is) in
    opened_all g.D.Disk.tells g.D.Disk.now v found c.open_vault.new.disk es places opened mine told

pub of-requires-clause-stamped : goal.of-requires-clause-stamped
of-requires-clause-stamped g c = λ told.
    let v : VaultState = c.in-Ok.opened.0 in
    let found : List PairFound = c.in-Ok.opened.1.items in
    let opened : IsVaultOpened g.D.Disk.tells g.D.Disk.now v found c.open_vault.new.disk = c.in-Ok.ensures.opened in
    opened_since g.D.Disk.tells g.D.Disk.time g.D.Disk.past g.D.Disk.now g.met.D.Disk.present g.met.D.Disk.sound v found c.open_vault.new.disk c.moment-opened.result c.moment-opened.ensures opened told

pub returns-in-Ok-Some-clause-history : goal.returns-in-Ok-Some-clause-history
returns-in-Ok-Some-clause-history g c = λ told.
    let v : VaultState = c.in-Ok.opened.0 in
    let found : List PairFound = c.in-Ok.opened.1.items in
    let opened : IsVaultOpened g.D.Disk.tells g.D.Disk.now v found c.open_vault.new.disk = c.in-Ok.ensures.opened in
    let es : List HistoryEntry = c.in-Ok-Some.entries.items in
    let places : List ℕ = c.in-Ok-Some.places.items in
    let is : IsHistoryOf c.deref.result.now c.stamp.result es places = search rules in
    let mine : IsHistoryOf found v.stamp es places = subst (λ n. IsHistoryOf found n es places) c.stamp.ensures (subst (λ (l : List PairFound). IsHistoryOf l c.stamp.result es places) c.deref.ensures.value is) in
    history_before g.D.Disk.tells g.D.Disk.time g.D.Disk.past g.D.Disk.now g.D.Disk.failures g.met.D.Disk.present g.met.D.Disk.sound v found c.args.disk c.open_vault.new.disk c.open_vault.ensures.quiet opened told (record { entries = es; places = places; is = mine })

pub returns-in-Ok-Some-clause-stamp : goal.returns-in-Ok-Some-clause-stamp
returns-in-Ok-Some-clause-stamp g c = λ told.
    let v : VaultState = c.in-Ok.opened.0 in
    let found : List PairFound = c.in-Ok.opened.1.items in
    let opened : IsVaultOpened g.D.Disk.tells g.D.Disk.now v found c.open_vault.new.disk = c.in-Ok.ensures.opened in
    ap (λ (h : HistoryState _). h.stamp) c.of.ensures ∙ stamp_before g.D.Disk.tells g.D.Disk.time g.D.Disk.past g.D.Disk.now g.D.Disk.failures g.met.D.Disk.present g.met.D.Disk.sound v found c.args.disk c.open_vault.new.disk c.open_vault.ensures.quiet opened told

pub returns-in-Ok-Some-clause-own : goal.returns-in-Ok-Some-clause-own
returns-in-Ok-Some-clause-own g c = λ told own.
    let v : VaultState = c.in-Ok.opened.0 in
    let found : List PairFound = c.in-Ok.opened.1.items in
    let opened : IsVaultOpened g.D.Disk.tells g.D.Disk.now v found c.open_vault.new.disk = c.in-Ok.ensures.opened in
    subst (λ (h : HistoryState _). AreOwn (g.D.Disk.past h.disk h.opened)) (sym c.of.ensures)
    (opened_own g.D.Disk.tells g.D.Disk.time g.D.Disk.past g.D.Disk.now g.D.Disk.failures g.met.D.Disk.present g.met.D.Disk.sound v found c.args.disk c.open_vault.new.disk c.moment-opened.result c.moment-opened.ensures c.open_vault.ensures.quiet opened told own)

pub returns-in-Ok-Some-clause-entries : goal.returns-in-Ok-Some-clause-entries
returns-in-Ok-Some-clause-entries g c = λ told.
    let v : VaultState = c.in-Ok.opened.0 in
    let found : List PairFound = c.in-Ok.opened.1.items in
    let opened : IsVaultOpened g.D.Disk.tells g.D.Disk.now v found c.open_vault.new.disk = c.in-Ok.ensures.opened in
    let es : List HistoryEntry = c.in-Ok-Some.entries.items in
    let places : List ℕ = c.in-Ok-Some.places.items in
    let is : IsHistoryOf c.deref.result.now c.stamp.result es places = search rules in
    let mine : IsHistoryOf found v.stamp es places = subst (λ n. IsHistoryOf found n es places) c.stamp.ensures (subst (λ (l : List PairFound). IsHistoryOf l c.stamp.result es places) c.deref.ensures.value is) in
    subst (λ (h : HistoryState _). AreEntries (readings (g.D.Disk.now c.args.disk)) h.entries) (sym c.of.ensures) (entries_before g.D.Disk.tells g.D.Disk.time g.D.Disk.past g.D.Disk.now g.D.Disk.failures g.met.D.Disk.present g.met.D.Disk.sound v found c.args.disk c.open_vault.new.disk c.open_vault.ensures.quiet opened told es places mine)

pub returns-in-Ok-Some-clause-kept : goal.returns-in-Ok-Some-clause-kept
returns-in-Ok-Some-clause-kept g c = λ told.
    let v : VaultState = c.in-Ok.opened.0 in
    let found : List PairFound = c.in-Ok.opened.1.items in
    let opened : IsVaultOpened g.D.Disk.tells g.D.Disk.now v found c.open_vault.new.disk = c.in-Ok.ensures.opened in
    let es : List HistoryEntry = c.in-Ok-Some.entries.items in
    let places : List ℕ = c.in-Ok-Some.places.items in
    let is : IsHistoryOf c.deref.result.now c.stamp.result es places = search rules in
    let mine : IsHistoryOf found v.stamp es places = subst (λ n. IsHistoryOf found n es places) c.stamp.ensures (subst (λ (l : List PairFound). IsHistoryOf l c.stamp.result es places) c.deref.ensures.value is) in
    subst (λ (h : HistoryState _). HaveEntries h.entries (g.D.Disk.now h.disk)) (sym c.of.ensures) (entries_after g.D.Disk.tells g.D.Disk.time g.D.Disk.past g.D.Disk.now g.D.Disk.failures g.met.D.Disk.present g.met.D.Disk.sound v found c.args.disk c.open_vault.new.disk c.open_vault.ensures.quiet opened told es places mine)

pub returns-in-Ok-None-clause-no_history : goal.returns-in-Ok-None-clause-no_history
returns-in-Ok-None-clause-no_history g c = λ told back is h.
    let v : VaultState = c.in-Ok.opened.0 in
    let found : List PairFound = c.in-Ok.opened.1.items in
    let opened : IsVaultOpened g.D.Disk.tells g.D.Disk.now v found c.open_vault.new.disk = c.in-Ok.ensures.opened in
    c.in-Ok-None.ensures.none (search rules) (subst (λ n. IsHistory c.deref.result.now n) (sym c.stamp.ensures) (subst (λ (l : List PairFound). IsHistory l v.stamp) (sym c.deref.ensures.value) (history_after g.D.Disk.tells g.D.Disk.time g.D.Disk.past g.D.Disk.now g.D.Disk.failures g.met.D.Disk.present g.met.D.Disk.sound v found c.args.disk c.open_vault.new.disk c.open_vault.ensures.quiet opened told h)))
