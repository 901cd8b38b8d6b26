use Rattle.std.proofs.Common.{rules, ◌≡◌, ◌≤◌, ◌-◌, List, true, false, length, sym, ◌∙◌, ap, subst, arith}
use Rattle.std.proofs.lemmas.List.{length-drop}
use Rattle.hx_history_laws.specs.declared.entry.HistoryEntry.{HistoryEntry}
use Rattle.hx_history_laws.specs.Having.{HaveEither, HaveEntries}
use Rattle.hx_history_laws.specs.Kept.{Save, joins_last, last_50, next}
use Rattle.hx_history_laws.specs.PairRuns.{Moments}
use Rattle.hx_history_laws.specs.Saves.{last_twice, saved_joined, saved_behind, some_joined, first_then, then_last, only_first}
use Rattle.hx_history.proofs.parts.Parts.save.Goals as goal

pub returns-in_err-catch_up-clause-moments : goal.returns-in_err-catch_up-clause-moments
returns-in_err-catch_up-clause-moments g c = λ told.
    let s = c.args.self.now in
    only_first g.D.Disk.time g.D.Disk.past g.D.Disk.now g.met.D.Disk.present (last_50 s.entries.items) _ s.disk c.catch_up.new.self.disk (c.in_err-catch_up.ensures.moments told)

pub merge-requires-clause-few : goal.merge-requires-clause-few
merge-requires-clause-few g c =
    let s = c.args.self.now in
    let es : List HistoryEntry = s.entries.items in
    let mid = c.catch_up.new.self in
    let ms : List HistoryEntry = mid.entries.items in
    let done : ms ≡ last_50 es = c.in_ok-catch_up.ensures.done in
    let few : length ms ≤ 50 = (let l : length ms ≡ length (last_50 es) = ap (λ (l : List HistoryEntry). length l) done in let f = c.requires.orderly.placed.few in omega (arith, l, length-drop (length es - 50) es, f)) in
    few

pub merge-requires-clause-some : goal.merge-requires-clause-some
merge-requires-clause-some g c =
    let mid = c.catch_up.new.self in
    let ms : List HistoryEntry = mid.entries.items in
    let joined : c.does_join.result ≡ joins_last ms c.args.moment = c.does_join.ensures ∙ ap (λ (l : List HistoryEntry). joins_last l c.args.moment) c.deref.ensures.value in
    let is : joins_last ms c.args.moment ≡ true = sym joined ∙ c.if-does_join.true in
    some_joined ms c.args.moment is

pub add_group-requires-clause-few : goal.add_group-requires-clause-few
add_group-requires-clause-few g c =
    let s = c.args.self.now in
    let es : List HistoryEntry = s.entries.items in
    let mid = c.catch_up.new.self in
    let ms : List HistoryEntry = mid.entries.items in
    let done : ms ≡ last_50 es = c.in_ok-catch_up.ensures.done in
    let few : length ms ≤ 50 = (let l : length ms ≡ length (last_50 es) = ap (λ (l : List HistoryEntry). length l) done in let f = c.requires.orderly.placed.few in omega (arith, l, length-drop (length es - 50) es, f)) in
    few

pub returns-in_err-merge-clause-left : goal.returns-in_err-merge-clause-left
returns-in_err-merge-clause-left g c = λ want.
    let s = c.args.self.now in
    let es : List HistoryEntry = s.entries.items in
    let mid = c.catch_up.new.self in
    let ms : List HistoryEntry = mid.entries.items in
    let done : ms ≡ last_50 es = c.in_ok-catch_up.ensures.done in
    let twice : last_50 (last_50 es) ≡ last_50 es = last_twice es c.requires.orderly.placed.few in
    let same : last_50 ms ≡ last_50 es = ap (λ (l : List HistoryEntry). last_50 l) done ∙ twice in
    ap (λ (l : List HistoryEntry). last_50 l) (c.in_err-merge.ensures.left (search rules)) ∙ same

pub returns-in_err-merge-clause-moments : goal.returns-in_err-merge-clause-moments
returns-in_err-merge-clause-moments g c = λ told.
    let s = c.args.self.now in
    let es : List HistoryEntry = s.entries.items in
    let mid = c.catch_up.new.self in
    let ms : List HistoryEntry = mid.entries.items in
    let sv : Save = record { moment = c.args.moment; content = c.args.content.now } in
    let done : ms ≡ last_50 es = c.in_ok-catch_up.ensures.done in
    let twice : last_50 (last_50 es) ≡ last_50 es = last_twice es c.requires.orderly.placed.few in
    let same : last_50 ms ≡ last_50 es = ap (λ (l : List HistoryEntry). last_50 l) done ∙ twice in
    let nexts : next ms sv ≡ next (last_50 es) sv = ap (λ (l : List HistoryEntry). next l sv) done in
    let joined : c.does_join.result ≡ joins_last ms c.args.moment = c.does_join.ensures ∙ ap (λ (l : List HistoryEntry). joins_last l c.args.moment) c.deref.ensures.value in
    let is : joins_last ms c.args.moment ≡ true = sym joined ∙ c.if-does_join.true in
    first_then g.D.Disk.time g.D.Disk.past g.D.Disk.now g.met.D.Disk.present (last_50 es) (next (last_50 es) sv) (last_50 ms) s.disk mid.disk c.merge.new.self.disk same (c.in_ok-catch_up.ensures.moments told)
    (subst (λ (l : List HistoryEntry). Moments g.D.Disk.time g.D.Disk.past (HaveEither (last_50 ms) l) mid.disk c.merge.new.self.disk) (saved_joined ms sv is ∙ nexts) (c.in_err-merge.ensures.moments told))

pub returns-then-does_join-clause-joined : goal.returns-then-does_join-clause-joined
returns-then-does_join-clause-joined g c =
    let s = c.args.self.now in
    let es : List HistoryEntry = s.entries.items in
    let mid = c.catch_up.new.self in
    let ms : List HistoryEntry = mid.entries.items in
    let done : ms ≡ last_50 es = c.in_ok-catch_up.ensures.done in
    let joined : c.does_join.result ≡ joins_last ms c.args.moment = c.does_join.ensures ∙ ap (λ (l : List HistoryEntry). joins_last l c.args.moment) c.deref.ensures.value in
    let is : joins_last ms c.args.moment ≡ true = sym joined ∙ c.if-does_join.true in
    sym is ∙ ap (λ (l : List HistoryEntry). joins_last l c.args.moment) done

pub returns-then-does_join-clause-saved : goal.returns-then-does_join-clause-saved
returns-then-does_join-clause-saved g c =
    let s = c.args.self.now in
    let es : List HistoryEntry = s.entries.items in
    let mid = c.catch_up.new.self in
    let ms : List HistoryEntry = mid.entries.items in
    let sv : Save = record { moment = c.args.moment; content = c.args.content.now } in
    let done : ms ≡ last_50 es = c.in_ok-catch_up.ensures.done in
    let nexts : next ms sv ≡ next (last_50 es) sv = ap (λ (l : List HistoryEntry). next l sv) done in
    let joined : c.does_join.result ≡ joins_last ms c.args.moment = c.does_join.ensures ∙ ap (λ (l : List HistoryEntry). joins_last l c.args.moment) c.deref.ensures.value in
    let is : joins_last ms c.args.moment ≡ true = sym joined ∙ c.if-does_join.true in
    ap (λ (l : List HistoryEntry). last_50 l) c.in_ok-merge.ensures.entries ∙ saved_joined ms sv is ∙ nexts

pub returns-then-does_join-clause-moments : goal.returns-then-does_join-clause-moments
returns-then-does_join-clause-moments g c = λ told.
    let s = c.args.self.now in
    let es : List HistoryEntry = s.entries.items in
    let mid = c.catch_up.new.self in
    let ms : List HistoryEntry = mid.entries.items in
    let sv : Save = record { moment = c.args.moment; content = c.args.content.now } in
    let done : ms ≡ last_50 es = c.in_ok-catch_up.ensures.done in
    let twice : last_50 (last_50 es) ≡ last_50 es = last_twice es c.requires.orderly.placed.few in
    let same : last_50 ms ≡ last_50 es = ap (λ (l : List HistoryEntry). last_50 l) done ∙ twice in
    let nexts : next ms sv ≡ next (last_50 es) sv = ap (λ (l : List HistoryEntry). next l sv) done in
    let joined : c.does_join.result ≡ joins_last ms c.args.moment = c.does_join.ensures ∙ ap (λ (l : List HistoryEntry). joins_last l c.args.moment) c.deref.ensures.value in
    let is : joins_last ms c.args.moment ≡ true = sym joined ∙ c.if-does_join.true in
    first_then g.D.Disk.time g.D.Disk.past g.D.Disk.now g.met.D.Disk.present (last_50 es) (next (last_50 es) sv) (last_50 ms) s.disk mid.disk c.merge.new.self.disk same (c.in_ok-catch_up.ensures.moments told)
    (subst (λ (l : List HistoryEntry). Moments g.D.Disk.time g.D.Disk.past (HaveEither (last_50 ms) l) mid.disk c.merge.new.self.disk) (saved_joined ms sv is ∙ nexts) (c.in_ok-merge.ensures.moments told))

pub returns-in_err-add_group-clause-left : goal.returns-in_err-add_group-clause-left
returns-in_err-add_group-clause-left g c = λ want.
    let s = c.args.self.now in
    let es : List HistoryEntry = s.entries.items in
    let mid = c.catch_up.new.self in
    let ms : List HistoryEntry = mid.entries.items in
    let done : ms ≡ last_50 es = c.in_ok-catch_up.ensures.done in
    let twice : last_50 (last_50 es) ≡ last_50 es = last_twice es c.requires.orderly.placed.few in
    let same : last_50 ms ≡ last_50 es = ap (λ (l : List HistoryEntry). last_50 l) done ∙ twice in
    ap (λ (l : List HistoryEntry). last_50 l) (c.in_err-add_group.ensures.left (search rules)) ∙ same

pub returns-in_err-add_group-clause-moments : goal.returns-in_err-add_group-clause-moments
returns-in_err-add_group-clause-moments g c = λ told.
    let s = c.args.self.now in
    let es : List HistoryEntry = s.entries.items in
    let mid = c.catch_up.new.self in
    let ms : List HistoryEntry = mid.entries.items in
    let sv : Save = record { moment = c.args.moment; content = c.args.content.now } in
    let done : ms ≡ last_50 es = c.in_ok-catch_up.ensures.done in
    let twice : last_50 (last_50 es) ≡ last_50 es = last_twice es c.requires.orderly.placed.few in
    let same : last_50 ms ≡ last_50 es = ap (λ (l : List HistoryEntry). last_50 l) done ∙ twice in
    let nexts : next ms sv ≡ next (last_50 es) sv = ap (λ (l : List HistoryEntry). next l sv) done in
    let joined : c.does_join.result ≡ joins_last ms c.args.moment = c.does_join.ensures ∙ ap (λ (l : List HistoryEntry). joins_last l c.args.moment) c.deref.ensures.value in
    let is : joins_last ms c.args.moment ≡ false = sym joined ∙ c.if-does_join.false in
    first_then g.D.Disk.time g.D.Disk.past g.D.Disk.now g.met.D.Disk.present (last_50 es) (next (last_50 es) sv) (last_50 ms) s.disk mid.disk c.add_group.new.self.disk same (c.in_ok-catch_up.ensures.moments told)
    (subst (λ (l : List HistoryEntry). Moments g.D.Disk.time g.D.Disk.past (HaveEither (last_50 ms) l) mid.disk c.add_group.new.self.disk) (saved_behind ms sv is ∙ nexts) (c.in_err-add_group.ensures.moments told))

pub returns-clause-joined : goal.returns-clause-joined
returns-clause-joined g c =
    let s = c.args.self.now in
    let es : List HistoryEntry = s.entries.items in
    let mid = c.catch_up.new.self in
    let ms : List HistoryEntry = mid.entries.items in
    let done : ms ≡ last_50 es = c.in_ok-catch_up.ensures.done in
    let joined : c.does_join.result ≡ joins_last ms c.args.moment = c.does_join.ensures ∙ ap (λ (l : List HistoryEntry). joins_last l c.args.moment) c.deref.ensures.value in
    let is : joins_last ms c.args.moment ≡ false = sym joined ∙ c.if-does_join.false in
    sym is ∙ ap (λ (l : List HistoryEntry). joins_last l c.args.moment) done

pub returns-clause-saved : goal.returns-clause-saved
returns-clause-saved g c =
    let s = c.args.self.now in
    let es : List HistoryEntry = s.entries.items in
    let mid = c.catch_up.new.self in
    let ms : List HistoryEntry = mid.entries.items in
    let sv : Save = record { moment = c.args.moment; content = c.args.content.now } in
    let done : ms ≡ last_50 es = c.in_ok-catch_up.ensures.done in
    let nexts : next ms sv ≡ next (last_50 es) sv = ap (λ (l : List HistoryEntry). next l sv) done in
    let joined : c.does_join.result ≡ joins_last ms c.args.moment = c.does_join.ensures ∙ ap (λ (l : List HistoryEntry). joins_last l c.args.moment) c.deref.ensures.value in
    let is : joins_last ms c.args.moment ≡ false = sym joined ∙ c.if-does_join.false in
    c.catch_up-2.ensures.same ∙ ap (λ (l : List HistoryEntry). last_50 l) c.in_ok-add_group.ensures.entries ∙ saved_behind ms sv is ∙ nexts

pub returns-clause-moments : goal.returns-clause-moments
returns-clause-moments g c = λ told.
    let s = c.args.self.now in
    let es : List HistoryEntry = s.entries.items in
    let mid = c.catch_up.new.self in
    let ms : List HistoryEntry = mid.entries.items in
    let sv : Save = record { moment = c.args.moment; content = c.args.content.now } in
    let done : ms ≡ last_50 es = c.in_ok-catch_up.ensures.done in
    let twice : last_50 (last_50 es) ≡ last_50 es = last_twice es c.requires.orderly.placed.few in
    let same : last_50 ms ≡ last_50 es = ap (λ (l : List HistoryEntry). last_50 l) done ∙ twice in
    let nexts : next ms sv ≡ next (last_50 es) sv = ap (λ (l : List HistoryEntry). next l sv) done in
    let joined : c.does_join.result ≡ joins_last ms c.args.moment = c.does_join.ensures ∙ ap (λ (l : List HistoryEntry). joins_last l c.args.moment) c.deref.ensures.value in
    let is : joins_last ms c.args.moment ≡ false = sym joined ∙ c.if-does_join.false in
    let kept_now : last_50 c.add_group.new.self.entries.items ≡ next (last_50 es) sv = ap (λ (l : List HistoryEntry). last_50 l) c.in_ok-add_group.ensures.entries ∙ saved_behind ms sv is ∙ nexts in
    then_last g.D.Disk.time g.D.Disk.past g.D.Disk.now g.met.D.Disk.present (last_50 es) (next (last_50 es) sv) s.disk c.add_group.new.self.disk c.catch_up-2.new.self.disk
    (first_then g.D.Disk.time g.D.Disk.past g.D.Disk.now g.met.D.Disk.present (last_50 es) (next (last_50 es) sv) (last_50 ms) s.disk mid.disk c.add_group.new.self.disk same (c.in_ok-catch_up.ensures.moments told)
    (subst (λ (l : List HistoryEntry). Moments g.D.Disk.time g.D.Disk.past (HaveEither (last_50 ms) l) mid.disk c.add_group.new.self.disk) (saved_behind ms sv is ∙ nexts) (c.in_ok-add_group.ensures.moments told)))
    (subst (λ (l : List HistoryEntry). Moments g.D.Disk.time g.D.Disk.past (HaveEntries l) c.add_group.new.self.disk c.catch_up-2.new.self.disk) kept_now (c.catch_up-2.ensures.moments told))

pub returns-in_err-merge-clause-stamps : goal.returns-in_err-merge-clause-stamps
returns-in_err-merge-clause-stamps g c = λ told own stamped. c.merge.ensures.stamps told own (c.catch_up.ensures.stamps told own stamped)

pub returns-then-does_join-clause-stamps : goal.returns-then-does_join-clause-stamps
returns-then-does_join-clause-stamps g c = λ told own stamped. c.merge.ensures.stamps told own (c.catch_up.ensures.stamps told own stamped)

pub returns-in_err-add_group-clause-stamps : goal.returns-in_err-add_group-clause-stamps
returns-in_err-add_group-clause-stamps g c = λ told own stamped. c.add_group.ensures.stamps told own (c.catch_up.ensures.stamps told own stamped)

pub returns-clause-stamps : goal.returns-clause-stamps
returns-clause-stamps g c = λ told own stamped. c.catch_up-2.ensures.stamps told own (c.add_group.ensures.stamps told own (c.catch_up.ensures.stamps told own stamped))
