use Rattle.std.proofs.Common.{◌+◌, List, ◌∷◌, ap, sym, ◌∙◌, subst, refl, length, take}
use Rattle.std.proofs.lemmas.List.{take_all}
use Rattle.hx_events.specs.declared.life.Entry.{Entry}
use Rattle.hx_rules.specs.Entries.{past}
use Rattle.hx_report.specs.declared.tally.Tally.{Tally}
use Rattle.hx_report.specs.Outlines.{AreUpTo, IsTallied}
use Rattle.hx_report.proofs.Tallying.{tallied_past, up_to_later}
use Rattle.hx_report.proofs.Walking.{past_more, past_length, known_next}
use Rattle.hx_report.proofs.tally.Tally.note_all.Goals as goal
use Rattle.hx_report.proofs.tally.Tally.note_all.Goals.{in-Some+in_ok-note-in-Some, in-None}

pub loop-index-preserved : goal.loop-index-preserved
loop-index-preserved c =
    let h = c.args.history.now in
    let i = c.loop-index.index in
    let e = c.index-history-index.result in
    let inv = c.loop-index.invariant in
    let more = past_more h i e c.loop-index-test.true c.index-history-index.is in
    let known = known_next c.args.names.now h i e c.loop-index-test.true c.index-history-index.is inv.known in
    elim c.match-named.branch [
      | in-Some+in_ok-note-in-Some w ↦ record {
        tallied = λ o first.
            subst (λ (es : List Entry). IsTallied o es c.match-named.self) (sym more)
            (subst (λ (t : Tally). IsTallied o (e ∷ past (take i h)) t) (sym w.self-is)
            (w.in_ok-note-in-Some.ensures.tallied o e (past (take i h)) refl refl (ap (λ n. n + 1) (sym (past_length h i c.loop-index-test.true))) (inv.tallied o first)));
        count = ap (λ (t : Tally). length t.outlines.items) w.self-is ∙ (w.in_ok-note-in-Some.ensures.count ∙ inv.count);
        known = known.1;
        early = subst (λ (t : Tally). AreUpTo (i + 1 + 1) t.outlines.items) (sym w.self-is) w.in_ok-note-in-Some.ensures.later;
      }
      | in-None w ↦ record {
        tallied = λ o first.
            subst (λ (es : List Entry). IsTallied o es c.match-named.self) (sym more)
            (subst (λ (t : Tally). IsTallied o (e ∷ past (take i h)) t) (sym w.self-is)
            (tallied_past o e (past (take i h)) c.loop-index.self (sym c.named.ensures ∙ w.in-None.is) (inv.tallied o first)));
        count = ap (λ (t : Tally). length t.outlines.items) w.self-is ∙ inv.count;
        known = known.1;
        early = subst (λ (t : Tally). AreUpTo (i + 1 + 1) t.outlines.items) (sym w.self-is) (up_to_later (i + 1) c.loop-index.self.outlines.items inv.early);
      }
    ]

pub returns-clause-tallied : goal.returns-clause-tallied
returns-clause-tallied c = λ o first.
    subst (λ (es : List Entry). IsTallied o (past es) c.loop-index.self) (take_all c.loop-index.index c.args.history.now c.loop-index-test.false) (c.loop-index.invariant.tallied o first)
