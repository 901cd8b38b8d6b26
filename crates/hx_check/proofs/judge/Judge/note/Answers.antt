use Rattle.std.proofs.Common.{◌≡◌, ◌<◌, ◌+◌, ◌||◌, ℕ, Some, slice_get, length, refl, sym, ap, ◌∙◌, subst}
use Rattle.std.proofs.lemmas.Option.{slice_get_read}
use Rattle.hx_rules.specs.Versions.{adds_version}
use Rattle.hx_rules.specs.Legal.{is_spent}
use Rattle.hx_report.specs.Outlines.{named}
use Rattle.hx_check.specs.declared.sketch.Sketch.{Sketch}
use Rattle.hx_check.specs.declared.judge.Judge.{Judge}
use Rattle.hx_check.specs.Judging.{AreUpTo}
use Rattle.hx_check.specs.Sketches.{sketch_after}
use Rattle.hx_check.proofs.Judgements.{judged_more, judged_past, up_to_more, up_to_later}
use Rattle.hx_check.proofs.judge.Judge.note.Goals as goal
use Rattle.hx_check.proofs.judge.Judge.note.Goals.{in-None, in-Some+in_ok-note-in-Some}

pub returns-clause-later : goal.returns-clause-later
returns-clause-later c =
    let j = c.args.self.now in
    let xs = j.sketches.items in
    elim c.match-named.branch [
      | in-None w ↦ subst (λ (n : Judge). AreUpTo (c.args.place + 1) n.sketches.items) (sym w.self-is) (up_to_later c.args.place xs c.requires.early)
      | in-Some+in_ok-note-in-Some w ↦
          let x = w.index_mut.result.now in
          let number = w.number.ensures.value in
          let within : w.number.result < length xs = subst (λ (k : ℕ). k < length xs) (sym number) (c.requires.known w.in-Some.res (sym c.named.ensures ∙ w.in-Some.is)) in
          let at : slice_get xs w.number.result ≡ Some x = slice_get_read xs _ w.number.result x refl within w.index_mut.ensures.value in
          subst (λ (n : Judge). AreUpTo (c.args.place + 1) n.sketches.items) (sym w.self-is)
          (up_to_more c.args.place w.number.result xs x w.note.new.self (adds_version c.args.outcome.now) c.requires.early at (ap (λ (y : Sketch). y.outline.last) w.in_ok-note-in-Some.ensures))
    ]

pub returns-clause-judged : goal.returns-clause-judged
returns-clause-judged c =
    let j = c.args.self.now in
    let xs = j.sketches.items in
    elim c.match-named.branch [
      | in-None w ↦ λ o e es event outcome was.
          judged_past o e es j _ (ap named event ∙ (sym c.named.ensures ∙ w.in-None.is))
          (ap (λ (n : Judge). n.sketches.items) w.self-is) (ap (λ (n : Judge). n.barred) w.self-is)
          (c.spent_after-spent.ensures ∙ ap (λ x. j.spent || is_spent x) (sym outcome)) was
      | in-Some+in_ok-note-in-Some w ↦ λ o e es event outcome was.
          let x = w.index_mut.result.now in
          let number = w.number.ensures.value in
          let of_it = sym c.named.ensures ∙ w.in-Some.is in
          let within : w.number.result < length xs = subst (λ (k : ℕ). k < length xs) (sym number) (c.requires.known w.in-Some.res of_it) in
          let at : slice_get xs w.number.result ≡ Some x = slice_get_read xs _ w.number.result x refl within w.index_mut.ensures.value in
          judged_more o e es j _ w.number.result x w.note.new.self
          (ap named event ∙ (of_it ∙ ap Some (sym number))) at
          (w.in_ok-note-in-Some.ensures ∙ (λ i. sketch_after (sym event i) (sym outcome i) x))
          (ap (λ (n : Judge). n.sketches.items) w.self-is) (ap (λ (n : Judge). n.barred) w.self-is)
          (c.spent_after-spent.ensures ∙ ap (λ x. j.spent || is_spent x) (sym outcome)) was
    ]
