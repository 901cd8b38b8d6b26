use Rattle.std.proofs.Common.{◌≡◌, ◌<◌, ◌++◌, ℕ, Some, is_some, slice_get, length, refl, sym, ap, ◌∙◌, subst}
use Rattle.std.proofs.lemmas.Option.{slice_get_read}
use Rattle.std.proofs.lemmas.Result.{on_ok_weaker}
use Rattle.hx_rules.specs.Versions.{adds_version}
use Rattle.hx_report.specs.declared.outline.Outline.{Outline}
use Rattle.hx_report.specs.Tails.{ticket_of}
use Rattle.hx_report.specs.Outlines.{named, outline_after, share_by, ticket, ticket_if}
use Rattle.hx_report.proofs.Tallying.{up_to_more, tallied_more}
use Rattle.hx_report.proofs.tally.Tally.note.Goals as goal

pub returns-clause-later : goal.returns-clause-later
returns-clause-later c =
    let xs = c.args.self.now.outlines.items in
    let x = c.index_mut-outline.result.now in
    let number = c.number.ensures.value in
    let within : c.number.result < length xs = subst (λ (k : ℕ). k < length xs) (sym number) c.requires.known in
    let at : slice_get xs c.number.result ≡ Some x = slice_get_read xs _ c.number.result x refl within c.index_mut-outline.ensures.value in
    on_ok_weaker c.note.result (λ is. up_to_more c.args.place c.number.result xs x c.note.new.self (adds_version c.args.outcome.now) c.requires.early at (ap (λ (y : Outline). y.last) is)) c.note.ensures

pub returns-clause-tallied : goal.returns-clause-tallied
returns-clause-tallied c =
    let xs = c.args.self.now.outlines.items in
    let x = c.index_mut-outline.result.now in
    let number = c.number.ensures.value in
    let within : c.number.result < length xs = subst (λ (k : ℕ). k < length xs) (sym number) c.requires.known in
    let at : slice_get xs c.number.result ≡ Some x = slice_get_read xs _ c.number.result x refl within c.index_mut-outline.ensures.value in
    let ended = c.ended-ended.ensures.value in
    on_ok_weaker c.note.result (λ is. λ o e es event outcome place was.
    tallied_more o e es c.args.self.now _ c.number.result x c.note.new.self
    (ap named event ∙ (c.requires.named ∙ ap Some (sym number))) within at
    (is ∙ (λ j. outline_after (sym event j) (sym outcome j) x)) refl
    (c.in_ok-note_ticket.ensures ∙ (λ j. c.args.self.now.tickets.items ++ ticket_if (is_some (ticket_of (sym event j) (sym outcome j))) (ticket (place j) (sym number j) (share_by (sym outcome j) (ended j)))))
    was) c.note.ensures
