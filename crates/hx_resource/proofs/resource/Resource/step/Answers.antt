use Rattle.std.proofs.Common.{◌≡◌, true, sym, subst, length, List, ℕ, option_map, refl}
use Rattle.hx_events.specs.declared.outcome.Outcome.{Outcome}
use Rattle.hx_copy.specs.Copies.{CopyState}
use Rattle.hx_resource.specs.Kept.{ResourceState}
use Rattle.hx_resource.specs.Rows.{row_kept}
use Rattle.hx_resource.specs.Rooms.{HasRoom, IsRead, got_content}
use Rattle.hx_resource.specs.Decided.{row_holds, read_holds}
use Rattle.hx_resource.specs.Makes.{can_apply}
use Rattle.hx_resource.proofs.resource.Resource.step.Goals as goal

pub apply-requires-clause-can : goal.apply-requires-clause-can
apply-requires-clause-can c =
    let s = c.args.self.now in
    let row = subst (λ (o : Outcome). row_kept c.args.guarded c.args.lacks c.args.spent s.kept c.args.event.now o ≡ true) (sym c.decide-outcome.ensures) (row_holds c.args.guarded c.args.lacks c.args.spent s.kept c.args.got.now c.args.event.now c.requires.known c.requires.fits) in
    can_apply c.args.guarded c.args.lacks c.args.spent s c.args.event.now c.decide-outcome.result c.content_of.result.now
    (subst (λ (x : ResourceState). x.kept.copy ≡ option_map (λ (y : CopyState). y.copy) x.copy) c.self.view_is refl)
    row (subst (λ (content : List ℕ). HasRoom c.args.guarded c.args.event.now (length content) s) (sym c.content_of.ensures) c.requires.room) c.requires.counts

pub returns-clause-row : goal.returns-clause-row
returns-clause-row c =
    subst (λ (o : Outcome). row_kept c.args.guarded c.args.lacks c.args.spent c.args.self.now.kept c.args.event.now o ≡ true) (sym c.decide-outcome.ensures) (row_holds c.args.guarded c.args.lacks c.args.spent c.args.self.now.kept c.args.got.now c.args.event.now c.requires.known c.requires.fits)

pub returns-clause-read : goal.returns-clause-read
returns-clause-read c =
    subst (λ (o : Outcome). IsRead o (got_content c.args.got.now)) (sym c.decide-outcome.ensures) (read_holds c.args.guarded c.args.lacks c.args.spent c.args.self.now.kept c.args.got.now c.args.event.now c.requires.known c.requires.fits)
