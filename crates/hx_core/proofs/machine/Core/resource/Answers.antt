use Rattle.std.proofs.Common.{◌≡◌, ◌<◌, ℕ, Some, sym, ap, subst, slice_get, length}
use Rattle.std.proofs.lemmas.Option.{slice_get_read}
use Rattle.hx_rules.specs.Entries.{own, past}
use Rattle.hx_rules.specs.Legal.{restored_at}
use Rattle.hx_resource_laws.specs.Fits.{Fits}
use Rattle.hx_core.specs.Cores.{CoreState}
use Rattle.hx_core.proofs.machine.Core.resource.Goals as goal

pub returns : goal.returns
returns c =
    let inside = c.self.inside in
    let number = c.number.ensures.value in
    let at : slice_get inside.resources.items c.number.result ≡ Some c.index.result.now =
    slice_get_read inside.resources.items _ c.number.result _ (sym (ap (λ s. length s.resources) c.self.view_is)) (subst (λ (k : ℕ). k < length c.args.self.now.resources) (sym number) c.requires) c.index.ensures in
    subst (λ (s : CoreState). Fits (restored_at s.opening c.args.res) s.opening.guarded (own c.args.res (past s.history)) c.index.result.now.kept) c.self.view_is
    (c.self.invariant.kept.fits c.args.res _ (subst (λ (k : ℕ). slice_get inside.resources.items k ≡ Some c.index.result.now) number at))
