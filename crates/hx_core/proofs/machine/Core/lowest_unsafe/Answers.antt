use Rattle.std.proofs.Common.{◌≡◌, ◌<◌, ℕ, true, false, Some, subst, sym, ◌∙◌, ap, length, arith}
use Rattle.hx_rules.specs.Entries.{past}
use Rattle.hx_rules.specs.Legal.{is_unsafe, lowest_from}
use Rattle.hx_core.specs.Cores.{CoreState}
use Rattle.hx_core.specs.Lowest.{lowest_step, lowest_found}
use Rattle.hx_core.proofs.machine.Core.lowest_unsafe.Goals as goal

pub loop-i-preserved : goal.loop-i-preserved
loop-i-preserved c =
    let s = c.args.self.now in
    c.loop-i.invariant ∙ lowest_step (is_unsafe s.opening (past s.history)) c.loop-i.i (length s.resources)
    (omega (arith, c.loop-i-test.true, c.len-i-end.ensures, ap (λ s. length s.resources) c.self.view_is, c.self.inside.resources.ok.0)) (subst (λ (k : ℕ). is_unsafe s.opening (past s.history) k ≡ false) c.new-res.ensures (sym c.is_unsafe.ensures ∙ c.if-is_unsafe.false))

pub returns-then-is_unsafe : goal.returns-then-is_unsafe
returns-then-is_unsafe c =
    let s = c.args.self.now in
    let test = is_unsafe s.opening (past s.history) in
    let counted : length s.resources ≡ length s.opening.restored = subst (λ (x : CoreState). length x.resources ≡ length x.opening.restored) c.self.view_is c.self.invariant.kept.count in
    let less : c.loop-i.i < length s.resources = omega (arith, c.loop-i-test.true, c.len-i-end.ensures, ap (λ s. length s.resources) c.self.view_is, c.self.inside.resources.ok.0) in
    let passes : is_unsafe s.opening (past s.history) c.loop-i.i ≡ true = subst (λ (k : ℕ). is_unsafe s.opening (past s.history) k ≡ true) c.new-res.ensures (sym c.is_unsafe.ensures ∙ c.if-is_unsafe.true) in
    ap Some c.new-res.ensures ∙ sym (sym (ap (lowest_from test 0) counted) ∙ (c.loop-i.invariant ∙ lowest_found test c.loop-i.i (length s.resources) less passes))
