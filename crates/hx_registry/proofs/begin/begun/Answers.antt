-- A life with no entries over a vault that was just opened.
use Rattle.std.specs.Prelude.{◌≡◌, ◌≤◌, ℕ, List, [], Option}
use Rattle.std.proofs.Common.{sym, ap, subst, ◌∙◌, arith}
use Rattle.hx_events.specs.declared.backup.PairFound.{PairFound}
use Rattle.hx_rules.specs.Legal.{with_restored}
use Rattle.hx_lives.specs.Course.{Course}
use Rattle.hx_pairs.specs.Registries.{RegistryInvariant}
use Rattle.hx_opening_laws.specs.Opening.{IsVaultOpened, registry_begun}
use Rattle.hx_registry.proofs.begin.begun.Goals as goal

pub of-requires : goal.of-requires
of-requires g c =
    let disk = c.open_vault.new.disk in
    let v = c.in-Ok.opened.0 in
    let life = c.in-Ok-first_life.life.course in
    let same = c.in-Ok-first_life.ensures.course in
    let base : life.base ≡ c.in-Ok.opened.1.items = ap (λ (k : Course). k.base) same in
    let named : life.names ≡ with_restored c.args.names.now life.base = ap (λ (k : Course). k.names) same ∙ ap (with_restored c.args.names.now) (sym base) in
    let counts : life.faults ≡ g.D.Disk.failures disk = ap (λ (k : Course). k.faults) same in
    subst (λ (held : List (Option ℕ)). RegistryInvariant g.D.Disk.tells g.D.Disk.time g.D.Disk.past g.D.Disk.now g.D.Disk.failures life v held disk) (sym c.in-Ok-first_life.ensures.held)
    (registry_begun g.D.Disk.tells g.D.Disk.time g.D.Disk.past g.D.Disk.now g.D.Disk.failures g.met.D.Disk.present c.args.names.now life v disk
    (subst (λ (found : List PairFound). IsVaultOpened g.D.Disk.tells g.D.Disk.now v found disk) (sym base) c.in-Ok.ensures.opened)
    named c.in-Ok-first_life.ensures.distinct (ap (λ (k : Course). k.entries) same) (ap (λ (k : Course). k.moment) same) (omega (arith, counts)))
