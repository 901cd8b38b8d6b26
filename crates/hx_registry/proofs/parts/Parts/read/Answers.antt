use Rattle.std.proofs.Common.{rules, ◌≡◌, ◌<◌, ◌+◌, ℕ, true, List, Option, length, sym, ◌∙◌, ap, subst}
use Rattle.hx_events.specs.declared.event.Event.TheVariants.{Act}
use Rattle.hx_events.specs.declared.outcome.Outcome.{Outcome}
use Rattle.hx_disk.specs.File.{FileState}
use Rattle.hx_lives.specs.Course.{Course, opening}
use Rattle.hx_lives.specs.Told.{user_file, resource_in}
use Rattle.hx_core.specs.Cores.{IsEventOf, asks_at, outcome_at}
use Rattle.hx_resource.specs.Asks.{FitsAsked}
use Rattle.hx_resource.specs.Rooms.{got_content}
use Rattle.hx_rules.specs.Entries.{is_of}
use Rattle.hx_events.specs.declared.event.Event.{Event}
use Rattle.hx_events.specs.Texts.{resource_of}
use Rattle.hx_vault.specs.Vaults.{VaultState}
use Rattle.hx_registry.specs.Answered.{IsAnswered}
use Rattle.hx_pairs.specs.Entry.{invariant_rested}
use Rattle.hx_pairs.specs.Registries.{RegistryInvariant}
use Rattle.hx_resource.specs.declared.asks.Asked.TheVariants.{Device}
use Rattle.hx_resource.specs.declared.asks.Work.TheVariants.{ReadFile}
use Rattle.hx_registry.specs.Given.{IsGiven, IsReadAs, Reads, fits_work, read_is_given}
use Rattle.hx_registry.specs.Users.{given_answered, of_command}
use Rattle.hx_registry.proofs.parts.Parts.read.Goals as goal

pub find-requires-clause-known : goal.find-requires-clause-known
find-requires-clause-known g c =
    let s = c.args.self.now in
    let course : Course = s.life.course in
    let command = c.requires.command.0 in
    let of : c.args.event ≡ Act command = c.requires.command.1 in
    let at : resource_of command ≡ c.args.res = c.requires.command.2 in
    subst (λ (e : Event). IsEventOf (length course.names) e) (sym of) (subst (λ n. n < length course.names) (sym at) c.requires.within)

pub returns-in_err-got-clause-kept : goal.returns-in_err-got-clause-kept
returns-in_err-got-clause-kept g c =
    let s = c.args.self.now in
    let course : Course = s.life.course in
    let t = c.find.new.self in
    subst (λ (k : Course). RegistryInvariant g.D.Disk.tells g.D.Disk.time g.D.Disk.past g.D.Disk.now g.D.Disk.failures k t.vault t.held.items t.disk) (sym c.find.ensures.course)
    (subst (λ (h : List (Option ℕ)). RegistryInvariant g.D.Disk.tells g.D.Disk.time g.D.Disk.past g.D.Disk.now g.D.Disk.failures course t.vault h t.disk) (sym c.find.ensures.held)
    (invariant_rested g.D.Disk.tells g.D.Disk.time g.D.Disk.past g.D.Disk.now g.D.Disk.failures g.met.D.Disk.present course s.vault t.vault s.held.items s.disk t.disk c.requires.kept c.find.ensures.unchanged (search rules) c.find.ensures.vault))

pub answer-requires-clause-known : goal.answer-requires-clause-known
answer-requires-clause-known g c =
    let s = c.args.self.now in
    let course : Course = s.life.course in
    let command = c.requires.command.0 in
    let of : c.args.event ≡ Act command = c.requires.command.1 in
    let at : resource_of command ≡ c.args.res = c.requires.command.2 in
    subst (λ (k : Course). IsEventOf (length k.names) c.args.event) (sym c.find.ensures.course) (subst (λ (e : Event). IsEventOf (length course.names) e) (sym of) (subst (λ n. n < length course.names) (sym at) c.requires.within))

pub answer-requires-clause-of_res : goal.answer-requires-clause-of_res
answer-requires-clause-of_res g c =
    let command = c.requires.command.0 in
    let of : c.args.event ≡ Act command = c.requires.command.1 in
    let at : resource_of command ≡ c.args.res = c.requires.command.2 in
    subst (λ (e : Event). is_of c.args.res e ≡ true) (sym of) (subst (λ n. is_of n (Act command) ≡ true) at (of_command command))

pub answer-requires-clause-fits : goal.answer-requires-clause-fits
answer-requires-clause-fits g c =
    let s = c.args.self.now in
    let course : Course = s.life.course in
    subst (λ (k : Course). FitsAsked (asks_at (opening k) k.entries c.args.event) c.in_ok-got.got) (sym c.find.ensures.course)
    (fits_work _ (ReadFile c.requires.command.4.0) c.in_ok-got.got c.requires.command.4.1 c.in_ok-got.ensures.fits)

pub answer-requires-clause-answered : goal.answer-requires-clause-answered
answer-requires-clause-answered g c =
    let s = c.args.self.now in
    let course : Course = s.life.course in
    let command = c.requires.command.0 in
    let of : c.args.event ≡ Act command = c.requires.command.1 in
    let at : resource_of command ≡ c.args.res = c.requires.command.2 in
    let t = c.find.new.self in
    let got = c.in_ok-got.got in
    let outcome : Outcome = outcome_at (opening course) course.entries c.args.event got in
    let given : IsGiven c.args.event got outcome = subst (λ (e : Event). IsGiven e got (outcome_at (opening course) course.entries e got)) (sym of)
    (read_is_given (opening course) course.entries command c.requires.command.4.0 got (subst (λ (e : Event). Reads e) of c.requires.command.3) (subst (λ (e : Event). asks_at (opening course) course.entries e ≡ Device (ReadFile c.requires.command.4.0)) of c.requires.command.4.1) c.in_ok-got.ensures.fits) in
    let file : 128 + c.args.res ≡ user_file (resource_in c.args.event) = ap (λ n. 128 + n) (sym at) ∙ ap (λ (e : Event). user_file (resource_in e)) (sym of) in
    let answered : IsAnswered g.D.Disk.tells g.D.Disk.time g.D.Disk.past g.D.Disk.now g.D.Disk.failures course s.vault s.held.items t.disk c.args.event outcome (got_content got) =
    given_answered g.D.Disk.tells g.D.Disk.time g.D.Disk.past g.D.Disk.now g.D.Disk.failures course s.vault s.held.items s.disk t.disk c.args.event got outcome c.requires.kept c.find.ensures.later c.find.ensures.unchanged given c.in_ok-got.ensures.cause
    (λ told. subst (λ f. IsReadAs got (g.D.Disk.now t.disk f)) file (subst (λ (x : FileState). IsReadAs got x) (sym (c.find.ensures.unchanged.same (128 + c.args.res))) (c.in_ok-got.ensures.found told))) in
    subst (λ (k : Course). IsAnswered g.D.Disk.tells g.D.Disk.time g.D.Disk.past g.D.Disk.now g.D.Disk.failures k t.vault t.held.items t.disk c.args.event (outcome_at (opening k) k.entries c.args.event got) (got_content got)) (sym c.find.ensures.course)
    (subst (λ (v : VaultState). IsAnswered g.D.Disk.tells g.D.Disk.time g.D.Disk.past g.D.Disk.now g.D.Disk.failures course v t.held.items t.disk c.args.event outcome (got_content got)) (sym c.find.ensures.vault)
    (subst (λ (h : List (Option ℕ)). IsAnswered g.D.Disk.tells g.D.Disk.time g.D.Disk.past g.D.Disk.now g.D.Disk.failures course s.vault h t.disk c.args.event outcome (got_content got)) (sym c.find.ensures.held) answered))
