-- Each stage of the Closer brings the end of its resource's stages nearer.
use Rattle.std.specs.Prelude.{◌≡◌, ◌<◌, ◌≤◌, ℕ, ◌+◌, true, List, length, None, is_some, refl}
use Rattle.std.proofs.Common.{ap, sym, ◌∙◌, subst, eq-eqb}
use Rattle.hx_events.specs.declared.event.Actor.TheVariants.{Closer}
use Rattle.hx_events.specs.declared.event.Event.TheVariants.{Vault, Flush}
use Rattle.hx_events.specs.declared.outcome.Outcome.{Outcome}
use Rattle.hx_rules.specs.Copies.{kept}
use Rattle.hx_rules.specs.Entries.{Deed, own, is_of}
use Rattle.hx_rules.specs.Legal.{Opening, restored_at, save_due, vault_due, is_row, is_over, run_at, was_spent}
use Rattle.hx_rules_laws.specs.Frames.{adds_deed}
use Rattle.hx_rules_laws.specs.Legals.{begun_is_wanted}
use Rattle.hx_lives.specs.Course.{Course, opening}
use Rattle.hx_lives.specs.Calls.{AddsEntry, stages_at_most}
use Rattle.hx_closing_laws.specs.Left.{stages_left, left_at}
use Rattle.hx_closing_laws.specs.SavesFall.{save_stage_falls}
use Rattle.hx_closing_laws.specs.VaultFalls.{vault_stage_falls}
use Rattle.hx_closing_laws.specs.Few.{stages_are_few}
use Rattle.hx_closing_laws.specs.Within.{IsWithinLimits}

-- A save stage that was due.
abbrev pub SaveBringsNearer : Type 0
SaveBringsNearer = (c : ℕ) (old new : Course) (outcome : Outcome) → AddsEntry Closer (Flush c) outcome old new → is_some (save_due (opening old) old.entries c) ≡ true → left_at new c < left_at old c

-- A vault stage that was due, where no save stage was.
abbrev pub VaultBringsNearer : Type 0
VaultBringsNearer = (c : ℕ) (old new : Course) (outcome : Outcome) → IsWithinLimits old → AddsEntry Closer (Vault c) outcome old new → save_due (opening old) old.entries c ≡ None → is_some (vault_due (opening old) old.entries c) ≡ true → left_at new c < left_at old c

-- The Closer has few of them to do.
abbrev pub FewAreLeft : Type 0
FewAreLeft = (c : ℕ) (course : Course) → IsWithinLimits course → left_at course c ≤ stages_at_most course.guarded

pub save_brings_nearer : SaveBringsNearer
save_brings_nearer c old new outcome adds due =
    let o : Opening = opening old in
    let mine : is_of c adds.entry.event ≡ true = ap (is_of c) adds.of_event ∙ eq-eqb c c refl in
    let row : is_row o old.entries (Flush c) adds.entry.outcome ≡ true = subst (λ (x : Outcome). is_row o old.entries (Flush c) x ≡ true) (sym adds.came_to) adds.row in
    subst (λ (n : Course). left_at n c < left_at old c) (sym adds.grown)
    (subst (λ (ds : List Deed). stages_left (restored_at o c) old.guarded ds < left_at old c) (sym (adds_deed c adds.entry old.entries mine))
    (save_stage_falls (restored_at o c) old.guarded (is_over (run_at o old.entries c)) (kept (restored_at o c) (own c old.entries)) (own c old.entries) (length old.entries + 1) adds.entry.event adds.entry.outcome adds.entry.content due row))

pub vault_brings_nearer : VaultBringsNearer
vault_brings_nearer c old new outcome within adds saved due =
    let o : Opening = opening old in
    let mine : is_of c adds.entry.event ≡ true = ap (is_of c) adds.of_event ∙ eq-eqb c c refl in
    let row : is_row o old.entries (Vault c) adds.entry.outcome ≡ true = subst (λ (x : Outcome). is_row o old.entries (Vault c) x ≡ true) (sym adds.came_to) adds.row in
    subst (λ (n : Course). left_at n c < left_at old c) (sym adds.grown)
    (subst (λ (ds : List Deed). stages_left (restored_at o c) old.guarded ds < left_at old c) (sym (adds_deed c adds.entry old.entries mine))
    (vault_stage_falls (restored_at o c) old.guarded (was_spent old.entries) (own c old.entries) (length old.entries + 1) adds.entry.event adds.entry.outcome adds.entry.content
    (within.sizes c) (begun_is_wanted o old.entries c within.legal) saved due row))

pub few_are_left : FewAreLeft
few_are_left c course within = stages_are_few (restored_at (opening course) c) course.guarded (own c course.entries) (within.begins c)
