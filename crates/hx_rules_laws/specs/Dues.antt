-- Which stage is due, said over flags and said over a history.
use Rattle.std.specs.Prelude.{◌≡◌, ℕ, not, Bool, true, false, ◌&&◌, ◌||◌, List, if◌then◌else◌, Option, Some, None, is_some, option_map, refl}
use Rattle.std.proofs.Common.{ap, ◌∙◌}
use Rattle.hx_events.specs.declared.backup.Backup.{Backup}
use Rattle.hx_events.specs.declared.event.Stage.TheVariants.{Prepare, Fade, Drop}
use Rattle.hx_rules.specs.Entries.{Deed}
use Rattle.hx_rules.specs.Versions.{last_version}
use Rattle.hx_rules.specs.Copies.{dirty}
use Rattle.hx_rules.specs.Backups.{Begun, begun, halted, held, backed, opened, faded, safe, write_failed}
use Rattle.hx_rules.specs.Due.{vault_work, due_vault, due_by, flags_of, running_version, first_of, work_if, next_work, next_stage_of}

-- The stage that is due is the one that the flags of the copy give.
abbrev pub FlagsGiveTheStage : Type 0
FlagsGiveTheStage = (restored : Option Backup) (guarded : Bool) (ds : List Deed) → due_by (flags_of restored guarded ds) ≡ option_map (λ w. w.stage) (due_vault restored guarded ds)

-- of what isn't held it makes no difference whether it is safe
held_unsafe : (hold safe_now : Bool) → (hold && not (hold && safe_now)) ≡ (hold && not safe_now)
held_unsafe true safe_now = refl
held_unsafe false safe_now = refl

by_cases : (halt : Bool) (b : Option Begun) (hold safe_now dirty_now backed_now opened_now keep faded_now : Bool) (run last : ℕ)
    → (if halt then None else if is_some (next_stage_of b) then next_stage_of b else if hold && not (hold && safe_now) then Some Prepare else if dirty_now && not backed_now then Some Prepare else if not (dirty_now || hold) && opened_now && not keep then Some (if faded_now then Drop else Fade) else None)
    ≡ option_map (λ w. w.stage) (if halt then None else first_of (next_work b) (first_of (work_if (hold && not safe_now) (vault_work Prepare run)) (first_of (work_if (dirty_now && not backed_now) (vault_work Prepare last)) (work_if (not (dirty_now || hold) && opened_now && not keep) (vault_work (if faded_now then Drop else Fade) 0)))))
by_cases true b hold safe_now dirty_now backed_now opened_now keep faded_now run last = refl
by_cases false (Some b) hold safe_now dirty_now backed_now opened_now keep faded_now run last = refl
by_cases false None hold safe_now dirty_now backed_now opened_now keep faded_now run last =
    ap (λ p. if p then Some Prepare else if dirty_now && not backed_now then Some Prepare else if not (dirty_now || hold) && opened_now && not keep then Some (if faded_now then Drop else Fade) else None) (held_unsafe hold safe_now)
    ∙ first (hold && not safe_now) (dirty_now && not backed_now) (not (dirty_now || hold) && opened_now && not keep)
  where
    first : (p q r : Bool) → (if p then Some Prepare else if q then Some Prepare else if r then Some (if faded_now then Drop else Fade) else None) ≡ option_map (λ w. w.stage) (first_of (work_if p (vault_work Prepare run)) (first_of (work_if q (vault_work Prepare last)) (work_if r (vault_work (if faded_now then Drop else Fade) 0))))
    first true q r = refl
    first false true r = refl
    first false false true = refl
    first false false false = refl

pub flags_give_the_stage : FlagsGiveTheStage
flags_give_the_stage restored guarded ds =
    by_cases (halted ds) (begun restored guarded ds) (held restored guarded ds) (safe (running_version restored guarded ds) ds) (dirty restored ds) (backed restored ds) (opened restored ds) (guarded && write_failed ds) (faded ds) (running_version restored guarded ds) (last_version restored ds)
