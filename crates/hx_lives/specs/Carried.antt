-- What holds of a life holds for good: past moments stay as they were.
use Rattle.std.specs.Prelude.{◌≡◌, ◌≤◌, ℕ, Bool, List, [], ◌∷◌}
use Rattle.std.proofs.Common.{sym, ◌∙◌, ap, subst, arith}
use Rattle.hx_disk.specs.File.{FileState}
use Rattle.hx_events.specs.declared.life.Entry.{Entry}
use Rattle.hx_rules.specs.Allowed.{failed}
use Rattle.hx_rules.specs.Legal.{Opening, restored_at}
use Rattle.hx_rules.specs.Entries.{own}
use Rattle.hx_rules.specs.Versions.{versions}
use Rattle.hx_lives.specs.Course.{Course, Start, Past, start_of, opening, last_moment, moment_after}
use Rattle.hx_lives.specs.Caused.{AreCaused}
use Rattle.hx_lives.specs.Told.{IsFound, AreTold, user_file, resource_in}
use Rattle.hx_lives.specs.CrashSafe.{IsSafe, AreSafe}
use Rattle.hx_slots.specs.Raws.{greatest_stamp}
use Rattle.hx_lives.specs.Holds.{LifeHolds, IsTold, IsCrashSafe, readings}

-- the new past is the old one up to the moment z
abbrev pub AgreesTo : ℕ → Past → Past → Type 0
AgreesTo z old new = (t f : ℕ) → t ≤ z → new t f ≡ old t f

-- all files of a moment at once
pub files_same : (z : ℕ) (old new : Past) → AgreesTo z old new → (t : ℕ) → t ≤ z → new t ≡ old t
files_same z old new kept t le = λ i f. kept t f le i

pub caused_first : (moment faults : ℕ) (es : List Entry) → AreCaused moment faults es → moment ≤ moment_after moment es
caused_first moment faults [] caused = omega arith
caused_first moment faults (e ∷ es) caused = omega (arith, caused.0.later, caused_first moment faults es caused.1)

told_carried : (z : ℕ) (old new : Past) → AgreesTo z old new → (o : Opening) (moment faults stamp : ℕ) (es : List Entry) → AreCaused moment faults es → moment_after moment es ≤ z → AreTold old o moment stamp es → AreTold new o moment stamp es
told_carried z old new kept o moment faults stamp [] caused by_then told = tt
told_carried z old new kept o moment faults stamp (e ∷ es) caused by_then told =
    let before : moment_after moment es ≤ z = omega (arith, caused.0.later, by_then) in (
      record {
        found = subst (λ (file : FileState). IsFound file e.event e.content (versions (restored_at o (resource_in e.event)) (own (resource_in e.event) es)) e.outcome) (sym (kept e.moment (user_file (resource_in e.event)) by_then)) told.0.found;
        alone = λ t f from to left. kept t f (omega (arith, to, by_then)) ∙ told.0.alone t f from to left ∙ sym (kept (moment_after moment es) f before);
        stamped = told.0.stamped;
      },
      told_carried z old new kept o moment faults stamp es caused.1 before told.1,
    )

safe_carried : (z : ℕ) (old new : Past) → AgreesTo z old new → (s : Start) (es : List Entry) → AreCaused s.moment s.faults es → moment_after s.moment es ≤ z → AreSafe old s es → AreSafe new s es
safe_carried z old new kept s [] caused by_then safe = subst (IsSafe s []) (sym (files_same z old new kept s.moment by_then)) safe
safe_carried z old new kept s (e ∷ es) caused by_then safe = (
  record {
    after = subst (IsSafe s (e ∷ es)) (sym (files_same z old new kept e.moment by_then)) safe.0.after;
    inside = λ t from to. subst (IsSafe s (failed e ∷ es)) (sym (files_same z old new kept t (omega (arith, to, by_then)))) (safe.0.inside t from to);
  },
  safe_carried z old new kept s es caused.1 (omega (arith, caused.0.later, by_then)) safe.1,
)

told_kept : (z : ℕ) (old new : Past) → AgreesTo z old new → (c : Course) → AreCaused c.moment c.faults c.entries → last_moment c ≤ z → IsTold old z c → IsTold new z c
told_kept z old new kept c caused by_then told = record {
  entries = subst (λ (stamp : ℕ). AreTold new (opening c) c.moment stamp c.entries)
      (ap (λ (files : ℕ → FileState). greatest_stamp (readings files)) (sym (files_same z old new kept c.moment (omega (arith, caused_first c.moment c.faults c.entries caused, by_then)))))
      (told_carried z old new kept (opening c) c.moment c.faults (greatest_stamp (readings (old c.moment))) c.entries caused by_then told.entries);
  alone = λ t f from to user. kept t f to ∙ told.alone t f from to user ∙ sym (kept (last_moment c) f by_then);
}

safe_kept : (z : ℕ) (old new : Past) → AgreesTo z old new → (c : Course) → AreCaused c.moment c.faults c.entries → last_moment c ≤ z → IsCrashSafe old z c → IsCrashSafe new z c
safe_kept z old new kept c caused by_then safe = record {
  entries = safe_carried z old new kept (start_of c) c.entries caused by_then safe.entries;
  behind = λ t from to. subst (IsSafe (start_of c) c.entries) (sym (files_same z old new kept t to)) (safe.behind t from to);
}

-- A life that holds goes on to hold, whatever the disk does behind its end.
pub life_kept : (tells : Bool) (z : ℕ) (old new : Past) → AgreesTo z old new → (c : Course) → LifeHolds tells old z c → LifeHolds tells new z c
life_kept tells z old new kept c life = record {
  legal = life.legal;
  caused = life.caused;
  ended = life.ended;
  told = λ is. told_kept z old new kept c life.caused life.ended (life.told is);
  safe = λ is. safe_kept z old new kept c life.caused life.ended (life.safe is);
}
