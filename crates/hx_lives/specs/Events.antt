-- What one event owes, so that the registry goes on to keep what it keeps.
use Rattle.std.specs.Prelude.{◌≡◌, ◌≤◌, ℕ, ◌+◌, Bool, true, false, IsTrue, List, ◌∷◌, ◌&&◌, refl}
use Rattle.std.proofs.Common.{sym, ◌∙◌, ap, subst, arith}
use Rattle.hx_disk.specs.File.{FileState}
use Rattle.hx_faults.specs.Faults.{Rose}
use Rattle.hx_events.specs.declared.life.Entry.{Entry}
use Rattle.hx_events.specs.declared.event.Event.{Event}
use Rattle.hx_events.specs.declared.event.Event.TheVariants.{Quit}
use Rattle.hx_events.specs.declared.outcome.Outcome.{Outcome}
use Rattle.hx_events.specs.declared.outcome.Outcome.TheVariants.{Quit as MayQuit, Vetoed}
use Rattle.hx_rules.specs.Allowed.{failed, IsAllowed}
use Rattle.hx_rules_laws.specs.Frames.{leaves_others}
use Rattle.hx_rules.specs.Entries.{Deed, own, is_of}
use Rattle.hx_rules.specs.Legal.{is_legal, is_row, restored_at}
use Rattle.hx_rules.specs.Versions.{Version, versions}
use Rattle.hx_lives.specs.Course.{Course, Start, start_of, opening_at, Past, opening, with_entry}
use Rattle.hx_lives.specs.Caused.{is_fault}
use Rattle.hx_lives.specs.Told.{IsFound, IsLeftAlone, IsStamped, stamps_taken, user_file, resource_in}
use Rattle.hx_lives.specs.CrashSafe.{IsSafe, IsSafeImage, name_at}
use Rattle.hx_restore.specs.Values.{shows}
use Rattle.hx_slots.specs.Raws.{greatest_stamp}
use Rattle.hx_lives.specs.Holds.{LifeHolds, readings}
use Rattle.hx_lives.specs.Carried.{life_kept}
use Rattle.hx_lives.specs.Lasting.{opened_kept, opened_before}
use Rattle.hx_lives.specs.Calls.{HasGoneOn, IsLivedSoFar}

-- What an event on a disk that tells owes beside its row: what it found, which files it left alone, its stamp, and that
-- whatever a crash leaves inside it and after it is safe.
pub record EventOwes {D : Type 0} (time : D → ℕ) (past : D → Past) (c : Course) (e : Entry) (old new : D) : Type 0 where
  pub found : IsFound (past new (time new) (user_file (resource_in e.event))) e.event e.content (versions (restored_at (opening c) (resource_in e.event)) (own (resource_in e.event) c.entries)) e.outcome
  pub alone : (t f : ℕ) → time old ≤ t → t ≤ time new → IsLeftAlone e f → past new t f ≡ past new (time old) f
  pub stamped : IsStamped (greatest_stamp (readings (past new c.moment)) + stamps_taken c.entries) e.outcome
  pub inside : (t : ℕ) → time old ≤ t → t ≤ time new → IsSafe (start_of c) (failed e ∷ c.entries) (past new t)
  pub after : IsSafe (start_of c) (e ∷ c.entries) (past new (time new))

both : (a b : Bool) → a ≡ true → b ≡ true → (a && b) ≡ true
both a b p q = ap (λ x. x && b) p ∙ q

module _ {D : Type 0} (tells : Bool) (time : D → ℕ) (past : D → Past) (failures : D → ℕ) where
  pub lived_with_entry : (c : Course) (e : Entry) (old new : D) → IsLivedSoFar tells time past failures c old → HasGoneOn time past failures old new → e.moment ≡ time new → e.faults ≡ failures new
      → is_row (opening c) c.entries e.event e.outcome ≡ true → (is_fault e.outcome ≡ true → Rose (failures old) (failures new)) → (IsTrue tells → EventOwes time past c e old new)
      → IsLivedSoFar tells time past failures (with_entry c e) new
  lived_with_entry c e old new keeps runs at counts row fault owes = record {
    holds = record {
      legal = both (is_row (opening c) c.entries e.event e.outcome) (is_legal (opening c) c.entries) row keeps.holds.legal;
      caused = (
        record {
          later = omega (arith, keeps.present, runs.later, at);
          no_fewer = omega (arith, keeps.counted, runs.no_fewer, counts);
          rose = λ is. omega (arith, fault is, keeps.counted, counts);
        },
        keeps.holds.caused,
      );
      ended = omega (arith, at);
      told = λ is. record {
        entries = (
          record {
            found = subst (λ t. IsFound (past new t (user_file (resource_in e.event))) e.event e.content (versions (restored_at (opening c) (resource_in e.event)) (own (resource_in e.event) c.entries)) e.outcome) (sym at) (owes is).found;
            alone = λ t f from to left. (owes is).alone t f (omega (arith, from, keeps.present)) (omega (arith, to, at)) left ∙ ap (λ n. past new n f) keeps.present;
            stamped = (owes is).stamped;
          },
          (now.told is).entries,
        );
        alone = λ t f from to user. ap (λ n. past new n f) (omega (arith, from, to, at));
      };
      safe = λ is. record {
        entries = (
          record {
            after = subst (λ t. IsSafe (start_of c) (e ∷ c.entries) (past new t)) (sym at) (owes is).after;
            inside = λ t from to. (owes is).inside t (omega (arith, from, keeps.present)) (omega (arith, to, at));
          },
          (now.safe is).entries,
        );
        behind = λ t from to. subst (λ n. IsSafe (start_of c) (e ∷ c.entries) (past new n)) (omega (arith, from, to, at)) (owes is).after;
      };
    };
    present = sym at;
    counted = omega (arith, counts);
    opened = λ is. opened_kept (time old) (past old) (past new) runs.kept (start_of c) (omega (arith, opened_before c tells (past old) (time old) keeps.holds, keeps.holds.ended)) (keeps.opened is);
  }
    where
      now : LifeHolds tells (past new) (time old) c
      now = life_kept tells (time old) (past old) (past new) runs.kept c keeps.holds

-- an entry of no resource leaves what is safe
safe_same : (s : Start) (e : Entry) (es : List Entry) (files : ℕ → FileState) → ((k : ℕ) → is_of k e.event ≡ false) → IsSafe s es files → IsSafe s (e ∷ es) files
unfolding IsSafe
safe_same s e es files none safe image left =
    let before : IsSafeImage s es image = safe image left in
    record {
      allowed = λ c below alone. subst (λ (ds : List Deed). IsAllowed (name_at s c) (restored_at (opening_at s) c) ds (shows image (name_at s c))) (sym (leaves_others c e es (none c))) (before.allowed c below alone);
      no_other = before.no_other;
    }

module _ {D : Type 0} (tells : Bool) (time : D → ℕ) (past : D → Past) (failures : D → ℕ) where
  -- the question whether the program may end
  pub lived_with_quit : (c : Course) (e : Entry) (disk : D) → IsLivedSoFar tells time past failures c disk → e.moment ≡ time disk → e.faults ≡ failures disk → e.event ≡ Quit → is_row (opening c) c.entries Quit e.outcome ≡ true
      → IsLivedSoFar tells time past failures (with_entry c e) disk
  lived_with_quit c e disk keeps at counts quit row =
      lived_with_entry tells time past failures c e disk disk keeps (record { later = omega arith; kept = λ t f le. refl; no_fewer = omega arith }) at counts
      (subst (λ (x : Event). is_row (opening c) c.entries x e.outcome ≡ true) (sym quit) row)
      (λ is. absurd (no_fault e.outcome row is))
      (λ is. record {
        found = found_none (past disk (time disk) (user_file (resource_in e.event))) e.event e.content (versions (restored_at (opening c) (resource_in e.event)) (own (resource_in e.event) c.entries)) e.outcome row;
        alone = λ t f from to left. ap (λ n. past disk n f) (omega (arith, from, to));
        stamped = no_stamp (greatest_stamp (readings (past disk c.moment)) + stamps_taken c.entries) e.outcome row;
        inside = λ t from to. safe_same (start_of c) (failed e) c.entries (past disk t) of_none ((keeps.holds.safe is).behind t (omega (arith, from, keeps.present)) to);
        after = safe_same (start_of c) e c.entries (past disk (time disk)) of_none ((keeps.holds.safe is).behind (time disk) (omega (arith, keeps.present)) (omega arith));
      })
    where
      of_none : (k : ℕ) → is_of k e.event ≡ false
      of_none k = ap (is_of k) quit

      no_fault : (x : Outcome) → is_row (opening c) c.entries Quit x ≡ true → is_fault x ≡ true → ⊥
      no_fault MayQuit h i = absurd cc
      no_fault (Vetoed k) h i = absurd cc
      no_fault _ h i = absurd cc

      no_stamp : (n : ℕ) (x : Outcome) → is_row (opening c) c.entries Quit x ≡ true → IsStamped n x
      no_stamp n MayQuit h = tt
      no_stamp n (Vetoed k) h = tt
      no_stamp n _ h = absurd cc

      found_none : (file : FileState) (event : Event) (content : List ℕ) (saved : List Version) (x : Outcome) → is_row (opening c) c.entries Quit x ≡ true → IsFound file event content saved x
      found_none file event content saved MayQuit h = tt
      found_none file event content saved (Vetoed k) h = tt
      found_none file event content saved _ h = absurd cc
