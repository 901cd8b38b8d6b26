-- What an event owes of the pairs.
use Rattle.std.specs.Prelude.{◌≡◌, ◌≢◌, ◌≤◌, ℕ, List, ◌∷◌, Option}
use Rattle.std.proofs.Common.{sym, ◌∙◌, arith}
use Rattle.hx_disk.specs.File.{FileState}
use Rattle.hx_disk.specs.Disk.{Through}
use Rattle.hx_events.specs.declared.life.Entry.{Entry}
use Rattle.hx_rules.specs.Allowed.{failed}
use Rattle.hx_vault.specs.Vaults.{VaultState}
use Rattle.hx_lives.specs.Course.{Start, Past}
use Rattle.hx_lives.specs.CrashSafe.{IsSafe}
use Rattle.hx_pairs.specs.AllPairs.{PairsInvariant}

-- Whatever a crash leaves at each of its moments is safe with the entry in hand, and the invariant holds at its end.
pub record PairsOwe {D : Type 0} (time : D → ℕ) (past : D → Past) (now : D → ℕ → FileState) (b : Start) (es : List Entry) (e : Entry) (w : VaultState) (after : List (Option ℕ)) (old new : D) : Type 0 where
  pub inside : (t : ℕ) → time old ≤ t → t ≤ time new → IsSafe b (failed e ∷ es) (past new t)
  pub kept : PairsInvariant b (e ∷ es) w after (now new)

module _ {D : Type 0} (time : D → ℕ) (past : D → Past) (now : D → ℕ → FileState) (present : (d : D) (f : ℕ) → past d (time d) f ≡ now d f) where
  -- An event that moves one file: what the run says of that file makes each of its moments safe, and the invariant holds at its end.
  pub moved : (b : Start) (es : List Entry) (w : VaultState) (after : List (Option ℕ)) (old new : D) (e : Entry) (file : ℕ) (P : FileState → Type 0)
      → Through time past file P old new
      → ((files : ℕ → FileState) → P (files file) → ((f : ℕ) → f ≢ file → files f ≡ now old f) → IsSafe b (failed e ∷ es) files)
      → (((f : ℕ) → f ≢ file → now new f ≡ now old f) → PairsInvariant b (e ∷ es) w after (now new))
      → PairsOwe time past now b es e w after old new
  moved b es w after old new e file P run inside kept = record {
    inside = λ t from to. inside (past new t) (run.each t from to) (λ f apart. run.others t f apart from to ∙ present old f);
    kept = kept (λ f apart. sym (present new f) ∙ run.others (time new) f apart run.later (omega arith) ∙ present old f);
  }
