-- A registry that has just begun.
use Rattle.std.specs.Prelude.{◌≡◌, ◌≤◌, ℕ, ◌+◌, Bool, IsTrue, List, [], Option, refl}
use Rattle.std.proofs.Common.{sym, ◌∙◌, ap, subst, arith}
use Rattle.std.proofs.Math.Path.{fun_ext}
use Rattle.hx_disk.specs.File.{FileState}
use Rattle.hx_events.specs.declared.life.Entry.{Entry}
use Rattle.hx_vault.specs.Vaults.{VaultState}
use Rattle.hx_lives.specs.Course.{Course, Past, start_of, opening}
use Rattle.hx_lives.specs.CrashSafe.{IsSafe}
use Rattle.hx_slots.specs.Raws.{greatest_stamp}
use Rattle.hx_lives.specs.Holds.{readings}
use Rattle.hx_lives.specs.Chained.{IsOpened}
use Rattle.hx_pairs.specs.Safe.{kept_safe}
use Rattle.hx_pairs.specs.Opened.{IsFresh, fresh_kept}
use Rattle.hx_pairs.specs.Registries.{IsPlaced, IsExact, RegistryInvariant}

-- the same life with these entries
abbrev with_only : Course → List Entry → Course
with_only c es = record { names = c.names; base = c.base; guarded = c.guarded; moment = c.moment; faults = c.faults; entries = es }

module _ {D : Type 0} (tells : Bool) (time : D → ℕ) (past : D → Past) (now : D → ℕ → FileState) (failures : D → ℕ) (present : (d : D) (f : ℕ) → past d (time d) f ≡ now d f) where
  first_invariant : (c : Course) (v : VaultState) (held : List (Option ℕ)) (disk : D) → c.moment ≡ time disk → c.faults ≤ failures disk → IsPlaced c.names (opening c).barred v held → IsExact (with_only c []) held
      → (IsTrue tells → IsFresh (start_of c) v held (now disk)) → (IsTrue tells → IsOpened (past disk) (start_of c)) → (IsTrue tells → v.stamp ≡ greatest_stamp (readings (past disk c.moment)))
      → RegistryInvariant tells time past now failures (with_only c []) v held disk
  first_invariant c v held disk at counts placed exact fresh opened stamp = record {
    keeps = record {
      holds = record {
        legal = refl;
        caused = tt;
        ended = omega (arith, at);
        told = λ is. record { entries = tt; alone = λ t f from to user. ap (λ n. past disk n f) (omega (arith, from, to, at)) };
        safe = λ is. record { entries = safe is c.moment (omega arith) (omega (arith, at)); behind = safe is };
      };
      present = sym at;
      counted = counts;
      opened = opened;
    };
    placed = placed;
    exact = exact;
    putting = λ k p b h begun. absurd cc;
    spent = λ h. absurd cc;
    pairs = λ is. fresh_kept (start_of c) v held (now disk) (fresh is);
    stamp = λ is. stamp is ∙ (let n = greatest_stamp (readings (past disk c.moment)) in let e : n ≡ n + 0 = omega arith in e);
  }
    where
      safe : IsTrue tells → (t : ℕ) → c.moment ≤ t → t ≤ time disk → IsSafe (start_of c) [] (past disk t)
      safe is t from to = subst (λ n. IsSafe (start_of c) [] (past disk n)) (let e : time disk ≡ t = omega (arith, from, to, at) in e)
          (subst (IsSafe (start_of c) []) (sym (fun_ext (present disk))) (kept_safe (start_of c) [] v held (now disk) (fresh_kept (start_of c) v held (now disk) (fresh is))))

  -- What barrier, scan, restored, adopt and the core's opening promise is all that a registry keeps.
  pub invariant_begun : (c : Course) (v : VaultState) (held : List (Option ℕ)) (disk : D) → c.entries ≡ [] → c.moment ≡ time disk → c.faults ≤ failures disk → IsPlaced c.names (opening c).barred v held → IsExact c held
      → (IsTrue tells → IsFresh (start_of c) v held (now disk)) → (IsTrue tells → IsOpened (past disk) (start_of c)) → (IsTrue tells → v.stamp ≡ greatest_stamp (readings (past disk c.moment)))
      → RegistryInvariant tells time past now failures c v held disk
  invariant_begun c v held disk none at counts placed exact fresh opened stamp =
      let same : c ≡ with_only c [] = ap (with_only c) none in
      subst (λ (k : Course). RegistryInvariant tells time past now failures k v held disk) (sym same)
      (first_invariant c v held disk at counts placed (subst (λ (k : Course). IsExact k held) same exact) fresh opened stamp)
