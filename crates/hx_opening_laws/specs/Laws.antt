-- What holds of a life that begins over a vault that was just opened, as statements.
use Rattle.std.specs.Prelude.{◌≡◌, ◌≤◌, ℕ, ◌+◌, Bool, IsTrue, List, length}
use Rattle.std.proofs.Common.{arith}
use Rattle.hx_disk.specs.File.{FileState}
use Rattle.hx_events.specs.declared.backup.PairFound.{PairFound}
use Rattle.hx_slots.specs.Raws.{greatest_stamp}
use Rattle.hx_vault.specs.Vaults.{VaultState}
use Rattle.hx_rules.specs.Legal.{opening_of, restored_at, with_restored}
use Rattle.hx_rules_laws.specs.Limits.{IsShortBackup}
use Rattle.hx_lives.specs.Chained.{IsOpened}
use Rattle.hx_lives.specs.Course.{Course, Past, start_of}
use Rattle.hx_lives.specs.Holds.{readings}
use Rattle.hx_pairs.specs.Beginning.{invariant_begun}
use Rattle.hx_pairs.specs.Opened.{IsOpenedVault}
use Rattle.hx_pairs.specs.Registries.{RegistryInvariant}
use Rattle.hx_opening_laws.specs.Names.{AreResources, restored_few, restored_resources}
use Rattle.hx_opening_laws.specs.Findings.{AreFindings, finds_resources, found_count}
use Rattle.hx_opening_laws.specs.Held.{BeginsOver, held_first, first_placed, first_exact, first_fresh, first_short}

-- What was found in the pairs can be taken over into a life: its names are few, all of resources where the declared ones are,
-- and no restored content is past the limit.
abbrev pub FindingsFitALife : Type 0
FindingsFitALife = (declared : List (List ℕ)) (found : List PairFound) (guarded : Bool) → AreFindings found → AreResources declared
    → (length (with_restored declared found) ≤ length declared + 64) × AreResources (with_restored declared found)
    × ((k : ℕ) → IsShortBackup (restored_at (opening_of (with_restored declared found) found guarded) k))

pub findings_fit_a_life : FindingsFitALife
findings_fit_a_life declared found guarded f are = (
  (let few = restored_few declared found in let n = found_count found f in omega (arith, few, n)),
  restored_resources declared found are (finds_resources found f),
  first_short (with_restored declared found) found guarded f,
)

-- A life that begins over a vault that was just opened, with the pairs in which its backups were found, has all that a registry
-- keeps.
abbrev pub OpensARegistry : {D : Type 0} → Bool → (D → ℕ) → (D → Past) → (D → ℕ → FileState) → (D → ℕ) → Type 0
OpensARegistry {D} tells time past now failures = (declared : List (List ℕ)) (c : Course) (v : VaultState) (disk : D) → BeginsOver declared c v → c.moment ≡ time disk → c.faults ≤ failures disk
    → (IsTrue tells → IsOpenedVault (start_of c) v (now disk)) → (IsTrue tells → IsOpened (past disk) (start_of c)) → (IsTrue tells → v.stamp ≡ greatest_stamp (readings (past disk c.moment)))
    → RegistryInvariant tells time past now failures c v (held_first c) disk

module _ {D : Type 0} (tells : Bool) (time : D → ℕ) (past : D → Past) (now : D → ℕ → FileState) (failures : D → ℕ) (present : (d : D) (f : ℕ) → past d (time d) f ≡ now d f) where
  pub opens_a_registry : OpensARegistry tells time past now failures
  opens_a_registry declared c v disk begins at counts vault opened stamp =
      invariant_begun tells time past now failures present c v (held_first c) disk begins.empty at counts (first_placed declared c v begins) (first_exact declared c v begins)
      (λ is. first_fresh declared c v begins (now disk) (vault is)) opened stamp
