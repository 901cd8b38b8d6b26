-- A vault that was just opened, by what the calls that open it promise.
use Rattle.std.specs.Prelude.{◌≡◌, ◌≤◌, ◌<◌, ℕ, Bool, IsTrue, count_by, List, [], length, refl}
use Rattle.std.proofs.Common.{sym, ◌∙◌, ap, subst, arith}
use Rattle.std.proofs.lemmas.List.{length-map}
use Rattle.std.proofs.Math.Path.{fun_ext}
use Rattle.hx_disk.specs.File.{FileState, IsImage, IsAtRest, IsSettled}
use Rattle.hx_disk.specs.Disk.{ChangesNothing, ThroughAll}
use Rattle.hx_disk.specs.Images.{rest_settled}
use Rattle.hx_events.specs.declared.backup.PairFound.{PairFound}
use Rattle.hx_restore.specs.Values.{restored, restored_pairs}
use Rattle.hx_rules.specs.Legal.{is_barred, with_restored}
use Rattle.hx_slots.specs.Raws.{AreReadOf, greatest_stamp}
use Rattle.hx_slots.specs.declared.pair.RawPair.{RawPair}
use Rattle.hx_vault.specs.Barriers.{IsSomeState, OnlySynced}
use Rattle.hx_vault.specs.Vaults.{VaultState, pair_at, scanned, scanned_pair, adopted}
use Rattle.hx_events.specs.Places.{IsDistinct}
use Rattle.hx_lives.specs.Calls.{HandsBack, HasGoneOn}
use Rattle.hx_lives.specs.Chained.{OnlySyncs, ReadsSame}
use Rattle.hx_lives.specs.Course.{Course, Past, Start, start_of}
use Rattle.hx_lives.specs.CrashSafe.{found_at}
use Rattle.hx_lives.specs.Holds.{readings}
use Rattle.hx_lives.specs.Lasting.{at_once, syncs_joined, syncs_kept}
use Rattle.hx_pairs.specs.Adopting.{adopted_by, opening_gives_vault}
use Rattle.hx_pairs.specs.FreePairs.{adopted_is_barred}
use Rattle.hx_pairs.specs.Opened.{IsAdopted, IsOpenedVault}
use Rattle.hx_pairs.specs.Registries.{RegistryInvariant, barred_pairs}
use Rattle.hx_opening_laws.specs.Findings.{AreFindings, found_count}
use Rattle.hx_opening_laws.specs.Held.{BeginsOver, held_first}
use Rattle.hx_opening_laws.specs.Laws.{opens_a_registry}

-- On any disk these are findings of a restart, and each pair is used by what was found in it. On a disk that tells its content
-- they are what it holds, of each slot file a crash leaves what is read of it and nothing else, and the vault knows the
-- greatest stamp that is shown.
pub record IsVaultOpened {D : Type 0} (tells : Bool) (now : D → ℕ → FileState) (v : VaultState) (found : List PairFound) (disk : D) : Type 0 where
  pub findings : AreFindings found
  pub pairs : length v.pairs ≡ 64
  pub adopted_so : (p : ℕ) → p < 64 → IsAdopted (found_at found p) (pair_at v p)
  pub barred : barred_pairs v ≡ count_by is_barred found
  pub base : IsTrue tells → found ≡ restored (readings (now disk))
  pub settled : IsTrue tells → (f : ℕ) → f < 128 → IsSettled (now disk f)
  pub stamp : IsTrue tells → v.stamp ≡ greatest_stamp (readings (now disk))
  pub vault : IsTrue tells → (b : Start) → b.base ≡ found → IsOpenedVault b v (now disk)

-- a life over such a vault begins over it
pub begins_over : {D : Type 0} (tells : Bool) (now : D → ℕ → FileState) (declared : List (List ℕ)) (c : Course) (v : VaultState) (disk : D) → IsVaultOpened tells now v c.base disk → c.names ≡ with_restored declared c.base → IsDistinct c.names → c.entries ≡ [] → BeginsOver declared c v
begins_over tells now declared c v disk opened named distinct empty = record { findings = opened.findings; named = named; distinct = distinct; empty = empty; pairs = opened.pairs; adopted = opened.adopted_so; barred = opened.barred }

module _ {D : Type 0} (tells : Bool) (time : D → ℕ) (past : D → Past) (now : D → ℕ → FileState) (failures : D → ℕ) (present : (d : D) (f : ℕ) → past d (time d) f ≡ now d f) where
  -- What the barrier, the scan, the restore and the adoption promise of the vault, one behind the other.
  pub vault_opened : (raws : List RawPair) (found : List PairFound) (read v : VaultState) (synced new : D) → length raws ≡ 64 → read ≡ scanned raws → found ≡ restored_pairs raws
      → ((image : ℕ → List ℕ) → AreReadOf image raws → found ≡ restored image) → (IsTrue tells → read.stamp ≡ greatest_stamp (readings (now synced)))
      → length v.pairs ≡ length read.pairs → ((p : ℕ) → p < 64 → pair_at v p ≡ adopted (found_at found p) (pair_at read p)) → v.stamp ≡ read.stamp
      → (IsTrue tells → (f : ℕ) → f < 128 → IsAtRest (now synced f)) → (IsTrue tells → AreReadOf (readings (now synced)) raws) → ((f : ℕ) → now new f ≡ now synced f)
      → IsVaultOpened tells now v found new
  vault_opened raws found read v synced new count known is_found by_image shown same each stamp rest reads still = record {
    findings = findings;
    pairs = same ∙ ap (λ (w : VaultState). length w.pairs) known ∙ length-map raws scanned_pair ∙ count;
    adopted_so = λ p below. subst (IsAdopted (found_at found p)) (sym (each p below)) (adopted_by (found_at found p) (pair_at read p));
    barred = adopted_is_barred found read v (found_count found findings) each;
    base = λ is. by_image (readings (now new)) (reads_new is);
    settled = λ is f below. rest_settled (now new f) (rest_new is f below);
    stamp = λ is. stamp ∙ shown is ∙ ap (λ (files : ℕ → FileState). greatest_stamp (readings files)) (sym files);
    vault = λ is b base. opening_gives_vault b v read raws (now new) (rest_new is) (reads_new is) known (base ∙ by_image (readings (now new)) (reads_new is)) same
        (λ p below. each p below ∙ ap (λ (l : List PairFound). adopted (found_at l p) (pair_at read p)) (sym base)) stamp;
  }
    where
      findings : AreFindings found
      findings = record { raws = raws; count = count; found_so = is_found }

      files : now new ≡ now synced
      files = fun_ext still

      rest_new : IsTrue tells → (f : ℕ) → f < 128 → IsAtRest (now new f)
      rest_new is f below = subst IsAtRest (sym (still f)) (rest is f below)

      reads_new : IsTrue tells → AreReadOf (readings (now new)) raws
      reads_new is = subst (λ (fs : ℕ → FileState). AreReadOf (readings fs) raws) (sym files) (reads is)

  -- a call that changes nothing
  pub handed_still : (old new : D) → ChangesNothing time past now old new → failures old ≤ failures new → HandsBack tells time past failures old new
  handed_still old new call counts = record {
    runs = record { later = omega (arith, call.still); kept = call.kept; no_fewer = counts };
    syncs = λ is. at_once (past new) (time old) (time new) (sym call.still);
  }

  -- a run of syncs
  pub handed_synced : (old new : D) → ThroughAll time past IsSomeState old new → (IsTrue tells → ThroughAll time past (OnlySynced 128 (now old)) old new) → failures old ≤ failures new → HandsBack tells time past failures old new
  handed_synced old new runs each counts = record {
    runs = record { later = runs.later; kept = runs.kept; no_fewer = counts };
    syncs = λ is. record {
      reads = λ t f from to. let s = (each is).each t f from to in record { reading = s.reading ∙ ap (λ (x : FileState). x.reading) (sym (first f)); stat = s.stat ∙ ap (λ (x : FileState). x.stat) (sym (first f)) };
      user = λ t f from to user. ((each is).each t f from to).user user ∙ sym (first f);
      no_new = λ t f image from to i. subst (λ (s : FileState). IsImage s image) (sym (first f)) (((each is).each t f from to).no_new image i);
    };
  }
    where
      first : (f : ℕ) → past new (time old) f ≡ now old f
      first f = runs.kept (time old) f (omega arith) ∙ present old f

  -- one behind the other
  pub handed_joined : (old mid new : D) → HandsBack tells time past failures old mid → HandsBack tells time past failures mid new → HandsBack tells time past failures old new
  handed_joined old mid new first second = record {
    runs = record {
      later = (let a = first.runs.later in let b = second.runs.later in omega (arith, a, b));
      kept = λ t f le. second.runs.kept t f (let a = first.runs.later in omega (arith, a, le)) ∙ first.runs.kept t f le;
      no_fewer = (let a = first.runs.no_fewer in let b = second.runs.no_fewer in omega (arith, a, b));
    };
    syncs = λ is. syncs_joined (past new) (time old) (time mid) (time new) first.runs.later
        (syncs_kept (time mid) (time old) (time mid) (past mid) (past new) second.runs.kept first.runs.later (omega arith) (first.syncs is))
        (second.syncs is);
  }

  -- the calls that open a vault, up to the scan
  pub handed_opened : (old reserved synced scanned : D) → ChangesNothing time past now old reserved → failures reserved ≡ failures old → ThroughAll time past IsSomeState reserved synced
      → (IsTrue tells → ThroughAll time past (OnlySynced 128 (now reserved)) reserved synced) → failures reserved ≤ failures synced → ChangesNothing time past now synced scanned → failures synced ≤ failures scanned
      → HandsBack tells time past failures old scanned
  handed_opened old reserved synced scanned first counts runs each later scan more =
      handed_joined old synced scanned
      (handed_joined old reserved synced (handed_still old reserved first (omega (arith, counts))) (handed_synced reserved synced runs each later))
      (handed_still synced scanned scan more)

  -- A life with no entries over such a vault, begun at the disk's present moment, has all that a registry keeps.
  pub registry_begun : (declared : List (List ℕ)) (c : Course) (v : VaultState) (disk : D) → IsVaultOpened tells now v c.base disk → c.names ≡ with_restored declared c.base → IsDistinct c.names → c.entries ≡ []
      → c.moment ≡ time disk → c.faults ≤ failures disk → RegistryInvariant tells time past now failures c v (held_first c) disk
  registry_begun declared c v disk opened named distinct empty at counts = opens_a_registry tells time past now failures present declared c v disk (begins_over tells now declared c v disk opened named distinct empty) at counts
      (λ is. opened.vault is (start_of c) refl)
      (λ is. record {
        base = opened.base is ∙ ap (λ (files : ℕ → FileState). restored (readings files)) (sym files);
        settled = λ f below. subst (λ (fs : ℕ → FileState). IsSettled (fs f)) (sym files) (opened.settled is f below);
      })
      (λ is. opened.stamp is ∙ ap (λ (files : ℕ → FileState). greatest_stamp (readings files)) (sym files))
    where
      files : past disk c.moment ≡ now disk
      files = ap (past disk) at ∙ fun_ext (present disk)
