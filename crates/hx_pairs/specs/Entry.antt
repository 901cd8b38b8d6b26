-- One entry more: what a registry goes on to keep.
use Rattle.std.specs.Prelude.{◌≡◌, ◌<◌, ◌≤◌, ℕ, ◌+◌, Bool, true, IsTrue, List, ◌∷◌, Option}
use Rattle.std.proofs.Common.{sym, ◌∙◌, ap, subst, arith}
use Rattle.std.proofs.Math.Path.{fun_ext}
use Rattle.hx_faults.specs.Faults.{Rose}
use Rattle.hx_disk.specs.File.{FileState}
use Rattle.hx_disk.specs.Disk.{Through, ChangesNothing}
use Rattle.hx_slots.specs.Gate.{IsAnyState}
use Rattle.hx_slots.specs.Files.{file_of}
use Rattle.hx_events.specs.declared.backup.Side.{Side}
use Rattle.hx_events.specs.declared.backup.Side.TheVariants.{A, B}
use Rattle.hx_events.specs.declared.event.Event.{Event}
use Rattle.hx_events.specs.declared.life.Entry.{Entry}
use Rattle.hx_events.specs.declared.outcome.Outcome.{Outcome}
use Rattle.hx_events.specs.declared.outcome.Outcome.TheVariants.{Idle, Spent, StageOk, StageFault}
use Rattle.hx_rules.specs.Entries.{own}
use Rattle.hx_rules.specs.Legal.{restored_at, is_row, was_spent}
use Rattle.hx_rules.specs.Versions.{Version, versions}
use Rattle.hx_vault.specs.Vaults.{VaultState}
use Rattle.hx_lives.specs.Course.{Course, Past, start_of, opening, with_entry}
use Rattle.hx_lives.specs.Caused.{is_fault}
use Rattle.hx_lives.specs.Told.{IsFound, IsLeftAlone, IsStamped, stamps_taken, takes_stamp, user_file, resource_in}
use Rattle.hx_lives.specs.CrashSafe.{IsSafe}
use Rattle.hx_lives.specs.Holds.{LifeHolds, readings}
use Rattle.hx_slots.specs.Raws.{greatest_stamp}
use Rattle.hx_lives.specs.Carried.{life_kept, files_same}
use Rattle.hx_lives.specs.Lasting.{opened_kept, opened_before}
use Rattle.hx_lives.specs.Calls.{HasGoneOn}
use Rattle.hx_lives.specs.Events.{lived_with_entry}
use Rattle.hx_pairs.specs.AllPairs.{PairsInvariant}
use Rattle.hx_pairs.specs.Safe.{kept_safe}
use Rattle.hx_pairs.specs.Owed.{PairsOwe}
use Rattle.hx_pairs.specs.Registries.{IsPlaced, IsExact, HasPut, RegistryInvariant, spent_on, is_vault_answer}

-- What an event owes of the user's files, on a disk that tells: what it found, and which files it left alone.
pub record FilesOwe {D : Type 0} (time : D → ℕ) (past : D → Past) (c : Course) (e : Entry) (old new : D) : Type 0 where
  pub found : IsFound (past new (time new) (user_file (resource_in e.event))) e.event e.content (versions (restored_at (opening c) (resource_in e.event)) (own (resource_in e.event) c.entries)) e.outcome
  pub alone : (t f : ℕ) → time old ≤ t → t ≤ time new → IsLeftAlone e f → past new t f ≡ past new (time old) f

pub slot_below : (p : ℕ) (s : Side) → p < 64 → file_of p s < 128
slot_below p A lt = omega (arith, lt)
slot_below p B lt = omega (arith, lt)

-- a vault's answer says nothing of a user's file
found_nothing : (file : FileState) (event : Event) (content : List ℕ) (saved : List Version) (o : Outcome) → is_vault_answer o ≡ true → IsFound file event content saved o
found_nothing file event content saved Idle is = tt
found_nothing file event content saved Spent is = tt
found_nothing file event content saved (StageOk s v) is = tt
found_nothing file event content saved (StageFault s v) is = tt
found_nothing file event content saved _ is = absurd cc

module _ {D : Type 0} (tells : Bool) (time : D → ℕ) (past : D → Past) (now : D → ℕ → FileState) (failures : D → ℕ) (present : (d : D) (f : ℕ) → past d (time d) f ≡ now d f) where
  pub invariant_entry : (c : Course) (e : Entry) (v w : VaultState) (held after : List (Option ℕ)) (old new : D) → RegistryInvariant tells time past now failures c v held old → HasGoneOn time past failures old new
      → e.moment ≡ time new → e.faults ≡ failures new → is_row (opening c) c.entries e.event e.outcome ≡ true → (is_fault e.outcome ≡ true → Rose (failures old) (failures new))
      → IsPlaced c.names (opening c).barred w after → IsExact (with_entry c e) after → HasPut (with_entry c e) w after
      → (IsTrue tells → FilesOwe time past c e old new) → (IsTrue tells → PairsOwe time past now (start_of c) c.entries e w after old new)
      → IsStamped v.stamp e.outcome → w.stamp ≡ v.stamp + takes_stamp e.outcome
      → RegistryInvariant tells time past now failures (with_entry c e) w after new
  invariant_entry c e v w held after old new holding runs at counts row fault placed exact putting files pairs stamped grows = record {
    keeps = lived_with_entry tells time past failures c e old new holding.keeps runs at counts row fault (λ is. record {
      found = (files is).found;
      alone = (files is).alone;
      stamped = subst (λ n. IsStamped n e.outcome) (stamp_now is) stamped;
      inside = (pairs is).inside;
      after = subst (IsSafe (start_of c) (e ∷ c.entries)) (sym (fun_ext (present new))) (kept_safe (start_of c) (e ∷ c.entries) w after (now new) (pairs is).kept);
    });
    placed = placed;
    exact = exact;
    putting = putting;
    spent = λ h. grows ∙ spent_on e.outcome v.stamp (was_spent c.entries) stamped holding.spent h;
    pairs = λ is. (pairs is).kept;
    stamp = λ is. grows ∙ omega (arith, stamp_now is);
  }
    where
      stamp_now : IsTrue tells → v.stamp ≡ greatest_stamp (readings (past new c.moment)) + stamps_taken c.entries
      stamp_now is = holding.stamp is ∙ ap (λ (s : ℕ → FileState). greatest_stamp (readings s) + stamps_taken c.entries)
          (sym (files_same (time old) (past old) (past new) runs.kept c.moment (omega (arith, opened_before c tells (past old) (time old) holding.keeps.holds, holding.keeps.holds.ended))))

  -- one slot file moves, with a vault's answer
  pub invariant_stage : (c : Course) (e : Entry) (v w : VaultState) (held after : List (Option ℕ)) (old new : D) (file : ℕ) → RegistryInvariant tells time past now failures c v held old → file < 128 → Through time past file IsAnyState old new → failures old ≤ failures new
      → e.moment ≡ time new → e.faults ≡ failures new → is_vault_answer e.outcome ≡ true → is_row (opening c) c.entries e.event e.outcome ≡ true → (is_fault e.outcome ≡ true → Rose (failures old) (failures new))
      → IsPlaced c.names (opening c).barred w after → IsExact (with_entry c e) after → HasPut (with_entry c e) w after
      → (IsTrue tells → PairsOwe time past now (start_of c) c.entries e w after old new)
      → IsStamped v.stamp e.outcome → w.stamp ≡ v.stamp + takes_stamp e.outcome
      → RegistryInvariant tells time past now failures (with_entry c e) w after new
  invariant_stage c e v w held after old new file holding low run later at counts answer row fault placed exact putting pairs stamped grows =
      invariant_entry c e v w held after old new holding (record { later = run.later; kept = run.kept; no_fewer = later }) at counts row fault placed exact putting
      (λ is. record {
        found = found_nothing (past new (time new) (user_file (resource_in e.event))) e.event e.content (versions (restored_at (opening c) (resource_in e.event)) (own (resource_in e.event) c.entries)) e.outcome answer;
        alone = λ t f from to left. run.others t f (λ same. absurd (let user : 128 ≤ f = left.0 in omega (arith, low, same, user))) from to ∙ sym (run.kept (time old) f (omega arith));
      })
      pairs stamped grows

  -- a call that changes nothing, as one that makes room
  pub invariant_rested : (c : Course) (v w : VaultState) (held : List (Option ℕ)) (old new : D) → RegistryInvariant tells time past now failures c v held old → ChangesNothing time past now old new → failures new ≡ failures old → w ≡ v → RegistryInvariant tells time past now failures c w held new
  invariant_rested c v w held old new holding none counts same = subst (λ (k : VaultState). RegistryInvariant tells time past now failures c k held new) (sym same) (record {
    keeps = record {
      holds = subst (λ z. LifeHolds tells (past new) z c) (sym none.still) (life_kept tells (time old) (past old) (past new) none.kept c holding.keeps.holds);
      present = none.still ∙ holding.keeps.present;
      counted = omega (arith, holding.keeps.counted, counts);
      opened = λ is. opened_kept (time old) (past old) (past new) none.kept (start_of c) before (holding.keeps.opened is);
    };
    placed = holding.placed;
    exact = holding.exact;
    putting = holding.putting;
    spent = holding.spent;
    pairs = λ is. subst (PairsInvariant (start_of c) c.entries v held) (sym (fun_ext none.same)) (holding.pairs is);
    stamp = λ is. holding.stamp is ∙ ap (λ (s : ℕ → FileState). greatest_stamp (readings s) + stamps_taken c.entries) (sym (files_same (time old) (past old) (past new) none.kept c.moment before));
  })
    where
      before : c.moment ≤ time old
      before = omega (arith, opened_before c tells (past old) (time old) holding.keeps.holds, holding.keeps.holds.ended)
