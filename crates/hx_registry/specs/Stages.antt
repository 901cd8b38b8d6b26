-- Vault stages, and events that the rules settle alone.
use Rattle.std.specs.Prelude.{◌≡◌, ◌≤◌, ◌<◌, ◌-◌, ◌^◌, ℕ, nat_lt, if◌then◌else◌, Bool, true, false, List, [], length, Option, Some, None, is_some, refl}
use Rattle.std.proofs.Common.{sym, ◌∙◌, ap, subst, inr, arith}
use Rattle.std.proofs.lemmas.Bool.Decides.{nat_tests}
use Rattle.hx_disk.specs.File.{FileState}
use Rattle.hx_events.specs.declared.event.Actor.{Actor}
use Rattle.hx_events.specs.declared.event.Event.{Event}
use Rattle.hx_events.specs.declared.event.Event.TheVariants.{Vault, Flush, Quit}
use Rattle.hx_events.specs.declared.event.Stage.{Stage}
use Rattle.hx_events.specs.declared.event.Stage.TheVariants.{Body, Open as OpenGate}
use Rattle.hx_events.specs.declared.life.Entry.{Entry}
use Rattle.hx_events.specs.declared.outcome.Outcome.{Outcome}
use Rattle.hx_events.specs.declared.outcome.Outcome.TheVariants.{Spent}
use Rattle.hx_rules.specs.Backups.{Begun, begun, blocks_of}
use Rattle.hx_rules.specs.Due.{VaultWork, SaveWork, Check as DueCheck, Write as DueWrite, Refuse, next_stage, stage_due}
use Rattle.hx_rules.specs.Entries.{own}
use Rattle.hx_rules.specs.Legal.{Opening, restored_at, is_legal, is_row, holds_at, vault_due, save_due}
use Rattle.hx_rules.specs.Versions.{versions}
use Rattle.hx_rules_laws.specs.Holding.{due_holds}
use Rattle.hx_resource.specs.declared.asks.Asked.TheVariants.{Settled, Device}
use Rattle.hx_resource.specs.declared.asks.Got.TheVariants.{Nothing}
use Rattle.hx_resource.specs.declared.asks.Work.{Work}
use Rattle.hx_resource.specs.declared.asks.Work.TheVariants.{Vault as VaultStage}
use Rattle.hx_resource.specs.Asks.{vault_asks, flush_asks}
use Rattle.hx_core.specs.Cores.{asks_at, outcome_at, quit_outcome}
use Rattle.hx_vault.specs.Vaults.{VaultState, pair_at, place_of, put_length}
use Rattle.hx_lives.specs.Course.{Course, Past, opening, with_entry}
use Rattle.hx_lives.specs.Caused.{is_fault}
use Rattle.hx_pairs.specs.AllPairs.{held_at}
use Rattle.hx_lives.specs.Told.{IsFound, IsStamped, takes_stamp, user_file}
use Rattle.hx_pairs.specs.Registries.{HasPut, IsPut, RegistryInvariant, is_vault_answer, same_hold}
use Rattle.hx_pairs.specs.UserFiles.{invariant_still}
use Rattle.hx_registry.specs.Answered.{IsAnswered}
use Rattle.hx_registry.specs.Asking.{IsMild, settled_is_mild}
use Rattle.hx_registry.specs.Given.{settled_given}
use Rattle.hx_registry.specs.OpenLives.{entry_by}

below : (a b : ℕ) → nat_lt a b ≡ true → a < b
below a b h = grind (arith, nat_tests)

asks_due : (c : ℕ) (due : Option VaultWork) (stage : Stage) → stage_due due ≡ Some stage → vault_asks c due ≡ Device (VaultStage c stage)
asks_due c None stage h = absurd cc
asks_due c (Some w) stage h = let e : w.stage ≡ stage = cc in ap (λ s. Device (VaultStage c s)) e

-- the vault is asked for the stage that is due
pub due_asks : (o : Opening) (es : List Entry) (c : ℕ) (stage : Stage) → stage_due (vault_due o es c) ≡ Some stage → asks_at o es (Vault c) ≡ Device (VaultStage c stage)
due_asks o es c stage is = asks_due c (vault_due o es c) stage is

is_stage_work : Work → Bool
is_stage_work (VaultStage d stage) = true
is_stage_work work = false

vault_work_asked : (c : ℕ) (due : Option VaultWork) (work : Work) → vault_asks c due ≡ Device work → ((d : ℕ) (stage : Stage) → work ≡ VaultStage d stage → ⊥) → ⊥
vault_work_asked c None work h other = absurd cc
vault_work_asked c (Some w) work h other = other c w.stage cc

-- a vault event asks for nothing but a stage
pub only_stages : (o : Opening) (es : List Entry) (c : ℕ) (work : Work) → asks_at o es (Vault c) ≡ Device work → ((d : ℕ) (stage : Stage) → work ≡ VaultStage d stage → ⊥) → ⊥
only_stages o es c work is other = vault_work_asked c (vault_due o es c) work is other

idle_rests : (c : ℕ) (due : Option VaultWork) (outcome : Outcome) → vault_asks c due ≡ Settled outcome → same_hold outcome ≡ true
idle_rests c None outcome h = cc
idle_rests c (Some w) outcome h = absurd cc

pub vault_rests : (o : Opening) (es : List Entry) (c : ℕ) (outcome : Outcome) → asks_at o es (Vault c) ≡ Settled outcome → same_hold (outcome_at o es (Vault c) Nothing) ≡ true
vault_rests o es c outcome is = ap same_hold (settled_given o es (Vault c) outcome Nothing is) ∙ idle_rests c (vault_due o es c) outcome is

flush_stays : (c : ℕ) (due : Option SaveWork) (outcome : Outcome) → flush_asks c due ≡ Settled outcome → same_hold outcome ≡ true
flush_stays c None outcome h = cc
flush_stays c (Some DueCheck) outcome h = absurd cc
flush_stays c (Some (DueWrite v)) outcome h = absurd cc
flush_stays c (Some (Refuse v)) outcome h = cc

pub flush_rests : (o : Opening) (es : List Entry) (c : ℕ) (outcome : Outcome) → asks_at o es (Flush c) ≡ Settled outcome → same_hold (outcome_at o es (Flush c) Nothing) ≡ true
flush_rests o es c outcome is = ap same_hold (settled_given o es (Flush c) outcome Nothing is) ∙ flush_stays c (save_due o es c) outcome is

quit_stays : (lowest : Option ℕ) → same_hold (quit_outcome lowest) ≡ true
quit_stays None = refl
quit_stays (Some c) = refl

pub quit_rests : (o : Opening) (es : List Entry) → same_hold (outcome_at o es Quit Nothing) ≡ true
quit_rests o es = quit_stays _

-- a resource with a due stage has a pair
pub due_has_pair : (c : Course) (held : List (Option ℕ)) (r : ℕ) (stage : Stage) → is_legal (opening c) c.entries ≡ true → ((k : ℕ) → k < length c.names → holds_at (opening c) c.entries k ≡ is_some (held_at held k)) → r < length c.names
    → stage_due (vault_due (opening c) c.entries r) ≡ Some stage → held_at held r ≡ None → ⊥
due_has_pair c held r stage legal exact within due lacks =
    let there : is_some (vault_due (opening c) c.entries r) ≡ true = some_due (vault_due (opening c) c.entries r) due in
    let odd : true ≡ false = sym (due_holds (opening c) c.entries r legal there) ∙ exact r within ∙ ap (λ (x : Option ℕ). is_some x) lacks in
    cc
  where
    some_due : (due : Option VaultWork) → stage_due due ≡ Some stage → is_some due ≡ true
    some_due None h = absurd cc
    some_due (Some w) h = refl

most_blocks : (size : ℕ) → size ≤ 524288 → blocks_of size ≤ 128
most_blocks size small = omega (arith, small)

-- while a block is left to write, fewer than 129 are written
pub fewer_blocks : (b : Begun) → b.size ≤ 524288 → next_stage b ≡ Body → b.blocks < 129
fewer_blocks b small h = go (nat_lt b.blocks (blocks_of b.size)) refl h
  where
    go : (t : Bool) → nat_lt b.blocks (blocks_of b.size) ≡ t → (if t then Body else OpenGate) ≡ Body → b.blocks < 129
    go true lt h = let less : b.blocks < blocks_of b.size = below b.blocks (blocks_of b.size) lt in omega (arith, less, most_blocks b.size small)
    go false lt h = absurd cc

by_put : (put : Option ℕ) (blocks : ℕ) → blocks < 129 → IsPut blocks put → (is_some put ≡ true) × (put_length put ≤ 1048576)
by_put None blocks few is = absurd is
by_put (Some n) blocks few is = (refl, omega (arith, few, is))

-- where the block of a begun backup is put
pub place_there : (c : Course) (v : VaultState) (held : List (Option ℕ)) (r p : ℕ) (b : Begun) → HasPut c v held → held_at held r ≡ Some p → begun (restored_at (opening c) r) c.guarded (own r c.entries) ≡ Some b → b.blocks < 129
    → (is_some (pair_at v p).put ≡ true) × (place_of (pair_at v p) ≤ 1048576)
place_there c v held r p b put holds begins few = by_put (pair_at v p).put b.blocks few (put r p b holds begins)

-- two ways to see what is begun
pub same_begun : (x : Option Begun) (a b : Begun) → x ≡ Some a → x ≡ Some b → a ≡ b
same_begun x a b is_a is_b = let e : Some a ≡ Some b = sym is_a ∙ is_b in cc

-- ---- an event that the rules settle alone, on a disk that stays as it is
module _ {D : Type 0} (tells : Bool) (time : D → ℕ) (past : D → Past) (now : D → ℕ → FileState) (failures : D → ℕ) (c : Course) (v : VaultState) (held : List (Option ℕ)) (disk : D) where
  pub settled_answered : (event : Event) (outcome : Outcome) → RegistryInvariant tells time past now failures c v held disk → asks_at (opening c) c.entries event ≡ Settled outcome
      → IsAnswered tells time past now failures c v held disk event (outcome_at (opening c) c.entries event Nothing) []
  settled_answered event outcome holding is =
      let mild : IsMild event outcome = settled_is_mild (opening c) c.entries event outcome is in
      subst (λ (o : Outcome). IsAnswered tells time past now failures c v held disk event o []) (sym (settled_given (opening c) c.entries event outcome Nothing is)) (record {
        before = disk;
        holding = holding;
        later = omega arith;
        none = record { still = refl; kept = λ t f le. refl; same = λ f. refl };
        free = mild.free;
        rose = λ bad. absurd (let odd : false ≡ true = sym mild.fine ∙ bad in cc);
        found = λ told. mild.found _ _;
      })

-- a Prepare that finds the stamps used up
module _ {D : Type 0} (tells : Bool) (time : D → ℕ) (past : D → Past) (now : D → ℕ → FileState) (failures : D → ℕ) (present : (d : D) (f : ℕ) → past d (time d) f ≡ now d f) (c : Course) (v : VaultState) (held : List (Option ℕ)) (disk : D) (actor : Actor) (r : ℕ) (outcome : Outcome) where
  pub spent_invariant : RegistryInvariant tells time past now failures c v held disk → is_row (opening c) c.entries (Vault r) outcome ≡ true → outcome ≡ Spent → v.stamp ≡ 2 ^ 64 - 1
      → RegistryInvariant tells time past now failures (with_entry c (entry_by (time disk) (failures disk) actor (Vault r) outcome [])) v held disk
  spent_invariant holding row is used =
      invariant_still tells time past now failures present c (entry_by (time disk) (failures disk) actor (Vault r) outcome []) v held disk disk holding (omega arith) refl refl row (λ bad. absurd (let odd : false ≡ true = sym (ap is_fault is) ∙ bad in cc))
      (record { still = refl; kept = λ t f le. refl; same = λ f. refl }) (inr is) (ap is_vault_answer is) (subst (IsStamped v.stamp) (sym is) used) (ap takes_stamp is) (ap same_hold is)
      (λ told. subst (λ (o : Outcome). IsFound (past disk (time disk) (user_file r)) (Vault r) [] (versions (restored_at (opening c) r) (own r c.entries)) o) (sym is) tt)
