-- Each vault stage that was due, where no save stage was, brings the end of a resource's stages nearer.
use Rattle.std.specs.Prelude.{◌≡◌, ◌<◌, ◌≤◌, ℕ, ◌+◌, ◌==◌, nat_lt, nat_le, not, Bool, true, false, ◌||◌, ◌&&◌, List, ◌∷◌, if◌then◌else◌, Option, Some, None, is_some, is_none, refl}
use Rattle.std.proofs.Common.{ap, sym, ◌∙◌, subst, arith, eq-eqb}
use Rattle.std.proofs.lemmas.Bool.Decides.{nat_tests}
use Rattle.hx_events.specs.declared.backup.Backup.{Backup}
use Rattle.hx_events.specs.declared.event.Event.{Event}
use Rattle.hx_events.specs.declared.event.Stage.{Stage}
use Rattle.hx_events.specs.declared.event.Stage.TheVariants.{Prepare, Body, Open, Fade, Drop}
use Rattle.hx_events.specs.declared.outcome.Outcome.{Outcome}
use Rattle.hx_events.specs.declared.outcome.Outcome.TheVariants.{Idle, Spent, StageOk, StageFault}
use Rattle.hx_rules.specs.declared.saves.QueuedSave.{QueuedSave}
use Rattle.hx_rules.specs.declared.saves.Running.{Running}
use Rattle.hx_rules.specs.Entries.{Deed, deed}
use Rattle.hx_rules.specs.Versions.{last_version, versions, version_at}
use Rattle.hx_rules.specs.Copies.{dirty}
use Rattle.hx_rules.specs.Saves.{running, queued, save_steps}
use Rattle.hx_rules.specs.Backups.{Snapshot, Begun, begun_of, one_block_more, begun, blocks_of, prepared, halted, held, wanted, backed, opened, faded, safe}
use Rattle.hx_rules.specs.Due.{VaultWork, Check, Write, Refuse, save_work, due_save, due_vault, run_version, may_discard}
use Rattle.hx_rules.specs.Legal.{vault_row, is_work, is_prepare, may_run, same_stage}
use Rattle.hx_rules_laws.specs.Frames.{same_number}
use Rattle.hx_rules_laws.specs.Rows.{and_left, and_right, due_of}
use Rattle.hx_closing_laws.specs.Left.{run_left, queue_left, begun_left, backup_left, vault_left, wait_left, after_left, held_by, left_by, left_after, stages_left}
use Rattle.hx_closing_laws.specs.SavesFall.{backup_few}

-- A vault stage that was due where no save stage was leaves fewer, if no version is longer than a content may be and a begun
-- backup is wanted.
abbrev pub VaultStageFalls : Type 0
VaultStageFalls = (restored : Option Backup) (guarded spent : Bool) (ds : List Deed) (place : ℕ) (event : Event) (outcome : Outcome) (content : List ℕ)
    → ((v : ℕ) → (version_at v (versions restored ds)).size ≤ 524288) → (is_some (begun restored guarded ds) ≡ true → wanted restored guarded ds ≡ true)
    → due_save restored guarded ds ≡ None → is_some (due_vault restored guarded ds) ≡ true → vault_row spent (due_vault restored guarded ds) outcome ≡ true
    → stages_left restored guarded (deed place event outcome content ∷ ds) < stages_left restored guarded ds

-- a content within the limit has at most 128 blocks
pub few_blocks : (size : ℕ) → size ≤ 524288 → blocks_of size ≤ 128
few_blocks size small = omega (arith, small)

-- ---- what the next stage of a begun backup is
no_prepare : (t : Bool) → same_stage (if t then Body else Open) Prepare ≡ true → ⊥
no_prepare true h = absurd cc
no_prepare false h = absurd cc

no_fade : (t : Bool) → same_stage (if t then Body else Open) Fade ≡ true → ⊥
no_fade true h = absurd cc
no_fade false h = absurd cc

no_drop : (t : Bool) → same_stage (if t then Body else Open) Drop ≡ true → ⊥
no_drop true h = absurd cc
no_drop false h = absurd cc

is_body : (t : Bool) → same_stage (if t then Body else Open) Body ≡ true → t ≡ true
is_body true h = refl
is_body false h = absurd cc

-- the same of what is due with a begun backup
stage_of : (b : Begun) (s : Stage) (v : ℕ) → is_work (due_of false (Some b) false false false false 0 0) s v ≡ true → same_stage (if nat_lt b.blocks (blocks_of b.size) then Body else Open) s ≡ true
stage_of b s v due = and_left (same_stage (if nat_lt b.blocks (blocks_of b.size) then Body else Open) s) (b.snapshot.version == v) due

version_of : (b : Begun) (s : Stage) (v : ℕ) → is_work (due_of false (Some b) false false false false 0 0) s v ≡ true → b.snapshot.version ≡ v
version_of b s v due = same_number b.snapshot.version v (and_right (same_stage (if nat_lt b.blocks (blocks_of b.size) then Body else Open) s) (b.snapshot.version == v) due)

-- a Body is due only while a block is lacking
block_lacks : (b : Begun) (v : ℕ) → is_work (due_of false (Some b) false false false false 0 0) Body v ≡ true → b.blocks < blocks_of b.size
block_lacks b v due =
    let lacks : nat_lt b.blocks (blocks_of b.size) ≡ true = is_body (nat_lt b.blocks (blocks_of b.size)) (stage_of b Body v due) in
    grind (arith, nat_tests, lacks)

one_fewer : (b : Begun) → b.blocks < blocks_of b.size → begun_left (Some (begun_of b.snapshot b.size (b.blocks + 1))) < begun_left (Some b)
one_fewer b lacks = omega (arith, lacks)

begun_some : (b : Begun) → 1 ≤ begun_left (Some b)
begun_some b = omega arith

-- what a Prepare begins wants fewer stages than a whole backup
prepared_few : (s : Snapshot) (size : ℕ) → size ≤ 524288 → begun_left (Some (begun_of s size 0)) < 130
prepared_few s size small = omega (arith, few_blocks size small)

-- ---- where no save runs
-- what is due then
abbrev idle_due : Bool → Option Begun → Bool → Bool → Bool → Bool → Bool → ℕ → ℕ → Option VaultWork
idle_due h b d k o may f run last = due_of h b false (d && not k) (not (d || false) && o && may) f run last

-- something is left where something is due
some_left : (h : Bool) (b : Option Begun) (d k o may f : Bool) (run last : ℕ) → is_some (idle_due h b d k o may f run last) ≡ true → 0 < vault_left h b d k o f last
some_left true b d k o may f run last due = absurd cc
some_left false (Some b) d k o may f run last due = omega (arith, begun_some b)
some_left false None true true o may f run last due = absurd cc
some_left false None true false o may f run last due = omega arith
some_left false None false k false may f run last due = absurd cc
some_left false None false k true false f run last due = absurd cc
some_left false None false k true true true run last due = omega arith
some_left false None false k true true false run last due = omega arith

idle_prepares : (h : Bool) (b : Option Begun) (d k o may f : Bool) (run last v size : ℕ) (s : Snapshot) → s.version ≡ v → size ≤ 524288 → is_work (idle_due h b d k o may f run last) Prepare v ≡ true
    → vault_left h (Some (begun_of s size 0)) d k o false last < vault_left h b d k o f last
idle_prepares true b d k o may f run last v size s same small due = absurd cc
idle_prepares false (Some b) d k o may f run last v size s same small due = absurd (no_prepare (nat_lt b.blocks (blocks_of b.size)) (stage_of b Prepare v due))
idle_prepares false None true true o may f run last v size s same small due = absurd cc
idle_prepares false None true false o may f run last v size s same small due =
    let one : (s.version == last) ≡ true = eq-eqb s.version last (same ∙ sym (same_number last v due)) in
    omega (arith, prepared_few s size small, ap backup_left one)
idle_prepares false None false k false may f run last v size s same small due = absurd cc
idle_prepares false None false k true false f run last v size s same small due = absurd cc
idle_prepares false None false k true true true run last v size s same small due = absurd cc
idle_prepares false None false k true true false run last v size s same small due = absurd cc

idle_bodies : (h : Bool) (b : Option Begun) (d k o may f : Bool) (run last v : ℕ) → (is_some b ≡ true → (d || false) ≡ true) → is_work (idle_due h b d k o may f run last) Body v ≡ true
    → vault_left h (if d || false then one_block_more b else None) d k o false last < vault_left h b d k o f last
idle_bodies true b d k o may f run last v want due = absurd cc
idle_bodies false (Some b) true k o may f run last v want due = omega (arith, one_fewer b (block_lacks b v due))
idle_bodies false (Some b) false k o may f run last v want due = absurd (let odd : false ≡ true = want refl in cc)
idle_bodies false None true true o may f run last v want due = absurd cc
idle_bodies false None true false o may f run last v want due = absurd cc
idle_bodies false None false k false may f run last v want due = absurd cc
idle_bodies false None false k true false f run last v want due = absurd cc
idle_bodies false None false k true true true run last v want due = absurd cc
idle_bodies false None false k true true false run last v want due = absurd cc

-- the backup of the version v is completed
idle_opens : (h : Bool) (b : Option Begun) (d k o may f : Bool) (run last v : ℕ) → (is_some b ≡ true → (d || false) ≡ true) → is_work (idle_due h b d k o may f run last) Open v ≡ true
    → vault_left h None d (v == last) true false last < vault_left h b d k o f last
idle_opens true b d k o may f run last v want due = absurd cc
idle_opens false (Some b) true k o may f run last v want due = omega (arith, begun_some b, ap (λ (n : ℕ). backup_left (n == last)) (version_of b Open v due))
idle_opens false (Some b) false k o may f run last v want due = absurd (let odd : false ≡ true = want refl in cc)
idle_opens false None true true o may f run last v want due = absurd cc
idle_opens false None true false o may f run last v want due = absurd cc
idle_opens false None false k false may f run last v want due = absurd cc
idle_opens false None false k true false f run last v want due = absurd cc
idle_opens false None false k true true true run last v want due = absurd cc
idle_opens false None false k true true false run last v want due = absurd cc

idle_fades : (h : Bool) (b : Option Begun) (d k o may f : Bool) (run last v : ℕ) → is_work (idle_due h b d k o may f run last) Fade v ≡ true
    → vault_left h (if d || false then b else None) d k o true last < vault_left h b d k o f last
idle_fades true b d k o may f run last v due = absurd cc
idle_fades false (Some b) d k o may f run last v due = absurd (no_fade (nat_lt b.blocks (blocks_of b.size)) (stage_of b Fade v due))
idle_fades false None true true o may f run last v due = absurd cc
idle_fades false None true false o may f run last v due = absurd cc
idle_fades false None false k false may f run last v due = absurd cc
idle_fades false None false k true false f run last v due = absurd cc
idle_fades false None false k true true true run last v due = absurd cc
idle_fades false None false k true true false run last v due = omega arith

idle_drops : (h : Bool) (b : Option Begun) (d k o may f : Bool) (run last v : ℕ) → is_work (idle_due h b d k o may f run last) Drop v ≡ true
    → vault_left h (if d || false then b else None) d false false false last < vault_left h b d k o f last
idle_drops true b d k o may f run last v due = absurd cc
idle_drops false (Some b) d k o may f run last v due = absurd (no_drop (nat_lt b.blocks (blocks_of b.size)) (stage_of b Drop v due))
idle_drops false None true true o may f run last v due = absurd cc
idle_drops false None true false o may f run last v due = absurd cc
idle_drops false None false k false may f run last v due = absurd cc
idle_drops false None false k true false f run last v due = absurd cc
idle_drops false None false k true true true run last v due = omega arith
idle_drops false None false k true true false run last v due = absurd cc

-- ---- where a guarded save waits for its backup
-- what is due then: the begun backup is wanted, and else one of the running version
abbrev held_due : Option Begun → Bool → Bool → Bool → ℕ → ℕ → Option VaultWork
held_due b q r f run last = due_of false b true q r f run last

-- what is left of that backup
abbrev held_left : Bool → Option Begun → Bool → Bool → ℕ → ℕ → ℕ
held_left h b k s v last = begun_left b + wait_left h b k s v last

held_some : (b : Option Begun) (k : Bool) (v last : ℕ) → 0 < held_left false b k false v last
held_some (Some b) k v last = omega (arith, begun_some b)
held_some None k v last = omega arith

held_prepares : (b : Option Begun) (k q r f s : Bool) (run last v size : ℕ) (snap : Snapshot) → snap.version ≡ v → size ≤ 524288 → is_work (held_due b q r f run last) Prepare v ≡ true
    → held_left false (Some (begun_of snap size 0)) k s run last < held_left false b k false run last
held_prepares (Some b) k q r f s run last v size snap same small due = absurd (no_prepare (nat_lt b.blocks (blocks_of b.size)) (stage_of b Prepare v due))
held_prepares None k q r f s run last v size snap same small due =
    let one : (snap.version == run) ≡ true = eq-eqb snap.version run (same ∙ sym (same_number run v due)) in
    omega (arith, prepared_few snap size small, ap backup_left one)

held_bodies : (b : Option Begun) (d k q r f s : Bool) (run last v : ℕ) → is_work (held_due b q r f run last) Body v ≡ true
    → held_left false (if d || true then one_block_more b else None) k s run last < held_left false b k false run last
held_bodies (Some b) true k q r f s run last v due = omega (arith, one_fewer b (block_lacks b v due))
held_bodies (Some b) false k q r f s run last v due = omega (arith, one_fewer b (block_lacks b v due))
held_bodies None d k q r f s run last v due = absurd cc

-- The backup of the version v is completed: if the save waits for that one, it waits no longer.
held_opens : (b : Option Begun) (k q r f s : Bool) (run last v : ℕ) → is_work (held_due b q r f run last) Open v ≡ true
    → held_left false None (v == last) (nat_le run v || s) run last < held_left false b k false run last
held_opens None k q r f s run last v due = absurd cc
held_opens (Some b) k q r f s run last v due = go (b.snapshot.version == run) refl
  where
    it_is : b.snapshot.version ≡ v
    it_is = version_of b Open v due

    either : (e : Bool) → (not e || e) ≡ true
    either true = refl
    either false = refl

    go : (e : Bool) → (b.snapshot.version == run) ≡ e → 0 + backup_left ((nat_le run v || s) && (not (run == last) || (v == last))) < begun_left (Some b) + backup_left e
    go false far = omega (arith, begun_some b, backup_few ((nat_le run v || s) && (not (run == last) || (v == last))))
    go true near =
        let mine : run ≡ v = sym (same_number b.snapshot.version run near) ∙ it_is in
        let reached : nat_le run v ≡ true = grind (arith, nat_tests, mine) in
        let whole : ((nat_le run v || s) && (not (run == last) || (v == last))) ≡ true =
        ap (λ (x : Bool). (x || s) && (not (run == last) || (v == last))) reached ∙ ap (λ (n : ℕ). not (n == last) || (v == last)) mine ∙ either (v == last) in
        omega (arith, begun_some b, ap backup_left whole)

held_no_fade : (b : Option Begun) (q r f : Bool) (run last v : ℕ) → is_work (held_due b q r f run last) Fade v ≡ true → ⊥
held_no_fade (Some b) q r f run last v due = no_fade (nat_lt b.blocks (blocks_of b.size)) (stage_of b Fade v due)
held_no_fade None q r f run last v due = absurd cc

held_no_drop : (b : Option Begun) (q r f : Bool) (run last v : ℕ) → is_work (held_due b q r f run last) Drop v ≡ true → ⊥
held_no_drop (Some b) q r f run last v due = no_drop (nat_lt b.blocks (blocks_of b.size)) (stage_of b Drop v due)
held_no_drop None q r f run last v due = absurd cc

-- the stamps are used up
held_spent : (b : Option Begun) (d k q r f s : Bool) (run last : ℕ) → is_prepare (held_due b q r f run last) ≡ true
    → held_left true (if d || true then b else None) k s run last < held_left false b k false run last
held_spent (Some b) d k q r f s run last due = absurd (no_prepare (nat_lt b.blocks (blocks_of b.size)) due)
held_spent None true k q r f s run last due = omega arith
held_spent None false k q r f s run last due = omega arith

-- ---- with or without a running save
-- the vault stage that is due, of the values that decide it
abbrev due_by : Option Running → Bool → Option Begun → Bool → Bool → Bool → Bool → Bool → Bool → (ℕ → Bool) → ℕ → Option VaultWork
due_by run g b h d k o may f s last =
    due_of h b (held_by g run && not (s (run_version run))) (d && not k) (not (d || held_by g run) && o && may) f (run_version run) last

-- A save that runs where no save stage is due is guarded, its version isn't safe, and its copy isn't halted.
waits : (g s h : Bool) (run : Running) → save_work g s h (Some run) ≡ None → (g ≡ true) × (s ≡ false) × (h ≡ false)
waits g s h run none = go g s h run.checked none
  where
    go : (g s h c : Bool) → (if not c then Some Check else if not g || s then Some (Write run.version) else if h then Some (Refuse run.version) else None) ≡ None → (g ≡ true) × (s ≡ false) × (h ≡ false)
    go g s h false none = absurd cc
    go false s h true none = absurd cc
    go true true h true none = absurd cc
    go true false true true none = absurd cc
    go true false false true none = (refl, refl, refl)

lifted : (r q a x y x2 y2 y3 : ℕ) → x + y < x2 + y2 → y2 ≡ y3 → r + q + x + y + a < r + q + x2 + y3 + a
lifted r q a x y x2 y2 y3 less same = omega (arith, less, same)

held_falls : (run : Running) (q : Option QueuedSave) (b c : Option Begun) (h2 d d2 k k2 o o2 f f2 : Bool) (s s2 : ℕ → Bool) (last : ℕ) → s run.version ≡ false
    → held_left h2 c k2 (s2 run.version) run.version last < held_left false b k false run.version last
    → left_by (Some run) true q c h2 d2 k2 o2 f2 s2 last < left_by (Some run) true q b false d k o f s last
held_falls run q b c h2 d d2 k k2 o o2 f f2 s s2 last unsafe less =
    lifted (run_left (Some run)) (queue_left q) (after_left q (run.version == last)) (begun_left c) (wait_left h2 c k2 (s2 run.version) run.version last)
    (begun_left b) (wait_left false b k false run.version last) (wait_left false b k (s run.version) run.version last) less (ap (λ (x : Bool). wait_left false b k x run.version last) (sym unsafe))

-- What is left falls, since it falls where no save runs and where one waits. What is begun afterwards may depend on which of
-- the two it is.
falls : (run : Option Running) (g : Bool) (q : Option QueuedSave) (b : Option Begun) (h d k k2 o o2 may f f2 : Bool) (s s2 : ℕ → Bool) (last : ℕ) (halts : Bool → Bool) (begins : Bool → Option Begun) (Q : Bool → Option VaultWork → Type 0)
    → save_work g (s (run_version run)) h run ≡ None → Q (held_by g run) (due_by run g b h d k o may f s last)
    → (Q false (idle_due h b d k o may f 0 last) → vault_left (halts h) (begins false) d k2 o2 f2 last < vault_left h b d k o f last)
    → ((v : ℕ) → Q true (held_due b (d && not k) (not (d || true) && o && may) f v last) → held_left (halts false) (begins true) k2 (s2 v) v last < held_left false b k false v last)
    → left_by run g q (begins (held_by g run)) (halts h) d k2 o2 f2 s2 last < left_by run g q b h d k o f s last
falls None true q b h d k k2 o o2 may f f2 s s2 last halts begins Q none due idle waiting = idle due
falls None false q b h d k k2 o o2 may f f2 s s2 last halts begins Q none due idle waiting = idle due
falls (Some run) false q b h d k k2 o o2 may f f2 s s2 last halts begins Q none due idle waiting = absurd (let odd : false ≡ true = (waits false (s run.version) h run none).0 in cc)
falls (Some run) true q b true d k k2 o o2 may f f2 s s2 last halts begins Q none due idle waiting = absurd (let odd : true ≡ false = (waits true (s run.version) true run none).2 in cc)
falls (Some run) true q b false d k k2 o o2 may f f2 s s2 last halts begins Q none due idle waiting =
    let unsafe : s run.version ≡ false = (waits true (s run.version) false run none).1 in
    let is : due_by (Some run) true b false d k o may f s last ≡ held_due b (d && not k) (not (d || true) && o && may) f run.version last =
    ap (λ (x : Bool). due_of false b (not x) (d && not k) (not (d || true) && o && may) f run.version last) unsafe in
    held_falls run q b (begins true) (halts false) d d k k2 o o2 f f2 s s2 last unsafe (waiting run.version (subst (Q true) is due))

-- ---- each outcome
not_idle : (w : Option VaultWork) → is_some w ≡ true → is_none w ≡ true → ⊥
not_idle None due idle = absurd cc
not_idle (Some w) due idle = absurd cc

-- something is due, and it is a Prepare
abbrev IsPrepareDue : Bool → Option VaultWork → Type 0
IsPrepareDue is_held w = (is_some w ≡ true) × (is_prepare w ≡ true)

-- a begun backup is wanted, and this stage is due
abbrev IsWanted : Option Begun → Bool → Stage → ℕ → Bool → Option VaultWork → Type 0
IsWanted b is_dirty stage v is_held w = (is_some b ≡ true → (is_dirty || is_held) ≡ true) × (is_work w stage v ≡ true)

module _ (restored : Option Backup) (guarded spent : Bool) (ds : List Deed) where
  is_stage : (stage : Stage) (v : ℕ) → vault_row spent (due_vault restored guarded ds) (StageOk stage v) ≡ true → is_work (due_vault restored guarded ds) stage v ≡ true
  is_stage stage v row = and_left (is_work (due_vault restored guarded ds) stage v) (may_run spent stage) row

  -- the reasons for a Prepare of the last version, and for a discard, while a guarded save runs
  abbrev lacks_last : Bool
  lacks_last = dirty restored ds && not (backed restored ds)

  abbrev discards : Bool
  discards = not (dirty restored ds || true) && opened restored ds && may_discard restored guarded ds

  -- what is left after a stage, whatever it makes of the marks
  after : (k2 o2 f2 : Bool) (s2 : ℕ → Bool) (halts : Bool → Bool) (begins : Bool → Option Begun) (Q : Bool → Option VaultWork → Type 0)
      → due_save restored guarded ds ≡ None → Q (held restored guarded ds) (due_vault restored guarded ds)
      → (Q false (idle_due (halted ds) (begun restored guarded ds) (dirty restored ds) (backed restored ds) (opened restored ds) (may_discard restored guarded ds) (faded ds) 0 (last_version restored ds))
      → vault_left (halts (halted ds)) (begins false) (dirty restored ds) k2 o2 f2 (last_version restored ds) < vault_left (halted ds) (begun restored guarded ds) (dirty restored ds) (backed restored ds) (opened restored ds) (faded ds) (last_version restored ds))
      → ((v : ℕ) → Q true (held_due (begun restored guarded ds) lacks_last discards (faded ds) v (last_version restored ds))
      → held_left (halts false) (begins true) k2 (s2 v) v (last_version restored ds) < held_left false (begun restored guarded ds) (backed restored ds) false v (last_version restored ds))
      → left_by (running (save_steps restored ds)) guarded (queued (save_steps restored ds)) (begins (held restored guarded ds)) (halts (halted ds)) (dirty restored ds) k2 o2 f2 s2 (last_version restored ds) < left_after restored guarded ds
  after k2 o2 f2 s2 halts begins Q none due idle waiting =
      falls (running (save_steps restored ds)) guarded (queued (save_steps restored ds)) (begun restored guarded ds) (halted ds) (dirty restored ds) (backed restored ds) k2 (opened restored ds) o2 (may_discard restored guarded ds) (faded ds) f2 (λ v. safe v ds) s2 (last_version restored ds) halts begins Q none due idle waiting

  vault_falls : (place : ℕ) (event : Event) (outcome : Outcome) (content : List ℕ)
      → ((v : ℕ) → (version_at v (versions restored ds)).size ≤ 524288) → (is_some (begun restored guarded ds) ≡ true → wanted restored guarded ds ≡ true)
      → due_save restored guarded ds ≡ None → is_some (due_vault restored guarded ds) ≡ true → vault_row spent (due_vault restored guarded ds) outcome ≡ true
      → left_after restored guarded (deed place event outcome content ∷ ds) < left_after restored guarded ds
  vault_falls place event outcome content small want none due row = by outcome row
    where
      by : (o : Outcome) → vault_row spent (due_vault restored guarded ds) o ≡ true → left_after restored guarded (deed place event o content ∷ ds) < left_after restored guarded ds
      by Idle row = absurd (not_idle (due_vault restored guarded ds) due row)
      by Spent row =
          after (backed restored ds) (opened restored ds) false (λ v. safe v ds) (λ h. true) (λ w. if dirty restored ds || w then begun restored guarded ds else None) IsPrepareDue none (due, row)
          (λ is. some_left (halted ds) (begun restored guarded ds) (dirty restored ds) (backed restored ds) (opened restored ds) (may_discard restored guarded ds) (faded ds) 0 (last_version restored ds) is.0)
          (λ v is. held_spent (begun restored guarded ds) (dirty restored ds) (backed restored ds) lacks_last discards (faded ds) (safe v ds) v (last_version restored ds) is.1)
      by (StageFault stage n) row =
          after (backed restored ds) (opened restored (deed place event (StageFault stage n) content ∷ ds)) false (λ v. safe v (deed place event (StageFault stage n) content ∷ ds)) (λ h. true) (λ w. None) (λ w x. is_some x ≡ true) none due
          (λ is. some_left (halted ds) (begun restored guarded ds) (dirty restored ds) (backed restored ds) (opened restored ds) (may_discard restored guarded ds) (faded ds) 0 (last_version restored ds) is)
          (λ v is. held_some (begun restored guarded ds) (backed restored ds) v (last_version restored ds))
      by (StageOk Prepare n) row =
          after (backed restored ds) (opened restored ds) false (λ v. safe v ds) (λ h. h) (λ w. Some (prepared restored n ds)) (λ w x. is_work x Prepare n ≡ true) none (is_stage Prepare n row)
          (λ is. idle_prepares (halted ds) (begun restored guarded ds) (dirty restored ds) (backed restored ds) (opened restored ds) (may_discard restored guarded ds) (faded ds) 0 (last_version restored ds) n (version_at n (versions restored ds)).size (prepared restored n ds).snapshot refl (small n) is)
          (λ v is. held_prepares (begun restored guarded ds) (backed restored ds) lacks_last discards (faded ds) (safe v ds) v (last_version restored ds) n (version_at n (versions restored ds)).size (prepared restored n ds).snapshot refl (small n) is)
      by (StageOk Body n) row =
          after (backed restored ds) (opened restored ds) false (λ v. safe v ds) (λ h. h) (λ w. if dirty restored ds || w then one_block_more (begun restored guarded ds) else None) (IsWanted (begun restored guarded ds) (dirty restored ds) Body n) none (want, is_stage Body n row)
          (λ is. idle_bodies (halted ds) (begun restored guarded ds) (dirty restored ds) (backed restored ds) (opened restored ds) (may_discard restored guarded ds) (faded ds) 0 (last_version restored ds) n is.0 is.1)
          (λ v is. held_bodies (begun restored guarded ds) (dirty restored ds) (backed restored ds) lacks_last discards (faded ds) (safe v ds) v (last_version restored ds) n is.1)
      by (StageOk Open n) row =
          after (n == last_version restored ds) true false (λ v. nat_le v n || safe v ds) (λ h. h) (λ w. None) (IsWanted (begun restored guarded ds) (dirty restored ds) Open n) none (want, is_stage Open n row)
          (λ is. idle_opens (halted ds) (begun restored guarded ds) (dirty restored ds) (backed restored ds) (opened restored ds) (may_discard restored guarded ds) (faded ds) 0 (last_version restored ds) n is.0 is.1)
          (λ v is. held_opens (begun restored guarded ds) (backed restored ds) lacks_last discards (faded ds) (safe v ds) v (last_version restored ds) n is.1)
      by (StageOk Fade n) row =
          after (backed restored ds) (opened restored ds) true (λ v. safe v ds) (λ h. h) (λ w. if dirty restored ds || w then begun restored guarded ds else None) (λ w x. is_work x Fade n ≡ true) none (is_stage Fade n row)
          (λ is. idle_fades (halted ds) (begun restored guarded ds) (dirty restored ds) (backed restored ds) (opened restored ds) (may_discard restored guarded ds) (faded ds) 0 (last_version restored ds) n is)
          (λ v is. absurd (held_no_fade (begun restored guarded ds) lacks_last discards (faded ds) v (last_version restored ds) n is))
      by (StageOk Drop n) row =
          after false false false (λ v. false) (λ h. h) (λ w. if dirty restored ds || w then begun restored guarded ds else None) (λ w x. is_work x Drop n ≡ true) none (is_stage Drop n row)
          (λ is. idle_drops (halted ds) (begun restored guarded ds) (dirty restored ds) (backed restored ds) (opened restored ds) (may_discard restored guarded ds) (faded ds) 0 (last_version restored ds) n is)
          (λ v is. absurd (held_no_drop (begun restored guarded ds) lacks_last discards (faded ds) v (last_version restored ds) n is))
      by _ row = absurd cc

pub vault_stage_falls : VaultStageFalls
unfolding stages_left
vault_stage_falls restored guarded spent ds place event outcome content small want none due row = vault_falls restored guarded spent ds place event outcome content small want none due row
