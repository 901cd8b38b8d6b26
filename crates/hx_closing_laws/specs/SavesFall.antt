-- Each save stage that was due brings the end of a resource's stages nearer.
use Rattle.std.specs.Prelude.{◌≡◌, ◌<◌, ◌≤◌, ◌⊎◌, ℕ, ◌+◌, ◌==◌, not, Bool, true, false, ◌||◌, ◌&&◌, List, ◌∷◌, if◌then◌else◌, Option, Some, None, is_some, is_none, refl}
use Rattle.std.proofs.Common.{ap, sym, ◌∙◌, subst, arith, inl, inr, ⊎_elim, eq-eqb}
use Rattle.hx_etag.specs.declared.stat.Stat.{Stat}
use Rattle.hx_events.specs.declared.backup.Backup.{Backup}
use Rattle.hx_events.specs.declared.event.Event.{Event}
use Rattle.hx_events.specs.declared.outcome.Outcome.{Outcome}
use Rattle.hx_events.specs.declared.outcome.Outcome.TheVariants.{Idle, Checked, Modified, CheckFault, Saved, WriteFault, Unguarded}
use Rattle.hx_rules.specs.declared.saves.QueuedSave.{QueuedSave}
use Rattle.hx_rules.specs.declared.saves.Running.{Running}
use Rattle.hx_rules.specs.Entries.{Deed, deed}
use Rattle.hx_rules.specs.Versions.{last_version}
use Rattle.hx_rules.specs.Copies.{dirty}
use Rattle.hx_rules.specs.Saves.{running, queued, run_finished, run_checked, save_steps}
use Rattle.hx_rules.specs.Backups.{Begun, begun, halted, backed, opened, faded, safe}
use Rattle.hx_rules.specs.Due.{SaveWork, Check, Write, Refuse, save_work, due_save, run_version}
use Rattle.hx_rules.specs.Legal.{flush_row, is_check, is_write, finds_conflict}
use Rattle.hx_rules_laws.specs.CopyLaws.{copies_change}
use Rattle.hx_rules_laws.specs.Frames.{same_number}
use Rattle.hx_rules_laws.specs.Rows.{and_left}
use Rattle.hx_closing_laws.specs.Left.{run_left, begun_left, backup_left, discard_left, vault_left, wait_left, after_left, held_by, left_by, left_after, stages_left}

-- A save stage that was due leaves fewer.
abbrev pub SaveStageFalls : Type 0
SaveStageFalls = (restored : Option Backup) (guarded over : Bool) (base : Option Stat) (ds : List Deed) (place : ℕ) (event : Event) (outcome : Outcome) (content : List ℕ)
    → is_some (due_save restored guarded ds) ≡ true → flush_row (due_save restored guarded ds) over base outcome ≡ true
    → stages_left restored guarded (deed place event outcome content ∷ ds) < stages_left restored guarded ds

-- ---- how many there are at most
pub run_few : (run : Option Running) → run_left run ≤ 2
run_few None = omega arith
run_few (Some run) = go run.checked
  where
    go : (c : Bool) → (if c then 1 else 2) ≤ 2
    go true = omega arith
    go false = omega arith

run_some : (run : Running) → 1 ≤ run_left (Some run)
run_some run = go run.checked
  where
    go : (c : Bool) → 1 ≤ (if c then 1 else 2)
    go true = omega arith
    go false = omega arith

pub backup_few : (is_there : Bool) → backup_left is_there ≤ 130
backup_few true = omega arith
backup_few false = omega arith

discard_few : (o f : Bool) → discard_left o f ≤ 2
discard_few false f = omega arith
discard_few true true = omega arith
discard_few true false = omega arith

pub wait_few : (h : Bool) (b : Option Begun) (k s : Bool) (v last : ℕ) → wait_left h b k s v last ≤ 130
wait_few true b k s v last = omega arith
wait_few false (Some b) k s v last = backup_few (b.snapshot.version == v)
wait_few false None k s v last = backup_few (s && (not (v == last) || k))

-- what is begun, and one backup more
pub vault_few : (h : Bool) (b : Option Begun) (d k o f : Bool) (last : ℕ) → vault_left h b d k o f last ≤ begun_left b + 130
vault_few true b d k o f last = omega arith
vault_few false (Some b) d k o f last = omega (arith, backup_few (b.snapshot.version == last))
vault_few false None true k o f last = omega (arith, backup_few k)
vault_few false None false k o f last = omega (arith, discard_few o f)

-- a backup that isn't wanted any more ends
begun_less : (w : Bool) (b : Option Begun) → begun_left (if w then b else None) ≤ begun_left b
begun_less true b = omega arith
begun_less false b = omega arith

same_self : (n : ℕ) → (n == n) ≡ true
same_self n = eq-eqb n n refl

-- ---- the check
unchecked : (g s h : Bool) (run : Running) → is_check (save_work g s h (Some run)) ≡ true → run.checked ≡ false
unchecked g s h run due = go g s h run.checked due
  where
    go : (g s h c : Bool) → is_check (if not c then Some Check else if not g || s then Some (Write run.version) else if h then Some (Refuse run.version) else None) ≡ true → c ≡ false
    go g s h false due = refl
    go false s h true due = absurd cc
    go true true h true due = absurd cc
    go true false true true due = absurd cc
    go true false false true due = absurd cc

checks : (run : Option Running) (g : Bool) (q : Option QueuedSave) (b : Option Begun) (h d k o f : Bool) (s : ℕ → Bool) (last : ℕ)
    → is_check (save_work g (s (run_version run)) h run) ≡ true
    → left_by (run_checked run) g q (if d || held_by g (run_checked run) then b else None) h d k o f s last < left_by run g q b h d k o f s last
checks None g q b h d k o f s last due = absurd cc
checks (Some run) false q b h d k o f s last due =
    let two : run_left (Some run) ≡ 2 = ap (λ (c : Bool). if c then 1 else 2) (unchecked false (s run.version) h run due) in
    omega (arith, two, begun_less (d || false) b)
checks (Some run) true q b h true k o f s last due =
    let two : run_left (Some run) ≡ 2 = ap (λ (c : Bool). if c then 1 else 2) (unchecked true (s run.version) h run due) in
    omega (arith, two)
checks (Some run) true q b h false k o f s last due =
    let two : run_left (Some run) ≡ 2 = ap (λ (c : Bool). if c then 1 else 2) (unchecked true (s run.version) h run due) in
    omega (arith, two)

-- ---- the end of a save
-- the halt stays, or the copy is clean if the last version was saved
abbrev StaysOrCleans : Option Running → ℕ → Bool → Bool → Bool → Type 0
StaysOrCleans run last was_halted is_halted is_dirty = (is_halted ≡ was_halted) ⊎ (run_version run ≡ last → is_dirty ≡ false)

-- a save of the last version leaves what it waited for, or a discard
last_ends : (h i : Bool) (b : Option Begun) (d k o f s : Bool) (v last : ℕ) → (v == last) ≡ true → (i ≡ h) ⊎ (v ≡ last → d ≡ false)
    → vault_left i (if d || false then b else None) d k o f last ≤ begun_left b + wait_left h b k s v last + 2
last_ends h i b false k o f s v last same how = omega (arith, clean i)
  where
    clean : (j : Bool) → vault_left j None false k o f last ≤ 2
    clean true = omega arith
    clean false = discard_few o f
last_ends h i b true k o f s v last same how =
    let still : i ≡ h = ⊎_elim (λ e. e) (λ clean. absurd (let odd : true ≡ false = clean (same_number v last same) in cc)) how in
    subst (λ (j : Bool). vault_left j b true k o f last ≤ begun_left b + wait_left h b k s v last + 2) (sym still) (dirt h b k s)
  where
    lacks : (k s : Bool) → backup_left k ≤ backup_left (s && (not (v == last) || k)) + 2
    lacks true s = omega arith
    lacks false false = omega arith
    lacks false true = subst (λ (e : Bool). 130 ≤ backup_left (true && (not e || false)) + 2) (sym same) (omega arith)

    dirt : (h : Bool) (b : Option Begun) (k s : Bool) → vault_left h b true k o f last ≤ begun_left b + wait_left h b k s v last + 2
    dirt true b k s = omega arith
    dirt false None k s = omega (arith, lacks k s)
    dirt false (Some x) k s = omega (arith, ap (λ (n : ℕ). backup_left (x.snapshot.version == n)) (same_number v last same))

-- no save waits
alone_ends : (e : Bool) (run : Running) (b : Option Begun) (h i d k o f : Bool) (s : ℕ → Bool) (last : ℕ) → (run.version == last) ≡ e → StaysOrCleans (Some run) last h i d
    → vault_left i (if d || false then b else None) d k o f last < run_left (Some run) + 0 + begun_left b + wait_left h b k (s run.version) run.version last + after_left None e
alone_ends true run b h i d k o f s last same how = omega (arith, run_some run, last_ends h i b d k o f (s run.version) run.version last same how)
alone_ends false run b h i d k o f s last same how = omega (arith, run_some run, vault_few i (if d || false then b else None) d k o f last, begun_less (d || false) b)

-- a save waited: it is started, or it is answered
queue_ends : (started : Bool) (run next : Running) (g : Bool) (q : QueuedSave) (b c : Option Begun) (h i d e k o f : Bool) (s : ℕ → Bool) (last : ℕ) → next.version ≡ last → begun_left c ≤ begun_left b
    → left_by (if started then Some next else None) g None c i e k o f s last < left_by (Some run) g (Some q) b h d k o f s last
queue_ends false run next false q b c h i d e k o f s last is less = omega (arith, run_some run, vault_few i c e k o f last, less)
queue_ends false run next true q b c h i d e k o f s last is less = omega (arith, run_some run, vault_few i c e k o f last, less)
queue_ends true run next false q b c h i d e k o f s last is less = omega (arith, run_some run, run_few (Some next), less)
queue_ends true run next true q b c h i d e k o f s last is less =
    let two : after_left None (next.version == last) ≡ 2 = ap (λ (x : Bool). after_left None x) (ap (λ (n : ℕ). n == last) is ∙ same_self last) in
    omega (arith, two, run_some run, run_few (Some next), wait_few i c k (s next.version) next.version last, less)

-- whatever a save came to
ends : (run : Option Running) (g : Bool) (q : Option QueuedSave) (b : Option Begun) (h i d e k o f : Bool) (s : ℕ → Bool) (last : ℕ)
    → is_some (save_work g (s (run_version run)) h run) ≡ true → StaysOrCleans run last h i e
    → left_by (run_finished q e last) g None (if e || held_by g (run_finished q e last) then b else None) i e k o f s last < left_by run g q b h d k o f s last
ends None g q b h i d e k o f s last due how = absurd cc
ends (Some run) false None b h i d e k o f s last due how = omega (arith, run_some run, vault_few i (if e || false then b else None) e k o f last, begun_less (e || false) b)
ends (Some run) true None b h i d e k o f s last due how = alone_ends (run.version == last) run b h i e k o f s last refl how
ends (Some run) g (Some q) b h i d e k o f s last due how =
    queue_ends (e || q.force) run (record { version = last; over = q.over; checked = false }) g q b (if e || held_by g (run_finished (Some q) e last) then b else None) h i d e k o f s last refl
    (begun_less (e || held_by g (run_finished (Some q) e last)) b)

-- ---- each outcome
not_idle : (w : Option SaveWork) → is_some w ≡ true → is_none w ≡ true → ⊥
not_idle None due idle = absurd cc
not_idle (Some w) due idle = absurd cc

-- what is written is the running version
is_written : (g s h : Bool) (run : Option Running) (n : ℕ) → is_write (save_work g s h run) n ≡ true → run_version run ≡ n
is_written g s h None n row = absurd cc
is_written g s h (Some run) n row = go g s h run.checked row
  where
    go : (g s h c : Bool) → is_write (if not c then Some Check else if not g || s then Some (Write run.version) else if h then Some (Refuse run.version) else None) n ≡ true → run.version ≡ n
    go g s h false row = absurd cc
    go false s h true row = same_number run.version n row
    go true true h true row = same_number run.version n row
    go true false true true row = absurd cc
    go true false false true row = absurd cc

-- a completed save of the last version leaves a clean copy
saved_clean : (restored : Option Backup) (ds : List Deed) (place : ℕ) (event : Event) (v : ℕ) (x : Option Stat) (content : List ℕ) → v ≡ last_version restored ds → dirty restored (deed place event (Saved v x) content ∷ ds) ≡ false
saved_clean restored ds place event v x content is =
    ap (λ (n : ℕ). dirty restored (deed place event (Saved n x) content ∷ ds)) is ∙ (copies_change restored place event content ds).saved_clean x

save_falls : (restored : Option Backup) (guarded over : Bool) (base : Option Stat) (ds : List Deed) (place : ℕ) (event : Event) (outcome : Outcome) (content : List ℕ)
    → is_some (due_save restored guarded ds) ≡ true → flush_row (due_save restored guarded ds) over base outcome ≡ true
    → left_after restored guarded (deed place event outcome content ∷ ds) < left_after restored guarded ds
save_falls restored guarded over base ds place event outcome content due row = by outcome row
  where
    ended : (i e : Bool) → StaysOrCleans (running (save_steps restored ds)) (last_version restored ds) (halted ds) i e
        → left_by (run_finished (queued (save_steps restored ds)) e (last_version restored ds)) guarded None (if e || held_by guarded (run_finished (queued (save_steps restored ds)) e (last_version restored ds)) then begun restored guarded ds else None) i e (backed restored ds) (opened restored ds) (faded ds) (λ v. safe v ds) (last_version restored ds)
        < left_after restored guarded ds
    ended i e how = ends (running (save_steps restored ds)) guarded (queued (save_steps restored ds)) (begun restored guarded ds) (halted ds) i (dirty restored ds) e (backed restored ds) (opened restored ds) (faded ds) (λ v. safe v ds) (last_version restored ds) due how

    by : (o : Outcome) → flush_row (due_save restored guarded ds) over base o ≡ true → left_after restored guarded (deed place event o content ∷ ds) < left_after restored guarded ds
    by Idle row = absurd (not_idle (due_save restored guarded ds) due row)
    by (Checked x) row =
        checks (running (save_steps restored ds)) guarded (queued (save_steps restored ds)) (begun restored guarded ds) (halted ds) (dirty restored ds) (backed restored ds) (opened restored ds) (faded ds) (λ v. safe v ds) (last_version restored ds)
        (and_left (is_check (due_save restored guarded ds)) (not (finds_conflict over base x)) row)
    by CheckFault row = ended (halted ds) (dirty restored ds) (inl refl)
    by (Modified x) row = ended (halted ds) (dirty restored ds) (inl refl)
    by (WriteFault v) row = ended (halted ds) (dirty restored ds) (inl refl)
    by (Unguarded v) row = ended (halted ds) (dirty restored ds) (inl refl)
    by (Saved v x) row =
        ended false (dirty restored (deed place event (Saved v x) content ∷ ds))
        (inr (λ same. saved_clean restored ds place event v x content (sym (is_written guarded (safe (run_version (running (save_steps restored ds))) ds) (halted ds) (running (save_steps restored ds)) v row) ∙ same)))
    by _ row = absurd cc

pub save_stage_falls : SaveStageFalls
unfolding stages_left
save_stage_falls restored guarded over base ds place event outcome content due row = save_falls restored guarded over base ds place event outcome content due row
